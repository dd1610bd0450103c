-- The place in the range, counted from its start.
use Rattle.std.proofs.Common.{◌∙◌, sym, subst, Option, ℕ}
use Rattle.wb_header.specs.Firsts.{Finds, IsSet}
use Rattle.wb_header.proofs.Checkings.{set_least, set_none}
use Rattle.wb_header.proofs.checking.first_set.Goals as goal

pub returns-in_err-index : goal.returns-in_err-index
returns-in_err-index c =
    subst (λ (o : Option ℕ). Finds (IsSet c.args.bytes.now) c.args.from c.args.to o) (sym c.from_residual.ensures)
    (set_none c.args.bytes.now c.args.from c.args.to c.requires.order c.requires.size (sym c.place_of_set.ensures ∙ c.in_err-index.was))

pub returns : goal.returns
returns c = set_least c.args.bytes.now c.args.from c.args.to c.in_ok-index.index c.requires.order c.requires.size (sym c.place_of_set.ensures ∙ c.in_ok-index.was)
