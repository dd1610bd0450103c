-- An entry that passed both tests is fit.
use Rattle.std.proofs.Common.{◌≢◌, ◌<◌, ℕ, subst}
use Rattle.wb_header.specs.Firsts.{IsUnfit}
use Rattle.wb_header.proofs.Checkings.{none_more}
use Rattle.wb_header.proofs.checking.first_unfit.Goals as goal

pub loop-index-preserved : goal.loop-index-preserved
loop-index-preserved c = none_more (IsUnfit c.args.blocks c.args.bytes.now) c.loop-index.index c.loop-index.invariant (λ unfit. unfit (
  subst (λ (n : ℕ). n ≢ 0) c.entry_at-meta.ensures.bits c.if-meta-eq0.false,
  subst (λ (n : ℕ). n < c.args.blocks) c.entry_at-meta.ensures.block c.if-meta-blocks.false,
))
