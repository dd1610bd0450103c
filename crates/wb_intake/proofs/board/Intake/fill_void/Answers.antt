use Rattle.std.proofs.Common.{◌+◌, ◌-◌, sym, ap, ◌∙◌, subst}
use mathlib.Core.Option.{some}
use Rattle.wb_geometry.specs.History.{HistoryEntry}
use Rattle.wb_intake.specs.declared.sight.Sight.{Sight}
use Rattle.wb_intake.specs.Belongs.{IsOwed}
use Rattle.wb_intake.proofs.Results.{owed_first, owed_next}
use Rattle.wb_intake.proofs.board.Intake.fill_void.Goals as goal

pub put-requires-clause-named : goal.put-requires-clause-named
put-requires-clause-named c =
    let r = owed_first c.args.pass.now.seat.me.0.view c.args.pass.now.client c.args.voids.now.next c.args.voids.now.left c.requires.some c.requires.owed in
    (r.1.0, r.1.1 ∙ ap (λ (e : HistoryEntry). some (c.args.voids.now.next, e)) (sym c.of-item.ensures))

pub returns-clause-owed : goal.returns-clause-owed
returns-clause-owed c =
    subst (λ (x : Sight). IsOwed x.view c.args.pass.now.client (c.args.voids.now.next + 1) (c.args.voids.now.left - 1)) (sym c.put.ensures.filled)
    (owed_next c.args.pass.now.seat.me.0.view c.args.pass.now.client c.args.voids.now.next c.args.voids.now.left c.requires.some c.requires.owed)
