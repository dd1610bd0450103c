use Rattle.std.proofs.Common.{◌+◌, refl, sym, subst, arith}
use mathlib.Core.Option.{none}
use Rattle.wb_steps.specs.Rule as rule
use Rattle.wb_steps.specs.declared.shape.Shape.{Shape}
use Rattle.wb_intake.proofs.Moves as moves
use Rattle.wb_intake.proofs.board.Intake.name.Goals as goal

pub compare_exchange-requires : goal.compare_exchange-requires
compare_exchange-requires g c = let key = c.args.self.now.key in (c.requires.own, omega (arith, c.args.self.now.table.0), moves.wins c.args.self.now.cells.shared.key c.args.self.now.cells.shared.table_id.slots c.args.seat.now.id c.args.seat.now.me g.E.Naming.item c.args.place (c.args.place + 1) none c.requires.owner.0 c.requires.owner.1 c.requires.item c.requires.room (subst (λ (k : Shape). rule.MayStand k c.args.place g.E.Naming.item) (sym key) c.requires.stands) refl)
