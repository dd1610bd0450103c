use Rattle.std.proofs.Common.{◌%◌, ap, ◌∙◌, arith}
use Rattle.wb_steps.specs.Rule as rule
use Rattle.wb_steps.specs.declared.shape.Shape.{Shape}
use Rattle.wb_intake.proofs.Moves as moves
use Rattle.wb_intake.proofs.board.Intake.set_limit.Goals as goal

pub swap-requires : goal.swap-requires
swap-requires c = let key = c.args.self.now.key in (c.requires.own, omega (arith, c.args.self.now.table.0), moves.raises_as c.args.self.now.cells.shared.key c.args.self.now.cells.shared.table_id.slots c.args.seat.now.id c.args.seat.now.me c.args.limit c.requires.drain (ap (λ (k : Shape). c.args.limit % k.places) key ∙ c.requires.whole) c.requires.up (let e = ap rule.cells key in omega (arith, e, c.requires.room)))
