use Rattle.std.proofs.Common.{arith}
use Rattle.wb_intake.proofs.Moves.{tells_as}
use Rattle.wb_intake.proofs.board.Intake.tell.Goals as goal

pub split_seat-seat-requires : goal.split_seat-seat-requires
split_seat-seat-requires c = (c.requires.own, omega (arith, c.args.self.now.table.0), tells_as c.args.self.now.cells.shared.key c.args.pass.now.seat.id c.args.pass.now.seat.me.0 c.args.pass.now.owns.0)
