use Rattle.std.proofs.Common.{arith}
use Rattle.wb_intake.proofs.Moves.{founds_as}
use Rattle.wb_intake.proofs.board.Intake.found.Goals as goal

pub split_seat-seat-requires : goal.split_seat-seat-requires
split_seat-seat-requires c = (c.requires.own, omega (arith, c.args.self.now.table.0), founds_as c.args.self.now.cells.shared.key c.args.drain.now.seat.id c.args.drain.now.seat.me.0 c.args.drain.now.drains.0)
