use Rattle.std.proofs.Common.{arith}
use Rattle.wb_intake.proofs.Moves as moves
use Rattle.wb_intake.proofs.board.Intake.set_fault.Goals as goal

pub swap-requires : goal.swap-requires
swap-requires c = (c.requires.own, omega (arith, c.args.self.now.table.0), moves.faults_as c.args.self.now.cells.shared.key c.args.self.now.cells.shared.table_id.slots c.args.seat.now.id c.args.seat.now.me c.args.fault c.requires.drain c.requires.up)
