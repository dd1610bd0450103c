use Rattle.std.proofs.Common.{◌<◌, arith}
use Rattle.wb_intake.proofs.Moves.{looks}
use Rattle.wb_intake.proofs.board.Intake.load.Goals as goal

pub load-requires : goal.load-requires
load-requires c = (c.requires.own, omega (arith, c.requires.word, c.args.self.now.table.0), looks c.args.self.now.cells.shared.key (Rattle.std.proofs.Common.subst Rattle.wb_steps.specs.Rule.IsShape (Rattle.std.proofs.Common.sym c.args.self.now.key) c.args.self.now.fits) c.args.self.now.cells.shared.table_id.slots c.args.seat.now.id c.args.seat.now.me c.args.word c.requires.live c.requires.word)
