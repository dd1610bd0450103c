use Rattle.std.proofs.Common.{◌∙◌, sym, arith}
use Rattle.wb_steps.specs.declared.view.Role.TheVariants.{Drain, Spent}
use Rattle.wb_steps.proofs.Copies.{roles_apart}
use Rattle.wb_intake.proofs.Moves.{shows_as}
use Rattle.wb_intake.proofs.board.Intake.tell_drained.Goals as goal

pub split_seat-seat-requires : goal.split_seat-seat-requires
split_seat-seat-requires c = (c.requires.own, omega (arith, c.args.self.now.table.0), shows_as c.args.self.now.cells.shared.key c.args.drain.now.seat.id c.args.drain.now.seat.me.0 (λ e. roles_apart Drain Spent (λ n. omega arith) (sym c.args.drain.now.drains.0 ∙ e)))
