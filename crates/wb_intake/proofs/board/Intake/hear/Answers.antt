use Rattle.std.proofs.Common.{inl, arith}
use Rattle.wb_intake.proofs.Moves.{hears_as}
use Rattle.wb_intake.proofs.board.Intake.hear.Goals as goal

pub join_seat-requires : goal.join_seat-requires
join_seat-requires c = (c.requires.own.0, c.requires.own.1, c.args.note.copies.1, omega (arith, c.args.self.now.table.0), hears_as c.args.self.now.cells.shared.key c.args.pass.now.seat.id c.args.pass.now.seat.me.0 c.args.note.seat.id c.args.note.seat.me.0 (inl c.args.pass.now.owns.0) c.args.note.copies.0)
