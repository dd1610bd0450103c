use Rattle.std.proofs.Common.{◌+◌, ◌%◌, ◌<◌, sym, ap, ◌∙◌, subst, arith}
use Rattle.wb_steps.specs.declared.shape.Shape.{Shape}
use Rattle.wb_intake.proofs.Moves as moves
use Rattle.wb_intake.proofs.board.Intake.raise_cursor.Goals as goal

pub fetch_max-requires : goal.fetch_max-requires
fetch_max-requires c = let key = c.args.self.now.key in (c.requires.own, omega (arith, c.args.self.now.table.0), moves.bumps_up c.args.self.now.cells.shared.key c.args.self.now.cells.shared.table_id.slots c.args.seat.now.id c.args.seat.now.me c.args.to c.requires.owner.0 c.requires.owner.1 (ap (λ (k : Shape). c.args.to % k.places) key ∙ c.requires.whole) (subst (λ (k : Shape). c.args.to < c.args.seat.now.me.0.view.seen.cursor + k.places) (sym key) c.requires.near))
