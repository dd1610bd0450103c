use Rattle.std.proofs.Common.{ap, ◌∙◌, sym, arith}
use Rattle.wb_steps.specs.declared.view.Role.TheVariants.{Owner, Spent}
use Rattle.wb_steps.proofs.Copies.{roles_apart}
use Rattle.wb_intake.specs.Plays.{Sat}
use Rattle.wb_intake.proofs.Moves.{shows_as, meets_as}
use Rattle.wb_intake.proofs.board.Intake.meet_seats.Goals as goal

pub split_seat-copy-requires : goal.split_seat-copy-requires
split_seat-copy-requires c = (c.requires.own.0, omega (arith, c.args.self.now.table.0), shows_as c.args.self.now.cells.shared.key c.args.owner.now.id c.args.owner.now.me.0 (λ e. roles_apart Owner Spent (λ n. omega arith) (sym c.requires.owner ∙ e)))

pub join_seat-requires : goal.join_seat-requires
join_seat-requires c = let copy = c.split_seat-copy.ensures in
    (c.requires.own.1, copy.3 ∙ c.requires.own.0, ap (λ (m : Sat). m.1) copy.4, omega (arith, c.args.self.now.table.0), meets_as c.args.self.now.cells.shared.key c.args.drain.now.id c.args.drain.now.me.0 c.split_seat-copy.result.id c.split_seat-copy.result.me.0 c.requires.drain (ap (λ (m : Sat). m.0.view.role) copy.4))
