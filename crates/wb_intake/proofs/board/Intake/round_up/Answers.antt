use Rattle.std.proofs.Common.{◌<◌, ◌%◌, ℕ, arith}
use Rattle.std.proofs.Math.Nat.{mod-lt}
use Rattle.wb_intake.proofs.Results.{rounded}
use Rattle.wb_intake.proofs.board.Intake.round_up.Goals as goal

pub returns : goal.returns
returns c = let n : ℕ = c.args.self.now.shape.places in let pos : 0 < n = c.args.self.now.fits.some_place in let r : c.args.place % n < n = mod-lt c.args.place pos in
    (rounded c.args.place n pos, omega arith, omega (arith, r, c.if-past-eq0.false))
