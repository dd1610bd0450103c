-- The part of the first block comes, and those of the rest are left.
use Rattle.std.proofs.Common.{ap, length, arith}
use Rattle.wb_geometry.proofs.Splits.{next_part}
use Rattle.wb_geometry.proofs.splitting.PartsIterator.next.Goals as goal

pub returns-clause-steps : goal.returns-clause-steps
returns-clause-steps c = next_part _ _ _ _ c.self.invariant.0 c.if-self.false c.min-count.ensures c.self.view_is

pub returns-clause-goes : goal.returns-clause-goes
returns-clause-goes c =
    let first = next_part _ _ _ _ c.self.invariant.0 c.if-self.false c.min-count.ensures c.self.view_is in
    let shorter = ap (λ ps. length ps) first in
    record { on = λ finite. (tt, tt, omega (arith, shorter)); keeps = tt; rests = λ finite. tt }
