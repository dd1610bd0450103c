use Rattle.wb_sum.proofs.Remainders.{divides_whole, one_remainder}
use Rattle.wb_sum.proofs.law.divides.Goals as goal

pub returns-clause-remainder : goal.returns-clause-remainder
returns-clause-remainder c = divides_whole

pub returns-clause-only : goal.returns-clause-only
returns-clause-only c = one_remainder
