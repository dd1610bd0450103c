use Rattle.std.proofs.Common.{sym}
use Rattle.wb_sum.proofs.Division.{sum_none}
use Rattle.wb_sum.proofs.sum.Sum.new.Goals as goal

pub returns : goal.returns
returns c = sym sum_none
