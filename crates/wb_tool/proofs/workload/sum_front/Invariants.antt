-- The pieces before this one are summed.
use Rattle.std.proofs.Common.{◌*◌, min}
use Rattle.wb_tool.proofs.Summed.{IsSummedTo}
use Rattle.wb_tool.proofs.workload.sum_front.Given as goal

abbrev pub invariant-loop-piece : goal.invariant-loop-piece
invariant-loop-piece g l = IsSummedTo (min (32 * l.piece) l.end) l.sum (g.B.Device.state l.fn.device) (g.B.Device.state l.device)
