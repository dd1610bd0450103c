use Rattle.std.proofs.Common.{inr, refl}
use Rattle.wb_tool.proofs.opening.refuse_log.Goals as goal

pub returns-in-Fault-clause-told : goal.returns-in-Fault-clause-told
returns-in-Fault-clause-told g c = rw c.in-Fault.is (inr (refl, c.tell.ensures))
