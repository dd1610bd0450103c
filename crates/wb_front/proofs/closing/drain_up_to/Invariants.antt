-- What was drained stays so.
use Rattle.wb_steps.specs.Views.{IsPrefix}
use Rattle.wb_front.specs.Joined.{drained}
use Rattle.wb_front.proofs.closing.drain_up_to.Given as goal

abbrev pub invariant-loop : goal.invariant-loop
invariant-loop g l = IsPrefix (drained l.fn.core) (drained l.core)
