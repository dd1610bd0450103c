-- Some turns were made, and the engine went down in the last of them at most.
use Rattle.wb_engine.proofs.Drained.{IsDraining, turns_of}
use Rattle.wb_engine.proofs.engine.Engine.drain.Given as goal

abbrev pub invariant-loop-self : goal.invariant-loop-self
invariant-loop-self g l = IsDraining g.L.Device.state g.B.Device.state l.fn.self l.self

abbrev pub decreases-loop-self : goal.decreases-loop-self
decreases-loop-self g l = turns_of l.self
