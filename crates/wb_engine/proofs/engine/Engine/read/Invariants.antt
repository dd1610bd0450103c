-- The sectors before this one were read.
use Rattle.std.proofs.Common.{◌*◌, ◌-◌, ◌≤◌, take}
use Rattle.wb_engine.proofs.ReadLoops.{IsReadTo}
use Rattle.wb_engine.proofs.engine.Engine.read.Given as goal

abbrev pub invariant-loop-done : goal.invariant-loop-done
invariant-loop-done g l = record {
  few : l.done ≤ l.count;
  read : IsReadTo g.L.Device.state g.B.Device.state l.fn.self l.self l.fn.sector l.done (take (512 * l.done) l.into);
}

abbrev pub decreases-loop-done : goal.decreases-loop-done
decreases-loop-done g l = l.count - l.done
