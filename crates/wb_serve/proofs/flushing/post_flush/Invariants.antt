-- So many places are filled.
use Rattle.wb_engine.proofs.Filling.{IsFilling}
use Rattle.wb_serve.proofs.flushing.post_flush.Given as goal

abbrev pub invariant-loop : goal.invariant-loop
invariant-loop g l = IsFilling g.L.Device.state g.B.Device.state l.client l.fn.engine l.engine l.counter
