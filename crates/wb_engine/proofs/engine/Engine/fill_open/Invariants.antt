-- So many places are filled.
use Rattle.std.proofs.Common.{◌-◌}
use Rattle.wb_engine.proofs.Filling.{IsFilling}
use Rattle.wb_engine.proofs.engine.Engine.fill_open.Given as goal

abbrev pub invariant-loop : goal.invariant-loop
invariant-loop g l = IsFilling g.L.Device.state g.B.Device.state 0 l.fn.self l.self (l.counter - l.begun)
