-- Some turns were made, and none failed.
use Rattle.std.proofs.Common.{◌≡◌, None}
use Rattle.wb_engine.proofs.Drained.{turns_of}
use Rattle.wb_engine.proofs.Settled.{IsSettling}
use Rattle.wb_engine.proofs.engine.Engine.settle.Given as goal

abbrev pub invariant-loop-self : goal.invariant-loop-self
invariant-loop-self g l = record { up : l.self.down ≡ None; so_far : IsSettling g.L.Device.state g.B.Device.state l.fn.place l.fn.self l.self }

abbrev pub decreases-loop-self : goal.decreases-loop-self
decreases-loop-self g l = turns_of l.self
