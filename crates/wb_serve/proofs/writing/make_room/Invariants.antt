-- Some turns were made.
use Rattle.wb_engine.proofs.Drained.{turns_of}
use Rattle.wb_serve.proofs.Rooms.{MakesRoom}
use Rattle.wb_serve.proofs.writing.make_room.Given as goal

abbrev pub invariant-loop-engine : goal.invariant-loop-engine
invariant-loop-engine g l = MakesRoom g.L.Device.state g.B.Device.state l.fn.engine l.engine

-- so many are left at most, and one that fails is the last
abbrev pub decreases-loop-engine : goal.decreases-loop-engine
decreases-loop-engine g l = turns_of l.engine
