-- The blocks before this one were put over the plan, and the log was only read.
use Rattle.std.proofs.Common.{◌≡◌, ◌≤◌, ◌+◌}
use Rattle.wb_geometry.specs.Device.{OnlyRead}
use Rattle.wb_engine.proofs.Plannings.{IsAdding}
use Rattle.wb_engine.proofs.stepping.add_segment.Given as goal

abbrev pub invariant-loop-index : goal.invariant-loop-index
invariant-loop-index g l =
    IsAdding l.fn.geometry l.fn.memory.logged l.fn.id (g.L.Device.state l.fn.log) l.index l.fn.plan l.plan
    × OnlyRead (g.L.Device.state l.fn.log) (g.L.Device.state l.log)
    × ((g.L.Device.state l.log).faults ≡ (g.L.Device.state l.fn.log).faults)
    × ((g.L.Device.state l.log).reads ≤ (g.L.Device.state l.fn.log).reads + l.index)
