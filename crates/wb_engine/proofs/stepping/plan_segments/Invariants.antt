-- The segments before this one are in the plan, and the log was only read.
use Rattle.std.proofs.Common.{◌≡◌, ◌≤◌, ◌+◌, ◌-◌}
use Rattle.wb_geometry.specs.Device.{OnlyRead}
use Rattle.wb_engine.specs.Stepping.{blocks_kept}
use Rattle.wb_engine.proofs.Plannings.{IsPlanning}
use Rattle.wb_engine.proofs.stepping.plan_segments.Given as goal

abbrev pub invariant-loop-before : goal.invariant-loop-before
invariant-loop-before g l =
    IsPlanning l.fn.geometry l.fn.memory.logged l.fn.back (g.L.Device.state l.fn.log) (l.before - l.fn.back) l.fn.plan.room l.plan
    × OnlyRead (g.L.Device.state l.fn.log) (g.L.Device.state l.log)
    × ((g.L.Device.state l.log).faults ≡ (g.L.Device.state l.fn.log).faults)
    × ((g.L.Device.state l.log).reads ≤ (g.L.Device.state l.fn.log).reads + blocks_kept l.fn.memory.logged l.fn.back (l.before - l.fn.back))
