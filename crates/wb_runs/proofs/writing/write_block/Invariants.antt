-- The sectors of the runs so far are written, and no call failed.
use Rattle.std.proofs.Common.{◌-◌, ◌≤◌}
use Rattle.wb_runs.proofs.Written.{IsBegun}
use Rattle.wb_runs.proofs.writing.write_block.Given as goal

abbrev pub invariant-loop-first : goal.invariant-loop-first
invariant-loop-first g l = record {
  inside : l.from ≤ 8;
  begun : IsBegun l.from l.fn.block l.fn.bits l.payload (g.B.Device.state l.fn.backing) (g.B.Device.state l.backing);
}

abbrev pub decreases-loop-first : goal.decreases-loop-first
decreases-loop-first g l = 8 - l.from
