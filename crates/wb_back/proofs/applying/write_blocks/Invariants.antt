-- The blocks before this one are put, and no call failed.
use Rattle.wb_header.specs.Standing.{entries_of}
use Rattle.wb_back.proofs.Writing.{IsPut}
use Rattle.wb_back.proofs.applying.write_blocks.Given as goal

abbrev pub invariant-loop-one : goal.invariant-loop-one
invariant-loop-one g l = IsPut (entries_of l.fn.plan.blocks) l.one-index (g.B.Device.state l.fn.backing) (g.B.Device.state l.backing)
