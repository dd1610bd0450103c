-- The blocks before this one are put, and no call failed.
use Rattle.wb_replay.proofs.Blocks.{IsPut}
use Rattle.wb_replay.proofs.following.put_blocks.Given as goal

abbrev pub invariant-loop-index : goal.invariant-loop-index
invariant-loop-index g l = IsPut l.text l.index (g.B.Device.state l.fn.backing) (g.B.Device.state l.backing)
