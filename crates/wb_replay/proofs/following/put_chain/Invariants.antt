-- The segments before this one are put, and no call failed.
use Rattle.wb_replay.proofs.Chains.{IsFollowing}
use Rattle.wb_replay.proofs.following.put_chain.Given as goal

abbrev pub invariant-loop-count : goal.invariant-loop-count
invariant-loop-count g l =
    IsFollowing l.found.geometry l.found.recorded l.count l.slot (g.L.Device.state l.fn.log) (g.L.Device.state l.log) (g.B.Device.state l.fn.backing) (g.B.Device.state l.backing)
