-- The slots before this one have no id above the limit.
use Rattle.wb_replay.proofs.Strays.{AreNoStrays}
use Rattle.wb_replay.proofs.settling.refuse_stray.Given as goal

abbrev pub invariant-loop-slot : goal.invariant-loop-slot
invariant-loop-slot g l = AreNoStrays l.geometry l.limit l.slot (g.L.Device.state l.fn.log) (g.L.Device.state l.log) l.sector
