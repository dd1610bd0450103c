-- The slots before this one are cleared, and no call failed.
use Rattle.std.proofs.Common.{◌-◌}
use Rattle.wb_super.proofs.Formattings.{IsClearing}
use Rattle.wb_super.proofs.formatting.clear_slots.Given as goal

abbrev pub invariant-loop-id : goal.invariant-loop-id
invariant-loop-id g l = IsClearing l.g (l.id - 1) (g.D.Device.state l.fn.log) (g.D.Device.state l.log)
