-- No fault that was passed is this call's.
use Rattle.std.proofs.Common.{◌≡◌, drop, false}
use Rattle.wb_device.specs.Planned.{is_stopped, fault_of}
use Rattle.wb_device.proofs.planned.fault_at.Given as goal

abbrev pub invariant-loop-fault : goal.invariant-loop-fault
invariant-loop-fault l = record {
  rest : fault_of l.fn.call (drop l.fault-index l.fn.plan.faults.items) ≡ fault_of l.fn.call l.fn.plan.faults.items;
  going : is_stopped l.fn.plan.stop l.fn.call ≡ false;
}
