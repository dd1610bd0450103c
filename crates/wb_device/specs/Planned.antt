-- Which calls of a plan fail.
use Rattle.std.specs.Prelude.{ℕ, ◌==◌, Bool, false, nat_le, if◌then◌else◌, List, Option, Some, None}
use Rattle.std.specs.List.{find}
use Rattle.wb_device.specs.declared.planned.PlannedFault.{PlannedFault}
use Rattle.wb_device.specs.declared.planned.FaultPlan.{FaultPlan}

-- this call comes no earlier than the stop
abbrev pub is_stopped : Option ℕ → ℕ → Bool
is_stopped (Some stop) call = nat_le stop call
is_stopped None call = false

abbrev pub sectors_at : Option PlannedFault → Option ℕ
sectors_at (Some fault) = Some fault.sectors
sectors_at None = None

abbrev pub fault_of : ℕ → List PlannedFault → Option ℕ
fault_of call faults = sectors_at (find (λ (fault : PlannedFault). fault.call == call) faults)

-- Where the call fails, how many sectors a write stores before; from the stop on none.
abbrev pub planned : FaultPlan → ℕ → Option ℕ
planned plan call = if is_stopped plan.stop call then Some 0 else fault_of call plan.faults.items
