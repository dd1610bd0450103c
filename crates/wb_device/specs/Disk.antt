-- The state of a device in memory that fails as planned, and what its calls say beside the trait's clauses.
use Rattle.std.specs.Prelude.{ℕ, ◌≡◌, ◌==◌, ◌⊎◌, ◌/◌, List, [], ◌∷◌, ◌++◌, if◌then◌else◌, length, take, Option, Some, None, IsSome, IsTrue, Result, OnOk, OnErr}
use Rattle.std.proofs.Common.{subst}
use Rattle.wb_geometry.specs.Image.{Image, IsImage, sectors_of, overlay}
use Rattle.wb_geometry.proofs.Images.{IsImage-sectors_of}
use Rattle.wb_geometry.proofs.Disks.{disk_is_device}
use Rattle.wb_geometry.specs.Device.{State, IsDevice, NothingPending, next_count}
use Rattle.wb_geometry.specs.Disk.{Change, Write, disk_state, choose, all_candidates}
use Rattle.wb_device.specs.Unused.{IsUnused}
use Rattle.wb_device.specs.Planned.{planned, is_stopped}
use Rattle.wb_device.specs.Recorded.{changes_of, IsWhole-changes}
use Rattle.wb_device.specs.declared.planned.FaultPlan.{FaultPlan}
use Rattle.wb_device.specs.declared.disk.MemoryDevice.{MemoryDevice}

-- what a read gives
abbrev pub memory_content : MemoryDevice → Image
memory_content d = sectors_of d.medium.bytes.items

-- what it held at first, all of it synced, and the changes since
abbrev pub memory_first : MemoryDevice → Image
memory_first d = sectors_of d.medium.first.items

abbrev pub memory_changes : MemoryDevice → List Change
memory_changes d = changes_of d.medium.recorded.items

abbrev pub memory_plan : MemoryDevice → FaultPlan
memory_plan d = d.plan

-- how many calls there were, to 2 ^ 64 - 1 at most
abbrev pub memory_calls : MemoryDevice → ℕ
memory_calls d = d.calls

-- how many of them found no memory, to 2 ^ 64 - 1 at most
abbrev pub memory_starved : MemoryDevice → ℕ
memory_starved d = d.starved

abbrev pub memory_state : MemoryDevice → State
memory_state d = disk_state (length d.medium.bytes.items / 512) (memory_content d) (memory_first d) (memory_changes d) d.faults d.syncs d.reads

pub memory_is_device : (d : MemoryDevice) → IsDevice (memory_state d)
memory_is_device d =
    disk_is_device (length d.medium.bytes.items / 512) (memory_content d) (memory_first d) (memory_changes d) d.faults d.syncs d.reads
    (subst (λ (n : ℕ). IsImage (n / 512) (memory_first d)) d.medium.size (IsImage-sectors_of d.medium.first.items))
    (IsWhole-changes d.medium.recorded.items)
    d.medium.content

-- Where its next call is planned to fail, how many sectors a write stores before.
abbrev pub next_fault : MemoryDevice → Option ℕ
next_fault d = planned (memory_plan d) (memory_calls d)

-- the image that a choice takes of those that a crash now may leave
abbrev pub crash_image : List ℕ → MemoryDevice → Image
crash_image choice d = choose choice 0 (all_candidates (memory_first d) (memory_changes d))

-- the call finds no memory
pub record Starves (old new : MemoryDevice) : Type 0 where
  pub starved : memory_starved new ≡ next_count (memory_starved old)
  pub content : memory_content new ≡ memory_content old
  pub changes : memory_changes new ≡ memory_changes old

-- the call does nothing
pub record DoesNothing (old new : MemoryDevice) : Type 0 where
  pub starved : memory_starved new ≡ memory_starved old
  pub content : memory_content new ≡ memory_content old
  pub changes : memory_changes new ≡ memory_changes old

-- each call counts, and changes neither the plan nor what it held at first
pub record IsNextCall (old new : MemoryDevice) : Type 0 where
  pub calls : memory_calls new ≡ next_count (memory_calls old)
  pub plan : memory_plan new ≡ memory_plan old
  pub first : memory_first new ≡ memory_first old

-- it fails where that is planned, and else only where it finds no memory
pub record FailsAsPlanned {T E : Type 0} (old new : MemoryDevice) (result : Result T E) : Type 0 where
  pub failed : OnErr result ((IsSome (next_fault old) × (memory_starved new ≡ memory_starved old)) ⊎ Starves old new)
  pub worked : OnOk result (next_fault old ≡ None)
  pub fed : OnOk result (memory_starved new ≡ memory_starved old)

-- what a write that stores so many of its leading sectors adds
abbrev pub stored_front : (at count : ℕ) → Image → List Change
stored_front at count new = if count == 0 then [] else Write at (take count new) ∷ []

-- a write that fails as planned has stored so many of its leading sectors and recorded these alone, or found no memory
abbrev pub StoresFront : (at : ℕ) (bytes : List ℕ) (old new : MemoryDevice) → Type 0
StoresFront at bytes old new = (count : ℕ) → next_fault old ≡ Some count
    → ((memory_content new ≡ overlay at (take count (sectors_of bytes)) (memory_content old))
    × (memory_changes new ≡ memory_changes old ++ stored_front at count (sectors_of bytes))) ⊎ Starves old new

-- from the stop on a call does nothing
abbrev pub StopsThere : (old new : MemoryDevice) → Type 0
StopsThere old new = IsTrue (is_stopped (memory_plan old).stop (memory_calls old)) → DoesNothing old new

-- it had no call yet, and all that it holds is synced
pub record IsFresh (d : MemoryDevice) : Type 0 where
  pub unused : IsUnused (memory_state d)
  pub calls : memory_calls d ≡ 0
  pub starved : memory_starved d ≡ 0
  pub changes : memory_changes d ≡ []
  pub durable : NothingPending (memory_state d)
