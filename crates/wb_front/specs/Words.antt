-- What the fault word tells of the devices.
use Rattle.std.specs.Prelude.{ℕ, ◌≡◌, ◌⊎◌, ◌+◌, ◌-◌, ◌^◌, ◌≤◌, min, Option, None, Some, Result, Err}
use Rattle.wb_geometry.specs.Device.{CountsFaultsWhere}
use Rattle.wb_geometry.specs.declared.which.Which.{Which}
use Rattle.wb_geometry.specs.declared.which.Which.TheVariants.{Log, Backing}
use Rattle.wb_steps.specs.declared.view.Faults.{Faults}

-- the parts of the word, where the engine is down by that device or up, and so many reads of clients failed on each
abbrev pub faults_of : Option Which → (log_reads backing_reads : ℕ) → Faults
faults_of None a b = record { log_down = 0; backing_down = 0; log_reads = a; backing_reads = b }
faults_of (Some Log) a b = record { log_down = 1; backing_down = 0; log_reads = a; backing_reads = b }
faults_of (Some Backing) a b = record { log_down = 0; backing_down = 1; log_reads = a; backing_reads = b }

-- the part that says that the engine is down by this device, and the one that counts the reads that failed on it
abbrev pub down_part : Which → Faults → ℕ
down_part Log f = f.log_down
down_part Backing f = f.backing_down

abbrev pub reads_part : Which → Faults → ℕ
reads_part Log f = f.log_reads
reads_part Backing f = f.backing_reads

-- one of the two parts of the device says that it failed
abbrev pub HasFailed : Which → Faults → Type 0
HasFailed which f = (1 ≤ down_part which f) ⊎ (1 ≤ reads_part which f)

-- a part that counts reads rose, or stands at its last value
abbrev pub ReadsRose : (before now : ℕ) → Type 0
ReadsRose before now = min (before + 1) (2 ^ 31 - 1) ≤ now

-- a count of failed reads rose where one failed, unless it stood at its last value, and else it stays
pub record CountsReads (Failed : Type 0) (before now : ℕ) : Type 0 where
  pub failed : Failed → now ≡ min (before + 1) (2 ^ 31 - 1)
  pub kept : (Failed → ⊥) → now ≡ before

-- the counts of failed reads stay
abbrev pub KeepsReads : (before now : Faults) → Type 0
KeepsReads before now = (now.log_reads ≡ before.log_reads) × (now.backing_reads ≡ before.backing_reads)

-- A read that ended so was counted where it failed, and nothing else of the word changed.
pub record HasCounted {T : Type 0} (read : Result T Which) (before now : Faults) : Type 0 where
  pub log_down : now.log_down ≡ before.log_down
  pub backing_down : now.backing_down ≡ before.backing_down
  pub log_reads : CountsReads (read ≡ Err Log) before.log_reads now.log_reads
  pub backing_reads : CountsReads (read ≡ Err Backing) before.backing_reads now.backing_reads

-- The parts of a device against its count of faults at the opening and now: one of them is there exactly where the count
-- rose; and the failed reads, with the failure by which the engine is down, are no more than it rose by, unless it stands at
-- its last value.
pub record TellsFaults (which : Which) (f : Faults) (opening now : ℕ) : Type 0 where
  pub cause : CountsFaultsWhere (HasFailed which f) opening now
  pub reads : min (opening + reads_part which f + down_part which f) (2 ^ 64 - 1) ≤ now
