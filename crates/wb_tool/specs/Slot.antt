-- What `inspect` of a slot answers for.
use Rattle.std.specs.Prelude.{ℕ, ◌≡◌, ◌⊎◌, ◌<◌, ◌≤◌, List, IfSome}
use Rattle.wb_geometry.specs.Device.{State, OnlyRead, CountsFaultsWhere}
use Rattle.wb_geometry.specs.declared.which.Which.TheVariants.{Log}
use Rattle.wb_super.specs.Found.{IsSuper}
use Rattle.wb_super.specs.declared.reading.Super.{Super}
use Rattle.wb_tool.specs.Run.{Lent, Run, IsUntouched, NoSession, BackingIsUncalled, Took, EndsTelling}
use Rattle.wb_tool.specs.Texts.{no_slot_line, failed_line}
use Rattle.wb_tool.specs.SlotTexts.{slot_bytes, TellsSlot}
use Rattle.wb_tool.specs.Opening.{EndsByLog}

-- the log doesn't have this slot
pub record EndsByNoSlot (slot : ℕ) (found : Super) (sink : Lent) (status : ℕ) : Type 0 where
  pub above : found.geometry.slots ≤ slot
  pub ended : status ≡ 2
  pub told : Took sink (no_slot_line slot found.geometry.slots)

-- the slot couldn't be read
pub record EndsBySlotFault (slot : ℕ) (found : Super) (sink : Lent) (status : ℕ) : Type 0 where
  pub below : slot < found.geometry.slots
  pub ended : status ≡ 6
  pub told : Took sink (failed_line Log)

-- what is in the slot was told
pub record EndsToldSlot (slot : ℕ) (found : Super) (sink : Lent) (log : State) (status : ℕ) : Type 0 where
  pub below : slot < found.geometry.slots
  pub text : List ℕ
  pub is : IfSome log.content (λ x. TellsSlot found.geometry slot (slot_bytes found.geometry slot x) text)
  pub told : EndsTelling sink status text

-- the superblock is good
pub record EndsAtSlot (slot : ℕ) (sink : Lent) (log : State) (status : ℕ) : Type 0 where
  pub found : Super
  pub super : IsSuper log found
  pub ends : EndsByNoSlot slot found sink status ⊎ EndsBySlotFault slot found sink status ⊎ EndsToldSlot slot found sink log status

-- What it leaves of the log device and the sink. The log is only read, and its faults rose exactly at status 6.
pub record SlotEnds (slot : ℕ) (sink : Lent) (before after : State) (status : ℕ) : Type 0 where
  pub log : OnlyRead before after
  pub faults : CountsFaultsWhere (status ≡ 6) before.faults after.faults
  pub ends : (status ≡ 1) ⊎ EndsByLog sink before status ⊎ EndsAtSlot slot sink before status

pub record SlotAccount (slot : ℕ) (run : Run) : Type 0 where
  pub no_session : NoSession run
  pub backing : BackingIsUncalled run
  pub unread : IsUntouched run.source
  pub ends : SlotEnds slot run.sink run.before.log run.after.log run.status
