-- What a run answers for, by its words, and when it succeeds.
use Rattle.std.specs.Prelude.{ℕ, ◌≡◌, ◌⊎◌, ◌<◌, ◌≤◌, ◌+◌, ◌*◌, ◌^◌, List, Some}
use Rattle.wb_geometry.specs.Image.{Image}
use Rattle.wb_geometry.specs.Layout.{log_sectors}
use Rattle.wb_geometry.specs.Device.{IsUncalled}
use Rattle.wb_geometry.specs.declared.geometry.Geometry.{Geometry}
use Rattle.wb_super.specs.Superblock.{SuperText, record_of}
use Rattle.wb_super.specs.Found.{most_record}
use Rattle.wb_crash.specs.Chain.{IsTidy}
use Rattle.wb_script.specs.Content.{ScriptContent}
use Rattle.wb_script.specs.Grammar.{IsScript}
use Rattle.wb_tool.specs.declared.command.Command.{Command}
use Rattle.wb_tool.specs.declared.command.Numbers.{Numbers}
use Rattle.wb_tool.specs.declared.command.WorkloadNumbers.{WorkloadNumbers}
use Rattle.wb_tool.specs.Commands.{IsForm, IsServe, IsRecover, IsInspect, IsInspectSlot, IsFormat, IsWorkload}
use Rattle.wb_tool.specs.Run.{Run, HasFailed, IsUntouched, LogHasFailed, BackingHasFailed, NoSession, BackingIsUncalled, Took, script_bytes}
use Rattle.wb_tool.specs.Texts.{usage_line}
use Rattle.wb_tool.specs.Serve.{ServeAccount}
use Rattle.wb_tool.specs.Workload.{WorkloadAccount}
use Rattle.wb_tool.specs.Format.{FormatAccount, Asks}
use Rattle.wb_tool.specs.Inspect.{InspectAccount}
use Rattle.wb_tool.specs.Slot.{SlotAccount}
use Rattle.wb_tool.specs.Recover.{RecoverAccount}

-- the words are of no form
pub record UsageAccount (run : Run) : Type 0 where
  pub status : run.status ≡ 2
  pub told : Took run.sink usage_line
  pub no_session : NoSession run
  pub backing : BackingIsUncalled run
  pub unread : IsUntouched run.source
  pub log : IsUncalled run.before.log run.after.log

-- what a run answers for: its words are of one of six forms, or of none
pub record IsAccounted (words : List (List ℕ)) (run : Run) : Type 0 where
  pub usage : ((command : Command) → IsForm command words → ⊥) → UsageAccount run
  pub serve : IsServe words → ServeAccount run
  pub recover : IsRecover words → RecoverAccount run
  pub format : (numbers : Numbers) → IsFormat numbers words → FormatAccount numbers run
  pub inspect : IsInspect words → InspectAccount run
  pub slot : (slot : ℕ) → IsInspectSlot slot words → SlotAccount slot run
  pub workload : (numbers : WorkloadNumbers) → IsWorkload numbers words → WorkloadAccount numbers run

-- the log device tells that it is formatted for this geometry, with a record that is taken
pub record TellsFormatted (run : Run) (g : Geometry) : Type 0 where
  pub image : Image
  pub told : run.before.log.content ≡ Some image
  pub text : SuperText image g 1
  pub bounded : record_of image ≤ most_record

-- the record of this log leaves ids for each session of a script
abbrev pub LeavesIds : Geometry → Image → Type 0
LeavesIds g image = record_of image + 2 * g.slots + 2 ^ 26 ≤ 2 ^ 48

-- the source tells a good script for this geometry
pub record IsScripted (run : Run) (g : Geometry) : Type 0 where
  pub input : List ℕ
  pub told : run.source.before ≡ Some input
  pub script : ScriptContent
  pub good : IsScript g.backing_sectors (script_bytes input) script

-- neither the sink nor the log device failed
pub record NoLogFault (run : Run) : Type 0 where
  pub sink : HasFailed run.sink → ⊥
  pub log : LogHasFailed run → ⊥

-- nor the source, nor the backing device
pub record NoFault (run : Run) : Type 0 where
  pub fine : NoLogFault run
  pub source : HasFailed run.source → ⊥
  pub backing : BackingHasFailed run → ⊥

-- done, or want of memory
abbrev pub Succeeds : Run → Type 0
Succeeds run = (run.status ≡ 0) ⊎ (run.status ≡ 1)

-- a run over good devices, with a good script where one is read, succeeds but for want of memory
pub record IsComplete (words : List (List ℕ)) (run : Run) : Type 0 where
  pub serve : IsServe words → NoFault run → (g : Geometry) → (formatted : TellsFormatted run g) → IsTidy g formatted.image → LeavesIds g formatted.image
      → g.backing_sectors ≤ run.before.backing.sectors → IsScripted run g → Succeeds run
  pub recover : IsRecover words → NoLogFault run → (BackingHasFailed run → ⊥) → (g : Geometry) → (formatted : TellsFormatted run g) → IsTidy g formatted.image
      → g.backing_sectors ≤ run.before.backing.sectors → Succeeds run
  pub format : (numbers : Numbers) → IsFormat numbers words → NoLogFault run → 8 ≤ run.before.backing.sectors
      → (g : Geometry) → Asks numbers run.before.backing.sectors g → log_sectors g ≤ run.before.log.sectors → Succeeds run
  pub inspect : IsInspect words → NoLogFault run → (g : Geometry) → TellsFormatted run g → Succeeds run
  pub slot : (slot : ℕ) → IsInspectSlot slot words → NoLogFault run → (g : Geometry) → TellsFormatted run g → slot < g.slots → Succeeds run
  pub workload : (numbers : WorkloadNumbers) → IsWorkload numbers words → NoLogFault run → (BackingHasFailed run → ⊥) → (g : Geometry) → (formatted : TellsFormatted run g)
      → IsTidy g formatted.image → LeavesIds g formatted.image → g.backing_sectors ≤ run.before.backing.sectors → 32 ≤ g.backing_sectors → Succeeds run
