-- What `recover` answers for.
use Rattle.std.specs.Prelude.{ℕ, ◌≡◌, ◌⊎◌, ◌+◌, ◌-◌, List, [], ◌++◌, codes, Some}
use Rattle.std.specs.Fmt.{decimal}
use Rattle.wb_geometry.specs.Image.{Image}
use Rattle.wb_geometry.specs.Device.{NothingPending, ContentPasses, CountsFaultsWhere, OnlyRead, IsUncalled}
use Rattle.wb_geometry.specs.declared.geometry.Geometry.{Geometry}
use Rattle.wb_geometry.specs.declared.which.Which.TheVariants.{Log, Backing}
use Rattle.wb_super.specs.Superblock.{SuperText, record_of}
use Rattle.wb_super.specs.Recording.{Records}
use Rattle.wb_super.specs.declared.reading.Super.{Super}
use Rattle.wb_crash.specs.Crash.{CrashInRecover, MakesOfContents}
use Rattle.wb_replay.specs.Replaying.{IsNumbered, TellsChain, IsAllPut, GoesInTurn, MakesOf, LeavesRecovered}
use Rattle.wb_replay.specs.Stopping.{MayRecover, RefusesRecovery, RecoverStopsInTurn}
use Rattle.wb_replay.specs.declared.replaying.Recovery.{Recovery}
use Rattle.wb_replay.specs.declared.recovering.RecoverStop.{RecoverStop}
use Rattle.wb_replay.specs.declared.recovering.RecoverStop.TheVariants as cause
use Rattle.wb_script.specs.Output.{newline}
use Rattle.wb_serve.specs.Session.{Devices}
use Rattle.wb_tool.specs.Run.{Lent, Run, IsUntouched, NoSession, Took, EndsTelling}
use Rattle.wb_tool.specs.Texts.{super_line, super_status, small_line, stray_line, failed_line}
use Rattle.wb_tool.specs.SlotTexts.{segment_cause}

abbrev pub recovered_line : Recovery → List ℕ
recovered_line recovery = codes "recovered " ++ decimal (recovery.through + 1 - recovery.from) ++ codes " segments from " ++ decimal recovery.from
    ++ codes " record " ++ decimal recovery.recorded ++ codes " stopped " ++ segment_cause recovery.stopped ++ newline

-- the line for a recovery that stopped; at want of memory there is none
abbrev pub stopped_line : RecoverStop → List ℕ
stopped_line (cause.Super refused) = super_line refused
stopped_line (cause.Backing needs has) = small_line Backing has needs
stopped_line cause.Memory = []
stopped_line (cause.Stray slot id) = stray_line slot id
stopped_line cause.LogFault = failed_line Log
stopped_line cause.BackingFault = failed_line Backing

-- and the status
abbrev pub stopped_status : RecoverStop → ℕ
stopped_status (cause.Super refused) = super_status refused
stopped_status (cause.Backing needs has) = 9
stopped_status cause.Memory = 1
stopped_status (cause.Stray slot id) = 8
stopped_status cause.LogFault = 6
stopped_status cause.BackingFault = 7

-- Wherever it ended: over a log with a superblock nothing but the record changed there, and that not before all was put. So
-- a crash in its course, and recovery of the contents behind it, make what it would have made.
pub record HasGone (before after : Devices) : Type 0 where
  pub in_turn : (g : Geometry) (x : Image) → before.log.content ≡ Some x → SuperText x g 1 → GoesInTurn g x before.log after.log before.backing after.backing
  pub crash : (g : Geometry) (x y z : Image) → SuperText x g 1 → MakesOf g x y z before.log before.backing → NothingPending before.log → NothingPending before.backing
      → CrashInRecover g x z before.log after.log before.backing after.backing
  pub contents : (g : Geometry) (x y z : Image) → SuperText x g 1 → MakesOf g x y z before.log before.backing → MakesOfContents g z after.log after.backing

-- It stopped, for the first cause that applies.
pub record EndsStopped (sink : Lent) (before after : Devices) (status : ℕ) : Type 0 where
  pub cause : RecoverStop
  pub why : RefusesRecovery before.log before.backing.sectors cause
  pub so_far : RecoverStopsInTurn cause before.log after.log before.backing after.backing
  pub ended : status ≡ stopped_status cause
  pub told : Took sink (stopped_line cause)

-- The backing device has what recovery makes of its content, the log has the new record and no other change, and a crash
-- leaves both so.
pub record EndsWell (before after : Devices) (recovery : Recovery) : Type 0 where
  pub found : Super
  pub may : MayRecover before.log before.backing.sectors found
  pub numbers : IsNumbered found recovery
  pub chain : (g : Geometry) (x : Image) → before.log.content ≡ Some x → SuperText x g 1 → TellsChain g x recovery
  pub all_put : (g : Geometry) (x : Image) → before.log.content ≡ Some x → SuperText x g 1 → IsAllPut g x before.backing after.backing
  pub records : (g : Geometry) (x : Image) → before.log.content ≡ Some x → SuperText x g 1 → ContentPasses (Records (record_of x + g.slots)) before.log after.log
  pub durable : NothingPending after.log × NothingPending after.backing
  pub left : (g : Geometry) (x y z : Image) → SuperText x g 1 → MakesOf g x y z before.log before.backing → LeavesRecovered g x z after.log after.backing

-- It ended well, and the line was told.
pub record EndsRecovered (sink : Lent) (before after : Devices) (status : ℕ) : Type 0 where
  pub recovery : Recovery
  pub well : EndsWell before after recovery
  pub told : EndsTelling sink status (recovered_line recovery)

-- a slot has an id that is too high, and it is the first that has
abbrev pub StopsAtStray : (before after : Devices) → Type 0
StopsAtStray before after = (slot : ℕ) × (id : ℕ) × RefusesRecovery before.log before.backing.sectors (cause.Stray slot id)
    × RecoverStopsInTurn (cause.Stray slot id) before.log after.log before.backing after.backing

-- What it left where memory was wanting, over whatever log: that was only read, and the backing device not called; or memory
-- was wanting for the line alone, behind a stray slot or a recovery.
abbrev pub IsLeftWanting : (before after : Devices) → Type 0
IsLeftWanting before after = (OnlyRead before.log after.log × IsUncalled before.backing after.backing)
    ⊎ StopsAtStray before after ⊎ ((recovery : Recovery) × EndsWell before after recovery)

-- What it leaves of both devices and the sink. The faults of the log rose exactly at status 6, and those of the backing
-- device exactly at status 7.
pub record RecoverEnds (sink : Lent) (before after : Devices) (status : ℕ) : Type 0 where
  pub went : HasGone before after
  pub log_faults : CountsFaultsWhere (status ≡ 6) before.log.faults after.log.faults
  pub backing_faults : CountsFaultsWhere (status ≡ 7) before.backing.faults after.backing.faults
  pub wanting : status ≡ 1 → IsLeftWanting before after
  pub ends : (status ≡ 1) ⊎ EndsStopped sink before after status ⊎ EndsRecovered sink before after status

pub record RecoverAccount (run : Run) : Type 0 where
  pub no_session : NoSession run
  pub unread : IsUntouched run.source
  pub ends : RecoverEnds run.sink run.before run.after run.status
