-- How a command ends that serves a session, stage by stage: what `serve` and `workload` have in common.
use Rattle.std.specs.Prelude.{ℕ, ◌≡◌, ◌≢◌, ◌⊎◌, ◌<◌, ◌≤◌}
use Rattle.wb_geometry.specs.Device.{State, OnlyRead, CountsFaultsWhere}
use Rattle.wb_geometry.specs.declared.which.Which.{Which}
use Rattle.wb_geometry.specs.declared.which.Which.TheVariants.{Log, Backing}
use Rattle.wb_super.specs.Found.{IsSuper}
use Rattle.wb_super.specs.declared.reading.Super.{Super}
use Rattle.wb_script.specs.Content.{ScriptContent}
use Rattle.wb_replay.specs.Replaying.{IsOnlySynced}
use Rattle.wb_replay.specs.declared.replaying.ReplayStop.{ReplayStop}
use Rattle.wb_replay.specs.declared.replaying.ReplayStop.TheVariants as stop
use Rattle.wb_engine.specs.Opening.{most_recorded, HasRecovered, HasStopped}
use Rattle.wb_serve.specs.Session.{IsCutShort}
use Rattle.wb_threads.specs.Threads.{IsLeftEarly}
use Rattle.wb_tool.specs.Run.{Lent, Run, IsUntouched, ServesAtOnce, NoSession, BackingIsUncalled, Took}
use Rattle.wb_tool.specs.Texts.{changed_line, stray_line, failed_line}
use Rattle.wb_tool.specs.Opening.{EndsByLog, EndsByIds, EndsByBacking}

-- Where memory was wanting, at status 1, only the devices are spoken of; else the faults of the log rose exactly at status 6,
-- those of the backing device exactly at 7, but for 6, and the run ended so.
pub record Leaves (Ends Wants : Run → Type 0) (run : Run) : Type 0 where
  pub log_faults : run.status ≢ 1 → CountsFaultsWhere (run.status ≡ 6) run.before.log.faults run.after.log.faults
  pub backing_faults : run.status ≢ 1 → run.status ≢ 6 → CountsFaultsWhere (run.status ≡ 7) run.before.backing.faults run.after.backing.faults
  pub wanting : run.status ≡ 1 → Wants run
  pub ends : (run.status ≡ 1) ⊎ Ends run

-- the record of the superblock leaves ids for a session
abbrev pub HasIds : Super → Type 0
HasIds found = found.recorded ≤ most_recorded found.geometry.slots

-- The cache can't be opened over this log and a backing device of so many sectors: the superblock is refused or can't be
-- read, its record leaves no ids, or the backing device is smaller than it says.
abbrev pub EndsUnopened : (sink : Lent) (log : State) (sectors status : ℕ) → Type 0
EndsUnopened sink log sectors status =
    EndsByLog sink log status
    ⊎ ((found : Super) × IsSuper log found × EndsByIds found sink status)
    ⊎ ((found : Super) × IsSuper log found × HasIds found × EndsByBacking found.geometry.backing_sectors sectors sink status)

abbrev pub IsUnopened : Run → Type 0
IsUnopened run = EndsUnopened run.sink run.before.log run.before.backing.sectors run.status

-- no session began, and nothing was done with the devices but that the log was read
pub record IsUnbegun (run : Run) : Type 0 where
  pub no_session : NoSession run
  pub backing : BackingIsUncalled run
  pub log : OnlyRead run.before.log run.after.log

-- What a run that ended for want of memory left of the devices, behind this script: they were read and synced at most, or
-- recovered, or are as a session of the first requests of each client leaves them. Several clients that are served at once may
-- leave them as any session of theirs does.
abbrev pub IsLeftBy : ScriptContent → Run → Type 0
IsLeftBy script run =
    (IsOnlySynced run.before.log run.after.log × IsOnlySynced run.before.backing run.after.backing)
    ⊎ ((found : Super) × HasRecovered found run.before.log run.after.log run.before.backing run.after.backing)
    ⊎ ((found : Super) × IsCutShort found script run.before run.after)
    ⊎ (ServesAtOnce run.in_turn script × ((found : Super) × IsLeftEarly found script run.before run.after))

-- before there is a script nothing is done with the devices but that the log is read
abbrev pub OnlyLogRead : Run → Type 0
OnlyLogRead run = OnlyRead run.before.log run.after.log × BackingIsUncalled run

-- recovery stopped so
abbrev pub Stops : ReplayStop → Run → Type 0
Stops why run = HasStopped why run.before.log run.after.log run.before.backing run.after.backing

-- a slot of the log has an id that is too high, and it is the first that has
pub record EndsByStray (run : Run) : Type 0 where
  pub slot : ℕ
  pub id : ℕ
  pub stopped : Stops (stop.Stray slot id) run
  pub ended : run.status ≡ 8
  pub told : Took run.sink (stray_line slot id)

-- the device failed as the cache was opened
pub record EndsByFault (device : Which) (why : ReplayStop) (status : ℕ) (run : Run) : Type 0 where
  pub stopped : Stops why run
  pub ended : run.status ≡ status
  pub told : Took run.sink (failed_line device)

-- the cache, which was recovered, has fewer backing sectors than the script was made for
pub record EndsByChange (parsed : ℕ) (run : Run) : Type 0 where
  pub found : Super
  pub recovered : HasRecovered found run.before.log run.after.log run.before.backing run.after.backing
  pub fewer : found.geometry.backing_sectors < parsed
  pub ended : run.status ≡ 8
  pub told : Took run.sink (changed_line parsed found.geometry.backing_sectors)

-- no session began, as the cache was opened behind a good script
abbrev pub IsStopped : (parsed : ℕ) → Run → Type 0
IsStopped parsed run = NoSession run
    × (EndsByStray run ⊎ EndsByFault Log stop.LogFault 6 run ⊎ EndsByFault Backing stop.BackingFault 7 run ⊎ EndsByChange parsed run)

-- The ends behind a script for so many sectors, where a session that began ends so. The superblock is read again for the
-- session: where the log tells its content, that is refused for a fault alone.
abbrev pub EndsServing : (Ends : Run → Type 0) → (parsed : ℕ) → Run → Type 0
EndsServing Ends parsed run = (IsUnbegun run × IsUnopened run) ⊎ IsStopped parsed run ⊎ Ends run

-- the cache can't be opened, and that is seen before the source is read
pub record IsUnserved (run : Run) : Type 0 where
  pub unbegun : IsUnbegun run
  pub unread : IsUntouched run.source
  pub ends : IsUnopened run

-- both devices are good, and ids are left: the run ends so, by the backing sectors of the superblock
pub record IsOpened (Ends : (sectors : ℕ) → Run → Type 0) (run : Run) : Type 0 where
  pub found : Super
  pub super : IsSuper run.before.log found
  pub ids : HasIds found
  pub room : found.geometry.backing_sectors ≤ run.before.backing.sectors
  pub ends : Ends found.geometry.backing_sectors run

-- behind a good log memory is wanting so, by the same number
abbrev pub WantsOpened : (Wants : (sectors : ℕ) → Run → Type 0) → Run → Type 0
WantsOpened Wants run = OnlyLogRead run ⊎ ((found : Super) × IsSuper run.before.log found × Wants found.geometry.backing_sectors run)

-- what such a command answers for, by how it ends behind good devices and by what want of memory leaves there
abbrev pub ServingAccount : (Ends Wants : (sectors : ℕ) → Run → Type 0) → Run → Type 0
ServingAccount Ends Wants = Leaves (λ run. IsUnserved run ⊎ IsOpened Ends run) (WantsOpened Wants)
