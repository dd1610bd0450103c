-- How steps of the commands end that serve a session.
use Rattle.std.specs.Prelude.{ℕ, ◌≡◌, ◌≢◌, ◌⊎◌, ◌≤◌, Bool, true, false, List, [], Some, Result, Err, IfOk, IfErr}
use Rattle.wb_geometry.specs.Image.{Image, bytes_at}
use Rattle.wb_geometry.specs.Device.{State, Rose, CountsFaultsWhere}
use Rattle.wb_sum.specs.Crc32c.{sum_of}
use Rattle.wb_geometry.specs.declared.which.Which.TheVariants.{Log, Backing}
use Rattle.wb_super.specs.declared.reading.SuperRefused.TheVariants.{Fault}
use Rattle.wb_super.specs.Found.{IsSuper}
use Rattle.wb_super.specs.declared.reading.Super.{Super}
use Rattle.wb_engine.specs.declared.opening.OpenCause.TheVariants as opening
use Rattle.wb_script.specs.Content.{ScriptContent}
use Rattle.wb_serve.specs.Session.{Devices, Report, IsSession, AreInTurn, report_of, IsUnserved, SaysLogFault, SaysBackingFault}
use Rattle.wb_serve.specs.declared.serving.Session.{Session}
use Rattle.wb_serve.specs.declared.serving.ServeStop.{ServeStop}
use Rattle.wb_serve.specs.declared.serving.ServeStop.TheVariants as stop
use Rattle.wb_threads.specs.Threads.{IsUnservedOnThreads}
use Rattle.wb_tool.specs.Run.{Lent, ServesInTurn, ServesAtOnce, IsUntouched, Took}
use Rattle.wb_tool.specs.Texts.{super_line, super_status, small_line, spent_record_line, spent_line, changed_line, stray_line, failed_line}
use Rattle.wb_tool.specs.Served.{IsFine, EndsSession}
use Rattle.wb_tool.specs.Ends.{HasIds, EndsUnopened}

-- both devices are good for a session, and nothing was told
pub record IsGood (sink : Lent) (before after : State) (sectors : ℕ) (found : Super) : Type 0 where
  pub super : IsSuper before found
  pub ids : HasIds found
  pub room : found.geometry.backing_sectors ≤ sectors
  pub faults : after.faults ≡ before.faults
  pub untold : IsUntouched sink

-- one of them isn't, and that was told
pub record IsBad (sink : Lent) (before after : State) (sectors status : ℕ) : Type 0 where
  pub faults : CountsFaultsWhere (status ≡ 6) before.faults after.faults
  pub ends : (status ≡ 1) ⊎ EndsUnopened sink before sectors status

-- how telling why no session was served ends
abbrev pub EndsUnserved : ServeStop → (sink : Lent) → (status : ℕ) → Type 0
EndsUnserved (stop.Open (opening.Super refused)) sink status =
    ((status ≡ 1) ⊎ ((status ≡ super_status refused) × Took sink (super_line refused))) × (refused ≡ Fault → status ≡ 6)
EndsUnserved (stop.Open (opening.IdsSpent recorded)) sink status = (status ≡ 1) ⊎ ((status ≡ 10) × Took sink (spent_record_line recorded))
EndsUnserved (stop.Open (opening.Backing needs has)) sink status = (status ≡ 1) ⊎ ((status ≡ 9) × Took sink (small_line Backing has needs))
EndsUnserved (stop.Open opening.Memory) sink status = status ≡ 1
EndsUnserved (stop.Open opening.LogFault) sink status = (status ≡ 6) × Took sink (failed_line Log)
EndsUnserved (stop.Open opening.BackingFault) sink status = (status ≡ 7) × Took sink (failed_line Backing)
EndsUnserved (stop.Open (opening.Stray slot id)) sink status = (status ≡ 1) ⊎ ((status ≡ 8) × Took sink (stray_line slot id))
EndsUnserved (stop.Changed parsed found) sink status = (status ≡ 1) ⊎ ((status ≡ 8) × Took sink (changed_line parsed found))

-- the fault line of a session is told, where it has one
abbrev pub TellsFault : (sink : Lent) (status places : ℕ) (ids log_failed backing_failed : Bool) → Type 0
TellsFault sink status places ids log_failed backing_failed =
    ((log_failed ≡ true) × (status ≡ 6) × Took sink (failed_line Log))
    ⊎ ((log_failed ≡ false) × (backing_failed ≡ true) × (status ≡ 7) × Took sink (failed_line Backing))
    ⊎ (IsFine log_failed backing_failed × (ids ≡ true) × (status ≡ 10) × Took sink (spent_line places))
    ⊎ (IsFine log_failed backing_failed × (ids ≡ false) × (status ≡ 0) × IsUntouched sink)

-- the status of a session of whose text the sink took only a front
abbrev pub IsCutAt : (status : ℕ) (ids log_failed backing_failed : Bool) → Type 0
IsCutAt status ids log_failed backing_failed =
    ((log_failed ≡ true) × (status ≡ 6))
    ⊎ ((log_failed ≡ false) × (backing_failed ≡ true) × (status ≡ 7))
    ⊎ (IsFine log_failed backing_failed × (ids ≡ true) × (status ≡ 10))
    ⊎ (IsFine log_failed backing_failed × (ids ≡ false) × (status ≡ 5))

-- The backing device holds the image of a session that went well, and the reading of it failed.
pub record IsUnread (sink : Lent) (before after : State) (status : ℕ) (log_failed backing_failed : Bool) : Type 0 where
  pub fine : IsFine log_failed backing_failed
  pub rose : Rose before.faults after.faults
  pub later : before.faults ≤ after.faults
  pub ended : status ≡ 7
  pub told : Took sink (failed_line Backing)

-- It was read where the session went well, and the line with the checksum of its first sectors was told; or the session ended
-- by a fault line.
pub record IsSummed (line : ℕ → List ℕ) (region : ℕ) (sink : Lent) (before after : State) (status places : ℕ) (ids log_failed backing_failed : Bool) : Type 0 where
  pub faults : after.faults ≡ before.faults
  pub sum : ℕ
  pub ends : (status ≡ 1) ⊎ EndsSession sink status [] (line sum) places ids log_failed backing_failed
  pub device : (status ≡ 0) ⊎ (status ≡ 5) → (image : Image) → before.content ≡ Some image → sum ≡ sum_of (bytes_at image 0 region)

-- ---- the session

-- a session, and what its clients leave beside where they are served one after another
abbrev pub IsSessionBy : (in_turn : Bool) → Super → ScriptContent → (before now : Devices) → Report → Type 0
IsSessionBy in_turn found script before now report = (is : IsSession found script before now report)
    × (ServesInTurn in_turn script → AreInTurn found script before now report is.history)

-- Why no session was served, by one thread or, where several clients may be served at once, on threads.
abbrev pub IsUnservedBy : (in_turn : Bool) → ScriptContent → (before now : Devices) → ServeStop → Type 0
IsUnservedBy in_turn script before now why = IsUnserved script before now why ⊎ (ServesAtOnce in_turn script × IsUnservedOnThreads script before now why)

-- What serving a script leaves, be it on one thread or on several: a session or why there was none, and the rise of the faults.
pub record IsServedBy (in_turn : Bool) (script : ScriptContent) (before now : Devices) (answer : Result Session ServeStop) : Type 0 where
  pub session : IfOk answer (λ s. (found : Super) × IsSessionBy in_turn found script before now (report_of s))
  pub unserved : IfErr answer (IsUnservedBy in_turn script before now)
  pub log_cause : answer ≢ Err (stop.Open opening.Memory) → CountsFaultsWhere (SaysLogFault answer) before.log.faults now.log.faults
  pub backing_cause : answer ≢ Err (stop.Open opening.Memory) → CountsFaultsWhere (SaysBackingFault answer) before.backing.faults now.backing.faults
