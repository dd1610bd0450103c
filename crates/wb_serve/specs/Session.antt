-- What serving a script leaves.
use Rattle.std.specs.Prelude.{ℕ, ◌≡◌, ◌⊎◌, ◌+◌, ◌-◌, ◌*◌, ◌/◌, ◌%◌, ◌^◌, ◌<◌, ◌≤◌, Bool, true, false, List, [], length, take, slice_index_or, map, sum, min, All, Any, Option, Some, None, IsSome, IfSome, Result, Ok, Err}
use Rattle.std.specs.List.{enumerate_from}
use Rattle.wb_geometry.specs.Image.{Image}
use Rattle.wb_geometry.specs.History.{HistoryEntry, after, PutsPartly}
use Rattle.wb_geometry.specs.Layout.{places}
use Rattle.wb_geometry.specs.Line.{line_of}
use Rattle.wb_geometry.specs.Device.{State, CountsFaultsWhere, NothingPending}
use Rattle.wb_geometry.specs.declared.geometry.Geometry.{Geometry}
use Rattle.wb_geometry.specs.declared.which.Which.{Which}
use Rattle.wb_geometry.specs.declared.which.Which.TheVariants.{Log, Backing}
use Rattle.wb_script.specs.Content.{ScriptContent}
use Rattle.wb_script.specs.Transcripts.{IsHistory, AreLegal, no_notes, all_printed, failures, all_failures, covered, HasStop, IsUnflushed}
use Rattle.wb_script.specs.declared.request.Request.{Request}
use Rattle.wb_script.specs.declared.transcript.Ended.{Ended}
use Rattle.wb_script.specs.declared.transcript.Line.{Line}
use Rattle.wb_script.specs.declared.transcript.Line.TheVariants.{Wrote, Forced, Got, Summed, Failed, Flushed, Deferred, Told, Heard}
use Rattle.wb_script.specs.declared.transcript.Stop.{Stop}
use Rattle.wb_script.specs.declared.transcript.Stop.TheVariants.{Down, Ids}
use Rattle.wb_super.specs.Superblock.{record_of}
use Rattle.wb_super.specs.declared.reading.Super.{Super}
use Rattle.wb_super.specs.declared.reading.SuperRefused.TheVariants as refused
use Rattle.wb_crash.specs.Chain.{IsChain}
use Rattle.wb_crash.specs.Crash.{CrashNow}
use Rattle.wb_replay.specs.Replaying.{MakesOf}
use Rattle.wb_replay.specs.Stopping.{HasNoStray}
use Rattle.wb_engine.specs.Opening.{MayOpen, HasRecovered, RefusesOpening, recovered_to}
use Rattle.wb_engine.specs.declared.opening.OpenCause.TheVariants as opening
use Rattle.wb_serve.specs.declared.serving.Session.{Session}
use Rattle.wb_serve.specs.declared.serving.ServeStop.{ServeStop}
use Rattle.wb_serve.specs.declared.serving.ServeStop.TheVariants as stop

-- a count of faults rose at least so often, or stands at its last value
abbrev pub RoseBy : (times before now : ℕ) → Type 0
RoseBy times before now = min (before + times) (2 ^ 64 - 1) ≤ now

-- a line of one of the transcripts was stopped so
abbrev pub IsStopped : Stop → List (List Line) → Type 0
IsStopped stop transcripts = Any (Any (HasStop stop)) transcripts

-- a flush of one of the transcripts found the cache down by this device
abbrev pub IsUndone : Which → List (List Line) → Type 0
IsUndone device transcripts = Any (Any (IsUnflushed device)) transcripts

-- the id of the last segment of a session with so many places
abbrev pub last_segment : Super → (taken : ℕ) → ℕ
last_segment found taken = recovered_to found + (taken + places found.geometry - 1) / places found.geometry

-- the id of the last segment that a flush of this number covers
abbrev pub covered_segment : Super → (through : ℕ) → ℕ
covered_segment found through = recovered_to found + (through + places found.geometry - 1) / places found.geometry

-- the states of a log and of the backing device that it stands before
pub record Devices : Type 1 where
  pub log : State
  pub backing : State

abbrev pub devices : (log backing : State) → Devices
devices log backing = record { log = log; backing = backing }

-- what is told of a session: the lines of each client, how many places were taken, how many of them a flush covers that was
-- done, whether a write was stopped for want of an id, and for each device whether it failed
pub record Report : Type 0 where
  pub transcripts : List (List Line)
  pub taken : ℕ
  pub covered : ℕ
  pub ids : Bool
  pub log_failed : Bool
  pub backing_failed : Bool

-- that of a session that was served
abbrev pub report_of : Session → Report
report_of session = record {
  transcripts = session.transcripts.items;
  taken = session.places;
  covered = covered session.transcripts.items;
  ids = session.ids;
  log_failed = session.log_failed;
  backing_failed = session.backing_failed;
}

-- The base image of a session: what recovery makes of the contents before it, where both are told.
abbrev pub IsBase : Super → Devices → Image → Type 0
IsBase found before base = (x : Image) × (y : Image) × MakesOf found.geometry x y base before.log before.backing

-- What a session with this history leaves of the devices. It took so many places, and so many of them a flush covers that was
-- done. The flags say of each device whether it failed.
pub record SessionLeaves (found : Super) (before now : Devices) (history : List HistoryEntry) (covers taken : ℕ) (log_failed backing_failed : Bool) : Type 0 where
  -- no sector of the base image changes but to what an entry of the history writes
  pub changed : (base : Image) → IsBase found before base → (image : Image) × (now.backing.content ≡ Some image) × PutsPartly history base image
  -- recovery makes of whatever a crash now leaves the image after exactly the first segments, up to some segment, which is none
  -- before the last that a flush covers that was done
  pub crash : (base : Image) → IsBase found before base
      → CrashNow found.geometry (line_of (places found.geometry) (recovered_to found) base history) (covered_segment found covers) (last_segment found taken) now.log now.backing
  -- where neither device failed the whole history is put and recorded, recovery finds no segment, and a crash leaves it so
  pub content : log_failed ≡ false → backing_failed ≡ false → (base : Image) → IsBase found before base → now.backing.content ≡ Some (after base history)
  pub empty : log_failed ≡ false → backing_failed ≡ false → (x : Image) → IsSome before.log.content → now.log.content ≡ Some x
      → IsChain found.geometry x [] × (record_of x ≡ last_segment found taken)
  pub durable : log_failed ≡ false → backing_failed ≡ false → NothingPending now.log × NothingPending now.backing
  pub log_cause : CountsFaultsWhere (log_failed ≡ true) before.log.faults now.log.faults
  pub backing_cause : CountsFaultsWhere (backing_failed ≡ true) before.backing.faults now.backing.faults

-- A session of this script, over a cache with this superblock. The history is that of the transcripts. The flags say that a
-- write was stopped for want of an id, and that a device failed.
pub record IsSession (found : Super) (script : ScriptContent) (before now : Devices) (report : Report) : Type 0 where
  pub opened : MayOpen before.log before.backing.sectors found
  pub no_stray : HasNoStray found.geometry (recovered_to found) before.log
  pub fits : script.sectors ≤ found.geometry.backing_sectors
  pub history : List HistoryEntry
  pub printed : IsHistory script report.transcripts report.taken history
  pub only : (other : List HistoryEntry) → IsHistory script report.transcripts report.taken other → other ≡ history
  -- a request takes 160 places at most: 33 parts, and 127 of a flush
  pub few : report.taken ≤ 160 * sum (map length script.requests)
  -- whether there is a base image or not
  pub legal : (content : Option Image) → IfSome content (IsBase found before) → AreLegal content history 0 no_notes script.requests report.transcripts
  -- No more lines of a client say that a read of a device failed than it failed. This is said of each client, not of all
  -- together: a part that counts them stands at its last value from then on.
  pub log_failures : All (λ lines. RoseBy (min (failures Log lines) (2 ^ 31 - 1)) before.log.faults now.log.faults) report.transcripts
  pub backing_failures : All (λ lines. RoseBy (min (failures Backing lines) (2 ^ 31 - 1)) before.backing.faults now.backing.faults) report.transcripts
  -- a write is stopped by a device only where that failed, and all segments in memory were full
  pub down_full : (device : Which) → IsStopped (Down device) report.transcripts → places found.geometry * found.geometry.ram ≤ report.taken
  pub down_log : IsStopped (Down Log) report.transcripts → report.log_failed ≡ true
  pub down_backing : IsStopped (Down Backing) report.transcripts → report.backing_failed ≡ true
  -- so is a flush found down
  pub undone_log : IsUndone Log report.transcripts → report.log_failed ≡ true
  pub undone_backing : IsUndone Backing report.transcripts → report.backing_failed ≡ true
  -- and a write is stopped for want of an id only once all are spent
  pub ids_told : report.ids ≡ true → IsStopped Ids report.transcripts
  pub ids_spent : IsStopped Ids report.transcripts → (report.ids ≡ true) × (report.taken ≡ places found.geometry * (2 ^ 48 - recovered_to found))
  pub leaves : SessionLeaves found before now history report.covered report.taken report.log_failed report.backing_failed

-- ---- clients that are served one after another

-- the flush that a line ends, if it ends one
abbrev pub flush_of : Line → Option Ended
flush_of (Forced taken flush stop) = flush
flush_of (Flushed ended) = Some ended
flush_of (Deferred ended) = Some ended
flush_of (Wrote taken stop) = None
flush_of (Got point shown) = None
flush_of (Summed point sum) = None
flush_of (Failed device) = None
flush_of Told = None
flush_of Heard = None

-- How a flush ends where the cache is down by this device, or up, and so many places are stable: it takes the places that are
-- left of a begun segment, and isn't done exactly where its number is above those that are stable.
pub record IsFlushEnd (g : Geometry) (down : Option Which) (stable : ℕ) (ended : Ended) : Type 0 where
  pub whole : ended.through % places g ≡ 0
  pub few : ended.voids < places g
  pub done : ended.down ≡ None → ended.through ≤ stable
  pub undone : IfSome ended.down (λ device. (down ≡ Some device) × (stable < ended.through))

-- so do all flushes of these lines
abbrev pub EndFlushes : Geometry → (down : Option Which) → (stable : ℕ) → List Line → Type 0
EndFlushes g down stable lines = All (λ line. IfSome (flush_of line) (IsFlushEnd g down stable)) lines

-- What clients leave beside that are served one after another, in order of number: they print the history in order. Once the
-- last of them was served the cache was down by this device, or up, and so many places were stable.
pub record AreInTurn (found : Super) (script : ScriptContent) (before now : Devices) (report : Report) (history : List HistoryEntry) : Type 0 where
  pub once : all_printed 0 script.requests report.transcripts ≡ enumerate_from 0 history
  pub down : Option Which
  pub stable : ℕ
  pub flushed : All (EndFlushes found.geometry down stable) report.transcripts
  -- a write is stopped by a device only where that is why the cache is down, and all segments in memory are full behind the
  -- stable ones
  pub stopped : (device : Which) → IsStopped (Down device) report.transcripts → (down ≡ Some device) × (stable + places found.geometry * found.geometry.ram ≤ report.taken)
  -- no more lines of all clients say that a read of a device failed than it failed
  pub log_failures : RoseBy (all_failures Log report.transcripts) before.log.faults now.log.faults
  pub backing_failures : RoseBy (all_failures Backing report.transcripts) before.backing.faults now.backing.faults
  -- the device failed once more than in reads
  pub log_down : down ≡ Some Log → RoseBy (all_failures Log report.transcripts + 1) before.log.faults now.log.faults
  pub backing_down : down ≡ Some Backing → RoseBy (all_failures Backing report.transcripts + 1) before.backing.faults now.backing.faults

-- A session whose clients were served one after another, and the record that it began behind.
pub record IsServed (found : Super) (script : ScriptContent) (before now : Devices) (session : Session) : Type 0 where
  pub is : IsSession found script before now (report_of session)
  pub in_turn : AreInTurn found script before now (report_of session) is.history
  pub first : session.first ≡ recovered_to found

-- ---- where no session is told of

-- these are the first requests of each client
pub record IsCutOf (whole part : List (List Request)) : Type 0 where
  pub clients : length part ≡ length whole
  pub each : (client : ℕ) → client < length whole → (count : ℕ) × (slice_index_or part client [] ≡ take count (slice_index_or whole client []))

-- A session that ended for want of memory. Nothing is told of it, but the devices are as a session of the first requests of
-- each client leaves them, of whose flushes nothing is said to be covered.
pub record IsCutShort (found : Super) (script : ScriptContent) (before now : Devices) : Type 0 where
  pub answered : List (List Request)
  pub cut : IsCutOf script.requests answered
  pub report : Report
  pub none : report.covered ≡ 0
  pub session : IsSession found (record script { requests = answered }) before now report

-- Why no session was served, and what was done then. Want of memory has no cause, and may come behind some answers. A cache
-- that is smaller than its script was recovered.
abbrev pub IsUnserved : (script : ScriptContent) (before now : Devices) → ServeStop → Type 0
IsUnserved script before now (stop.Open cause) =
    ((cause ≡ opening.Memory) × ((found : Super) × IsCutShort found script before now))
    ⊎ RefusesOpening cause before.log now.log before.backing now.backing
IsUnserved script before now (stop.Changed parsed found) =
    (parsed ≡ script.sectors) × (found < parsed)
    × ((super : Super) × HasRecovered super before.log now.log before.backing now.backing × (found ≡ super.geometry.backing_sectors))

-- the answer says that the log failed, or that the backing device did
abbrev pub SaysLogFault : Result Session ServeStop → Type 0
SaysLogFault (Ok session) = session.log_failed ≡ true
SaysLogFault (Err why) = (why ≡ stop.Open (opening.Super refused.Fault)) ⊎ (why ≡ stop.Open opening.LogFault)

abbrev pub SaysBackingFault : Result Session ServeStop → Type 0
SaysBackingFault (Ok session) = session.backing_failed ≡ true
SaysBackingFault (Err why) = why ≡ stop.Open opening.BackingFault
