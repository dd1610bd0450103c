-- A client's requests, answered one after another over an engine.
use Rattle.std.specs.Prelude.{ℕ, ◌≡◌, ◌≢◌, ◌⊎◌, ◌+◌, ◌-◌, ◌*◌, ◌%◌, ◌^◌, ◌<◌, ◌≤◌, ◌==◌, ◌||◌, Bool, true, false, List, [], ◌∷◌, ◌++◌, length, map, take, max, sum, replicate, All, Any, Option, None, Some, IsSome, IfSome, Result, Ok, Err}
use Rattle.std.specs.List.{enumerate_from, range_with_len}
use Rattle.wb_geometry.specs.Image.{Image}
use Rattle.wb_geometry.specs.History.{HistoryEntry, Write, Void, client_of, PutsPartly}
use Rattle.wb_geometry.specs.Layout.{places}
use Rattle.wb_geometry.specs.Device.{State, ContentPasses, IsSameDevice}
use Rattle.wb_geometry.specs.declared.which.Which.{Which}
use Rattle.wb_geometry.specs.declared.which.Which.TheVariants.{Log, Backing}
use Rattle.wb_script.specs.Valid.{heard_of}
use Rattle.wb_script.specs.Clients.{AreServed}
use Rattle.wb_script.specs.Clients as clients
use Rattle.wb_script.specs.Keeping.{marked}
use Rattle.wb_script.specs.Transcripts.{Answers, Seen, seen_after, is_failure, failures, all_failures, printed_line, HasStop, IsUnflushed, done_through, forced_through, covered_line}
use Rattle.wb_script.specs.declared.request.Request.{Request}
use Rattle.wb_script.specs.declared.request.Request.TheVariants as request
use Rattle.wb_script.specs.declared.transcript.Ended.{Ended}
use Rattle.wb_script.specs.declared.transcript.Line.{Line}
use Rattle.wb_script.specs.declared.transcript.Line.TheVariants.{Wrote, Forced, Got, Summed, Failed, Flushed, Deferred, Told, Heard}
use Rattle.wb_script.specs.declared.transcript.Stop.{Stop}
use Rattle.wb_script.specs.declared.transcript.Stop.TheVariants.{Whole, Down, Ids}
use Rattle.wb_engine.specs.Content.{EngineContent, limit_of}
use Rattle.wb_engine.specs.Standing.{Standing, IsSynced}
use Rattle.wb_engine.specs.Standing as standing
use Rattle.wb_engine.specs.Settling.{stable_places}
use Rattle.wb_engine.specs.Opening.{IsOnly}
use Rattle.wb_serve.specs.declared.playing.Played.{Played}
use Rattle.wb_serve.specs.declared.serving.AllPlayed.{AllPlayed}
use Rattle.wb_serve.specs.Session.{RoseBy, IsStopped, IsUndone, IsFlushEnd, IsCutOf}

-- ---- a step of the engine

-- what stays from the opening on
pub record IsSameCache {L B : Type 0} (old new : EngineContent L B) : Type 0 where
  pub geometry : new.geometry ≡ old.geometry
  pub first : new.numbers.first ≡ old.numbers.first

-- A count of faults of a device, of which so many reads failed: unless one did, or the engine went down by the device, it
-- stayed.
pub record FaultsWent (device : Which) (fails : ℕ) (down new_down : Option Which) (before now : ℕ) : Type 0 where
  pub later : before ≤ now
  pub failed : RoseBy fails before now
  pub fine : fails ≡ 0 → (new_down ≡ Some device → ⊥) → now ≡ before
  pub goes_down : (down ≡ Some device → ⊥) → new_down ≡ Some device → RoseBy (fails + 1) before now

-- The engine went on from e to f over devices that passed from old to new, of which so many reads failed: these entries came
-- behind the history.
pub record HasMoved {L B : Type 0} (of_log : L → State) (of_backing : B → State) (e f : EngineContent L B) (entries : List HistoryEntry) (log_fails backing_fails : ℕ) : Type 0 where
  pub stands : (base : Image) (history : List HistoryEntry) → Standing of_log of_backing e base history → Standing of_log of_backing f base (history ++ entries)
  pub changed : (base : Image) (history : List HistoryEntry) → Standing of_log of_backing e base history → ContentPasses (PutsPartly (history ++ entries)) (of_backing e.backing) (of_backing f.backing)
  pub synced : IsSynced of_log of_backing e → IsSynced of_log of_backing f
  pub same_log : IsSameDevice (of_log e.log) (of_log f.log)
  pub same_backing : IsSameDevice (of_backing e.backing) (of_backing f.backing)
  pub kept : IsSameCache e f
  pub absorbed : f.absorbed ≡ e.absorbed + length entries
  pub stable : e.numbers.stable ≤ f.numbers.stable
  pub log_faults : FaultsWent Log log_fails e.down f.down (of_log e.log).faults (of_log f.log).faults
  pub backing_faults : FaultsWent Backing backing_fails e.down f.down (of_backing e.backing).faults (of_backing f.backing).faults
  pub stays_down : IfSome e.down (λ which. f.down ≡ Some which)
  -- and then nothing more becomes stable
  pub still : (device : Which) → e.down ≡ Some device → f.numbers.stable ≡ e.numbers.stable

-- The same since the engine was opened: it absorbed this history, and where the log tells its content it stands for it, over
-- the content that the backing device then told.
pub record HasCome {L B : Type 0} (of_log : L → State) (of_backing : B → State) (start e : EngineContent L B) (history : List HistoryEntry) (log_fails backing_fails : ℕ) : Type 0 where
  pub places : length history ≡ e.absorbed
  pub stands : (base : Image) → IsOnly base (standing.Told (of_backing start.backing)) → IsSome (of_log start.log).content → Standing of_log of_backing e base history
  pub changed : IsSome (of_log start.log).content → ContentPasses (PutsPartly history) (of_backing start.backing) (of_backing e.backing)
  pub synced : IsSynced of_log of_backing e
  pub same_log : IsSameDevice (of_log start.log) (of_log e.log)
  pub same_backing : IsSameDevice (of_backing start.backing) (of_backing e.backing)
  pub kept : IsSameCache start e
  pub log_faults : FaultsWent Log log_fails None e.down (of_log start.log).faults (of_log e.log).faults
  pub backing_faults : FaultsWent Backing backing_fails None e.down (of_backing start.backing).faults (of_backing e.backing).faults

-- ---- a write

-- The engine is down by this device, and all its segments in memory are full, behind those that are stable.
pub record IsDownBy {L B : Type 0} (e : EngineContent L B) (device : Which) : Type 0 where
  pub down : e.down ≡ Some device
  pub full : stable_places e + places e.geometry * e.geometry.ram ≤ e.absorbed

-- all ids that were left at the opening are spent
abbrev pub AreSpent : {L B : Type 0} → EngineContent L B → Type 0
AreSpent e = e.absorbed ≡ places e.geometry * (2 ^ 48 - e.numbers.first)

-- there is room for the next place
abbrev pub HasRoom : {L B : Type 0} → EngineContent L B → Type 0
HasRoom e = e.absorbed < limit_of e.geometry e.numbers

-- the engine is down by this device, and there is no room, though an id is left
pub record IsStoppedDown {L B : Type 0} (e : EngineContent L B) (device : Which) : Type 0 where
  pub down : e.down ≡ Some device
  pub full : limit_of e.geometry e.numbers ≤ e.absorbed
  pub ordered : e.numbers.stable ≤ e.numbers.logged
  pub left : AreSpent e → ⊥

-- why a write was stopped
abbrev pub IsStoppedBy : {L B : Type 0} → EngineContent L B → Stop → Type 0
IsStoppedBy e Whole = ⊥
IsStoppedBy e (Down device) = IsStoppedDown e device
IsStoppedBy e Ids = AreSpent e

-- where there was room, or no id was left, neither device was called
abbrev pub IsQuiet : {L B : Type 0} (e f : EngineContent L B) → Type 0
IsQuiet e f = HasRoom e ⊎ AreSpent e → (f.log ≡ e.log) × (f.backing ≡ e.backing)

-- the entry takes the next place, or none where it was stopped
abbrev pub TakesPlace : {L B : Type 0} (of_log : L → State) (of_backing : B → State) (e f : EngineContent L B) → HistoryEntry → Result ℕ Stop → Type 0
TakesPlace of_log of_backing e f entry (Ok place) =
    (place ≡ e.absorbed) × (AreSpent e → ⊥) × HasMoved of_log of_backing e f (entry ∷ []) 0 0 × IsQuiet e f
TakesPlace of_log of_backing e f entry (Err stop) = IsStoppedBy f stop × HasMoved of_log of_backing e f [] 0 0 × IsQuiet e f

-- Why the rest of the entries of a write didn't come; where it was whole all did.
abbrev pub IsStoppedWith : {L B : Type 0} → EngineContent L B → List HistoryEntry → Stop → Type 0
IsStoppedWith f rest Whole = rest ≡ []
IsStoppedWith f rest (Down device) = (1 ≤ length rest) × IsStoppedDown f device
IsStoppedWith f rest Ids = (1 ≤ length rest) × AreSpent f

-- The first of the entries took the next places, in order, and the rest none.
pub record TakesPlaces {L B : Type 0} (of_log : L → State) (of_backing : B → State) (e f : EngineContent L B) (entries : List HistoryEntry) (taken_places : List ℕ) (stop : Stop) : Type 0 where
  pub taken : List HistoryEntry
  pub rest : List HistoryEntry
  pub all : entries ≡ taken ++ rest
  pub are : taken_places ≡ range_with_len e.absorbed (length taken)
  pub moved : HasMoved of_log of_backing e f taken 0 0
  pub stopped : IsStoppedWith f rest stop
  -- once all ids are spent no entry comes
  pub none_left : AreSpent e → taken ≡ []

-- each entry is a write with a dirty sector, whose block is inside a device of so many sectors
abbrev pub IsWriteInside : ℕ → HistoryEntry → Type 0
IsWriteInside sectors (Write client block bits payload) = (bits ≢ 0) × (8 * block + 8 ≤ sectors)
IsWriteInside sectors (Void client) = ⊥

-- ---- a flush

-- the entries of a flush that took so many places
abbrev pub voids : ℕ → ℕ → List HistoryEntry
voids client count = replicate count (Void client)

-- A flush of a client was posted: its places fill the begun segment, and neither device was called.
pub record IsPosted {L B : Type 0} (of_log : L → State) (of_backing : B → State) (client : ℕ) (e f : EngineContent L B) (ended : Ended) : Type 0 where
  pub moved : HasMoved of_log of_backing e f (voids client ended.voids) 0 0
  pub through : ended.through ≡ f.absorbed
  pub whole : ended.through % places f.geometry ≡ 0
  pub few : ended.voids < places f.geometry
  pub up : ended.down ≡ None
  pub quiet : (f.log ≡ e.log) × (f.backing ≡ e.backing)
  pub none_left : AreSpent e → ended.voids ≡ 0

-- A flush of a client ended: all places below its number are stable, or the engine is down and some aren't.
pub record IsFlushed {L B : Type 0} (of_log : L → State) (of_backing : B → State) (client : ℕ) (e f : EngineContent L B) (ended : Ended) : Type 0 where
  pub moved : HasMoved of_log of_backing e f (voids client ended.voids) 0 0
  pub through : ended.through ≡ f.absorbed
  pub whole : ended.through % places f.geometry ≡ 0
  pub few : ended.voids < places f.geometry
  pub done : ended.down ≡ None → ended.through ≤ stable_places f
  pub undone : IfSome ended.down (λ device. (f.down ≡ Some device) × (stable_places f < ended.through))
  -- for what is stable already neither device is called
  pub quiet : ended.through ≤ stable_places e → (f.log ≡ e.log) × (f.backing ≡ e.backing)
  pub none_left : AreSpent e → ended.voids ≡ 0

-- The places below this number were made stable, where the engine was up and a device didn't fail.
pub record IsSettledTo {L B : Type 0} (of_log : L → State) (of_backing : B → State) (through : ℕ) (e f : EngineContent L B) : Type 0 where
  pub moved : HasMoved of_log of_backing e f [] 0 0
  pub settled : f.down ≡ None → through ≤ stable_places f
  pub quiet : through ≤ stable_places e → (f.log ≡ e.log) × (f.backing ≡ e.backing)

-- a posted flush is for whole segments of what was absorbed
abbrev pub IsPostedLine : {L B : Type 0} → EngineContent L B → Line → Type 0
IsPostedLine e (Deferred ended) = (ended.through % places e.geometry ≡ 0) × (ended.voids < places e.geometry) × (ended.through ≤ e.absorbed) × (ended.down ≡ None)
IsPostedLine e (Wrote taken stop) = Unit {0}
IsPostedLine e (Forced taken flush stop) = Unit {0}
IsPostedLine e (Got point shown) = Unit {0}
IsPostedLine e (Summed point sum) = Unit {0}
IsPostedLine e (Failed device) = Unit {0}
IsPostedLine e (Flushed ended) = Unit {0}
IsPostedLine e Told = Unit {0}
IsPostedLine e Heard = Unit {0}

abbrev pub ArePosted : {L B : Type 0} → EngineContent L B → List Line → Type 0
ArePosted e lines = All (IsPostedLine e) lines

-- The number of an awaited flush that was done; 0 for each other line. Those that were posted are awaited at the end.
abbrev pub awaited_line : Line → ℕ
awaited_line (Deferred ended) = 0
awaited_line (Forced taken flush stop) = forced_through flush
awaited_line (Flushed ended) = done_through ended
awaited_line (Wrote taken stop) = 0
awaited_line (Got point shown) = 0
awaited_line (Summed point sum) = 0
awaited_line (Failed device) = 0
awaited_line Told = 0
awaited_line Heard = 0

-- the flush that a line ends, if it was awaited where it stands
abbrev pub awaited_flush : Line → Option Ended
awaited_flush (Deferred ended) = None
awaited_flush (Forced taken flush stop) = flush
awaited_flush (Flushed ended) = Some ended
awaited_flush (Wrote taken stop) = None
awaited_flush (Got point shown) = None
awaited_flush (Summed point sum) = None
awaited_flush (Failed device) = None
awaited_flush Told = None
awaited_flush Heard = None

-- the flush ends as it does over the engine
abbrev pub EndsFlush : {L B : Type 0} → EngineContent L B → Ended → Type 0
EndsFlush e ended = IsFlushEnd e.geometry e.down (stable_places e) ended

-- The flushes that a client posted were awaited: those that weren't done are marked, and the others are stable.
pub record IsAwaited {L B : Type 0} (of_log : L → State) (of_backing : B → State) (e f : EngineContent L B) (lines marked_lines : List Line) : Type 0 where
  pub moved : HasMoved of_log of_backing e f [] 0 0
  pub marks : ((f.down ≡ None) × (marked_lines ≡ lines)) ⊎ ((device : Which) × (f.down ≡ Some device) × (marked_lines ≡ map (marked (stable_places f) device) lines))
  pub stable : f.down ≡ None → All (λ line. covered_line line ≤ max (awaited_line line) (stable_places f)) lines

-- ---- a request

-- The engine stands for this history over the base image, where there is one.
pub record StandsOver {L B : Type 0} (of_log : L → State) (of_backing : B → State) (content : Option Image) (e : EngineContent L B) (history : List HistoryEntry) : Type 0 where
  pub places : length history ≡ e.absorbed
  pub told : IfSome content (λ base. ((image : Image) × standing.Told (of_backing e.backing) image) × Standing of_log of_backing e base history)

-- the notes that other clients left hand on at most so much
abbrev pub AreBelow : ℕ → (ℕ → List ℕ) → Type 0
AreBelow most notes = (teller : ℕ) → All (λ note. note ≤ most) (notes teller)

-- a note that the request hears is there
abbrev pub MayHear : Seen → Request → Type 0
MayHear seen (request.Hear teller) = 1 ≤ length (seen.notes teller)
MayHear seen (request.Write sector count pattern fua) = Unit {0}
MayHear seen (request.Read sector count) = Unit {0}
MayHear seen (request.ReadSum sector count) = Unit {0}
MayHear seen request.Flush = Unit {0}
MayHear seen request.Defer = Unit {0}
MayHear seen (request.Tell other) = Unit {0}

-- What answering a request of a client leaves: a line, and the entries that it prints behind those before.
pub record IsAnswered {L B : Type 0} (of_log : L → State) (of_backing : B → State) (client : ℕ) (asked : Request) (e f : EngineContent L B) (line : Line) : Type 0 where
  pub entries : List HistoryEntry
  pub moved : HasMoved of_log of_backing e f entries (is_failure Log line) (is_failure Backing line)
  pub once : printed_line client asked line ≡ enumerate_from e.absorbed entries
  pub own : All (λ entry. client_of entry ≡ client) entries
  -- whatever the client has seen of the entries before
  pub answers : (content : Option Image) (history : List HistoryEntry) → StandsOver of_log of_backing content e history → (seen : Seen) → seen.number ≤ e.absorbed → MayHear seen asked
      → Answers content (history ++ entries) client seen asked line
  pub sees : (seen : Seen) → seen.number ≤ e.absorbed → AreBelow e.absorbed seen.notes → (seen_after seen asked line).number ≤ e.absorbed + length entries
  pub stopped_down : (device : Which) → HasStop (Down device) line → IsStoppedDown f device
  pub unflushed : (device : Which) → IsUnflushed device line → f.down ≡ Some device
  pub stopped_ids : HasStop Ids line → AreSpent f
  pub awaited : awaited_line line ≤ stable_places f
  pub flushed : IfSome (awaited_flush line) (EndsFlush f)
  pub posted : IsPostedLine f line
  -- a flush is only posted, and neither device is called
  pub quiet : asked ≡ request.Defer → (f.log ≡ e.log) × (f.backing ≡ e.backing)
  -- 33 parts, and 127 places of a flush
  pub few : length entries ≤ 160
  -- once all ids are spent no entry comes
  pub none_left : AreSpent e → entries ≡ []

-- The line of a write with `fua` that took these places: it is flushed where it is whole.
abbrev pub IsForcedLine : {L B : Type 0} (of_log : L → State) (of_backing : B → State) (client : ℕ) (e f : EngineContent L B) (taken : List ℕ) (stop : Stop) → Line → Type 0
IsForcedLine of_log of_backing client e f taken Whole line = (ended : Ended) × (line ≡ Forced taken (Some ended) Whole) × IsFlushed of_log of_backing client e f ended
IsForcedLine of_log of_backing client e f taken (Down device) line = (line ≡ Forced taken None (Down device)) × (f ≡ e)
IsForcedLine of_log of_backing client e f taken Ids line = (line ≡ Forced taken None Ids) × (f ≡ e)

-- the write of the line was stopped for want of an id
abbrev pub is_out_of_ids : Stop → Bool
is_out_of_ids Whole = false
is_out_of_ids (Down device) = false
is_out_of_ids Ids = true

abbrev pub is_stopped_line : Line → Bool
is_stopped_line (Wrote taken stop) = is_out_of_ids stop
is_stopped_line (Forced taken flush stop) = is_out_of_ids stop
is_stopped_line (Got point shown) = false
is_stopped_line (Summed point sum) = false
is_stopped_line (Failed device) = false
is_stopped_line (Flushed ended) = false
is_stopped_line (Deferred ended) = false
is_stopped_line Told = false
is_stopped_line Heard = false

-- ---- all requests of a client

-- no request was answered
abbrev pub nothing_played : Played
nothing_played = record { transcript = []; ids = false; log_failed = false; backing_failed = false }

-- the answers with one more line
abbrev pub with_line : Played → Line → Played
with_line played line = record {
  transcript = played.transcript ++ line ∷ [];
  ids = played.ids || is_stopped_line line;
  log_failed = played.log_failed || (is_failure Log line == 1);
  backing_failed = played.backing_failed || (is_failure Backing line == 1);
}

-- The flags of what was played tell whether a write was stopped for want of an id, and whether reads failed on either device,
-- of which so many did.
pub record Tells (log_failures backing_failures : ℕ) (Stopped : Type 0) (ids log_failed backing_failed : Bool) : Type 0 where
  pub log_fails : log_failed ≡ true → 1 ≤ log_failures
  pub log_fine : log_failed ≡ false → log_failures ≡ 0
  pub backing_fails : backing_failed ≡ true → 1 ≤ backing_failures
  pub backing_fine : backing_failed ≡ false → backing_failures ≡ 0
  pub stopped : Stopped → ids ≡ true
  pub told : ids ≡ true → Stopped

-- the notes that a client hears of each lower one are among those left for it
abbrev pub AreEnough : (ℕ → List ℕ) → List Request → Type 0
AreEnough notes requests = (teller : ℕ) → heard_of teller requests ≤ length (notes teller)

-- What playing the requests of a client leaves: their lines, and the entries that they print behind those before.
pub record IsPlayed {L B : Type 0} (of_log : L → State) (of_backing : B → State) (client : ℕ) (requests : List Request) (e f : EngineContent L B)
    (played : Played) (entries : List HistoryEntry) : Type 0 where
  pub moved : HasMoved of_log of_backing e f entries (failures Log played.transcript) (failures Backing played.transcript)
  -- whatever the notes hand on that were left for it
  pub answered : (content : Option Image) (history : List HistoryEntry) → StandsOver of_log of_backing content e history
      → (notes : ℕ → List ℕ) → AreBelow e.absorbed notes → AreEnough notes requests
      → clients.IsAnswered content history entries client notes requests played.transcript
  pub tells : Tells (failures Log played.transcript) (failures Backing played.transcript) (Any (HasStop Ids) played.transcript) played.ids played.log_failed played.backing_failed
  pub stopped_down : (device : Which) → Any (HasStop (Down device)) played.transcript → IsDownBy f device
  pub unflushed : (device : Which) → Any (IsUnflushed device) played.transcript → f.down ≡ Some device
  pub stopped_ids : Any (HasStop Ids) played.transcript → AreSpent f
  pub few : length entries ≤ 160 * length requests
  pub none_left : AreSpent e → entries ≡ []

-- Some of the first requests were played, though nothing is told of it: whether the flushes that were posted are done isn't
-- known.
pub record IsPlayedInPart {L B : Type 0} (of_log : L → State) (of_backing : B → State) (client : ℕ) (requests : List Request) (e f : EngineContent L B) : Type 0 where
  pub count : ℕ
  pub played : Played
  pub entries : List HistoryEntry
  pub is : IsPlayed of_log of_backing client (take count requests) e f played entries

-- ---- all clients

-- both devices of the engine tell their contents, and the backing device this image
abbrev pub IsTold : {L B : Type 0} (of_log : L → State) (of_backing : B → State) → EngineContent L B → Image → Type 0
IsTold of_log of_backing e base = IsSome (of_log e.log).content × standing.Told (of_backing e.backing) base

-- what is told of the answers to the requests of clients: the lines of each, whether a write was stopped for want of an id, and
-- whether a read failed on either device
pub record Tally : Type 0 where
  pub transcripts : List (List Line)
  pub ids : Bool
  pub log_failed : Bool
  pub backing_failed : Bool

abbrev pub tally_of : AllPlayed → Tally
tally_of all = record {
  transcripts = all.transcripts.items;
  ids = all.ids;
  log_failed = all.log_failed;
  backing_failed = all.backing_failed;
}

-- of no client
abbrev pub none_played : Tally
none_played = record { transcripts = []; ids = false; log_failed = false; backing_failed = false }

-- with what the next client's requests left
abbrev pub with_client : Tally → Played → Tally
with_client all played = record {
  transcripts = all.transcripts ++ played.transcript ∷ [];
  ids = all.ids || played.ids;
  log_failed = all.log_failed || played.log_failed;
  backing_failed = all.backing_failed || played.backing_failed;
}

-- What playing the requests of the first clients leaves: their transcripts, and the history that they print.
pub record AreAllPlayed {L B : Type 0} (of_log : L → State) (of_backing : B → State) (requests : List (List Request)) (start e : EngineContent L B)
    (all : Tally) (history : List HistoryEntry) : Type 0 where
  pub come : HasCome of_log of_backing start e history (all_failures Log all.transcripts) (all_failures Backing all.transcripts)
  -- whether both devices told their contents at the opening or not
  pub served : (content : Option Image) → IfSome content (IsTold of_log of_backing start) → AreServed content history requests all.transcripts
  pub tells : Tells (all_failures Log all.transcripts) (all_failures Backing all.transcripts) (IsStopped Ids all.transcripts) all.ids all.log_failed all.backing_failed
  pub stopped_down : (device : Which) → IsStopped (Down device) all.transcripts → IsDownBy e device
  pub undone : (device : Which) → IsUndone device all.transcripts → e.down ≡ Some device
  pub stopped_ids : IsStopped Ids all.transcripts → AreSpent e
  pub few : length history ≤ 160 * sum (map length requests)

-- Some of the first requests of each client were played, though nothing is told of it.
pub record AreAllPlayedInPart {L B : Type 0} (of_log : L → State) (of_backing : B → State) (requests : List (List Request)) (start e : EngineContent L B) : Type 0 where
  pub answered : List (List Request)
  pub cut : IsCutOf requests answered
  pub all : Tally
  pub history : List HistoryEntry
  pub is : AreAllPlayed of_log of_backing answered start e all history
