-- What the lines of a client say, by what its pass knows and has seen.
use Rattle.std.specs.Prelude.{ℕ, ◌≡◌, ◌⊎◌, ◌+◌, ◌*◌, ◌-◌, ◌^◌, ◌<◌, ◌≤◌, ◌==◌, List, [], ◌∷◌, ◌++◌, length, map, filter, fold, max, min, Any, Option}
use Rattle.std.specs.List.{range_with_len, zip}
use Rattle.wb_geometry.specs.Image.{Image}
use Rattle.wb_geometry.specs.History.{HistoryEntry}
use Rattle.wb_geometry.specs.declared.which.Which.{Which}
use Rattle.wb_steps.specs.Faults.{IsPartwiseAtMost}
use Rattle.wb_steps.specs.Views.{IsPrefix}
use Rattle.wb_steps.specs.Rule.{segment_at}
use Rattle.wb_steps.specs.declared.shape.Shape.{Shape}
use Rattle.wb_steps.specs.declared.view.View.{View}
use Rattle.wb_front.specs.Words.{down_part, reads_part}
use Rattle.wb_script.specs.Valid.{requests_at, heard_of}
use Rattle.wb_script.specs.Keeping.{marked}
use Rattle.wb_script.specs.Transcripts.{Seen, seen_after_all, AnswersAll, printed, left_by_all, covered_by, forced_through, done_through, failures, HasStop, IsUnflushed}
use Rattle.wb_script.specs.declared.request.Request.{Request}
use Rattle.wb_script.specs.declared.request.Request.TheVariants.{Write, Read, ReadSum, Flush, Defer, Tell, Hear}
use Rattle.wb_script.specs.declared.transcript.Line.{Line}
use Rattle.wb_script.specs.declared.transcript.Line.TheVariants.{Wrote, Forced, Got, Summed, Failed, Flushed, Deferred, Told, Heard}
use Rattle.wb_script.specs.declared.transcript.Stop.TheVariants.{Down, Ids}

-- ---- what a pass shows

-- a history that may yet come: it begins with all that the pass knows, and has all places that the pass has seen
pub record IsAhead (v : View) (history : List HistoryEntry) : Type 0 where
  pub known : IsPrefix v.known history
  pub seen : v.seen.cursor ≤ length history

-- what a pass has come to know and seen never falls
pub record HasSeenMore (v w : View) : Type 0 where
  pub known : IsPrefix v.known w.known
  pub cursor : v.seen.cursor ≤ w.seen.cursor
  pub limit : v.seen.limit ≤ w.seen.limit
  pub stable : v.seen.stable ≤ w.seen.stable
  pub fault : IsPartwiseAtMost v.seen.fault w.seen.fault

-- the pass has seen that the cache is down by this device
abbrev pub HasSeenDown : Which → View → Type 0
HasSeenDown device v = 1 ≤ down_part device v.seen.fault

-- a part that counts reads rose so often, or stands at its last value
abbrev pub RoseTo : (times before now : ℕ) → Type 0
RoseTo times before now = min (before + times) (2 ^ 31 - 1) ≤ now

-- ---- notes

-- of values each with a client, those of this client
abbrev pub values_of : {X : Type 0} → ℕ → List (ℕ × X) → List X
values_of client pairs = map (λ p. p.1) (filter (λ p. p.0 == client) pairs)

-- what that client had told up to each of its notes that were heard, in order
abbrev pub heard_from : ℕ → List (ℕ × List ℕ) → List (List ℕ)
heard_from teller heard = values_of teller heard

-- the last of the numbers, 0 where there is none
abbrev pub last_of : List ℕ → ℕ
last_of numbers = fold (λ _ number. number) 0 numbers

-- each number of the second list has one at its place in the first, which is no greater
abbrev pub AreWithin : (left heard : List ℕ) → Type 0
AreWithin left [] = Unit {0}
AreWithin [] (number ∷ numbers) = ⊥
AreWithin (note ∷ left) (number ∷ numbers) = (note ≤ number) × AreWithin left numbers

-- Such notes are left for a client that heard these: each that was heard is there, and hands on no more than what its client
-- had last told.
abbrev pub AreLeft : (ℕ → List ℕ) → List (ℕ × List ℕ) → Type 0
AreLeft notes heard = (teller : ℕ) → AreWithin (notes teller) (map last_of (heard_from teller heard))

-- for whom a request leaves a note
abbrev pub hearer_of : Request → List ℕ
hearer_of (Tell other) = other ∷ []
hearer_of (Write sector count pattern fua) = []
hearer_of (Read sector count) = []
hearer_of (ReadSum sector count) = []
hearer_of Flush = []
hearer_of Defer = []
hearer_of (Hear other) = []

-- for whom the requests leave notes, one a note
abbrev pub hearers_of : List Request → List ℕ
hearers_of [] = []
hearers_of (request ∷ requests) = hearer_of request ++ hearers_of requests

-- of what a client told, a number a note, that of its notes for this client
abbrev pub told_for : ℕ → List Request → List ℕ → List ℕ
told_for hearer requests told = values_of hearer (zip (hearers_of requests) told)

-- how many notes a client had told with each that is for this client, where it had told so many before the first of the requests
abbrev pub counts_from : (before hearer : ℕ) → List Request → List ℕ
counts_from before hearer requests = told_for hearer requests (range_with_len (before + 1) (length (hearers_of requests)))

-- where these are all its requests
abbrev pub counts_for : ℕ → List Request → List ℕ
counts_for hearer requests = counts_from 0 hearer requests

-- a client heard the notes that each other left for it, in order, from the first
abbrev pub AreInOrder : (all : List (List Request)) (client : ℕ) → List (ℕ × List ℕ) → Type 0
AreInOrder all client heard = (teller : ℕ) → IsPrefix (map length (heard_from teller heard)) (counts_for client (requests_at all teller))

-- ---- a client

-- The number of an awaited flush that was done; 0 for each other line. Those that were posted are awaited at the end.
abbrev pub awaited_line : Line → ℕ
awaited_line (Forced places flush stop) = forced_through flush
awaited_line (Flushed ended) = done_through ended
awaited_line (Deferred ended) = 0
awaited_line (Wrote places stop) = 0
awaited_line (Got point shown) = 0
awaited_line (Summed point sum) = 0
awaited_line (Failed device) = 0
awaited_line Told = 0
awaited_line Heard = 0

abbrev pub awaited_by : List Line → ℕ
awaited_by lines = fold (λ most line. max most (awaited_line line)) 0 lines

-- What the lines say was seen is no more than the pass has seen; they answer the requests over each history that may yet come,
-- and what they leave in notes is no more than the pass told.
pub record IsAnswered (base : Option Image) (client : ℕ) (w : View) (told : List ℕ) (seen : Seen) (requests : List Request) (lines : List Line) : Type 0 where
  pub seen_by : (seen_after_all seen requests lines).number ≤ w.seen.cursor
  pub answers : (history : List HistoryEntry) → IsAhead w history → AnswersAll base history client seen requests lines
  pub tells : (hearer : ℕ) → AreWithin (left_by_all seen requests lines hearer) (told_for hearer requests told)

-- A client's requests were answered by these lines, while its pass came from v to w, heard these notes and told these numbers:
-- each line is shown by what the pass knows and has seen. Posted flushes are not awaited yet.
pub record HasPlayed (base : Option Image) (shape : Shape) (client : ℕ) (v w : View) (heard : List (ℕ × List ℕ)) (told : List ℕ) (requests : List Request) (lines : List Line) : Type 0 where
  pub more : HasSeenMore v w
  pub mine : w.mine ≡ v.mine ++ printed client requests lines
  pub heard_more : w.heard ≡ v.heard ++ heard
  pub told_more : w.told ≡ v.told ++ told
  pub heard_each : (teller : ℕ) → length (heard_from teller heard) ≡ heard_of teller requests
  pub told_each : length told ≡ length (hearers_of requests)
  pub each : length lines ≡ length requests
  pub answered : (seen : Seen) → seen.number ≤ v.seen.cursor → AreLeft seen.notes heard → IsAnswered base client w told seen requests lines
  pub few : length (printed client requests lines) ≤ 160 * length requests
  pub awaited : awaited_by lines ≤ w.seen.stable
  pub failed : (device : Which) → RoseTo (failures device lines) (reads_part device v.seen.fault) (reads_part device w.seen.fault)
  -- a write is stopped by a device only where the cache is down by it and all places below the limit are taken, and for want of
  -- an id only where none is left
  pub stopped_down : (device : Which) → Any (HasStop (Down device)) lines → HasSeenDown device w × (v.seen.limit ≤ w.seen.cursor)
  pub stopped_ids : Any (HasStop Ids) lines → 2 ^ 48 < segment_at shape w.seen.cursor
  pub undone : (device : Which) → Any (IsUnflushed device) lines → HasSeenDown device w

-- The flushes that a client posted were awaited, and the pass came to w: these are its lines then. Those that weren't done are
-- marked, where the cache is down by a device: just those that cover more than the pass has seen to be stable.
pub record AreAwaited (w : View) (lines awaited : List Line) : Type 0 where
  pub marks : (awaited ≡ lines) ⊎ ((device : Which) × HasSeenDown device w × (awaited ≡ map (marked w.seen.stable device) lines))
  pub covered : covered_by awaited ≤ w.seen.stable
