-- What makes the transcripts of a script legal, and the history that they print.
use Rattle.std.specs.Prelude.{ℕ, suc, ◌≡◌, ◌⊎◌, ◌+◌, ◌-◌, ◌*◌, ◌<◌, ◌≤◌, List, [], ◌∷◌, ◌++◌, length, take, drop, sum, max, map, filter, fold, ◌==◌, slice_index_or, if◌then◌else◌, true, false, Option, Some, None, IfSome}
use Rattle.std.specs.List.{enumerate_from, range_with_len, zip}
use Rattle.std.specs.List.Sorted.{IsPermutation}
use Rattle.wb_geometry.specs.Image.{Image, bytes_at}
use Rattle.wb_geometry.specs.History.{HistoryEntry, Void, client_of, after}
use Rattle.wb_geometry.specs.Requests.{parts, entries_of}
use Rattle.wb_geometry.specs.declared.which.Which.{Which}
use Rattle.wb_geometry.specs.declared.which.Which.TheVariants.{Log, Backing}
use Rattle.wb_sum.specs.Crc32c.{sum_of}
use Rattle.wb_script.specs.Patterns.{repeated}
use Rattle.wb_script.specs.Content.{ScriptContent}
use Rattle.wb_script.specs.declared.request.Request.{Request}
use Rattle.wb_script.specs.declared.request.Request.TheVariants.{Write, Read, ReadSum, Flush, Defer, Tell, Hear}
use Rattle.wb_script.specs.declared.transcript.Line.{Line}
use Rattle.wb_script.specs.declared.transcript.Line.TheVariants.{Wrote, Forced, Got, Summed, Failed, Flushed, Deferred, Told, Heard}
use Rattle.wb_script.specs.declared.transcript.Ended.{Ended}
use Rattle.wb_script.specs.declared.transcript.Stop.{Stop}
use Rattle.wb_script.specs.declared.transcript.Stop.TheVariants.{Whole, Down, Ids}

-- ---- what is printed

-- the entries that a request writes, one a part
abbrev pub asked : ℕ → Request → List HistoryEntry
asked client (Write sector count pattern fua) = entries_of client (parts sector count) (repeated pattern (512 * count))
asked client (Read sector count) = []
asked client (ReadSum sector count) = []
asked client Flush = []
asked client Defer = []
asked client (Tell other) = []
asked client (Hear other) = []

-- the places that a flush took, which change nothing: the last below its number
abbrev pub voids_of : ℕ → Ended → List (ℕ × HistoryEntry)
voids_of client ended = map (λ place. (place, Void client)) (range_with_len (ended.through - ended.voids) ended.voids)

-- of a write that was flushed, where it was
abbrev pub forced_voids : ℕ → Option Ended → List (ℕ × HistoryEntry)
forced_voids client None = []
forced_voids client (Some ended) = voids_of client ended

-- the places that a line prints, each with its entry. A stopped write prints the places of its first parts.
abbrev pub printed_line : ℕ → Request → Line → List (ℕ × HistoryEntry)
printed_line client request (Wrote places stop) = zip places (asked client request)
printed_line client request (Forced places flush stop) = zip places (asked client request) ++ forced_voids client flush
printed_line client request (Got point shown) = []
printed_line client request (Summed point sum_shown) = []
printed_line client request (Failed device) = []
printed_line client request (Flushed ended) = voids_of client ended
printed_line client request (Deferred ended) = voids_of client ended
printed_line client request Told = []
printed_line client request Heard = []

-- of a client
abbrev pub printed : ℕ → List Request → List Line → List (ℕ × HistoryEntry)
printed client (request ∷ requests) (line ∷ lines) = printed_line client request line ++ printed client requests lines
printed client [] lines = []
printed client (request ∷ requests) [] = []

-- of the clients from this one on
abbrev pub all_printed : ℕ → List (List Request) → List (List Line) → List (ℕ × HistoryEntry)
all_printed client (requests ∷ rest) (lines ∷ transcripts) = printed client requests lines ++ all_printed (suc client) rest transcripts
all_printed client [] transcripts = []
all_printed client (requests ∷ rest) [] = []

-- the history that the transcripts print: each place below `places` is printed once, and no other, and its entry stands there
pub record IsHistory (script : ScriptContent) (transcripts : List (List Line)) (places : ℕ) (history : List HistoryEntry) : Type 0 where
  pub count : length history ≡ places
  pub once : IsPermutation (all_printed 0 script.requests transcripts) (enumerate_from 0 history)

-- ---- what a client has seen

-- What a client has seen, and what the notes hand on that each other client left for it and it hasn't heard.
pub record Seen : Type 0 where
  -- It only rises: above each place, and at least each point and each flush's number, that was printed or handed on.
  pub number : ℕ
  pub notes : ℕ → List ℕ

-- at first, with the notes that are left for it
abbrev pub first_seen : (ℕ → List ℕ) → Seen
first_seen notes = record { number = 0; notes = notes }

-- it has seen so much more
abbrev pub seen_to : Seen → ℕ → Seen
seen_to seen number = record { number = number; notes = seen.notes }

-- the number above the places, which rise, or the one before where there are none
abbrev pub above : ℕ → List ℕ → ℕ
above number places = fold (λ _ place. place + 1) number places

-- after a flush, where there was one
abbrev pub through_of : ℕ → Option Ended → ℕ
through_of number None = number
through_of number (Some ended) = ended.through

-- a note of that client is heard: what it hands on is seen
abbrev pub seen_note : Seen → ℕ → Seen
seen_note seen teller = record {
  number = max seen.number (slice_index_or (seen.notes teller) 0 0);
  notes = λ other. if other == teller then drop 1 (seen.notes other) else seen.notes other;
}

abbrev pub seen_request : Seen → Request → Seen
seen_request seen (Hear teller) = seen_note seen teller
seen_request seen (Write sector count pattern fua) = seen
seen_request seen (Read sector count) = seen
seen_request seen (ReadSum sector count) = seen
seen_request seen Flush = seen
seen_request seen Defer = seen
seen_request seen (Tell other) = seen

abbrev pub seen_after : Seen → Request → Line → Seen
seen_after seen request (Wrote places stop) = seen_to seen (above seen.number places)
seen_after seen request (Forced places flush stop) = seen_to seen (through_of (above seen.number places) flush)
seen_after seen request (Got point shown) = seen_to seen point
seen_after seen request (Summed point sum_shown) = seen_to seen point
seen_after seen request (Failed device) = seen
seen_after seen request (Flushed ended) = seen_to seen ended.through
seen_after seen request (Deferred ended) = seen_to seen ended.through
seen_after seen request Told = seen
seen_after seen request Heard = seen_request seen request

-- what a client has seen after all these lines
abbrev pub seen_after_all : Seen → List Request → List Line → Seen
seen_after_all seen (request ∷ requests) (line ∷ lines) = seen_after_all (seen_after seen request line) requests lines
seen_after_all seen [] lines = seen
seen_after_all seen (request ∷ requests) [] = seen

-- what the note hands on that a request leaves for that client: all that its client has seen
abbrev pub left_by : Seen → Request → ℕ → List ℕ
left_by seen (Tell other) hearer = if other == hearer then seen.number ∷ [] else []
left_by seen (Write sector count pattern fua) hearer = []
left_by seen (Read sector count) hearer = []
left_by seen (ReadSum sector count) hearer = []
left_by seen Flush hearer = []
left_by seen Defer hearer = []
left_by seen (Hear other) hearer = []

-- what all its notes for that client hand on, in order
abbrev pub left_by_all : Seen → List Request → List Line → ℕ → List ℕ
left_by_all seen (request ∷ requests) (line ∷ lines) hearer = left_by seen request hearer ++ left_by_all (seen_after seen request line) requests lines hearer
left_by_all seen [] lines hearer = []
left_by_all seen (request ∷ requests) [] hearer = []

-- ---- legal transcripts

-- the entries of a client in the history, each with its place
abbrev pub placed : ℕ → List HistoryEntry → List (ℕ × HistoryEntry)
placed client history = filter (λ p. client_of p.1 == client) (enumerate_from 0 history)

-- the places of a line rise from that number on
abbrev pub Rises : ℕ → List ℕ → Type 0
Rises number [] = Unit {0}
Rises number (place ∷ places) = (number ≤ place) × Rises (place + 1) places

-- a whole write has all its places, and a stopped one fewer
abbrev pub HasPlaces : Stop → List ℕ → List HistoryEntry → Type 0
HasPlaces Whole places entries = length places ≡ length entries
HasPlaces (Down device) places entries = length places < length entries
HasPlaces Ids places entries = length places < length entries

-- A flush of one that has seen so much, over a history of so many places: its number, and the places that it took, come
-- behind all that was seen.
pub record IsFlush (seen places : ℕ) (ended : Ended) : Type 0 where
  pub after_seen : seen + ended.voids ≤ ended.through
  pub inside : ended.through ≤ places

-- a write is flushed exactly where it is whole
abbrev pub IsForced : (seen places : ℕ) → Stop → Option Ended → Type 0
IsForced seen places Whole None = ⊥
IsForced seen places Whole (Some ended) = IsFlush seen places ended
IsForced seen places (Down device) None = Unit {0}
IsForced seen places (Down device) (Some ended) = ⊥
IsForced seen places Ids None = Unit {0}
IsForced seen places Ids (Some ended) = ⊥

-- The point is at least what was seen, and the bytes are what the image holds after the first so many entries.
pub record IsShown (base : Option Image) (history : List HistoryEntry) (seen point sector count : ℕ) (bytes : List ℕ) : Type 0 where
  pub later : seen ≤ point
  pub inside : point ≤ length history
  pub size : length bytes ≡ 512 * count
  pub are : IfSome base (λ image. bytes ≡ bytes_at (after image (take point history)) sector count)

-- The line answers the request of a client that has seen so much, over this history from the base image on.
abbrev pub Answers : Option Image → List HistoryEntry → ℕ → Seen → Request → Line → Type 0
Answers base history client seen request (Wrote places stop) =
    ((sector : ℕ) × (count : ℕ) × (pattern : List ℕ) × (request ≡ Write sector count pattern false))
    × Rises seen.number places × HasPlaces stop places (asked client request)
Answers base history client seen request (Forced places flush stop) =
    ((sector : ℕ) × (count : ℕ) × (pattern : List ℕ) × (request ≡ Write sector count pattern true))
    × Rises seen.number places × HasPlaces stop places (asked client request)
    × IsForced (above seen.number places) (length history) stop flush
Answers base history client seen request (Got point shown) =
    (sector : ℕ) × (count : ℕ) × (request ≡ Read sector count) × IsShown base history seen.number point sector count shown
Answers base history client seen request (Summed point sum_shown) =
    (sector : ℕ) × (count : ℕ) × (request ≡ ReadSum sector count)
    × ((bytes : List ℕ) × (sum_shown ≡ sum_of bytes) × IsShown base history seen.number point sector count bytes)
Answers base history client seen request (Failed device) =
    (sector : ℕ) × (count : ℕ) × ((request ≡ Read sector count) ⊎ (request ≡ ReadSum sector count))
Answers base history client seen request (Flushed ended) = (request ≡ Flush) × IsFlush seen.number (length history) ended
Answers base history client seen request (Deferred ended) = (request ≡ Defer) × IsFlush seen.number (length history) ended
Answers base history client seen request Told = (other : ℕ) × (request ≡ Tell other)
Answers base history client seen request Heard =
    (teller : ℕ) × (request ≡ Hear teller) × (note : ℕ) × (more : List ℕ) × (seen.notes teller ≡ note ∷ more)

-- one line answers each request, in order, of a client that has seen so much
abbrev pub AnswersAll : Option Image → List HistoryEntry → ℕ → Seen → List Request → List Line → Type 0
AnswersAll base history client seen [] [] = Unit {0}
AnswersAll base history client seen [] (line ∷ lines) = ⊥
AnswersAll base history client seen (request ∷ requests) [] = ⊥
AnswersAll base history client seen (request ∷ requests) (line ∷ lines) =
    Answers base history client seen request line × AnswersAll base history client (seen_after seen request line) requests lines

-- The transcript of a client is legal, beside the notes that are left for it: its lines answer, and its entries in the
-- history are just those that it printed, in order and each once.
pub record IsLegal (base : Option Image) (history : List HistoryEntry) (client : ℕ) (notes : ℕ → List ℕ) (requests : List Request) (lines : List Line) : Type 0 where
  pub answers : AnswersAll base history client (first_seen notes) requests lines
  pub own : printed client requests lines ≡ placed client history

-- the notes that are left for each client, by the client that left them
abbrev pub Notes : Type 0
Notes = ℕ → ℕ → List ℕ

abbrev pub no_notes : Notes
no_notes hearer teller = []

-- with those that the transcript of this client leaves
abbrev pub with_notes : Notes → ℕ → List Request → List Line → Notes
with_notes notes client requests lines hearer teller =
    if teller == client then left_by_all (first_seen (notes client)) requests lines hearer else notes hearer teller

-- one transcript a client, from this client on, beside the notes that lower clients left
abbrev pub AreLegal : Option Image → List HistoryEntry → ℕ → Notes → List (List Request) → List (List Line) → Type 0
AreLegal base history client notes [] [] = Unit {0}
AreLegal base history client notes [] (lines ∷ transcripts) = ⊥
AreLegal base history client notes (requests ∷ rest) [] = ⊥
AreLegal base history client notes (requests ∷ rest) (lines ∷ transcripts) =
    IsLegal base history client (notes client) requests lines
    × AreLegal base history (suc client) (with_notes notes client requests lines) rest transcripts

-- ---- flushes that are covered

-- the number of a flush that was answered as done; 0 else
abbrev pub done_through : Ended → ℕ
done_through ended = flushed ended.down ended.through
  where
    flushed : Option Which → ℕ → ℕ
    flushed None through = through
    flushed (Some device) through = 0

abbrev pub forced_through : Option Ended → ℕ
forced_through None = 0
forced_through (Some ended) = done_through ended

abbrev pub covered_line : Line → ℕ
covered_line (Forced places flush stop) = forced_through flush
covered_line (Flushed ended) = done_through ended
covered_line (Deferred ended) = done_through ended
covered_line (Wrote places stop) = 0
covered_line (Got point shown) = 0
covered_line (Summed point sum_shown) = 0
covered_line (Failed device) = 0
covered_line Told = 0
covered_line Heard = 0

-- the greatest number of a flush that the transcripts print as done; 0 where there is none
abbrev pub covered_by : List Line → ℕ
covered_by lines = fold (λ most line. max most (covered_line line)) 0 lines

abbrev pub covered : List (List Line) → ℕ
covered transcripts = fold (λ most lines. max most (covered_by lines)) 0 transcripts

-- ---- faults and stops

-- how many lines say that a read failed on this device
abbrev pub is_failure : Which → Line → ℕ
is_failure Log (Failed Log) = 1
is_failure Log (Failed Backing) = 0
is_failure Backing (Failed Log) = 0
is_failure Backing (Failed Backing) = 1
is_failure which (Wrote places stop) = 0
is_failure which (Forced places flush stop) = 0
is_failure which (Got point shown) = 0
is_failure which (Summed point sum_shown) = 0
is_failure which (Flushed ended) = 0
is_failure which (Deferred ended) = 0
is_failure which Told = 0
is_failure which Heard = 0

abbrev pub failures : Which → List Line → ℕ
failures which lines = sum (map (is_failure which) lines)

-- of all clients
abbrev pub all_failures : Which → List (List Line) → ℕ
all_failures which transcripts = sum (map (failures which) transcripts)

-- the write of the line, if it is one, was stopped so
abbrev pub HasStop : Stop → Line → Type 0
HasStop why (Wrote places stop) = stop ≡ why
HasStop why (Forced places flush stop) = stop ≡ why
HasStop why (Got point shown) = ⊥
HasStop why (Summed point sum_shown) = ⊥
HasStop why (Failed device) = ⊥
HasStop why (Flushed ended) = ⊥
HasStop why (Deferred ended) = ⊥
HasStop why Told = ⊥
HasStop why Heard = ⊥

-- the flush of the line, if it is one, found the cache down by this device
abbrev pub IsUnflushed : Which → Line → Type 0
IsUnflushed device (Forced places flush stop) = IfSome flush (λ ended. ended.down ≡ Some device) × ((ended : Ended) × (flush ≡ Some ended))
IsUnflushed device (Flushed ended) = ended.down ≡ Some device
IsUnflushed device (Deferred ended) = ended.down ≡ Some device
IsUnflushed device (Wrote places stop) = ⊥
IsUnflushed device (Got point shown) = ⊥
IsUnflushed device (Summed point sum_shown) = ⊥
IsUnflushed device (Failed failed) = ⊥
IsUnflushed device Told = ⊥
IsUnflushed device Heard = ⊥
