-- What is counted as the lines of a script are read.
use Rattle.std.specs.Prelude.{ℕ, suc, ◌≡◌, ◌≢◌, ◌⊎◌, ◌+◌, ◌*◌, ◌<◌, ◌≤◌, ◌==◌, if◌then◌else◌, Bool, true, false, List, length, slice_index, map}
use Rattle.std.specs.List.{range_with_len}
use Rattle.wb_script.specs.Grammar.{notes_in, requests_of, shown_by_owned, IsRequest}
use Rattle.wb_script.specs.Reading.{IsNotRead}
use Rattle.wb_script.specs.Valid.{most_clients, most_shown, heard_of, hears_of, shown_by}
use Rattle.wb_script.specs.declared.request.Request.{Request}
use Rattle.wb_script.specs.declared.request.Request.TheVariants as request
use Rattle.wb_script.specs.declared.refusal.Cause.TheVariants.{Note, Reads}
use Rattle.wb_script.specs.declared.parsing.requests.LineStop.{LineStop}
use Rattle.wb_script.specs.declared.parsing.requests.LineStop.TheVariants.{Offends, Memory}
use Rattle.wb_script.specs.declared.parsing.reading.Reading.{Reading}

-- where the notes of a client for another are counted
abbrev pub note_at : ℕ → ℕ → ℕ
note_at teller hearer = 32 * teller + hearer

-- a note of it was heard, where one is left: no other count changes
abbrev pub IsHeard : (teller hearer : ℕ) → (old new : List ℕ) → Bool → Type 0
IsHeard teller hearer old new true =
    (length new ≡ length old) × (slice_index old (note_at teller hearer) ≡ suc (slice_index new (note_at teller hearer)))
    × ((other : ℕ) → other ≢ note_at teller hearer → slice_index new other ≡ slice_index old other)
IsHeard teller hearer old new false = (new ≡ old) × (slice_index old (note_at teller hearer) ≡ 0)

-- the notes of these lines
pub record AreNotes (all : List (List ℕ)) (left : List ℕ) : Type 0 where
  pub sized : length left ≡ 1024
  pub each : (teller hearer : ℕ) → teller < most_clients → hearer < most_clients → slice_index left (note_at teller hearer) ≡ notes_in all teller hearer

-- These requests of a script with these lines were read, each with its client.
pub record IsReadSoFar (all : List (List ℕ)) (clients : ℕ) (owned : List (ℕ × Request)) (reading : Reading) : Type 0 where
  pub requests_are : reading.requests.items ≡ map (requests_of owned) (range_with_len 0 clients)
  pub sized : length reading.notes.left.items ≡ 1024
  pub notes : (teller hearer : ℕ) → teller < most_clients → hearer < most_clients
      → slice_index reading.notes.left.items (note_at teller hearer) + heard_of teller (requests_of owned hearer) ≡ notes_in all teller hearer
  pub shown_is : reading.shown ≡ shown_by_owned owned
  pub few : reading.shown ≤ most_shown

-- what is left of the notes, and what is shown, once this request of this client was counted
pub record IsCounted (client : ℕ) (asked : Request) (old new : Reading) : Type 0 where
  pub requests : new.requests ≡ old.requests
  pub sized : length new.notes.left.items ≡ length old.notes.left.items
  pub notes : (teller hearer : ℕ) → teller < most_clients → hearer < most_clients
      → slice_index new.notes.left.items (note_at teller hearer) + (if client == hearer then (if hears_of teller asked then 1 else 0) else 0)
      ≡ slice_index old.notes.left.items (note_at teller hearer)
  pub shown_is : new.shown ≡ old.shown + shown_by asked
  pub few : new.shown ≤ most_shown

-- The request hears a note of a client that leaves no more.
abbrev pub IsUnheard : ℕ → Request → Reading → ℕ → Type 0
IsUnheard client asked reading other =
    (asked ≡ request.Hear other) × (slice_index reading.notes.left.items (note_at other client) ≡ 0)

-- With the request more sectors are shown than may be.
abbrev pub IsTooMuchShown : Request → Reading → ℕ → Type 0
IsTooMuchShown asked reading shown =
    (sector : ℕ) × (count : ℕ) × (asked ≡ request.Read sector count) × (shown ≡ reading.shown + count) × (most_shown < shown)

-- why a request may not stand behind those that were read; for want of memory nothing is said
abbrev pub IsTooMuch : ℕ → Request → Reading → LineStop → Type 0
IsTooMuch client asked reading (Offends why) =
    ((other : ℕ) × (why ≡ Note other) × IsUnheard client asked reading other)
    ⊎ ((shown : ℕ) × (why ≡ Reads shown) × IsTooMuchShown asked reading shown)
IsTooMuch client asked reading Memory = Unit {0}

-- Why a line is refused behind those that were read: by its words, or as a request that may not stand there. For want of
-- memory nothing is said.
abbrev pub IsLineRefused : (sectors clients : ℕ) → List (List ℕ) → Reading → LineStop → Type 0
IsLineRefused sectors clients parts reading stop =
    IsNotRead sectors clients parts stop
    ⊎ ((client : ℕ) × (asked : Request) × IsRequest sectors clients parts client asked × IsTooMuch client asked reading stop)
