-- What the calls of a front leave of a pass, as a client's lines need it.
use Rattle.std.proofs.Common.{ℕ, suc, ◌≡◌, ◌⊎◌, ◌+◌, ◌*◌, ◌/◌, ◌^◌, ◌<◌, ◌≤◌, true, List, [], ◌∷◌, ◌++◌, length, drop, Option, None, Some, IfSome, refl, ap, sym, ◌∙◌, subst, arith}
use Rattle.std.specs.List.{zip}
use Rattle.wb_geometry.specs.Image.{Image, bytes_at}
use Rattle.wb_geometry.specs.History.{HistoryEntry, after}
use Rattle.wb_geometry.specs.Requests.{parts, entries_of}
use Rattle.wb_geometry.specs.declared.request.Part.{Part}
use Rattle.wb_geometry.specs.declared.which.Which.{Which}
use Rattle.wb_sum.specs.Crc32c.{sum_of}
use Rattle.wb_steps.specs.Views.{telling, note_of, hearing}
use Rattle.wb_steps.specs.Rule.{segment_at}
use Rattle.wb_steps.specs.declared.shape.Shape.{Shape}
use Rattle.wb_steps.specs.declared.view.Role.TheVariants.{Owner}
use Rattle.wb_steps.specs.declared.view.View.{View}
use Rattle.wb_intake.specs.Carried.{Carried}
use Rattle.wb_intake.specs.declared.sight.Loads.{Loads}
use Rattle.wb_front.specs.Words.{reads_part, ReadsRose}
use Rattle.wb_front.specs.Moving.{HasRead}
use Rattle.wb_front.specs.Requests.{at_places, HasPut, IsFullAndDown, IsWriteCause}
use Rattle.wb_front.specs.Requests as front
use Rattle.wb_front.specs.declared.writing.WriteCause.{WriteCause}
use Rattle.wb_front.specs.declared.writing.WriteCause.TheVariants as cause
use Rattle.wb_script.specs.Patterns.{repeated}
use Rattle.wb_script.specs.Transcripts.{Rises, HasPlaces}
use Rattle.wb_script.specs.declared.request.Request.{Request}
use Rattle.wb_script.specs.declared.request.Request.TheVariants.{Read, ReadSum, Tell, Hear}
use Rattle.wb_script.specs.declared.transcript.Line.TheVariants.{Got, Summed, Failed, Told, Heard}
use Rattle.wb_script.specs.declared.transcript.Stop.{Stop}
use Rattle.wb_script.specs.declared.transcript.Stop.TheVariants.{Whole, Down, Ids}
use Rattle.wb_client.specs.Played.{HasSeenDown, last_of, HasPlayed}
use Rattle.wb_client.specs.Done.{HasLooked, HasTaken, IsStoppedFor}
use Rattle.wb_client.specs.Client.{IsBaseOf, IsStopOf}
use Rattle.wb_client.proofs.Lines.{played_read, played_sum, played_failed, played_tell, played_hear}
use Rattle.wb_client.proofs.Passes.{known_same, last_noted}

-- ---- writes

places_zip : (places : List ℕ) (entries : List HistoryEntry) → at_places places entries ≡ zip places entries
places_zip [] entries = refl
places_zip (p ∷ places) [] = refl
places_zip (p ∷ places) (e ∷ entries) = ap (λ (l : List (ℕ × HistoryEntry)). (p, e) ∷ l) (places_zip places entries)

rises_of : (number : ℕ) (places : List ℕ) → front.Rises number places → Rises number places
rises_of number [] rises = tt
rises_of number (p ∷ places) rises = (rises.0, rises_of (p + 1) places rises.1)

entries_many : (client : ℕ) (ps : List Part) (bytes : List ℕ) → length (entries_of client ps bytes) ≡ length ps
entries_many client [] bytes = refl
entries_many client (p ∷ ps) bytes = ap suc (entries_many client ps (drop (512 * p.count) bytes))

sectors_of_size : (size count : ℕ) → size ≡ 512 * count → size / 512 ≡ count
sectors_of_size size count is = omega (arith, is)

-- the pass that put entries at places took these for them
pub taken_put : (v w : View) (places : List ℕ) (entries : List HistoryEntry) → HasPut v w places entries → HasTaken v w places entries
taken_put v w places entries put = record {
  more = record { known = known_same v w put.known; cursor = put.cursor; limit = put.limit; stable = put.stable; fault = put.fault };
  mine = put.mine ∙ ap (λ (l : List (ℕ × HistoryEntry)). v.mine ++ l) (places_zip places entries);
  heard = put.heard;
  told = put.told;
  rises = rises_of v.seen.cursor places put.rises;
  below = put.below;
}

-- a whole write wasn't stopped
pub not_stopped : (shape : Shape) (w : View) → IsStoppedFor shape w Whole
not_stopped shape w = record { down = λ device is. absurd (cc); ids = λ is. absurd (cc) }

-- the cause that the front gives is that of the stop
pub stopped_for : (shape : Shape) (before now : Loads) (w : View) (taken : ℕ) (why : WriteCause) (stop : Stop) → IsStopOf why stop → IsWriteCause shape before now w taken why → IsStoppedFor shape w stop
stopped_for shape before now w taken cause.Memory stop of because = absurd of
stopped_for shape before now w taken (cause.IdsSpent cursor) stop of because = record {
  down = λ device is. absurd (ids_down device (sym of ∙ is));
  ids = λ is. subst (λ (n : ℕ). 2 ^ 48 < segment_at shape n) (sym because.2) because.0;
}
  where
    ids_down : (device : Which) → Ids ≡ Down device → ⊥
    ids_down device is = cc
stopped_for shape before now w taken (cause.Down device) stop of because = record {
  down = λ other is. (subst (λ (x : Which). HasSeenDown x w) (same_device device other (sym of ∙ is)) (let down = because.down in omega (arith, down)), because.full);
  ids = λ is. absurd (down_ids device (sym of ∙ is));
}
  where
    same_device : (one other : Which) → Down one ≡ Down other → one ≡ other
    same_device one other is = cc

    down_ids : (device : Which) → Down device ≡ Ids → ⊥
    down_ids device is = cc

-- A write of a repeated pattern, of so many sectors. The front was given its bytes.
module _ (client : ℕ) (v : View) (sector count : ℕ) (pattern payload : List ℕ) (is : payload ≡ repeated pattern (512 * count)) (size : length payload ≡ 512 * count) where
  -- its entries are those that the request asks for
  asked_is : entries_of client (parts sector (length payload / 512)) payload ≡ entries_of client (parts sector count) (repeated pattern (512 * count))
  asked_is = λ i. entries_of client (parts sector (sectors_of_size (length payload) count size i)) (is i)

  pub asked_many : length (parts sector (length payload / 512)) ≡ length (entries_of client (parts sector count) (repeated pattern (512 * count)))
  asked_many = sym (entries_many client (parts sector (length payload / 512)) payload) ∙ ap length asked_is

  pub taken_as_asked : (w : View) (places : List ℕ) → HasPut v w places (entries_of client (parts sector (length payload / 512)) payload) → HasTaken v w places (entries_of client (parts sector count) (repeated pattern (512 * count)))
  taken_as_asked w places put = subst (HasTaken v w places) asked_is (taken_put v w places (entries_of client (parts sector (length payload / 512)) payload) put)

  pub fewer : (places : List ℕ) (stop : Stop) (why : WriteCause) → IsStopOf why stop → length places < length (parts sector (length payload / 512)) → HasPlaces stop places (entries_of client (parts sector count) (repeated pattern (512 * count)))
  fewer places stop cause.Memory of less = absurd of
  fewer places stop (cause.IdsSpent cursor) of less = subst (λ (s : Stop). HasPlaces s places (entries_of client (parts sector count) (repeated pattern (512 * count)))) (sym of) (omega (arith, less, asked_many))
  fewer places stop (cause.Down device) of less = subst (λ (s : Stop). HasPlaces s places (entries_of client (parts sector count) (repeated pattern (512 * count)))) (sym of) (omega (arith, less, asked_many))

-- ---- reads

-- the pass that read has forgotten nothing
pub looked_read : (v w : View) (history : List HistoryEntry) → HasRead v w history → HasLooked v w
looked_read v w history read = record {
  more = record { known = read.more; cursor = read.cursor; limit = read.limit; stable = read.stable; fault = read.fault };
  mine = read.mine;
  heard = read.heard;
  told = read.told;
}

-- the bytes are what the base image holds after all that the pass knows, where there is one
shown_over : (t : Carried) (base : Option Image) (bytes : List ℕ) (history : List HistoryEntry) (sector size count : ℕ) → IfSome base (IsBaseOf t) → size ≡ 512 * count
    → (t.log_told ≡ true → t.backing_told ≡ true → bytes ≡ bytes_at (after t.base history) sector (size / 512)) → IfSome base (λ image. bytes ≡ bytes_at (after image history) sector count)
shown_over t None bytes history sector size count of is shown = tt
shown_over t (Some image) bytes history sector size count of is shown =
    shown of.0 of.1 ∙ (λ i. bytes_at (after (sym of.2 i) history) sector (sectors_of_size size count is i))

module _ (t : Carried) (base : Option Image) (shape : Shape) (client : ℕ) (v w : View) (sector count size : ℕ) (of : IfSome base (IsBaseOf t)) (is : size ≡ 512 * count) (read : HasRead v w w.known) where
  module _ (bytes : List ℕ) (full : length bytes ≡ size) (shown : t.log_told ≡ true → t.backing_told ≡ true → bytes ≡ bytes_at (after t.base w.known) sector (size / 512)) (point : ℕ) (at : point ≡ length w.known) (later : v.seen.cursor ≤ point) where
    pub read_got : HasPlayed base shape client v w [] [] (Read sector count ∷ []) (Got point bytes ∷ [])
    read_got = subst (λ (n : ℕ). HasPlayed base shape client v w [] [] (Read sector count ∷ []) (Got n bytes ∷ [])) (sym at)
        (played_read base shape client v w sector count (looked_read v w w.known read) bytes (omega (arith, later, at)) read.few (full ∙ is) (shown_over t base bytes w.known sector size count of is shown))

    pub read_summed : HasPlayed base shape client v w [] [] (ReadSum sector count ∷ []) (Summed point (sum_of bytes) ∷ [])
    read_summed = subst (λ (n : ℕ). HasPlayed base shape client v w [] [] (ReadSum sector count ∷ []) (Summed n (sum_of bytes) ∷ [])) (sym at)
        (played_sum base shape client v w sector count (looked_read v w w.known read) bytes (omega (arith, later, at)) read.few (full ∙ is) (shown_over t base bytes w.known sector size count of is shown))

  pub read_failed : (request : Request) (failed : Which) → (request ≡ Read sector count) ⊎ (request ≡ ReadSum sector count) → ReadsRose (reads_part failed v.seen.fault) (reads_part failed w.seen.fault)
      → HasPlayed base shape client v w [] [] (request ∷ []) (Failed failed ∷ [])
  read_failed request failed asked rose = played_failed base shape client v w sector count (looked_read v w w.known read) request failed asked rose

-- ---- notes

pub told_note : (base : Option Image) (shape : Shape) (client other : ℕ) (v w : View) → w ≡ telling v → HasPlayed base shape client v w [] (v.seen.cursor ∷ []) (Tell other ∷ []) (Told ∷ [])
told_note base shape client other v w is = subst (λ (x : View). HasPlayed base shape client v x [] (v.seen.cursor ∷ []) (Tell other ∷ []) (Told ∷ [])) (sym is) (played_tell base shape client other v)

-- a note with what its client had told up to it, the last of which that had seen
pub heard_note : (base : Option Image) (shape : Shape) (client teller : ℕ) (v note w : View) (told : List ℕ) → v.role ≡ Owner → note.heard ≡ (teller, told) ∷ [] → last_of told ≤ note.seen.cursor → w ≡ hearing v note
    → HasPlayed base shape client v w ((teller, told) ∷ []) [] (Hear teller ∷ []) (Heard ∷ [])
heard_note base shape client teller v note w told owner heard last is =
    subst (λ (x : View). HasPlayed base shape client v x ((teller, told) ∷ []) [] (Hear teller ∷ []) (Heard ∷ [])) (sym is) (played_hear base shape client teller v note told owner heard last)

-- and the note that a pass told is such a one
pub heard_told : (base : Option Image) (shape : Shape) (client : ℕ) (v from note w : View) → v.role ≡ Owner → note ≡ note_of from → w ≡ hearing v note
    → HasPlayed base shape client v w ((from.client, from.told ++ from.seen.cursor ∷ []) ∷ []) [] (Hear from.client ∷ []) (Heard ∷ [])
heard_told base shape client v from note w owner of is =
    heard_note base shape client from.client v note w (from.told ++ from.seen.cursor ∷ []) owner (ap (λ (x : View). x.heard) of) (subst (λ (x : View). last_of (from.told ++ from.seen.cursor ∷ []) ≤ x.seen.cursor) (sym of) (last_noted from)) is
