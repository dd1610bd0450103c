-- One request, answered by one line.
use Rattle.std.proofs.Common.{ℕ, zero, suc, ◌≡◌, ◌+◌, ◌*◌, ◌-◌, ◌^◌, ◌<◌, ◌≤◌, Bool, true, false, cond, eqb, List, [], ◌∷◌, ◌++◌, length, map, take, drop, get_or, All, Option, None, Some, IfSome, ◌⊎◌, inl, inr, refl, ap, sym, ◌∙◌, subst, arith}
use Rattle.std.specs.List.{Any, zip}
use Rattle.std.proofs.lemmas.Bool.{eq-eqb}
use Rattle.std.proofs.lemmas.List.{append_assoc, append-nil, length-append}
use Rattle.std.proofs.lemmas.List.Elements.{All-head, All-tail}
use Rattle.std.proofs.lemmas.List.FromFn.{length-map-range_with_len}
use Rattle.std.proofs.Math.Seq.{take-append_seam}
use Rattle.wb_geometry.specs.Image.{Image, bytes_at}
use Rattle.wb_geometry.specs.History.{HistoryEntry, Void, after}
use Rattle.wb_geometry.specs.Requests.{parts, entries_of}
use Rattle.wb_geometry.specs.declared.request.Part.{Part}
use Rattle.wb_geometry.proofs.Histories.{length-parts_le}
use Rattle.wb_geometry.specs.declared.which.Which.{Which}
use Rattle.wb_geometry.specs.declared.which.Which.TheVariants.{Log, Backing}
use Rattle.wb_sum.specs.Crc32c.{sum_of}
use Rattle.wb_steps.specs.Views.{telling, hearing, heard_by}
use Rattle.wb_steps.specs.Rule.{segment_at}
use Rattle.wb_steps.specs.declared.shape.Shape.{Shape}
use Rattle.wb_steps.specs.declared.view.Role.{Role}
use Rattle.wb_steps.specs.declared.view.Role.TheVariants.{Owner}
use Rattle.wb_steps.specs.declared.view.View.{View}
use Rattle.wb_steps.proofs.Lists.{longer_more}
use Rattle.wb_script.specs.Patterns.{repeated}
use Rattle.wb_script.specs.Valid.{heard_of}
use Rattle.wb_script.specs.Transcripts.{Seen, seen_after, asked, voids_of, printed_line, printed, left_by, above, Rises, HasPlaces, IsFlush, IsForced, IsShown, Answers, is_failure, failures, HasStop, IsUnflushed}
use Rattle.wb_script.specs.declared.request.Request.{Request}
use Rattle.wb_script.specs.declared.request.Request.TheVariants.{Write, Read, ReadSum, Flush, Defer, Tell, Hear}
use Rattle.wb_script.specs.declared.transcript.Ended.{Ended}
use Rattle.wb_script.specs.declared.transcript.Line.{Line}
use Rattle.wb_script.specs.declared.transcript.Line.TheVariants.{Wrote, Forced, Got, Summed, Failed, Flushed, Deferred, Told, Heard}
use Rattle.wb_script.specs.declared.transcript.Stop.{Stop}
use Rattle.wb_script.specs.declared.transcript.Stop.TheVariants.{Whole, Down, Ids}
use Rattle.wb_front.specs.Words.{reads_part}
use Rattle.wb_client.specs.Played.{IsAhead, HasSeenMore, HasSeenDown, RoseTo, heard_from, last_of, AreWithin, AreLeft, hearer_of, told_for, awaited_line, HasPlayed}
use Rattle.wb_client.specs.Done.{HasLooked, HasTaken, IsStoppedFor, HasNumbered, HasFlushed}
use Rattle.wb_client.proofs.Playing.{none_more, more_same, more_trans}

-- what one line says of the request that it answers
pub record PlaysOne (base : Option Image) (shape : Shape) (client : ℕ) (v w : View) (heard : List (ℕ × List ℕ)) (told : List ℕ) (request : Request) (line : Line) : Type 0 where
  pub more : HasSeenMore v w
  pub mine : w.mine ≡ v.mine ++ printed_line client request line
  pub heard_more : w.heard ≡ v.heard ++ heard
  pub told_more : w.told ≡ v.told ++ told
  pub heard_each : (teller : ℕ) → length (heard_from teller heard) ≡ heard_of teller (request ∷ [])
  pub told_each : length told ≡ length (hearer_of request)
  pub seen_by : (seen : Seen) → seen.number ≤ v.seen.cursor → AreLeft seen.notes heard → (seen_after seen request line).number ≤ w.seen.cursor
  pub answers : (seen : Seen) → seen.number ≤ v.seen.cursor → AreLeft seen.notes heard → (history : List HistoryEntry) → IsAhead w history → Answers base history client seen request line
  pub tells : (seen : Seen) → seen.number ≤ v.seen.cursor → (hearer : ℕ) → AreWithin (left_by seen request hearer) (told_for hearer (request ∷ []) told)
  pub few : length (printed_line client request line) ≤ 160
  pub awaited : awaited_line line ≤ w.seen.stable
  pub failed : (device : Which) → RoseTo (is_failure device line) (reads_part device v.seen.fault) (reads_part device w.seen.fault)
  pub stopped_down : (device : Which) → HasStop (Down device) line → HasSeenDown device w × (v.seen.limit ≤ w.seen.cursor)
  pub stopped_ids : HasStop Ids line → 2 ^ 48 < segment_at shape w.seen.cursor
  pub undone : (device : Which) → IsUnflushed device line → HasSeenDown device w

one_of : (P : Line → Type 0) (line : Line) → Any P (line ∷ []) → P line
one_of P line (zero, x, lt, is, holds) = subst P (sym is) holds
one_of P line (suc k, x, lt, is, holds) = absurd (omega (arith, lt))

pub played_one : (base : Option Image) (shape : Shape) (client : ℕ) (v w : View) (heard : List (ℕ × List ℕ)) (told : List ℕ) (request : Request) (line : Line) → PlaysOne base shape client v w heard told request line → HasPlayed base shape client v w heard told (request ∷ []) (line ∷ [])
played_one base shape client v w heard told request line one =
    let same : printed client (request ∷ []) (line ∷ []) ≡ printed_line client request line = append-nil (printed_line client request line) in
    record {
      more = one.more;
      mine = one.mine ∙ ap (λ (l : List (ℕ × HistoryEntry)). v.mine ++ l) (sym same);
      heard_more = one.heard_more;
      told_more = one.told_more;
      heard_each = one.heard_each;
      told_each = one.told_each ∙ ap length (sym (append-nil (hearer_of request)));
      each = refl;
      answered = λ seen le left. record {
        seen_by = one.seen_by seen le left;
        answers = λ history ahead. (one.answers seen le left history ahead, tt);
        tells = λ hearer. subst (λ (l : List ℕ). AreWithin l (told_for hearer (request ∷ []) told)) (sym (append-nil (left_by seen request hearer))) (one.tells seen le hearer);
      };
      few = omega (arith, one.few, ap length same);
      awaited = omega (arith, one.awaited);
      failed = λ device. subst (λ (n : ℕ). RoseTo n (reads_part device v.seen.fault) (reads_part device w.seen.fault)) (let e : is_failure device line ≡ failures device (line ∷ []) = omega arith in e) (one.failed device);
      stopped_down = λ device some. one.stopped_down device (one_of (HasStop (Down device)) line some);
      stopped_ids = λ some. one.stopped_ids (one_of (HasStop Ids) line some);
      undone = λ device some. one.undone device (one_of (IsUnflushed device) line some);
    }

-- a line that says of no read that it failed
none_failed : (line : Line) (v w : View) → HasSeenMore v w → is_failure Log line ≡ 0 → is_failure Backing line ≡ 0 → (device : Which) → RoseTo (is_failure device line) (reads_part device v.seen.fault) (reads_part device w.seen.fault)
none_failed line v w more log backing Log = omega (arith, more.fault.log_reads, log)
none_failed line v w more log backing Backing = omega (arith, more.fault.backing_reads, backing)

-- ---- places

pub rises_lower : (low high : ℕ) (places : List ℕ) → low ≤ high → Rises high places → Rises low places
rises_lower low high [] le rises = tt
rises_lower low high (place ∷ places) le rises = (omega (arith, rises.0), rises.1)

pub above_below : (number most : ℕ) (places : List ℕ) → number ≤ most → All (λ place. place < most) places → above number places ≤ most
above_below number most [] le below = le
above_below number most (place ∷ places) le below =
    above_below (place + 1) most places (omega (arith, All-head (λ (p : ℕ). p < most) place places below)) (All-tail (λ (p : ℕ). p < most) place places below)

pub length-zip_le : (places : List ℕ) (entries : List HistoryEntry) → length (zip places entries) ≤ length entries
length-zip_le [] entries = omega arith
length-zip_le (place ∷ places) [] = omega arith
length-zip_le (place ∷ places) (entry ∷ entries) = let rest = length-zip_le places entries in omega arith

pub asked_few : (client sector count : ℕ) (bytes : List ℕ) → count ≤ 256 → length (entries_of client (parts sector count) bytes) ≤ 33
asked_few client sector count bytes few = omega (arith, sizes (parts sector count) bytes, length-parts_le sector count few)
  where
    sizes : (ps : List Part) (bytes : List ℕ) → length (entries_of client ps bytes) ≡ length ps
    sizes [] bytes = refl
    sizes (p ∷ ps) bytes = ap suc (sizes ps (drop (512 * p.count) bytes))

voids_many : (client : ℕ) (ended : Ended) → length (voids_of client ended) ≡ ended.voids
voids_many client ended = length-map-range_with_len (λ (place : ℕ). (place, Void client)) (ended.through - ended.voids) ended.voids

none_some : {X : Type 0} {x : X} → ◌≡◌ {A = Option X} None (Some x) → ⊥
none_some is = cc

-- ---- writes

module _ (base : Option Image) (shape : Shape) (client : ℕ) (v w : View) (sector count : ℕ) (pattern : List ℕ) (few : count ≤ 256) where
  pub played_write : (places : List ℕ) (stop : Stop) → HasTaken v w places (asked client (Write sector count pattern false)) → HasPlaces stop places (asked client (Write sector count pattern false)) → IsStoppedFor shape w stop
      → HasPlayed base shape client v w [] [] (Write sector count pattern false ∷ []) (Wrote places stop ∷ [])
  played_write places stop taken has why = played_one base shape client v w [] [] (Write sector count pattern false) (Wrote places stop) (record {
    more = taken.more;
    mine = taken.mine;
    heard_more = none_more w.heard v.heard taken.heard;
    told_more = none_more w.told v.told taken.told;
    heard_each = λ teller. refl;
    told_each = refl;
    seen_by = λ seen le left. above_below seen.number w.seen.cursor places (omega (arith, le, taken.more.cursor)) taken.below;
    answers = λ seen le left history ahead. ((sector, count, pattern, refl), rises_lower seen.number v.seen.cursor places le taken.rises, has);
    tells = λ seen le hearer. tt;
    few = omega (arith, length-zip_le places (asked client (Write sector count pattern false)), asked_few client sector count (repeated pattern (512 * count)) few);
    awaited = omega arith;
    failed = none_failed (Wrote places stop) v w taken.more refl refl;
    stopped_down = λ device is. let down = why.down device is in (down.0, omega (arith, down.1, taken.more.limit));
    stopped_ids = why.ids;
    undone = λ device none. absurd none;
  })

  -- with `fua` it is flushed, where it is whole
  pub played_forced : (number : ℕ) (u : View) (places : List ℕ) (ended : Ended) → HasTaken v u places (asked client (Write sector count pattern true)) → length places ≡ length (asked client (Write sector count pattern true)) → HasFlushed number client u w ended
      → HasPlayed base shape client v w [] [] (Write sector count pattern true ∷ []) (Forced places (Some ended) Whole ∷ [])
  played_forced number u places ended taken whole flushed =
      let entries : List HistoryEntry = asked client (Write sector count pattern true) in
      let numbered : HasNumbered client u w ended = flushed.numbered in
      let more : HasSeenMore v w = more_trans v u w taken.more numbered.more in
      let over : (seen : Seen) → seen.number ≤ v.seen.cursor → above seen.number places ≤ u.seen.cursor = λ seen le. above_below seen.number u.seen.cursor places (omega (arith, le, taken.more.cursor)) taken.below in
      played_one base shape client v w [] [] (Write sector count pattern true) (Forced places (Some ended) Whole) (record {
        more = more;
        mine =
            numbered.mine ∙ ap (λ (l : List (ℕ × HistoryEntry)). l ++ voids_of client ended) taken.mine
            ∙ append_assoc v.mine (zip places entries) (voids_of client ended);
        heard_more = none_more w.heard v.heard (numbered.heard ∙ taken.heard);
        told_more = none_more w.told v.told (numbered.told ∙ taken.told);
        heard_each = λ teller. refl;
        told_each = refl;
        seen_by = λ seen le left. numbered.seen;
        answers = λ seen le left history ahead. (
          (sector, count, pattern, refl),
          rises_lower seen.number v.seen.cursor places le taken.rises,
          whole,
          record { after_seen = omega (arith, over seen le, numbered.behind); inside = omega (arith, numbered.seen, ahead.seen) },
        );
        tells = λ seen le hearer. tt;
        few = omega (arith, length-append (zip places entries) (voids_of client ended), length-zip_le places entries, asked_few client sector count (repeated pattern (512 * count)) few, voids_many client ended, numbered.few);
        awaited = flushed.done;
        failed = none_failed (Forced places (Some ended) Whole) v w more refl refl;
        stopped_down = λ device is. absurd (cc);
        stopped_ids = λ is. absurd (cc);
        undone = λ device is. (flushed.undone device is.0).0;
      })

  -- and else it isn't
  pub played_forced_stopped : (places : List ℕ) (stop : Stop) → (stop ≡ Whole → ⊥) → HasTaken v w places (asked client (Write sector count pattern true)) → HasPlaces stop places (asked client (Write sector count pattern true)) → IsStoppedFor shape w stop
      → HasPlayed base shape client v w [] [] (Write sector count pattern true ∷ []) (Forced places None stop ∷ [])
  played_forced_stopped places stop stopped taken has why =
      let entries : List HistoryEntry = asked client (Write sector count pattern true) in
      played_one base shape client v w [] [] (Write sector count pattern true) (Forced places None stop) (record {
        more = taken.more;
        mine = taken.mine ∙ ap (λ (l : List (ℕ × HistoryEntry)). v.mine ++ l) (sym (append-nil (zip places entries)));
        heard_more = none_more w.heard v.heard taken.heard;
        told_more = none_more w.told v.told taken.told;
        heard_each = λ teller. refl;
        told_each = refl;
        seen_by = λ seen le left. above_below seen.number w.seen.cursor places (omega (arith, le, taken.more.cursor)) taken.below;
        answers = λ seen le left history ahead.
            ((sector, count, pattern, refl), rises_lower seen.number v.seen.cursor places le taken.rises, has, unforced stop stopped (above seen.number places) (length history));
        tells = λ seen le hearer. tt;
        few = omega (arith, length-append (zip places entries) [], length-zip_le places entries, asked_few client sector count (repeated pattern (512 * count)) few);
        awaited = omega arith;
        failed = none_failed (Forced places None stop) v w taken.more refl refl;
        stopped_down = λ device is. let down = why.down device is in (down.0, omega (arith, down.1, taken.more.limit));
        stopped_ids = why.ids;
        undone = λ device is. absurd (none_some is.1.1);
      })
    where
      unforced : (stop : Stop) → (stop ≡ Whole → ⊥) → (seen places : ℕ) → IsForced seen places stop None
      unforced Whole stopped seen places = absurd (stopped refl)
      unforced (Down device) stopped seen places = tt
      unforced Ids stopped seen places = tt

-- ---- reads

module _ (base : Option Image) (shape : Shape) (client : ℕ) (v w : View) (sector count : ℕ) (looked : HasLooked v w) where
  shown : (bytes : List ℕ) → v.seen.cursor ≤ length w.known → length bytes ≡ 512 * count → IfSome base (λ image. bytes ≡ bytes_at (after image w.known) sector count)
      → (seen : Seen) → seen.number ≤ v.seen.cursor → (history : List HistoryEntry) → IsAhead w history → IsShown base history seen.number (length w.known) sector count bytes
  shown bytes later size are seen le history ahead = record {
    later = omega (arith, le, later);
    inside = omega (arith, ap length ahead.known.1, length-append w.known ahead.known.0);
    size = size;
    are =
        subst (λ (l : List HistoryEntry). IfSome base (λ image. bytes ≡ bytes_at (after image l) sector count))
        (sym (ap (take (length w.known)) ahead.known.1 ∙ take-append_seam w.known ahead.known.0)) are;
  }

  pub played_read : (bytes : List ℕ) → v.seen.cursor ≤ length w.known → length w.known ≤ w.seen.cursor → length bytes ≡ 512 * count → IfSome base (λ image. bytes ≡ bytes_at (after image w.known) sector count)
      → HasPlayed base shape client v w [] [] (Read sector count ∷ []) (Got (length w.known) bytes ∷ [])
  played_read bytes later below size are = played_one base shape client v w [] [] (Read sector count) (Got (length w.known) bytes) (record {
    more = looked.more;
    mine = none_more w.mine v.mine looked.mine;
    heard_more = none_more w.heard v.heard looked.heard;
    told_more = none_more w.told v.told looked.told;
    heard_each = λ teller. refl;
    told_each = refl;
    seen_by = λ seen le left. below;
    answers = λ seen le left history ahead. (sector, count, refl, shown bytes later size are seen le history ahead);
    tells = λ seen le hearer. tt;
    few = omega arith;
    awaited = omega arith;
    failed = none_failed (Got (length w.known) bytes) v w looked.more refl refl;
    stopped_down = λ device none. absurd none;
    stopped_ids = λ none. absurd none;
    undone = λ device none. absurd none;
  })

  pub played_sum : (bytes : List ℕ) → v.seen.cursor ≤ length w.known → length w.known ≤ w.seen.cursor → length bytes ≡ 512 * count → IfSome base (λ image. bytes ≡ bytes_at (after image w.known) sector count)
      → HasPlayed base shape client v w [] [] (ReadSum sector count ∷ []) (Summed (length w.known) (sum_of bytes) ∷ [])
  played_sum bytes later below size are = played_one base shape client v w [] [] (ReadSum sector count) (Summed (length w.known) (sum_of bytes)) (record {
    more = looked.more;
    mine = none_more w.mine v.mine looked.mine;
    heard_more = none_more w.heard v.heard looked.heard;
    told_more = none_more w.told v.told looked.told;
    heard_each = λ teller. refl;
    told_each = refl;
    seen_by = λ seen le left. below;
    answers = λ seen le left history ahead. (sector, count, refl, (bytes, refl, shown bytes later size are seen le history ahead));
    tells = λ seen le hearer. tt;
    few = omega arith;
    awaited = omega arith;
    failed = none_failed (Summed (length w.known) (sum_of bytes)) v w looked.more refl refl;
    stopped_down = λ device none. absurd none;
    stopped_ids = λ none. absurd none;
    undone = λ device none. absurd none;
  })

  -- a read of that device failed
  pub played_failed : (request : Request) (failed : Which) → (request ≡ Read sector count) ⊎ (request ≡ ReadSum sector count) → RoseTo 1 (reads_part failed v.seen.fault) (reads_part failed w.seen.fault)
      → HasPlayed base shape client v w [] [] (request ∷ []) (Failed failed ∷ [])
  played_failed request failed read rose = played_one base shape client v w [] [] request (Failed failed) (record {
    more = looked.more;
    mine = none_more w.mine v.mine looked.mine;
    heard_more = none_more w.heard v.heard looked.heard;
    told_more = none_more w.told v.told looked.told;
    heard_each = λ teller. of_read (λ r. 0 ≡ heard_of teller (r ∷ [])) refl refl;
    told_each = of_read (λ r. 0 ≡ length (hearer_of r)) refl refl;
    seen_by = λ seen le left. omega (arith, le, looked.more.cursor);
    answers = λ seen le left history ahead. (sector, count, read);
    tells = λ seen le hearer. of_read (λ r. AreWithin (left_by seen r hearer) (told_for hearer (r ∷ []) [])) tt tt;
    few = omega arith;
    awaited = omega arith;
    failed = λ device. rises failed device rose;
    stopped_down = λ device none. absurd none;
    stopped_ids = λ none. absurd none;
    undone = λ device none. absurd none;
  })
    where
      of_read : (P : Request → Type 0) → P (Read sector count) → P (ReadSum sector count) → P request
      of_read P one other = elim read [
        | inl is ↦ subst P (sym is) one
        | inr is ↦ subst P (sym is) other
      ]

      rises : (failed device : Which) → RoseTo 1 (reads_part failed v.seen.fault) (reads_part failed w.seen.fault) → RoseTo (is_failure device (Failed failed)) (reads_part device v.seen.fault) (reads_part device w.seen.fault)
      rises Log Log rose = rose
      rises Log Backing rose = omega (arith, looked.more.fault.backing_reads)
      rises Backing Log rose = omega (arith, looked.more.fault.log_reads)
      rises Backing Backing rose = rose

-- ---- flushes

module _ (base : Option Image) (shape : Shape) (client : ℕ) (v w : View) (ended : Ended) (numbered : HasNumbered client v w ended) where
  is_flush : (seen : Seen) → seen.number ≤ v.seen.cursor → (history : List HistoryEntry) → IsAhead w history → IsFlush seen.number (length history) ended
  is_flush seen le history ahead = record { after_seen = omega (arith, le, numbered.behind); inside = omega (arith, numbered.seen, ahead.seen) }

  pub played_flush : (number : ℕ) → HasFlushed number client v w ended → HasPlayed base shape client v w [] [] (Flush ∷ []) (Flushed ended ∷ [])
  played_flush number flushed = played_one base shape client v w [] [] Flush (Flushed ended) (record {
    more = numbered.more;
    mine = numbered.mine;
    heard_more = none_more w.heard v.heard numbered.heard;
    told_more = none_more w.told v.told numbered.told;
    heard_each = λ teller. refl;
    told_each = refl;
    seen_by = λ seen le left. numbered.seen;
    answers = λ seen le left history ahead. (refl, is_flush seen le history ahead);
    tells = λ seen le hearer. tt;
    few = omega (arith, voids_many client ended, numbered.few);
    awaited = flushed.done;
    failed = none_failed (Flushed ended) v w numbered.more refl refl;
    stopped_down = λ device none. absurd none;
    stopped_ids = λ none. absurd none;
    undone = λ device is. (flushed.undone device is).0;
  })

  -- a posted one, which is awaited at the end
  pub played_defer : ended.down ≡ None → HasPlayed base shape client v w [] [] (Defer ∷ []) (Deferred ended ∷ [])
  played_defer up = played_one base shape client v w [] [] Defer (Deferred ended) (record {
    more = numbered.more;
    mine = numbered.mine;
    heard_more = none_more w.heard v.heard numbered.heard;
    told_more = none_more w.told v.told numbered.told;
    heard_each = λ teller. refl;
    told_each = refl;
    seen_by = λ seen le left. numbered.seen;
    answers = λ seen le left history ahead. (refl, is_flush seen le history ahead);
    tells = λ seen le hearer. tt;
    few = omega (arith, voids_many client ended, numbered.few);
    awaited = omega arith;
    failed = none_failed (Deferred ended) v w numbered.more refl refl;
    stopped_down = λ device none. absurd none;
    stopped_ids = λ none. absurd none;
    undone = λ device is. absurd (none_some (sym up ∙ is));
  })

-- ---- notes

-- the pass tells a note
pub played_tell : (base : Option Image) (shape : Shape) (client other : ℕ) (v : View) → HasPlayed base shape client v (telling v) [] (v.seen.cursor ∷ []) (Tell other ∷ []) (Told ∷ [])
played_tell base shape client other v =
    let same = more_same v in
    let more : HasSeenMore v (telling v) = record { known = same.known; cursor = same.cursor; limit = same.limit; stable = same.stable; fault = same.fault } in
    played_one base shape client v (telling v) [] (v.seen.cursor ∷ []) (Tell other) Told (record {
      more = more;
      mine = none_more v.mine v.mine refl;
      heard_more = none_more v.heard v.heard refl;
      told_more = refl;
      heard_each = λ teller. refl;
      told_each = refl;
      seen_by = λ seen le left. le;
      answers = λ seen le left history ahead. (other, refl);
      tells = λ seen le hearer. told_one (eqb other hearer) seen.number v.seen.cursor le;
      few = omega arith;
      awaited = omega arith;
      failed = none_failed Told v (telling v) more refl refl;
      stopped_down = λ device none. absurd none;
      stopped_ids = λ none. absurd none;
      undone = λ device none. absurd none;
    })
  where
    told_one : (b : Bool) (number cursor : ℕ) → number ≤ cursor → AreWithin (cond b (number ∷ []) []) (map (λ (p : ℕ × ℕ). p.1) (cond b ((other, cursor) ∷ []) []))
    told_one true number cursor le = (le, tt)
    told_one false number cursor le = tt

-- and hears one of a client, with what that had told. What it knows is the longer of both, and begins as before.
module _ (base : Option Image) (shape : Shape) (client teller : ℕ) (v note : View) (told : List ℕ) (owner : v.role ≡ Owner) (heard : note.heard ≡ (teller, told) ∷ []) (last : last_of told ≤ note.seen.cursor) where
  within_one : (left : List ℕ) (number : ℕ) → AreWithin left (number ∷ []) → (first : ℕ) × (rest : List ℕ) × (left ≡ first ∷ rest) × (first ≤ number)
  within_one [] number within = absurd within
  within_one (first ∷ rest) number within = (first, rest, refl, within.0)

  first_left : (seen : Seen) → AreLeft seen.notes ((teller, told) ∷ []) → (first : ℕ) × (rest : List ℕ) × (seen.notes teller ≡ first ∷ rest) × (first ≤ last_of told)
  first_left seen left =
      within_one (seen.notes teller) (last_of told)
      (subst (λ (b : Bool). AreWithin (seen.notes teller) (map last_of (map (λ (p : ℕ × List ℕ). p.1) (cond b ((teller, told) ∷ []) [])))) (eq-eqb teller teller refl) (left teller))

  heard_one : (b : Bool) → length (map (λ (p : ℕ × List ℕ). p.1) (cond b ((teller, told) ∷ []) [])) ≡ length (cond b (Hear teller ∷ []) [])
  heard_one true = refl
  heard_one false = refl

  more : HasSeenMore v (hearing v note)
  more = record {
    known = longer_more v.known note.known;
    cursor = omega arith;
    limit = omega arith;
    stable = omega arith;
    fault = record { log_down = omega arith; backing_down = omega arith; log_reads = omega arith; backing_reads = omega arith };
  }

  pub played_hear : HasPlayed base shape client v (hearing v note) ((teller, told) ∷ []) [] (Hear teller ∷ []) (Heard ∷ [])
  played_hear = played_one base shape client v (hearing v note) ((teller, told) ∷ []) [] (Hear teller) Heard (record {
    more = more;
    mine = none_more v.mine v.mine refl;
    heard_more = ap (λ (r : Role). heard_by r v.heard note.heard) owner ∙ ap (λ (l : List (ℕ × List ℕ)). v.heard ++ l) heard;
    told_more = none_more v.told v.told refl;
    heard_each = λ other. heard_one (eqb teller other);
    told_each = refl;
    seen_by = λ seen le left.
        let found = first_left seen left in
        let number : get_or (seen.notes teller) 0 0 ≡ found.0 = ap (λ (l : List ℕ). get_or l 0 0) found.2 in
        omega (arith, le, last, number, found.3);
    answers = λ seen le left history ahead. let found = first_left seen left in (teller, refl, found.0, found.1, found.2);
    tells = λ seen le hearer. tt;
    few = omega arith;
    awaited = omega arith;
    failed = none_failed Heard v (hearing v note) more refl refl;
    stopped_down = λ device none. absurd none;
    stopped_ids = λ none. absurd none;
    undone = λ device none. absurd none;
  })
