-- A request, answered over the engine: which line, and which entries it prints.
use Rattle.std.proofs.Common.{ℕ, ◌≡◌, ◌+◌, ◌*◌, ◌<◌, ◌≤◌, true, false, List, [], ◌∷◌, ◌++◌, length, take, max, All, Option, Some, None, ◌⊎◌, inl, inr, refl, ap, sym, ◌∙◌, subst, arith, append-nil, length-append}
use Rattle.std.specs.List.{enumerate_from, range_with_len, zip, slice_index_or}
use Rattle.std.proofs.lemmas.List.{take_all, length-replicate}
use Rattle.std.proofs.lemmas.Option.{IfSome_then}
use Rattle.std.proofs.lemmas.List.Elements.{All-nil, All-append, All-head}
use Rattle.wb_geometry.specs.Image.{Image, bytes_at}
use Rattle.wb_geometry.specs.History.{HistoryEntry, Void, client_of, after}
use Rattle.wb_geometry.specs.Requests.{parts, entries_of}
use Rattle.wb_geometry.specs.Device.{State}
use Rattle.wb_geometry.proofs.Geometries.{places_few}
use Rattle.wb_geometry.specs.declared.which.Which.{Which}
use Rattle.wb_geometry.specs.declared.which.Which.TheVariants.{Log, Backing}
use Rattle.wb_sum.specs.Crc32c.{sum_of}
use Rattle.wb_script.specs.Patterns.{repeated}
use Rattle.wb_script.specs.Transcripts.{Rises, HasPlaces, IsForced, IsFlush, IsShown, voids_of, above, is_failure, done_through}
use Rattle.wb_script.proofs.Sessions.{enumerate_from-append}
use Rattle.wb_script.specs.declared.request.Request.{Request}
use Rattle.wb_script.specs.declared.request.Request.TheVariants.{Write, Read, ReadSum, Flush, Defer, Tell, Hear}
use Rattle.wb_script.specs.declared.transcript.Ended.{Ended}
use Rattle.wb_script.specs.declared.transcript.Line.{Line}
use Rattle.wb_script.specs.declared.transcript.Line.TheVariants.{Wrote, Forced, Got, Summed, Failed, Flushed, Deferred, Told, Heard}
use Rattle.wb_script.specs.declared.transcript.Stop.{Stop}
use Rattle.wb_script.specs.declared.transcript.Stop.TheVariants.{Whole, Down, Ids}
use Rattle.wb_engine.specs.Content.{EngineContent}
use Rattle.wb_engine.specs.Standing.{Standing}
use Rattle.wb_engine.specs.Standing as standing
use Rattle.wb_engine.specs.Settling.{stable_places}
use Rattle.wb_serve.specs.Playing.{HasMoved, StandsOver, IsStoppedWith, IsStoppedDown, AreSpent, TakesPlaces, IsPosted, IsFlushed, IsForcedLine, EndsFlush, IsAnswered, voids}
use Rattle.wb_serve.proofs.Moves.{moved_none, moved_then}
use Rattle.wb_serve.proofs.Faults.{some_of}
use Rattle.wb_serve.proofs.Spent.{still_spent}
use Rattle.wb_serve.proofs.Lines.{zip_range, rises_range, above_range, own_entries, All-front, own_voids, voids_printed, has_places}

-- ---- how a write ended

module _ {L B : Type 0} (f : EngineContent L B) where
  rest_none : (stop : Stop) (rest : List HistoryEntry) → IsStoppedWith f rest stop → stop ≡ Whole → rest ≡ []
  rest_none Whole rest stopped is = stopped
  rest_none (Down device) rest stopped is = absurd (cc)
  rest_none Ids rest stopped is = absurd (cc)

  rest_some : (stop : Stop) (rest : List HistoryEntry) → IsStoppedWith f rest stop → (stop ≡ Whole → ⊥) → 1 ≤ length rest
  rest_some Whole rest stopped not = absurd (not refl)
  rest_some (Down device) rest stopped not = stopped.0
  rest_some Ids rest stopped not = stopped.0

  rest_down : (stop : Stop) (rest : List HistoryEntry) (device : Which) → IsStoppedWith f rest stop → stop ≡ Down device → IsStoppedDown f device
  rest_down stop rest device stopped is = (subst (IsStoppedWith f rest) is stopped).1

  rest_ids : (stop : Stop) (rest : List HistoryEntry) → IsStoppedWith f rest stop → stop ≡ Ids → AreSpent f
  rest_ids stop rest stopped is = (subst (IsStoppedWith f rest) is stopped).1

-- a flush that was done
done_stable : (ended : Ended) (stable : ℕ) → (ended.down ≡ None → ended.through ≤ stable) → done_through ended ≤ stable
done_stable ended stable done = elim ended.down as (λ down. ended.down ≡ down → done_through (record { through = ended.through; voids = ended.voids; down = down }) ≤ stable) [
  | None ↦ λ is. done is
  | Some device ↦ λ is. omega arith
] refl

-- what the places of a write say of its entries, of which these came at a place and the next
record IsWritten (client from : ℕ) (all taken : List HistoryEntry) (taken_places : List ℕ) (stop : Stop) : Type 0 where
  once : zip taken_places all ≡ enumerate_from from taken
  own : All (λ entry. client_of entry ≡ client) taken
  rises : (n : ℕ) → n ≤ from → Rises n taken_places
  has : HasPlaces stop taken_places all
  high : (n : ℕ) → n ≤ from → above n taken_places ≤ from + length taken
  few : length taken ≤ length all

-- the entries that a write asks for
abbrev pub entries_asked : (client sector count : ℕ) → List ℕ → List HistoryEntry
entries_asked client sector count pattern = entries_of client (parts sector count) (repeated pattern (512 * count))

-- what the number of a flush and its places say
record IsEnded {L B : Type 0} (of_log : L → State) (of_backing : B → State) (client : ℕ) (e f : EngineContent L B) (ended : Ended) : Type 0 where
  once : voids_of client ended ≡ enumerate_from e.absorbed (voids client ended.voids)
  answers : {content : Option Image} {h : List HistoryEntry} → StandsOver of_log of_backing content e h → (seen : ℕ) → seen ≤ e.absorbed → IsFlush seen (length (h ++ voids client ended.voids)) ended
  sees : ended.through ≤ e.absorbed + length (voids client ended.voids)

-- what the next note hands on isn't more than was absorbed
first_below : (most number : ℕ) (notes : List ℕ) → number ≤ most → All (λ note. note ≤ most) notes → max number (slice_index_or notes 0 0) ≤ most
first_below most number [] le all = omega arith
first_below most number (note ∷ notes) le all = let first = All-head (λ note. note ≤ most) note notes all in omega (arith, first)

-- there is a note, and those behind it
some_note : (notes : List ℕ) → 1 ≤ length notes → (note : ℕ) × (more : List ℕ) × (notes ≡ note ∷ more)
some_note [] some = absurd (omega arith)
some_note (note ∷ more) some = (note, more, refl)

module _ {L B : Type 0} {of_log : L → State} {of_backing : B → State} where
  -- how a flush ended over the engine
  end_of : {e f : EngineContent L B} {client : ℕ} {ended : Ended} → IsFlushed of_log of_backing client e f ended → EndsFlush f ended
  end_of flushed = record { whole = flushed.whole; few = flushed.few; done = flushed.done; undone = flushed.undone }

  -- ---- a write

  written_by : {e f : EngineContent L B} (client sector count : ℕ) (pattern taken : List ℕ) (stop : Stop)
      → (takes : TakesPlaces of_log of_backing e f (entries_asked client sector count pattern) taken stop)
      → IsWritten client e.absorbed (entries_asked client sector count pattern) takes.taken taken stop
  written_by {e} {f} client sector count pattern taken stop takes =
      let all : List HistoryEntry = entries_asked client sector count pattern in
      let own : All (λ entry. client_of entry ≡ client) all = own_entries client (parts sector count) (repeated pattern (512 * count)) in
      let places_taken : List ℕ = range_with_len e.absorbed (length takes.taken) in
      record {
        once =
            ap (λ (ps : List ℕ). zip ps all) takes.are
            ∙ ap (λ (es : List HistoryEntry). zip places_taken es) takes.all
            ∙ zip_range e.absorbed takes.taken takes.rest;
        own = All-front (λ entry. client_of entry ≡ client) takes.taken takes.rest (subst (All (λ entry. client_of entry ≡ client)) takes.all own);
        rises = λ n le. subst (Rises n) (sym takes.are) (rises_range n e.absorbed (length takes.taken) le);
        has = subst (λ (ps : List ℕ). HasPlaces stop ps all) (sym takes.are)
            (has_places stop e.absorbed takes.taken takes.rest all takes.all (rest_none f stop takes.rest takes.stopped) (rest_some f stop takes.rest takes.stopped));
        high = λ n le. subst (λ (ps : List ℕ). above n ps ≤ e.absorbed + length takes.taken) (sym takes.are) (above_range n e.absorbed (length takes.taken) le);
        few = omega (arith, ap length takes.all, length-append takes.taken takes.rest);
      }

  -- Its parts took the next places, or the first of them.
  pub answered_write : {e f : EngineContent L B} (client sector count : ℕ) (pattern taken : List ℕ) (stop : Stop)
      → length (entries_asked client sector count pattern) ≤ 33 → TakesPlaces of_log of_backing e f (entries_asked client sector count pattern) taken stop
      → IsAnswered of_log of_backing client (Write sector count pattern false) e f (Wrote taken stop)
  answered_write {e} {f} client sector count pattern taken stop parts_few takes =
      let written = written_by client sector count pattern taken stop takes in
      record {
        entries = takes.taken;
        moved = takes.moved;
        once = written.once;
        own = written.own;
        answers = λ content h over seen le may. ((sector, count, pattern, refl), written.rises seen.number le, written.has);
        sees = λ seen le below. written.high seen.number le;
        stopped_down = λ device is. rest_down f stop takes.rest device takes.stopped is;
        unflushed = λ device is. absurd is;
        stopped_ids = λ is. rest_ids f stop takes.rest takes.stopped is;
        awaited = omega arith;
        flushed = tt;
        posted = tt;
        quiet = λ is. absurd (cc);
        few = let few = written.few in omega (arith, few, parts_few);
        none_left = takes.none_left;
      }

  -- It was stopped, so it isn't flushed.
  pub answered_stopped : {e f : EngineContent L B} (client sector count : ℕ) (pattern taken : List ℕ) (stop : Stop) → (stop ≡ Whole → ⊥)
      → length (entries_asked client sector count pattern) ≤ 33 → TakesPlaces of_log of_backing e f (entries_asked client sector count pattern) taken stop
      → IsAnswered of_log of_backing client (Write sector count pattern true) e f (Forced taken None stop)
  answered_stopped {e} {f} client sector count pattern taken stop not parts_few takes =
      let written = written_by client sector count pattern taken stop takes in
      record {
        entries = takes.taken;
        moved = takes.moved;
        once = append-nil (zip taken (entries_asked client sector count pattern)) ∙ written.once;
        own = written.own;
        answers = λ content h over seen le may. ((sector, count, pattern, refl), written.rises seen.number le, written.has, unforced (above seen.number taken) (length (h ++ takes.taken)) stop not);
        sees = λ seen le below. written.high seen.number le;
        stopped_down = λ device is. rest_down f stop takes.rest device takes.stopped is;
        unflushed = λ device is. absurd (let none = is.1.1 in cc);
        stopped_ids = λ is. rest_ids f stop takes.rest takes.stopped is;
        awaited = omega arith;
        flushed = tt;
        posted = tt;
        quiet = λ is. absurd (cc);
        few = let few = written.few in omega (arith, few, parts_few);
        none_left = takes.none_left;
      }
    where
      unforced : (seen count : ℕ) (stop : Stop) → (stop ≡ Whole → ⊥) → IsForced seen count stop None
      unforced seen count Whole not = absurd (not refl)
      unforced seen count (Down device) not = tt
      unforced seen count Ids not = tt

  -- It was whole, and flushed.
  pub answered_forced : {e m f : EngineContent L B} (client sector count : ℕ) (pattern taken : List ℕ) (ended : Ended)
      → length (entries_asked client sector count pattern) ≤ 33 → TakesPlaces of_log of_backing e m (entries_asked client sector count pattern) taken Whole → IsFlushed of_log of_backing client m f ended
      → IsAnswered of_log of_backing client (Write sector count pattern true) e f (Forced taken (Some ended) Whole)
  answered_forced {e} {m} {f} client sector count pattern taken ended parts_few takes flushed =
      let written = written_by client sector count pattern taken Whole takes in
      let behind : List HistoryEntry = voids client ended.voids in
      let come : m.absorbed ≡ e.absorbed + length takes.taken = takes.moved.absorbed in
      let came : f.absorbed ≡ m.absorbed + ended.voids = let size = length-replicate ended.voids (Void client) in omega (arith, flushed.moved.absorbed, size) in
      let from : voids_of client ended ≡ enumerate_from m.absorbed behind = voids_printed client m.absorbed ended (flushed.through ∙ came) in
      record {
        entries = takes.taken ++ behind;
        moved = moved_then takes.moved flushed.moved;
        once =
            ap (λ (ps : List (ℕ × HistoryEntry)). ps ++ voids_of client ended) written.once
            ∙ ap (λ (ps : List (ℕ × HistoryEntry)). enumerate_from e.absorbed takes.taken ++ ps) (from ∙ ap (λ (n : ℕ). enumerate_from n behind) come)
            ∙ sym (enumerate_from-append e.absorbed takes.taken behind);
        own = All-append (λ entry. client_of entry ≡ client) takes.taken behind written.own (own_voids client ended.voids);
        answers = λ content h over seen le may.
            let high = written.high seen.number le in (
              (sector, count, pattern, refl),
              written.rises seen.number le,
              written.has,
              record {
                after_seen = omega (arith, high, come, came, flushed.through);
                inside = let through = flushed.through in omega (arith, through, came, come, over.places, length-append h (takes.taken ++ behind), length-append takes.taken behind, length-replicate ended.voids (Void client));
              },
            );
        sees = λ seen le below. let through = flushed.through in omega (arith, through, came, come, length-append takes.taken behind, length-replicate ended.voids (Void client));
        stopped_down = λ device is. absurd (cc);
        unflushed = λ device is. (some_of (λ which. (f.down ≡ Some which) × (stable_places f < ended.through)) flushed.undone is.0).0;
        stopped_ids = λ is. absurd (cc);
        awaited = done_stable ended (stable_places f) flushed.done;
        flushed = end_of flushed;
        posted = tt;
        quiet = λ is. absurd (cc);
        few = let few = written.few in let some = flushed.few in omega (arith, few, parts_few, some, (places_few f.geometry).1, length-append takes.taken behind, length-replicate ended.voids (Void client));
        none_left = λ spent.
            let none = takes.none_left spent in
            let still : AreSpent m = still_spent takes.moved none spent in
            ap (λ (es : List HistoryEntry). es ++ behind) none ∙ ap (voids client) (flushed.none_left still);
      }

  -- ---- a read

  shown_by_read : {e f : EngineContent L B} {content : Option Image} {h : List HistoryEntry} (sector count point : ℕ) (bytes : List ℕ) → HasMoved of_log of_backing e f [] 0 0
      → point ≡ e.absorbed → length bytes ≡ 512 * count
      → ((base image : Image) (history : List HistoryEntry) → standing.Told (of_backing e.backing) image → Standing of_log of_backing e base history → bytes ≡ bytes_at (after base history) sector count)
      → StandsOver of_log of_backing content e h → (seen : ℕ) → seen ≤ e.absorbed → IsShown content (h ++ []) seen point sector count bytes
  shown_by_read {content = content} {h = h} sector count point bytes moved here size shows over seen le = record {
    later = omega (arith, le, here);
    inside = omega (arith, here, over.places, length-append h []);
    size = size;
    are = IfSome_then content over.told (λ base is.
        shows base is.0.0 h is.0.1 is.1
        ∙ ap (λ (es : List HistoryEntry). bytes_at (after base es) sector count)
        (sym (ap (λ (es : List HistoryEntry). take point es) (append-nil h) ∙ take_all point h (omega (arith, here, over.places)))));
  }

  -- It shows what the history made of the image.
  pub answered_read : {e f : EngineContent L B} (client sector count point : ℕ) (bytes : List ℕ) → HasMoved of_log of_backing e f [] 0 0
      → point ≡ e.absorbed → length bytes ≡ 512 * count
      → ((base image : Image) (history : List HistoryEntry) → standing.Told (of_backing e.backing) image → Standing of_log of_backing e base history → bytes ≡ bytes_at (after base history) sector count)
      → IsAnswered of_log of_backing client (Read sector count) e f (Got point bytes)
  answered_read {e} {f} client sector count point bytes moved here size shows = record {
    entries = [];
    moved = moved;
    once = refl;
    own = All-nil (λ x. client_of x ≡ client);
    answers = λ content h over seen le may. (sector, count, refl, shown_by_read sector count point bytes moved here size shows over seen.number le);
    sees = λ seen le below. omega (arith, here);
    stopped_down = λ device is. absurd is;
    unflushed = λ device is. absurd is;
    stopped_ids = λ is. absurd is;
    awaited = omega arith;
    flushed = tt;
    posted = tt;
    quiet = λ is. absurd (cc);
    few = omega arith;
    none_left = λ spent. refl;
  }

  -- Or its checksum.
  pub answered_sum : {e f : EngineContent L B} (client sector count point sum : ℕ) (bytes : List ℕ) → sum ≡ sum_of bytes → HasMoved of_log of_backing e f [] 0 0
      → point ≡ e.absorbed → length bytes ≡ 512 * count
      → ((base image : Image) (history : List HistoryEntry) → standing.Told (of_backing e.backing) image → Standing of_log of_backing e base history → bytes ≡ bytes_at (after base history) sector count)
      → IsAnswered of_log of_backing client (ReadSum sector count) e f (Summed point sum)
  answered_sum {e} {f} client sector count point sum bytes is_sum moved here size shows = record {
    entries = [];
    moved = moved;
    once = refl;
    own = All-nil (λ x. client_of x ≡ client);
    answers = λ content h over seen le may. (sector, count, refl, (bytes, is_sum, shown_by_read sector count point bytes moved here size shows over seen.number le));
    sees = λ seen le below. omega (arith, here);
    stopped_down = λ device is. absurd is;
    unflushed = λ device is. absurd is;
    stopped_ids = λ is. absurd is;
    awaited = omega arith;
    flushed = tt;
    posted = tt;
    quiet = λ is. absurd (cc);
    few = omega arith;
    none_left = λ spent. refl;
  }

  -- A device failed.
  pub answered_failed : {e f : EngineContent L B} (client sector count : ℕ) (request : Request) (device : Which) → (request ≡ Read sector count) ⊎ (request ≡ ReadSum sector count)
      → HasMoved of_log of_backing e f [] (is_failure Log (Failed device)) (is_failure Backing (Failed device))
      → IsAnswered of_log of_backing client request e f (Failed device)
  answered_failed {e} {f} client sector count request device reads moved = record {
    entries = [];
    moved = moved;
    once = refl;
    own = All-nil (λ x. client_of x ≡ client);
    answers = λ content h over seen le may. (sector, count, reads);
    sees = λ seen le below. omega (arith, le);
    stopped_down = λ device is. absurd is;
    unflushed = λ device is. absurd is;
    stopped_ids = λ is. absurd is;
    awaited = omega arith;
    flushed = tt;
    posted = tt;
    quiet = λ is. elim reads [
      | inl read ↦ let both : Read sector count ≡ Defer = sym read ∙ is in absurd (cc)
      | inr read ↦ let both : ReadSum sector count ≡ Defer = sym read ∙ is in absurd (cc)
    ];
    few = omega arith;
    none_left = λ spent. refl;
  }

  -- ---- a flush

  ended_by : {e f : EngineContent L B} (client : ℕ) (ended : Ended) → HasMoved of_log of_backing e f (voids client ended.voids) 0 0 → ended.through ≡ f.absorbed → IsEnded of_log of_backing client e f ended
  ended_by {e} {f} client ended moved through =
      let size : length (voids client ended.voids) ≡ ended.voids = length-replicate ended.voids (Void client) in
      let came : f.absorbed ≡ e.absorbed + ended.voids = omega (arith, moved.absorbed, size) in
      record {
        once = voids_printed client e.absorbed ended (through ∙ came);
        answers = λ {content} {h} over seen le. record {
          after_seen = omega (arith, le, through, came);
          inside = omega (arith, through, came, over.places, size, length-append h (voids client ended.voids));
        };
        sees = omega (arith, through, came, size);
      }

  pub answered_flush : {e f : EngineContent L B} (client : ℕ) (ended : Ended) → IsFlushed of_log of_backing client e f ended → IsAnswered of_log of_backing client Flush e f (Flushed ended)
  answered_flush {e} {f} client ended flushed =
      let end = ended_by client ended flushed.moved flushed.through in
      record {
        entries = voids client ended.voids;
        moved = flushed.moved;
        once = end.once;
        own = own_voids client ended.voids;
        answers = λ content h over seen le may. (refl, end.answers over seen.number le);
        sees = λ seen le below. end.sees;
        stopped_down = λ device is. absurd is;
        unflushed = λ device is. (some_of (λ which. (f.down ≡ Some which) × (stable_places f < ended.through)) flushed.undone is).0;
        stopped_ids = λ is. absurd is;
        awaited = done_stable ended (stable_places f) flushed.done;
        flushed = end_of flushed;
        posted = tt;
        quiet = λ is. absurd (cc);
        few = let some = flushed.few in omega (arith, some, (places_few f.geometry).1, length-replicate ended.voids (Void client));
        none_left = λ spent. ap (voids client) (flushed.none_left spent);
      }

  pub answered_defer : {e f : EngineContent L B} (client : ℕ) (ended : Ended) → IsPosted of_log of_backing client e f ended → IsAnswered of_log of_backing client Defer e f (Deferred ended)
  answered_defer {e} {f} client ended posted =
      let end = ended_by client ended posted.moved posted.through in
      record {
        entries = voids client ended.voids;
        moved = posted.moved;
        once = end.once;
        own = own_voids client ended.voids;
        answers = λ content h over seen le may. (refl, end.answers over seen.number le);
        sees = λ seen le below. end.sees;
        stopped_down = λ device is. absurd is;
        unflushed = λ device is. absurd (let both : Some device ≡ None = sym is ∙ posted.up in cc);
        stopped_ids = λ is. absurd is;
        awaited = omega arith;
        flushed = tt;
        posted = (posted.whole, posted.few, let through = posted.through in omega (arith, through), posted.up);
        quiet = λ is. posted.quiet;
        few = let some = posted.few in omega (arith, some, (places_few f.geometry).1, length-replicate ended.voids (Void client));
        none_left = λ spent. ap (voids client) (posted.none_left spent);
      }

  -- ---- a note

  pub answered_tell : (e : EngineContent L B) (client other : ℕ) → IsAnswered of_log of_backing client (Tell other) e e Told
  answered_tell e client other = record {
    entries = [];
    moved = moved_none e;
    once = refl;
    own = All-nil (λ x. client_of x ≡ client);
    answers = λ content h over seen le may. (other, refl);
    sees = λ seen le below. omega (arith, le);
    stopped_down = λ device is. absurd is;
    unflushed = λ device is. absurd is;
    stopped_ids = λ is. absurd is;
    awaited = omega arith;
    flushed = tt;
    posted = tt;
    quiet = λ is. absurd (cc);
    few = omega arith;
    none_left = λ spent. refl;
  }

  pub answered_hear : (e : EngineContent L B) (client teller : ℕ) → IsAnswered of_log of_backing client (Hear teller) e e Heard
  answered_hear e client teller = record {
    entries = [];
    moved = moved_none e;
    once = refl;
    own = All-nil (λ x. client_of x ≡ client);
    answers = λ content h over seen le may. let found = some_note (seen.notes teller) may in (teller, refl, found.0, found.1, found.2);
    sees = λ seen le below. let first = first_below e.absorbed seen.number (seen.notes teller) le (below teller) in omega (arith, first);
    stopped_down = λ device is. absurd is;
    unflushed = λ device is. absurd is;
    stopped_ids = λ is. absurd is;
    awaited = omega arith;
    flushed = tt;
    posted = tt;
    quiet = λ is. absurd (cc);
    few = omega arith;
    none_left = λ spent. refl;
  }

  -- a write with `fua`, whether it is whole or not
  pub answered_fua : {e m f : EngineContent L B} (client sector count : ℕ) (pattern taken : List ℕ) (stop : Stop) (line : Line)
      → length (entries_asked client sector count pattern) ≤ 33 → TakesPlaces of_log of_backing e m (entries_asked client sector count pattern) taken stop
      → IsForcedLine of_log of_backing client m f taken stop line → IsAnswered of_log of_backing client (Write sector count pattern true) e f line
  answered_fua {e} {m} {f} client sector count pattern taken Whole line parts_few takes (ended, is, flushed) =
      subst (IsAnswered of_log of_backing client (Write sector count pattern true) e f) (sym is) (answered_forced client sector count pattern taken ended parts_few takes flushed)
  answered_fua {e} {m} {f} client sector count pattern taken (Down device) line parts_few takes (is, same) =
      subst (IsAnswered of_log of_backing client (Write sector count pattern true) e f) (sym is)
      (answered_stopped client sector count pattern taken (Down device) (λ whole. down_not_whole whole) parts_few
      (subst (λ (x : EngineContent L B). TakesPlaces of_log of_backing e x (entries_asked client sector count pattern) taken (Down device)) (sym same) takes))
    where
      down_not_whole : {d : Which} → Down d ≡ Whole → ⊥
      down_not_whole is = subst is_down is tt
        where
          is_down : Stop → Type 0
          is_down (Down d) = Unit {0}
          is_down Whole = ⊥
          is_down Ids = ⊥
  answered_fua {e} {m} {f} client sector count pattern taken Ids line parts_few takes (is, same) =
      subst (IsAnswered of_log of_backing client (Write sector count pattern true) e f) (sym is)
      (answered_stopped client sector count pattern taken Ids (λ whole. ids_not_whole whole) parts_few
      (subst (λ (x : EngineContent L B). TakesPlaces of_log of_backing e x (entries_asked client sector count pattern) taken Ids) (sym same) takes))
    where
      ids_not_whole : Ids ≡ Whole → ⊥
      ids_not_whole is = subst is_ids is tt
        where
          is_ids : Stop → Type 0
          is_ids Ids = Unit {0}
          is_ids Whole = ⊥
          is_ids (Down d) = ⊥
