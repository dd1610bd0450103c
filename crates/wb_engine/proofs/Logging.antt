-- The front segment, the oldest that is sealed, is written to the log.
use Rattle.std.proofs.Common.{ℕ, ◌≡◌, ◌⊎◌, ◌+◌, ◌-◌, ◌*◌, ◌%◌, ◌<◌, ◌≤◌, List, [], ◌∷◌, ◌++◌, length, get_or, take, drop, Option, Result, Some, None, IfSome, Bor, inl, inr, refl, ap, sym, ◌∙◌, subst, arith}
use Rattle.std.specs.List.{All}
use Rattle.std.specs.Int.{w64, from_le_bytes}
use Rattle.std.proofs.Math.Nat.{mul-le-mul_left}
use Rattle.std.proofs.lemmas.Bool.{cases_lt}
use Rattle.std.proofs.lemmas.List.{length_push}
use Rattle.std.proofs.lemmas.List.Elements.{All-map, All-tail, All-push}
use Rattle.wb_geometry.specs.Image.{Image, overlay, IsPartlyWritten}
use Rattle.wb_geometry.specs.Device.{State, ContentPasses, IsSameDevice, IsDevice}
use Rattle.wb_geometry.specs.History.{HistoryEntry}
use Rattle.wb_geometry.specs.Layout.{places, slot_start}
use Rattle.wb_geometry.specs.declared.geometry.Geometry.{Geometry}
use Rattle.wb_geometry.specs.declared.which.Which.TheVariants.{Log}
use Rattle.wb_header.specs.Text.{TextBlock}
use Rattle.wb_header.specs.Segments.{Segment}
use Rattle.wb_header.specs.Standing.{StandsFor}
use Rattle.wb_header.specs.Slots.{IsTextOf}
use Rattle.wb_header.specs.declared.sealed.Meta.{Meta}
use Rattle.wb_super.specs.Superblock.{record_at, record_of}
use Rattle.wb_log.specs.Kept.{IsThere, meta_of, metas_of, metas_at}
use Rattle.wb_log.specs.Writing.{WritesSegment}
use Rattle.wb_log.proofs.Metas.{metas_of_last, metas_before}
use Rattle.wb_crash.specs.Crash.{IsNextText, CrashInCall}
use Rattle.wb_crash.specs.Numbers.{trying, written}
use Rattle.wb_crash.specs.Safety.{Shows}
use Rattle.wb_crash.specs.declared.numbers.Numbers.{Numbers}
use Rattle.wb_crash.proofs.Shown.{shown_from}
use Rattle.wb_crash.proofs.Steps.{ordered_written}
use Rattle.wb_crash.proofs.Halves.{safe_tried, safe_wrote}
use Rattle.wb_crash.proofs.Crash.{log_next_word}
use Rattle.wb_memory.specs.Memory.{MemoryContent, live}
use Rattle.wb_engine.specs.Content.{EngineContent, IsEngine, IsInsideBacking, AreMetasInside}
use Rattle.wb_engine.specs.Standing.{Standing, IsListed, line}
use Rattle.wb_engine.specs.Stepping.{MayLog, IsStep}
use Rattle.wb_engine.proofs.Held.{AreHeld, AreInTurn, held_first, held_rest, turn_rest}
use Rattle.wb_engine.proofs.Records.{record_up}
use Rattle.wb_engine.proofs.Steps.{IsStepTo, standing_to, step_on_log, failed_step, still_told}

-- ---- the front of the segments in memory

pub live_front : (m : MemoryContent) (front : Segment) (rest : List Segment) → m.sealed ≡ front ∷ rest → live m ≡ front ∷ (rest ++ m.current ∷ [])
live_front m front rest all = ap (λ (segments : List Segment). segments ++ m.current ∷ []) all

-- it goes from there, and what is kept of it comes behind the others
pub record IsFrontGone (old new : MemoryContent) : Type 0 where
  pub sealed : new.sealed ≡ drop 1 old.sealed
  pub logged : (front : Segment) (rest : List Segment) → old.sealed ≡ front ∷ rest
      → (new.logged.kept ≡ old.logged.kept ++ metas_of front.blocks ∷ []) × (new.logged.first + length old.logged.kept ≡ front.id)
  pub current : new.current ≡ old.current

live_behind : (old new : MemoryContent) (front : Segment) (rest : List Segment) → IsFrontGone old new → old.sealed ≡ front ∷ rest → live new ≡ rest ++ old.current ∷ []
live_behind old new front rest gone all =
    ap (λ (segments : List Segment). segments ++ new.current ∷ []) (gone.sealed ∙ ap (drop 1) all)
    ∙ ap (λ (current : Segment). rest ++ current ∷ []) gone.current

pub one_and_rest : (xs : List Segment) → 1 ≤ length xs → (s : Segment) × (rest : List Segment) × (xs ≡ s ∷ rest)
one_and_rest [] some = absurd (omega arith)
one_and_rest (x ∷ xs) some = (x, xs, refl)

-- the last that is tried is the last that is logged
pub written_level : (n : Numbers) → n.tried ≡ n.logged → record n { logged = n.logged + 1; tried = n.logged + 1 } ≡ written n
written_level n level = ap (λ (k : ℕ). record n { logged = n.logged + 1; tried = k + 1 }) (sym level)

some_or_none : (xs : List (List Meta)) → (xs ≡ []) ⊎ (1 ≤ length xs)
some_or_none [] = inl refl
some_or_none (x ∷ xs) = inr (omega arith)

metas_inside : (sectors : ℕ) (blocks : List TextBlock) → All (λ block. 8 * block.number + 8 ≤ sectors) blocks → AreMetasInside sectors (metas_of blocks)
metas_inside sectors blocks inside = All-map (λ (meta : Meta). 8 * meta.block + 8 ≤ sectors) meta_of blocks inside

module _ {L B : Type 0} {of_log : L → State} {of_backing : B → State} where
  -- it is the segment behind the last that is logged
  pub front_follows : (e : EngineContent L B) (front : Segment) (rest : List Segment) → IsEngine of_log of_backing e → e.memory.sealed ≡ front ∷ rest
      → front.id ≡ e.numbers.logged + 1
  front_follows e front rest is all =
      let first : e.numbers.logged + 1 + 0 ≡ e.numbers.logged + 1 = omega arith in
      subst (AreInTurn e.numbers.logged) (live_front e.memory front rest all) is.memory.ids 0 (omega arith) ∙ first

  -- its blocks are inside the backing device
  pub front_in_backing : (e : EngineContent L B) (front : Segment) (rest : List Segment) → IsEngine of_log of_backing e → e.memory.sealed ≡ front ∷ rest
      → IsInsideBacking e.geometry front
  front_in_backing e front rest is all =
      subst (All (IsInsideBacking e.geometry)) (live_front e.memory front rest all) is.memory.inside 0 front (omega arith)

  -- where any segment is kept, the next is behind it
  kept_follows : (e : EngineContent L B) (id : ℕ) → IsEngine of_log of_backing e → id ≡ e.numbers.logged + 1
      → (e.memory.logged.kept ≡ []) ⊎ (id ≡ e.memory.logged.first + length e.memory.logged.kept)
  kept_follows e id is next = elim (some_or_none e.memory.logged.kept) [
    | inl none ↦ inl none
    | inr some ↦
        inr (omega (arith, next, is.memory.logged_count, is.memory.logged_first some, is.ordered.recorded, is.ordered.back, is.ordered.stable))
  ]

  -- the segments behind the record are there
  pub logged_there : (e : EngineContent L B) (s : ℕ) → IsEngine of_log of_backing e → e.numbers.recorded < s → s ≤ e.numbers.logged → IsThere e.memory.logged s
  logged_there e s is low high =
      let count = is.memory.logged_count in
      let first = is.memory.logged_first (omega (arith, count, low, high)) in
      (omega (arith, first, low), omega (arith, first, count, low, high))

  -- ---- in memory

  -- the engine is one with its numbers then
  pub engine_front_gone : (e : EngineContent L B) (n : Numbers) (m : MemoryContent) → IsEngine of_log of_backing e → e.down ≡ None → MayLog e.geometry e.numbers
      → n ≡ written e.numbers → IsFrontGone e.memory m → (m.places ≡ e.memory.places) × (m.segments ≡ e.memory.segments) × (m.logged.slots ≡ e.memory.logged.slots)
      → IsEngine of_log of_backing (record e { numbers = n; memory = m })
  engine_front_gone e n m is up may numbers gone sizes =
      let level : e.numbers.tried ≡ e.numbers.logged = is.up up in
      let parts = one_and_rest e.memory.sealed (omega (arith, is.memory.count, may.0)) in
      let front : Segment = parts.0 in
      let rest : List Segment = parts.1 in
      let all : e.memory.sealed ≡ front ∷ rest = parts.2 in
      let next : front.id ≡ e.numbers.logged + 1 = front_follows e front rest is all in
      let kept = gone.logged front rest all in
      let more : length m.logged.kept ≡ length e.memory.logged.kept + 1 = ap length kept.0 ∙ length_push e.memory.logged.kept (metas_of front.blocks) in
      let now : live m ≡ rest ++ e.memory.current ∷ [] = live_behind e.memory m front rest gone all in
      subst (λ (k : Numbers). IsEngine of_log of_backing (record e { numbers = k; memory = m })) (sym numbers) (record {
        ordered = ordered_written is.ordered level (omega (arith, level, may.0)) (omega (arith, level, may.1));
        up = λ _. omega (arith, level);
        log_room = is.log_room;
        backing_room = is.backing_room;
        filled = record {
          sealed = is.filled.sealed;
          limited =
              let room : e.numbers.logged - e.numbers.first + e.geometry.ram ≤ e.numbers.logged + 1 - e.numbers.first + e.geometry.ram = omega arith in
              omega (arith, is.filled.limited, mul-le-mul_left (places e.geometry) room);
          ids = is.filled.ids;
          few = subst (λ (c : Segment). length c.blocks ≤ e.absorbed % places e.geometry) (sym gone.current) is.filled.few;
          some = subst (λ (c : Segment). 1 ≤ e.absorbed % places e.geometry → 1 ≤ length c.blocks) (sym gone.current) is.filled.some;
        };
        memory = record {
          places = sizes.0 ∙ is.memory.places;
          segments = sizes.1 ∙ is.memory.segments;
          slots = sizes.2 ∙ is.memory.slots;
          count = omega (arith, ap length gone.sealed, ap (λ (segments : List Segment). length (drop 1 segments)) all, ap length all, is.memory.count);
          ids = subst (AreInTurn (e.numbers.logged + 1)) (sym now)
              (turn_rest e.numbers.logged front (rest ++ e.memory.current ∷ []) (subst (AreInTurn e.numbers.logged) (live_front e.memory front rest all) is.memory.ids));
          inside = subst (All (IsInsideBacking e.geometry)) (sym now)
              (All-tail (IsInsideBacking e.geometry) front (rest ++ e.memory.current ∷ []) (subst (All (IsInsideBacking e.geometry)) (live_front e.memory front rest all) is.memory.inside));
          logged_count = omega (arith, more, is.memory.logged_count, is.ordered.recorded, is.ordered.back, is.ordered.stable);
          logged_first = λ some. omega (arith, kept.1, next, is.memory.logged_count, is.ordered.recorded, is.ordered.back, is.ordered.stable);
          logged_inside = subst (All (AreMetasInside e.geometry.backing_sectors)) (sym kept.0)
              (All-push (AreMetasInside e.geometry.backing_sectors) e.memory.logged.kept (metas_of front.blocks) is.memory.logged_inside
              (metas_inside e.geometry.backing_sectors front.blocks (front_in_backing e front rest is all)));
        };
      })

-- ---- the call

-- the slots lie behind the record
record_untouched : (at : ℕ) (text x y : Image) → 2048 ≤ at → IsPartlyWritten at text x y → record_of y ≡ record_of x
record_untouched at text x y behind partly = elim (partly.each record_at) [
  | inl same ↦ ap (λ (s : List ℕ). from_le_bytes w64 (take 8 s)) same
  | inr put ↦ absurd (omega (arith, behind, put.0))
]

-- a text of the front segment came into its slot, or some of its sectors did
module _ {L B T E : Type 0} {of_log : L → State} {of_backing : B → State} {result : Result T E} (old : EngineContent L B) (l : L) (front : Segment) (rest : List Segment) (is : IsEngine of_log of_backing old) (up : old.down ≡ None)
    (may : MayLog old.geometry old.numbers) (all : old.memory.sealed ≡ front ∷ rest) (writes : WritesSegment old.geometry front.id front.blocks (of_log old.log) (of_log l) result)
    (same : IsSameDevice (of_log old.log) (of_log l)) (log_device : IsDevice (of_log old.log)) (backing_device : IsDevice (of_backing old.backing)) where
  level : old.numbers.tried ≡ old.numbers.logged
  level = is.up up

  waits : old.numbers.tried < old.numbers.sealed
  waits = omega (arith, level, may.0)

  next : front.id ≡ old.numbers.logged + 1
  next = front_follows old front rest is all

  held : (base : Image) (history : List HistoryEntry) → Standing of_log of_backing old base history → AreHeld (line old base history).list (front ∷ (rest ++ old.memory.current ∷ []))
  held base history stands = subst (AreHeld (line old base history).list) (live_front old.memory front rest all) stands.memory

  front_stands : (base : Image) (history : List HistoryEntry) → Standing of_log of_backing old base history → StandsFor front.blocks ((line old base history).list front.id)
  front_stands base history stands = held_first (line old base history).list front (rest ++ old.memory.current ∷ []) (held base history stands)

  next_text : (base : Image) (history : List HistoryEntry) → Standing of_log of_backing old base history
      → IsNextText old.geometry (line old base history) old.numbers (slot_start old.geometry front.id) writes.text
  next_text base history stands =
      let follows : front.id ≡ old.numbers.tried + 1 = omega (arith, next, level) in
      record {
        room = omega (arith, level, may.1);
        slot = ap (slot_start old.geometry) follows;
        is = subst (λ (s : ℕ). IsTextOf old.geometry ((line old base history).list s) s writes.text) follows
            (record { blocks = front.blocks; is = writes.is; for = front_stands base history stands });
      }

  -- a crash in its course
  crash : (base : Image) (history : List HistoryEntry) (stands : Standing of_log of_backing old base history)
      → CrashInCall old.geometry (line old base history) old.numbers.stable (old.numbers.tried + 1) (of_log old.log) (of_log l) (of_backing old.backing) (of_backing old.backing)
  crash base history stands =
      log_next_word (next_text base history stands) stands.safe log_device backing_device level waits writes.crash

  -- ---- it is answered `Ok`

  -- what is kept of each segment in the log stands for it
  listed : (m : MemoryContent) (list : ℕ → List HistoryEntry) → IsFrontGone old.memory m
      → ((s : ℕ) → old.numbers.recorded < s → s ≤ old.numbers.logged → IsListed (metas_at old.memory.logged s) (list s)) → StandsFor front.blocks (list front.id)
      → (s : ℕ) → old.numbers.recorded < s → s ≤ old.numbers.logged + 1 → IsListed (metas_at m.logged s) (list s)
  listed m list gone was now s low high =
      let kept = gone.logged front rest all in
      elim (cases_lt old.numbers.logged s) [
        | inr before ↦
            let there = metas_before old.memory.logged m.logged front.id s (metas_of front.blocks) (kept_follows old front.id is next) kept.0 kept.1
            (logged_there old s is low before) in
            subst (λ (metas : List Meta). IsListed metas (list s)) (sym there.1) (was s low before)
        | inl last ↦
            let last_is : front.id ≡ s = omega (arith, next, last, high) in
            subst (λ (id : ℕ). IsListed (metas_at m.logged id) (list id)) last_is
            (record { blocks = front.blocks; for = now; kept = (metas_of_last old.memory.logged m.logged front.id (metas_of front.blocks) kept.0 kept.1).1 })
      ]

  -- the record is as it was
  same_record : (base : Image) (history : List HistoryEntry) → Standing of_log of_backing old base history → (y : Image) → Shows (of_log l) y → record_of y ≡ old.numbers.recorded
  same_record base history stands y shows =
      let was = shown_from writes.crash writes.partly y shows in
      record_untouched (slot_start old.geometry front.id) writes.text was.0 y (omega arith) was.2 ∙ record_up stands up was.0 was.1

  standing_wrote : (new : EngineContent L B) → IsStepTo old new l (written old.numbers) None → IsFrontGone old.memory new.memory
      → ContentPasses (λ x y. y ≡ overlay (slot_start old.geometry front.id) writes.text x) (of_log old.log) (of_log l)
      → (base : Image) (history : List HistoryEntry) → Standing of_log of_backing old base history → Standing of_log of_backing new base history
  standing_wrote new to gone content base history stands =
      standing_to old new l (written old.numbers) None base history to (record {
        told = still_told writes.partly stands.told;
        places = stands.places;
        memory = subst (AreHeld (line old base history).list) (sym (live_behind old.memory new.memory front rest gone all))
            (held_rest (line old base history).list front (rest ++ old.memory.current ∷ []) (held base history stands));
        logged = listed new.memory (line old base history).list gone stands.logged (front_stands base history stands);
        safe = safe_wrote (next_text base history stands) stands.safe level waits writes.crash content;
        record_is = λ y shows. inl (same_record base history stands y shows);
      })

  pub wrote_step : (new : EngineContent L B) → IsStepTo old new l (written old.numbers) None → IsFrontGone old.memory new.memory
      → ContentPasses (λ x y. y ≡ overlay (slot_start old.geometry front.id) writes.text x) (of_log old.log) (of_log l) → IsStep of_log of_backing old new
  wrote_step new to gone content =
      step_on_log old new l (written old.numbers) None to refl refl (omega arith) same (standing_wrote new to gone content)
      (λ was. record {
        written_back = λ _. was.written_back up;
        written = λ _ even. absurd (omega (arith, even, ap (λ (n : Numbers). n.stable) to.numbers_are, ap (λ (n : Numbers). n.logged) to.numbers_are, is.ordered.stable));
      })
      crash

  -- ---- it isn't

  pub tried_step : (new : EngineContent L B) → IsStepTo old new l (trying old.numbers) (Some Log) → new.memory ≡ old.memory → IsStep of_log of_backing old new
  tried_step new to memory =
      failed_step old new (old.numbers.tried + 1) l to memory same (still_told writes.partly)
      (λ base history stands. safe_tried (next_text base history stands) stands.safe level waits writes.crash writes.partly)
      (λ base history stands y shows. inl (same_record base history stands y shows)) crash

-- ---- what it does

same_front : (xs : List Segment) (x y : Segment) (rest others : List Segment) → xs ≡ x ∷ rest → xs ≡ y ∷ others → x ≡ y
same_front xs x y rest others is also = ap (λ (segments : List Segment). get_or segments 0 x) (sym is ∙ also)

-- whichever segment is said to be the front, its text was written
pub writes_front : {T E : Type 0} {g : Geometry} {log new_log : State} {result : Result T E} (sealed : List Segment) (front : Segment) (rest : List Segment) → sealed ≡ front ∷ rest
    → WritesSegment g front.id front.blocks log new_log result → (other : Segment) (others : List Segment) → sealed ≡ other ∷ others → WritesSegment g other.id other.blocks log new_log result
writes_front {g = g} {log = log} {new_log = new_log} {result = result} sealed front rest all writes other others also =
    subst (λ (s : Segment). WritesSegment g s.id s.blocks log new_log result) (same_front sealed front other rest others all also) writes

-- a segment that is lent is the front
pub front_is : {segments : List Segment} {lent : Option (Bor Segment)} {s : Bor Segment} → IfSome lent (λ (b : Bor Segment). (rest : List Segment) × (segments ≡ b.now ∷ rest)) → lent ≡ Some s
    → (rest : List Segment) × (segments ≡ s.now ∷ rest)
front_is {segments} {lent} {s} front is = subst (λ (o : Option (Bor Segment)). IfSome o (λ (b : Bor Segment). (rest : List Segment) × (segments ≡ b.now ∷ rest))) is front
