-- What the steps of a memory leave of it.
use Rattle.std.proofs.Common.{ℕ, ◌≡◌, ◌≢◌, ◌⊎◌, ◌+◌, ◌-◌, ◌*◌, ◌<◌, ◌≤◌, ◌==◌, List, [], ◌∷◌, ◌++◌, length, min, drop, refl, sym, ap, ◌∙◌, subst, inl, inr, arith}
use Rattle.std.specs.List.{All, sum_by}
use Rattle.std.proofs.lemmas.Nat.{mul-add-lt}
use Rattle.std.proofs.lemmas.List.{append_assoc, length-drop, length_push, get_or_append_left, get_or_push}
use Rattle.std.proofs.lemmas.List.Elements.{All-nil, All-head, All-tail, All-push, All-same, All-drop}
use Rattle.std.proofs.lemmas.List.Sums.{sum_by-append, sum_by_push, sum_by-le}
use Rattle.wb_geometry.specs.declared.spot.Spot.{Spot}
use Rattle.wb_header.specs.Text.{TextBlock, AreDistinct}
use Rattle.wb_header.specs.Segments.{Segment}
use Rattle.wb_header.specs.declared.sealed.Meta.{Meta}
use Rattle.wb_log.specs.Kept.{Kept, metas_of}
use Rattle.wb_ram.specs.Merging.{IsMerged, IsOpenSegment}
use Rattle.wb_table.specs.Lookup.{IsLookup, nowhere, noted, kept_after}
use Rattle.wb_table.specs.Tables.{BlockTable, lookup_of}
use Rattle.wb_memory.specs.Memory.{MemoryContent, IsMemory, IsSealed, IsLogged, live, listed, logged_from, spot_from, newest}
use Rattle.wb_memory.proofs.SegmentSpots.{merged_length}
use Rattle.wb_memory.proofs.ListedSpots.{newest-first, newest_push_none, newest_push_same, newest_merged, newest_above, length-table, length-numbers_in, IdsFrom, IdsFrom-push, IdsFrom-front, IdsFrom-rest}
use Rattle.wb_memory.proofs.Listed.{low, low_first, ids_listed, readable_listed, length-logged_from, few-logged_from, newest_kept, logged_dropped, logged_sealed}

-- ---- the room of the table

-- the segments in the log have no more blocks than places
blocks_logged : (places id : ℕ) (kept : List (List Meta)) → All (IsLogged places) kept → sum_by (λ (s : Segment). length s.blocks) (logged_from id kept) ≤ length kept * places
blocks_logged places id kept all =
    let few = few-logged_from places id kept all in
    omega (
      arith,
      sum_by-le (λ (s : Segment). length s.blocks) places (logged_from id kept) (λ k d below. few k d below),
      ap (λ (n : ℕ). n * places) (length-logged_from id kept),
    )

-- the table has a block for each block of a segment at most
pub length-table_listed : (m : MemoryContent) → IsMemory m
    → length (lookup_of m.lookup).blocks ≤ (length m.logged.kept + length m.sealed) * m.places + length m.current.blocks
length-table_listed m is =
    omega (
      arith,
      length-table (lookup_of m.lookup) (listed m) is.table (readable_listed m is) is.spots,
      length-numbers_in (listed m),
      sum_by-append (λ (s : Segment). length s.blocks) (logged_from m.logged.first m.logged.kept) (live m),
      blocks_logged m.places m.logged.first m.logged.kept is.logged,
      sum_by_push (λ (s : Segment). length s.blocks) m.sealed m.current,
      sum_by-le (λ (s : Segment). length s.blocks) m.places m.sealed (λ k d below. (is.sealed k d below).few),
    )

-- while a segment may be sealed and the open one isn't full, there is room for another block in the table
pub table_room : (m : MemoryContent) → IsMemory m → length m.sealed < m.segments → length m.current.blocks < m.places → length (lookup_of m.lookup).blocks < (lookup_of m.lookup).room
table_room m is sealed room =
    omega (
      arith,
      length-table_listed m is,
      is.lookup_room,
      mul-add-lt (length m.logged.kept + length m.sealed) m.places (length m.current.blocks) (m.logged.slots + m.segments) (omega (arith, sealed, is.logged_few)) room,
    )

-- ---- what the steps leave

All-last : (P : ℕ → Type 0) (xs : List ℕ) (x : ℕ) → All P (xs ++ x ∷ []) → P x
All-last P xs x all = subst P (get_or_push xs x x (length xs) refl) (all (length xs) x (omega (arith, length_push xs x)))

open_none : (id room : ℕ) → 1 ≤ id → room ≤ 127 → IsOpenSegment id [] room
open_none id room named few = record {
  named = named;
  fits = omega arith;
  few = few;
  distinct = λ i j less below. absurd (omega arith);
  dirty = λ k d below. absurd (omega arith);
}

-- the open segment behind all others
behind_all : (m : MemoryContent) (sealed : List Segment) (current : Segment)
    → logged_from m.logged.first m.logged.kept ++ sealed ++ current ∷ [] ≡ logged_from m.logged.first m.logged.kept ++ (sealed ++ current ∷ [])
behind_all m sealed current = append_assoc (logged_from m.logged.first m.logged.kept) sealed (current ∷ [])

-- no write yet
pub memory_empty : (places segments count : ℕ) (logged : Kept) (sealed : List Segment) (current : Segment) (lookup : BlockTable) (waiting : List ℕ) → 1 ≤ places → places ≤ 127
    → logged.kept ≡ [] → logged.places ≡ places → sealed ≡ [] → 1 ≤ current.id → current.blocks ≡ [] → current.room ≡ places
    → IsLookup (lookup_of lookup) → ((block i : ℕ) → i < 8 → (lookup_of lookup).spots block i ≡ nowhere) → (lookup_of lookup).room ≡ (logged.slots + count) * places
    → All (λ (room : ℕ). places ≤ room) waiting → length waiting ≡ count → segments ≡ length waiting + length sealed
    → IsMemory (record { places = places; segments = segments; logged = logged; sealed = sealed; current = current; lookup = lookup; waiting = waiting })
memory_empty places segments count logged sealed current lookup waiting some few none_kept same_places none_sealed named none room table spots blocks_room rooms many all_of =
    subst (λ (ss : List Segment). IsMemory (record { places = places; segments = segments; logged = logged; sealed = ss; current = current; lookup = lookup; waiting = waiting })) (sym none_sealed) (record {
      some = some;
      few = few;
      early = omega (arith, named, ap length none_kept);
      next = λ kept. absurd (omega (arith, kept, ap length none_kept));
      ids = λ j below. IdsFrom-push current.id [] current (λ k in_none. absurd (omega arith)) (omega arith) j below ∙ (omega arith);
      logged = All-same (IsLogged places) logged.kept [] none_kept (All-nil (IsLogged places));
      logged_places = same_places;
      logged_few = omega (arith, ap length none_kept);
      sealed = All-nil (IsSealed places);
      current = subst (λ (blocks : List TextBlock). IsOpenSegment current.id blocks current.room) (sym none) (open_none current.id current.room named (omega (arith, room, few)));
      current_few = omega (arith, ap length none);
      current_room = omega (arith, room);
      table = table;
      spots = λ block i eight. spots block i eight
          ∙ sym (ap (λ (kept : List (List Meta)). newest (logged_from logged.first kept ++ current ∷ []) block i) none_kept
          ∙ newest-first current [] block i refl ∙ ap (λ (blocks : List TextBlock). spot_from current.id 0 blocks block i) none);
      lookup_room = omega (arith, blocks_room, ap (λ (n : ℕ). (logged.slots + n) * places) as_many);
      waiting = rooms;
      vectors = omega (arith, many, as_many);
    })
  where
    as_many : segments ≡ count
    as_many = omega (arith, many, all_of, ap length none_sealed)

-- a write that was merged into the open segment
pub memory_put : (m : MemoryContent) (current : Segment) (lookup : BlockTable) (number bits index : ℕ) → IsMemory m → length m.current.blocks < m.places
    → IsMerged number bits index m.current.blocks current.blocks → current.id ≡ m.current.id → current.room ≡ m.current.room → IsOpenSegment current.id current.blocks current.room
    → IsLookup (lookup_of lookup)
    → ((block i : ℕ) → i < 8 → (lookup_of lookup).spots block i ≡ noted ((lookup_of m.lookup).spots block i) (block == number) bits i (record { id = m.current.id; index = index }))
    → (lookup_of lookup).room ≡ (lookup_of m.lookup).room
    → IsMemory (record { places = m.places; segments = m.segments; logged = m.logged; sealed = m.sealed; current = current; lookup = lookup; waiting = m.waiting })
memory_put m current lookup number bits index is room merged same same_room opened table noted_spots table_room_same = record {
  some = is.some;
  few = is.few;
  early = omega (arith, same, is.early);
  next = λ kept. is.next kept ∙ sym same;
  ids = λ j below. ids j below ∙ ap (λ (n : ℕ). n - length m.sealed + j) (sym same);
  logged = is.logged;
  logged_places = is.logged_places;
  logged_few = is.logged_few;
  sealed = is.sealed;
  current = opened;
  current_few = elim (merged_length number bits index m.current.blocks current.blocks merged) [
    | inl kept ↦ omega (arith, kept, room)
    | inr more ↦ omega (arith, more.0, room)
  ];
  current_room = omega (arith, same_room, is.current_room);
  table = table;
  spots = λ block i eight.
      noted_spots block i eight
      ∙ ap (λ (spot : Spot). noted spot (block == number) bits i (record { id = m.current.id; index = index }))
      (is.spots block i eight ∙ ap (λ (ss : List Segment). newest ss block i) (sym (behind_all m m.sealed m.current)))
      ∙ sym (newest_merged (logged_from m.logged.first m.logged.kept ++ m.sealed) m.current current number bits index block i is.current.named same merged is.current.distinct opened.distinct)
      ∙ ap (λ (ss : List Segment). newest ss block i) (behind_all m m.sealed current);
  lookup_room = omega (arith, table_room_same, is.lookup_room);
  waiting = is.waiting;
  vectors = is.vectors;
}
  where
    ids : IdsFrom (m.current.id - length m.sealed) (m.sealed ++ current ∷ [])
    ids = IdsFrom-push (m.current.id - length m.sealed) m.sealed current (IdsFrom-front (m.current.id - length m.sealed) m.sealed m.current is.ids) (omega (arith, same, is.early))

-- the open segment sealed, and the next one opened in a vector that waited
pub memory_sealed : (m : MemoryContent) (segments : ℕ) (sealed : List Segment) (full next : Segment) (waiting : List ℕ) (room : ℕ) → IsMemory m → 1 ≤ length m.current.blocks
    → full.id ≡ m.current.id → full.blocks ≡ m.current.blocks → m.current.room ≤ full.room → sealed ≡ m.sealed ++ full ∷ []
    → next.id ≡ m.current.id + 1 → next.blocks ≡ [] → next.room ≡ min 127 room → m.waiting ≡ waiting ++ room ∷ [] → segments ≡ m.segments
    → IsMemory (record { places = m.places; segments = segments; logged = m.logged; sealed = sealed; current = next; lookup = m.lookup; waiting = waiting })
memory_sealed m segments sealed full next waiting room is some same_id same_blocks full_room pushed next_id none next_room popped same = record {
  some = is.some;
  few = is.few;
  early = omega (arith, count, next_id, is.early);
  next = λ kept. omega (arith, is.next kept, count, next_id);
  ids = λ j below.
      IdsFrom-push first sealed next (subst (IdsFrom first) (sym pushed) ids) (omega (arith, next_id, count, is.early)) j below
      ∙ (omega (arith, count, next_id));
  logged = is.logged;
  logged_places = is.logged_places;
  logged_few = is.logged_few;
  sealed = All-same (IsSealed m.places) sealed (m.sealed ++ full ∷ []) pushed (All-push (IsSealed m.places) m.sealed full is.sealed (record {
    is = record {
      named = omega (arith, same_id, is.current.named);
      some = omega (arith, ap length same_blocks, some);
      few = omega (arith, ap length same_blocks, is.current.fits, is.current.few);
      distinct = subst AreDistinct (sym same_blocks) is.current.distinct;
      dirty = All-same (λ (block : TextBlock). block.bits ≢ 0) full.blocks m.current.blocks same_blocks is.current.dirty;
    };
    few = omega (arith, ap length same_blocks, is.current_few);
    room = omega (arith, is.current_room, full_room);
  }));
  current = subst (λ (blocks : List TextBlock). IsOpenSegment next.id blocks next.room) (sym none) (open_none next.id next.room (omega (arith, next_id)) (omega (arith, next_room)));
  current_few = omega (arith, ap length none);
  current_room = omega (arith, next_room, is.few, last_room);
  table = is.table;
  spots = λ block i eight.
      is.spots block i eight
      ∙ ap (λ (ss : List Segment). newest ss block i) (sym (behind_all m m.sealed m.current))
      ∙ newest_push_same (in_log ++ m.sealed) m.current full block i (sym (ap (λ (id : ℕ). spot_from id 0 full.blocks block i) same_id ∙ ap (λ (blocks : List TextBlock). spot_from m.current.id 0 blocks block i) same_blocks))
      ∙ ap (λ (ss : List Segment). newest ss block i) (behind_all m m.sealed full)
      ∙ ap (λ (ss : List Segment). newest (in_log ++ ss) block i) (sym pushed)
      ∙ sym (newest_push_none (in_log ++ sealed) next block i (ap (λ (blocks : List TextBlock). spot_from next.id 0 blocks block i) none))
      ∙ ap (λ (ss : List Segment). newest ss block i) (behind_all m sealed next);
  lookup_room = omega (arith, ap (λ (n : ℕ). (m.logged.slots + n) * m.places) same, is.lookup_room);
  waiting = λ k d below.
      subst (λ (r : ℕ). m.places ≤ r) (get_or_append_left waiting (room ∷ []) d k below)
      (All-same (λ (r : ℕ). m.places ≤ r) (waiting ++ room ∷ []) m.waiting (sym popped) is.waiting k d (omega (arith, below, length_push waiting room)));
  vectors = omega (arith, is.vectors, same, count, ap length popped, length_push waiting room);
}
  where
    first : ℕ
    first = m.current.id - length m.sealed

    in_log : List Segment
    in_log = logged_from m.logged.first m.logged.kept

    count : length sealed ≡ length m.sealed + 1
    count = ap length pushed ∙ length_push m.sealed full

    ids : IdsFrom first (m.sealed ++ full ∷ [])
    ids = IdsFrom-push first m.sealed full (IdsFrom-front first m.sealed m.current is.ids) (omega (arith, same_id, is.early))

    last_room : m.places ≤ room
    last_room = All-last (λ (r : ℕ). m.places ≤ r) waiting room (All-same (λ (r : ℕ). m.places ≤ r) (waiting ++ room ∷ []) m.waiting (sym popped) is.waiting)

-- the id of the oldest sealed segment
pub front_id : (m : MemoryContent) (front : Segment) (rest : List Segment) → IsMemory m → m.sealed ≡ front ∷ rest → front.id ≡ m.current.id - length m.sealed
front_id m front rest is first_is =
    let ids : IdsFrom (m.current.id - length m.sealed) (front ∷ rest ++ m.current ∷ [])
    = subst (λ (ss : List Segment). IdsFrom (m.current.id - length m.sealed) (ss ++ m.current ∷ [])) first_is is.ids in
    ids 0 (omega arith) ∙ (omega arith)

none_or_some : (kept : List (List Meta)) → (kept ≡ []) ⊎ (1 ≤ length kept)
none_or_some [] = inl refl
none_or_some (metas ∷ kept) = inr (omega arith)

-- it comes behind those that are kept
pub front_next : (m : MemoryContent) (front : Segment) (rest : List Segment) → IsMemory m → m.sealed ≡ front ∷ rest → (m.logged.kept ≡ []) ⊎ (front.id ≡ m.logged.first + length m.logged.kept)
front_next m front rest is first_is = elim (none_or_some m.logged.kept) [
  | inl none ↦ inl none
  | inr some ↦ inr (omega (arith, front_id m front rest is first_is, is.next some, is.early))
]

-- the oldest sealed segment kept in the log, and its vector for a later one
pub memory_kept : (m : MemoryContent) (segments : ℕ) (front : Segment) (rest : List Segment) (logged : Kept) (waiting : List ℕ) (room : ℕ) → IsMemory m → m.sealed ≡ front ∷ rest
    → length m.logged.kept < m.logged.slots
    → logged.kept ≡ m.logged.kept ++ metas_of front.blocks ∷ [] → logged.first + length m.logged.kept ≡ front.id → logged.slots ≡ m.logged.slots → logged.places ≡ m.logged.places
    → front.room ≡ room → waiting ≡ m.waiting ++ room ∷ [] → segments ≡ m.segments
    → IsMemory (record { places = m.places; segments = segments; logged = logged; sealed = rest; current = m.current; lookup = m.lookup; waiting = waiting })
memory_kept m segments front rest logged waiting room is first_is slot kept at same_slots same_places front_room pushed same = record {
  some = is.some;
  few = is.few;
  early = omega (arith, count, more, is.early);
  next = λ some. omega (arith, at, named, count, more, is.early);
  ids = λ j below. later_ids j below ∙ (omega (arith, count, is.early));
  logged = All-same (IsLogged m.places) logged.kept (m.logged.kept ++ metas_of front.blocks ∷ []) kept
      (All-push (IsLogged m.places) m.logged.kept (metas_of front.blocks) is.logged (logged_sealed m.places front front_sealed));
  logged_places = same_places ∙ is.logged_places;
  logged_few = omega (arith, more, slot, same_slots);
  sealed = All-tail (IsSealed m.places) front rest all_sealed;
  current = is.current;
  current_few = is.current_few;
  current_room = is.current_room;
  table = is.table;
  spots = λ block i eight.
      is.spots block i eight
      ∙ ap (λ (ss : List Segment). newest (logged_from m.logged.first m.logged.kept ++ (ss ++ m.current ∷ [])) block i) first_is
      ∙ newest_kept m.logged.first logged.first m.logged.kept front (rest ++ m.current ∷ []) block i (λ some. omega (arith, is.next some, at, named, is.early)) at
      ∙ ap (λ (ms : List (List Meta)). newest (logged_from logged.first ms ++ (rest ++ m.current ∷ [])) block i) (sym kept);
  lookup_room = omega (arith, ap (λ (n : ℕ). (n + m.segments) * m.places) same_slots, ap (λ (n : ℕ). (logged.slots + n) * m.places) same, is.lookup_room);
  waiting = All-same (λ (r : ℕ). m.places ≤ r) waiting (m.waiting ++ room ∷ []) pushed (All-push (λ (r : ℕ). m.places ≤ r) m.waiting room is.waiting (omega (arith, front_room, front_sealed.room)));
  vectors = omega (arith, is.vectors, same, count, ap length pushed, length_push m.waiting room);
}
  where
    count : length m.sealed ≡ length rest + 1
    count = ap length first_is ∙ (omega arith)

    more : length logged.kept ≡ length m.logged.kept + 1
    more = ap length kept ∙ length_push m.logged.kept (metas_of front.blocks)

    named : front.id ≡ m.current.id - length m.sealed
    named = front_id m front rest is first_is

    all_sealed : All (IsSealed m.places) (front ∷ rest)
    all_sealed = subst (All (IsSealed m.places)) first_is is.sealed

    front_sealed : IsSealed m.places front
    front_sealed = All-head (IsSealed m.places) front rest all_sealed

    ids : IdsFrom (m.current.id - length m.sealed) (front ∷ rest ++ m.current ∷ [])
    ids = subst (λ (ss : List Segment). IdsFrom (m.current.id - length m.sealed) (ss ++ m.current ∷ [])) first_is is.ids

    later_ids : IdsFrom (m.current.id - length m.sealed + 1) (rest ++ m.current ∷ [])
    later_ids = IdsFrom-rest (m.current.id - length m.sealed) (rest ++ m.current ∷ []) front ids

-- the segments up to one that is in the log forgotten
pub memory_forgot : (m : MemoryContent) (id : ℕ) (logged : Kept) (lookup : BlockTable) → IsMemory m → id + length m.sealed < m.current.id
    → logged.kept ≡ drop (id + 1 - m.logged.first) m.logged.kept → logged.first + length logged.kept ≡ m.logged.first + length m.logged.kept
    → logged.slots ≡ m.logged.slots → logged.places ≡ m.logged.places
    → IsLookup (lookup_of lookup) → ((block i : ℕ) → i < 8 → (lookup_of lookup).spots block i ≡ kept_after id ((lookup_of m.lookup).spots block i))
    → (lookup_of lookup).room ≡ (lookup_of m.lookup).room
    → IsMemory (record { places = m.places; segments = m.segments; logged = logged; sealed = m.sealed; current = m.current; lookup = lookup; waiting = m.waiting })
memory_forgot m id logged lookup is behind kept last same_slots same_places table kept_spots table_room_same = record {
  some = is.some;
  few = is.few;
  early = omega (arith, count, is.early);
  next = λ some. omega (arith, last, is.next (omega (arith, some, count)));
  ids = is.ids;
  logged = All-same (IsLogged m.places) logged.kept (drop (id + 1 - m.logged.first) m.logged.kept) kept
      (All-drop (IsLogged m.places) (id + 1 - m.logged.first) m.logged.kept is.logged);
  logged_places = same_places ∙ is.logged_places;
  logged_few = omega (arith, count, same_slots, is.logged_few);
  sealed = is.sealed;
  current = is.current;
  current_few = is.current_few;
  current_room = is.current_room;
  table = table;
  spots = λ block i eight.
      kept_spots block i eight
      ∙ ap (kept_after id) (is.spots block i eight)
      ∙ newest_above (low m) id (listed m) block i eight (ids_listed m is) (readable_listed m is)
      ∙ ap (λ (ss : List Segment). newest ss block i)
      (logged_dropped (low m) id m.logged.first logged.first m.logged.kept logged.kept (live m) (low_first m is) (omega (arith, behind, is.early)) kept last);
  lookup_room = omega (arith, ap (λ (n : ℕ). (n + m.segments) * m.places) same_slots, is.lookup_room, table_room_same);
  waiting = is.waiting;
  vectors = is.vectors;
}
  where
    count : length logged.kept ≤ length m.logged.kept
    count = omega (arith, ap length kept, length-drop (id + 1 - m.logged.first) m.logged.kept)
