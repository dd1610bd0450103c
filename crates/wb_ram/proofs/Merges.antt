-- What a merge makes of the blocks of a segment.
use Rattle.std.proofs.Common.{ℕ, ◌≡◌, ◌≢◌, ◌⊎◌, ◌+◌, ◌<◌, ◌≤◌, ◌==◌, List, [], ◌∷◌, ◌++◌, length, drop, take, get_or, set, Option, Some, None, true, false, Bool, bit_or, sym, ap, ◌∙◌, subst, inl, inr, arith}
use Rattle.std.specs.List.{All, Contains, position, position_or_len}
use Rattle.std.proofs.lemmas.Bool.{cases_lt, cases_eq}
use Rattle.std.proofs.lemmas.Bool.Decides.{nat_tests}
use Rattle.std.proofs.lemmas.Nat.{le_or_l}
use Rattle.std.proofs.lemmas.List.{map_push, map-set, length-map, length-set, length_push, get_or-map, get_or_push, get_or_past, get_or_default, same_lists, take_at, get_or_append_left, get_or-set_same, get_or-set_other}
use Rattle.std.proofs.lemmas.List.Quantifiers.{position-Some}
use Rattle.std.proofs.lemmas.List.Sums.{fails_before_first}
use Rattle.std.proofs.Math.Seq.{map-set_same}
use Rattle.wb_geometry.specs.Image.{sector, sectors_of}
use Rattle.wb_geometry.specs.Block.{joined_sector}
use Rattle.wb_geometry.specs.History.{HistoryEntry, Write, written, later, last_write}
use Rattle.wb_header.specs.Text.{TextBlock, no_block, AreDistinct}
use Rattle.wb_header.specs.Segments.{Segment, block_of, blocks_of}
use Rattle.wb_header.specs.Standing.{StandsFor, entry_of, entries_of, numbers_of, block_at}
use Rattle.wb_header.specs.declared.sealed.Cached.{Cached}
use Rattle.wb_header.proofs.Standings.{length-numbers_of, number_at, Contains-number, AreDistinct-same, AreDistinct-added, written_elsewhere, written-join, last_write-set, last_write_pushed, stands_kept, stands_added}
use Rattle.wb_ram.specs.Merging.{IsMerged, IsOpenSegment}

-- a write of these bits and bytes of a block was put into the block at this index
pub record IsPut (number bits : ℕ) (payload : List ℕ) (index : ℕ) (old new : List TextBlock) : Type 0 where
  pub merged : IsMerged number bits index old new
  pub size : (length new ≡ length old) ⊎ ((length new ≡ length old + 1) × (Contains (numbers_of old) number → ⊥))
  pub distinct : AreDistinct new
  pub dirty : All (λ block. block.bits ≢ 0) new
  pub written : (client k : ℕ) → last_write k (entries_of new) ≡ later (last_write k (entries_of old)) (written k (Write client number bits payload))
  pub stands : (client : ℕ) (entries : List HistoryEntry) → StandsFor old entries → StandsFor new (entries ++ Write client number bits payload ∷ [])

-- A segment with room for the block stays one.
pub IsOpenSegment-put : {number bits index : ℕ} {payload : List ℕ} {old new : List TextBlock} (id room : ℕ) → IsOpenSegment id old room → Contains (numbers_of old) number ⊎ (length old < room)
    → IsPut number bits payload index old new → IsOpenSegment id new room
IsOpenSegment-put id room before asked put = record {
  named = before.named;
  fits = elim put.size [
    | inl same ↦ omega (arith, same, before.fits)
    | inr added ↦ elim asked [
      | inl has ↦ absurd (added.1 has)
      | inr left ↦ omega (arith, added.0, left)
    ]
  ];
  few = before.few;
  distinct = put.distinct;
  dirty = put.dirty;
}

-- the block was there, and the later one is joined with it
pub IsPut-over : (number bits : ℕ) (payload : List ℕ) (index : ℕ) (old : List TextBlock) (b : TextBlock) → AreDistinct old → All (λ block. block.bits ≢ 0) old
    → index < length old → (block_at old index).number ≡ number → b.number ≡ number → b.bits ≡ bit_or (block_at old index).bits bits
    → ((i : ℕ) → i < 8 → sector (sectors_of b.payload) i ≡ joined_sector i (block_at old index).payload bits payload)
    → IsPut number bits payload index old (set old index b)
IsPut-over number bits payload index old b distinct dirty below was same marked joined = record {
  merged = record {
    below = omega (arith, length-set old index b);
    there = ap (λ (x : TextBlock). x.number) here ∙ same;
    numbers = inl numbers;
    others = λ j inside other. get_or-set_other old index j b no_block other;
    dirty = ap (λ (x : TextBlock). x.bits) here ∙ marked;
  };
  size = inl (length-set old index b);
  distinct = AreDistinct-same old (set old index b) numbers distinct;
  dirty = λ k d inside. elim (cases_eq k index) [
    | inl is ↦ λ zero.
        let stands : get_or (set old index b) k d ≡ b = ap (λ (n : ℕ). get_or (set old index b) n d) is ∙ get_or-set_same old index b d below in
        let none : b.bits ≡ 0 = sym (ap (λ (x : TextBlock). x.bits) stands) ∙ zero in
        dirty index no_block below (omega (arith, none, marked, le_or_l (block_at old index).bits bits))
    | inr other ↦ λ zero. dirty k d (omega (arith, length-set old index b)) (sym (ap (λ (x : TextBlock). x.bits) (get_or-set_other old index k b d other)) ∙ zero)
  ];
  written = writes;
  stands = λ client entries before. stands_kept old (set old index b) entries client number bits payload before numbers
      (Contains-number (set old index b) index number (omega (arith, length-set old index b)) (ap (λ (x : TextBlock). x.number) here ∙ same)) (writes client);
}
  where
    here : block_at (set old index b) index ≡ b
    here = get_or-set_same old index b no_block below

    numbers : numbers_of (set old index b) ≡ numbers_of old
    numbers = map-set_same (λ (x : TextBlock). x.number) old index b no_block (same ∙ sym was)

    entry : (k client : ℕ) → written k (entry_of b) ≡ later (written k (entry_of (block_at old index))) (written k (Write client number bits payload))
    entry k client =
        ap (λ (n : ℕ). written k (Write 0 n b.bits b.payload)) same
        ∙ ap (λ (n : ℕ). written k (Write 0 number n b.payload)) marked
        ∙ written-join k client number (block_at old index).bits bits (block_at old index).payload payload b.payload joined
        ∙ ap (λ (n : ℕ). later (written k (Write 0 n (block_at old index).bits (block_at old index).payload)) (written k (Write client number bits payload))) (sym was)

    writes : (client k : ℕ) → last_write k (entries_of (set old index b)) ≡ later (last_write k (entries_of old)) (written k (Write client number bits payload))
    writes client k = last_write-set k index old b (written k (Write client number bits payload)) distinct below (entry k client)
        (λ other. written_elsewhere k client number bits payload (λ is. other (was ∙ is)))

-- the block wasn't there, and stands behind the others
pub IsPut-behind : (number bits : ℕ) (payload : List ℕ) (index : ℕ) (old : List TextBlock) → AreDistinct old → All (λ block. block.bits ≢ 0) old
    → bits ≢ 0 → (Contains (numbers_of old) number → ⊥) → index ≡ length old
    → IsPut number bits payload index old (old ++ record { number = number; bits = bits; payload = payload } ∷ [])
IsPut-behind number bits payload index old distinct dirty some absent end = record {
  merged = record {
    below = omega (arith, length_push old b);
    there = ap (λ (x : TextBlock). x.number) here;
    numbers = inr (numbers, end);
    others = λ j inside other. get_or_append_left old (b ∷ []) no_block j (omega (arith, length_push old b));
    dirty = ap (λ (x : TextBlock). x.bits) here ∙ sym (ap (λ (x : TextBlock). bit_or x.bits bits) (get_or_past old index no_block (omega arith)));
  };
  size = inr (length_push old b, absent);
  distinct = AreDistinct-added old (old ++ b ∷ []) number numbers absent distinct;
  dirty = λ k d inside. elim (cases_lt k (length old)) [
    | inl before ↦ λ zero. dirty k d before (sym (ap (λ (x : TextBlock). x.bits) (get_or_append_left old (b ∷ []) d k before)) ∙ zero)
    | inr from ↦ λ zero. some (sym (ap (λ (x : TextBlock). x.bits) (get_or_push old b d k (omega (arith, length_push old b)))) ∙ zero)
  ];
  written = writes;
  stands = λ client entries before. stands_added old (old ++ b ∷ []) entries client number bits payload before numbers absent (writes client);
}
  where
    b : TextBlock
    b = record { number = number; bits = bits; payload = payload }

    here : block_at (old ++ b ∷ []) index ≡ b
    here = get_or_push old b no_block index (sym end)

    numbers : numbers_of (old ++ b ∷ []) ≡ numbers_of old ++ number ∷ []
    numbers = map_push (λ (x : TextBlock). x.number) old b

    writes : (client k : ℕ) → last_write k (entries_of (old ++ b ∷ [])) ≡ later (last_write k (entries_of old)) (written k (Write client number bits payload))
    writes client k = last_write_pushed k old b

-- ---- the search for a block

abbrev pub has_number : ℕ → Cached → Bool
has_number number cached = cached.block == number

equal_from_true : (n m : ℕ) → (n == m) ≡ true → n ≡ m
equal_from_true n m is = grind (arith, nat_tests)

unequal_from_false : (n m : ℕ) → (n == m) ≡ false → n ≢ m
unequal_from_false n m is = grind (arith, nat_tests)

pub found_inside : (blocks : List Cached) (number index : ℕ) → position (has_number number) blocks ≡ Some index → index < length (blocks_of blocks)
found_inside [] number index found = cc
found_inside (c ∷ cs) number index found =
    let first = position-Some (has_number number) (c ∷ cs) index c found in
    omega (arith, first.0, length-map (c ∷ cs) block_of)

pub found_number : (blocks : List Cached) (number index : ℕ) → position (has_number number) blocks ≡ Some index → (block_at (blocks_of blocks) index).number ≡ number
found_number [] number index found = cc
found_number (c ∷ cs) number index found =
    let first = position-Some (has_number number) (c ∷ cs) index c found in
    ap (λ (b : TextBlock). b.number) (get_or-map block_of (c ∷ cs) index c no_block first.0)
    ∙ equal_from_true (get_or (c ∷ cs) index c).block number first.1

past_all : (blocks : List Cached) (number : ℕ) → position (has_number number) blocks ≡ None → length blocks ≤ position_or_len (has_number number) blocks
past_all blocks number none = elim (cases_lt (position_or_len (has_number number) blocks) (length blocks)) [
  | inr past ↦ past
  | inl before ↦
      let is : position (has_number number) blocks ≡ Some (position_or_len (has_number number) blocks) = grind (arith, nat_tests) in
      cc
]

pub unfound_at : (blocks : List Cached) (number j : ℕ) → position (has_number number) blocks ≡ None → j < length (blocks_of blocks) → (block_at (blocks_of blocks) j).number ≢ number
unfound_at [] number j none below = absurd (omega arith)
unfound_at (c ∷ cs) number j none below =
    let inside : j < length (c ∷ cs) = omega (arith, length-map (c ∷ cs) block_of) in
    let fails : has_number number (get_or (c ∷ cs) j c) ≡ false = fails_before_first (has_number number) (c ∷ cs) j c (omega (arith, past_all (c ∷ cs) number none)) in
    λ is.
    unequal_from_false (get_or (c ∷ cs) j c).block number fails
    (sym (ap (λ (b : TextBlock). b.number) (get_or-map block_of (c ∷ cs) j c no_block inside)) ∙ is)

pub unfound : (blocks : List Cached) (number : ℕ) → position (has_number number) blocks ≡ None → Contains (numbers_of (blocks_of blocks)) number → ⊥
unfound blocks number none has =
    let inside : has.0 < length (blocks_of blocks) = omega (arith, has.1, length-numbers_of (blocks_of blocks)) in
    unfound_at blocks number has.0 none inside
    (number_at (blocks_of blocks) has.0 ∙ get_or_default (numbers_of (blocks_of blocks)) has.0 0 number has.1 ∙ has.2)

-- ---- the blocks as they lie in memory

IsPut-set : (blocks : List Cached) (number bits : ℕ) (payload : List ℕ) (index : ℕ) (was now : Cached) → AreDistinct (blocks_of blocks) → All (λ block. block.bits ≢ 0) (blocks_of blocks)
    → position (has_number number) blocks ≡ Some index → was ≡ get_or blocks index was → now.block ≡ was.block
    → now.payload.value.bits ≡ bit_or was.payload.value.bits bits
    → ((i : ℕ) → i < 8 → sector (sectors_of now.payload.value.payload) i ≡ joined_sector i was.payload.value.payload bits payload)
    → IsPut number bits payload index (blocks_of blocks) (blocks_of (set blocks index now))
IsPut-set blocks number bits payload index was now distinct dirty found read same marked joined =
    let inside : index < length blocks = omega (arith, found_inside blocks number index found, length-map blocks block_of) in
    let at : block_at (blocks_of blocks) index ≡ block_of was = get_or-map block_of blocks index was no_block inside ∙ ap block_of (sym read) in
    let number_is : (block_at (blocks_of blocks) index).number ≡ number = found_number blocks number index found in
    subst (IsPut number bits payload index (blocks_of blocks)) (sym (map-set block_of blocks index now))
    (IsPut-over number bits payload index (blocks_of blocks) (block_of now) distinct dirty (found_inside blocks number index found) number_is
    (same ∙ sym (ap (λ (b : TextBlock). b.number) at) ∙ number_is)
    (marked ∙ sym (ap (λ (b : TextBlock). bit_or b.bits bits) at))
    (λ i below. joined i below ∙ sym (ap (λ (b : TextBlock). joined_sector i b.payload bits payload) at)))

pub IsPut-joined : (blocks in_slice new : List Cached) (len number bits : ℕ) (payload : List ℕ) (index : ℕ) → AreDistinct (blocks_of blocks) → All (λ block. block.bits ≢ 0) (blocks_of blocks)
    → position (has_number number) blocks ≡ Some index → len ≡ length blocks → in_slice ≡ blocks → length new ≡ length in_slice
    → ((d : Cached) → (get_or new index d).block ≡ (get_or in_slice index d).block)
    → ((d : Cached) → (get_or new index d).payload.value.bits ≡ bit_or (get_or in_slice index d).payload.value.bits bits)
    → ((d : Cached) (i : ℕ) → i < 8 → sector (sectors_of (get_or new index d).payload.value.payload) i ≡ joined_sector i (get_or in_slice index d).payload.value.payload bits payload)
    → ((d : Cached) (j : ℕ) → j ≢ index → get_or new j d ≡ get_or in_slice j d)
    → IsPut number bits payload index (blocks_of blocks) (blocks_of (take len (new ++ drop (length new) blocks)))
IsPut-joined [] in_slice new len number bits payload index distinct dirty found whole slice size same marked joined others = absurd (omega (arith, found_inside [] number index found))
IsPut-joined (c ∷ cs) in_slice new len number bits payload index distinct dirty found whole slice size same marked joined others =
    let blocks : List Cached = c ∷ cs in
    let inside : index < length blocks = omega (arith, found_inside blocks number index found, length-map blocks block_of) in
    let count : length new ≡ length blocks = size ∙ ap length slice in
    let was : (d : Cached) (j : ℕ) → get_or in_slice j d ≡ get_or blocks j d = λ d j. ap (λ (xs : List Cached). get_or xs j d) slice in
    let put : IsPut number bits payload index (blocks_of blocks) (blocks_of (set blocks index (get_or new index c))) =
    IsPut-set blocks number bits payload index (get_or blocks index c) (get_or new index c) distinct dirty found (get_or_default blocks index c (get_or blocks index c) inside)
    (same c ∙ ap (λ (x : Cached). x.block) (was c index))
    (marked c ∙ ap (λ (x : Cached). bit_or x.payload.value.bits bits) (was c index))
    (λ i below. joined c i below ∙ ap (λ (x : Cached). joined_sector i x.payload.value.payload bits payload) (was c index)) in
    let made : set blocks index (get_or new index c) ≡ new =
    same_lists (set blocks index (get_or new index c)) new (length-set blocks index (get_or new index c) ∙ sym count) (λ k d less. elim (cases_eq k index) [
      | inl is ↦
          ap (λ (n : ℕ). get_or (set blocks index (get_or new index c)) n d) is
          ∙ get_or-set_same blocks index (get_or new index c) d inside
          ∙ get_or_default new index c d (omega (arith, inside, count))
          ∙ ap (λ (n : ℕ). get_or new n d) (sym is)
      | inr other ↦ get_or-set_other blocks index k (get_or new index c) d other ∙ sym (others d k other ∙ was d k)
    ]) in
    subst (λ (xs : List Cached). IsPut number bits payload index (blocks_of blocks) (blocks_of xs)) (made ∙ sym (take_at new (drop (length new) blocks) len (count ∙ sym whole))) put

pub IsPut-pushed : (blocks new : List Cached) (number bits : ℕ) (payload : List ℕ) (index : ℕ) (now : Cached) → AreDistinct (blocks_of blocks) → All (λ block. block.bits ≢ 0) (blocks_of blocks)
    → bits ≢ 0 → position (has_number number) blocks ≡ None → index ≡ length blocks → new ≡ blocks ++ now ∷ [] → block_of now ≡ record { number = number; bits = bits; payload = payload }
    → IsPut number bits payload index (blocks_of blocks) (blocks_of new)
IsPut-pushed blocks new number bits payload index now distinct dirty some none end pushed is =
    subst (IsPut number bits payload index (blocks_of blocks)) (sym (ap blocks_of pushed ∙ map_push block_of blocks now ∙ ap (λ (b : TextBlock). blocks_of blocks ++ b ∷ []) is))
    (IsPut-behind number bits payload index (blocks_of blocks) distinct dirty some (unfound blocks number none) (end ∙ sym (length-map blocks block_of)))

-- what the search in a segment's blocks answered
pub searched : (number : ℕ) (blocks in_slice : List Cached) (result answer : Option ℕ) → in_slice ≡ blocks → result ≡ position (has_number number) in_slice → result ≡ answer → position (has_number number) blocks ≡ answer
searched number blocks in_slice result answer same search is = ap (position (has_number number)) (sym same) ∙ sym search ∙ is

-- what `merge` asks of the room, of the blocks as they lie in memory
pub room_asked : (segment : Segment) (id number room : ℕ) (blocks : List TextBlock) → record { id = id; blocks = blocks; room = room } ≡ segment
    → Contains (numbers_of segment.blocks) number ⊎ (length segment.blocks < segment.room) → Contains (numbers_of blocks) number ⊎ (length blocks < room)
room_asked segment id number room blocks view asked = subst (λ (s : Segment). Contains (numbers_of s.blocks) number ⊎ (length s.blocks < s.room)) (sym view) asked

-- where the block isn't there, that is that there is some
pub room_left : (blocks : List Cached) (number room : ℕ) → position (has_number number) blocks ≡ None
    → Contains (numbers_of (blocks_of blocks)) number ⊎ (length (blocks_of blocks) < room) → length blocks < room
room_left blocks number room none asked = elim asked [
  | inl has ↦ absurd (unfound blocks number none has)
  | inr left ↦ omega (arith, left, length-map blocks block_of)
]
