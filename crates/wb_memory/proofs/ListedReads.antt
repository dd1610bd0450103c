-- Where the newest content of a sector is, and the segment in memory that has it.
use Rattle.std.proofs.Common.{ℕ, ◌≡◌, ◌≢◌, ◌↔◌, ◌+◌, ◌-◌, ◌*◌, ◌<◌, ◌≤◌, List, [], ◌∷◌, length, get_or, take, drop, Option, Some, None, refl, sym, ap, ◌∙◌, subst, inl, inr, arith, Bor}
use Rattle.std.specs.Option.{IfSome, IsSome, option_map}
use Rattle.std.proofs.lemmas.Bool.{cases_lt}
use Rattle.std.proofs.lemmas.List.{length_push, length-take, length-drop, get_or_append_left, get_or_push, get_or_read_under}
use Rattle.std.proofs.lemmas.List.Elements.{All-get_or}
use Rattle.wb_geometry.specs.declared.spot.Spot.{Spot}
use Rattle.wb_geometry.specs.Image.{sector, sectors_of}
use Rattle.wb_geometry.specs.History.{last_write, IsUnwritten}
use Rattle.wb_geometry.proofs.Images.{sector-sectors_of}
use Rattle.wb_header.specs.Segments.{Segment}
use Rattle.wb_header.specs.Standing.{entries_of, block_at}
use Rattle.wb_table.specs.Lookup.{nowhere}
use Rattle.wb_table.specs.Tables.{lookup_of}
use Rattle.wb_memory.specs.Memory.{MemoryContent, IsMemory, live, listed, logged_from, segment_at, no_segment, kept_entries, newest, last_logged}
use Rattle.wb_memory.proofs.SegmentSpots.{HasSector, last_write-has}
use Rattle.wb_memory.proofs.ListedSpots.{IsNewest, IsNotKept, newest-cases, newest-append_some, newest-append_none, newest-nowhere}
use Rattle.wb_memory.proofs.Listed.{ids_logged, readable_live, readable_logged, readable_listed, few-logged_from, length-logged_from}

-- ---- in memory, in the log, or nowhere

-- the id of a newest segment in memory
live_id : (m : MemoryContent) (j index block i : ℕ) → IsMemory m → IsNewest (live m) j index block i → (newest (live m) block i).id ≡ m.current.id - length m.sealed + j
live_id m j index block i is new = ap (λ (p : Spot). p.id) new.spot ∙ is.ids j new.below

-- a spot up to the last in the log: no segment in memory has the sector
pub spot_logged : (m : MemoryContent) (block i : ℕ) → IsMemory m → i < 8 → (newest (listed m) block i).id ≤ last_logged m
    → IsNotKept (live m) block i × (newest (listed m) block i ≡ newest (logged_from m.logged.first m.logged.kept) block i)
spot_logged m block i is eight below = elim (newest-cases (live m) block i eight (readable_live m is)) [
  | inl found ↦
      let at = live_id m found.0 found.1 block i is found.2 in
      let same = newest-append_some (logged_from m.logged.first m.logged.kept) (live m) block i (λ none. absurd (omega (arith, at, none, is.early))) in
      absurd (omega (arith, below, ap (λ (p : Spot). p.id) same, at, is.early))
  | inr none ↦ (none, newest-append_none (logged_from m.logged.first m.logged.kept) (live m) block i none.spot)
]

-- a spot behind it: a segment in memory has it
pub spot_live : (m : MemoryContent) (block i : ℕ) → IsMemory m → i < 8 → last_logged m < (newest (listed m) block i).id
    → (newest (listed m) block i ≡ newest (live m) block i) × (j : ℕ) × (index : ℕ) × IsNewest (live m) j index block i
spot_live m block i is eight above = elim (newest-cases (live m) block i eight (readable_live m is)) [
  | inl found ↦
      let at = live_id m found.0 found.1 block i is found.2 in (
        newest-append_some (logged_from m.logged.first m.logged.kept) (live m) block i (λ none. absurd (omega (arith, at, none, is.early))),
        found.0,
        found.1,
        found.2,
      )
  | inr none ↦
      let same = ap (λ (p : Spot). p.id) (newest-append_none (logged_from m.logged.first m.logged.kept) (live m) block i none.spot) in
      elim (newest-cases (logged_from m.logged.first m.logged.kept) block i eight (readable_logged m is)) [
        | inl found ↦
            let new = found.2 in
            absurd (omega (arith, above, same, ap (λ (p : Spot). p.id) new.spot, ids_logged m is found.0 new.below, new.below, length-logged_from m.logged.first m.logged.kept, is.early))
        | inr gone ↦ absurd (omega (arith, above, same, ap (λ (p : Spot). p.id) gone.spot))
      ]
]

-- the block's index in a segment in the log is one of its places
pub logged_index : (m : MemoryContent) (block i : ℕ) → IsMemory m → i < 8 → 1 ≤ (newest (listed m) block i).id → (newest (listed m) block i).id ≤ last_logged m
    → (newest (listed m) block i).index < m.places
logged_index m block i is eight some below =
    let same = (spot_logged m block i is eight below).1 in
    elim (newest-cases (logged_from m.logged.first m.logged.kept) block i eight (readable_logged m is)) [
      | inl found ↦
          let new = found.2 in
          omega (
            arith,
            ap (λ (p : Spot). p.index) same,
            ap (λ (p : Spot). p.index) new.spot,
            new.has.below,
            All-get_or (λ (s : Segment). length s.blocks ≤ m.places) (logged_from m.logged.first m.logged.kept) found.0 no_segment new.below
                (few-logged_from m.places m.logged.first m.logged.kept is.logged),
          )
      | inr gone ↦ absurd (omega (arith, some, ap (λ (p : Spot). p.id) same, ap (λ (p : Spot). p.id) gone.spot))
    ]

-- ---- in a segment in memory

-- no spot's id is above the open segment's
pub spot_before : (m : MemoryContent) (block i : ℕ) (spot : Spot) → IsMemory m → i < 8 → spot ≡ newest (listed m) block i → spot.id ≤ m.current.id
spot_before m block i spot is eight spot_is = elim (cases_lt (last_logged m) spot.id) [
  | inl above ↦
      let found = spot_live m block i is eight (subst (λ (p : Spot). last_logged m < p.id) spot_is above) in
      let new = found.3 in
      omega (arith, ap (λ (p : Spot). p.id) (spot_is ∙ found.0), live_id m found.1 found.2 block i is new, new.below, length_push m.sealed m.current, is.early)
  | inr below ↦ omega (arith, below)
]

-- the spot names the open segment
pub read_current : (m : MemoryContent) (block i : ℕ) (spot : Spot) → IsMemory m → i < 8 → spot ≡ newest (listed m) block i → spot.id ≡ m.current.id
    → (bytes : List ℕ) × (last_write (8 * block + i) (entries_of m.current.blocks) ≡ Some bytes) × (last_write (8 * block + i) (kept_entries (live m)) ≡ Some bytes)
read_current m block i spot is eight spot_is at =
    let found = spot_live m block i is eight (omega (arith, ap (λ (p : Spot). p.id) spot_is, at, is.early)) in
    let new = found.3 in
    let last : length m.sealed ≡ found.1 = omega (arith, ap (λ (p : Spot). p.id) (spot_is ∙ found.0), live_id m found.1 found.2 block i is new, is.early, at) in
    let here : segment_at (live m) found.1 ≡ m.current = get_or_push m.sealed m.current no_segment found.1 last in
    let has : HasSector m.current.blocks found.2 block i = subst (λ (s : Segment). HasSector s.blocks found.2 block i) here new.has in (
      sector (sectors_of (block_at m.current.blocks found.2).payload) i,
      last_write-has m.current.blocks found.2 block i is.current.distinct eight has,
      new.kept ∙ ap (λ (s : Segment). Some (sector (sectors_of (block_at s.blocks found.2).payload) i)) here,
    )

-- The spot names a sealed segment, which stands so many places before the end as its id is below the open one's.
pub record IsReadFrom (m : MemoryContent) (block i : ℕ) (spot : Spot) (j : ℕ) : Type 0 where
  pub at : j ≡ length m.sealed - (m.current.id - spot.id)
  pub below : j < length m.sealed
  pub index : spot.index < length (segment_at m.sealed j).blocks
  pub kept : last_write (8 * block + i) (kept_entries (live m)) ≡ Some (sector (sectors_of (block_at (segment_at m.sealed j).blocks spot.index).payload) i)

pub read_sealed : (m : MemoryContent) (block i : ℕ) (spot : Spot) → IsMemory m → i < 8 → spot ≡ newest (listed m) block i → last_logged m < spot.id → spot.id ≢ m.current.id
    → IsReadFrom m block i spot (length m.sealed - (m.current.id - spot.id))
read_sealed m block i spot is eight spot_is above other = record {
  at = refl;
  below = omega (arith, place, inside);
  index = subst (λ (p : Spot). p.index < length (segment_at m.sealed (length m.sealed - (m.current.id - spot.id))).blocks) (sym named)
      (subst (λ (n : ℕ). index < length (segment_at m.sealed n).blocks) (sym place) has.below);
  kept = new.kept
      ∙ ap (λ (s : Segment). Some (sector (sectors_of (block_at s.blocks index).payload) i)) here
      ∙ ap (λ (n : ℕ). Some (sector (sectors_of (block_at (segment_at m.sealed n).blocks index).payload) i)) (sym place)
      ∙ ap (λ (n : ℕ). Some (sector (sectors_of (block_at (segment_at m.sealed (length m.sealed - (m.current.id - spot.id))).blocks n).payload) i)) (sym (ap (λ (p : Spot). p.index) named));
}
  where
    found : (newest (listed m) block i ≡ newest (live m) block i) × (j : ℕ) × (index : ℕ) × IsNewest (live m) j index block i
    found = spot_live m block i is eight (subst (λ (p : Spot). last_logged m < p.id) spot_is above)

    j : ℕ
    j = found.1

    index : ℕ
    index = found.2

    new : IsNewest (live m) j index block i
    new = found.3

    named : spot ≡ record { id = (segment_at (live m) j).id; index = index }
    named = spot_is ∙ found.0 ∙ new.spot

    id_is : spot.id ≡ m.current.id - length m.sealed + j
    id_is = ap (λ (p : Spot). p.id) named ∙ is.ids j new.below

    inside : j < length m.sealed
    inside = omega (arith, new.below, length_push m.sealed m.current, id_is, other, is.early)

    place : length m.sealed - (m.current.id - spot.id) ≡ j
    place = omega (arith, id_is, is.early, inside)

    here : segment_at (live m) j ≡ segment_at m.sealed j
    here = get_or_append_left m.sealed (m.current ∷ []) no_segment j inside

    has : HasSector (segment_at m.sealed j).blocks index block i
    has = subst (λ (s : Segment). HasSector s.blocks index block i) here new.has

-- ---- what the answer says

-- a reference to bytes is there, where the bytes are
some_lent : (o : Option (Bor (List ℕ))) (bytes : List ℕ) → option_map (λ (x : Bor (List ℕ)). x.now) o ≡ Some bytes → IsSome o
some_lent None bytes is = cc
some_lent (Some x) bytes is = refl

-- the spot is nowhere
pub newest_none : (m : MemoryContent) (block i : ℕ) (spot : Spot) → IsMemory m → i < 8 → spot ≡ newest (listed m) block i → spot.id ≡ 0
    → IsUnwritten (8 * block + i) (kept_entries (live m)) × ((lookup_of m.lookup).spots block i ≡ nowhere)
newest_none m block i spot is eight spot_is none =
    let id : (newest (listed m) block i).id ≡ 0 = sym (ap (λ (p : Spot). p.id) spot_is) ∙ none in (
      (spot_logged m block i is eight (omega (arith, id))).0.kept,
      is.spots block i eight ∙ newest-nowhere (listed m) block i eight (readable_listed m is) id,
    )

-- it is in the log
pub newest_logged : (m : MemoryContent) (block i : ℕ) (spot : Spot) → IsMemory m → i < 8 → spot ≡ newest (listed m) block i → spot.id ≢ 0 → length m.sealed < m.current.id - spot.id
    → IsUnwritten (8 * block + i) (kept_entries (live m)) × (spot ≡ (lookup_of m.lookup).spots block i) × (1 ≤ spot.id) × (spot.id ≤ last_logged m) × (spot.index < m.places)
newest_logged m block i spot is eight spot_is some behind =
    let below : (newest (listed m) block i).id ≤ last_logged m = omega (arith, ap (λ (p : Spot). p.id) spot_is, behind) in
    let named : 1 ≤ spot.id = omega (arith, some) in (
      (spot_logged m block i is eight below).0.kept,
      spot_is ∙ sym (is.spots block i eight),
      named,
      omega (arith, ap (λ (p : Spot). p.id) spot_is, below),
      subst (λ (p : Spot). p.index < m.places) (sym spot_is) (logged_index m block i is eight (omega (arith, named, ap (λ (p : Spot). p.id) spot_is)) below),
    )

-- it is in memory, with these bytes
pub newest_here : (m : MemoryContent) (block i : ℕ) (spot : Spot) (bytes : List ℕ) → IsMemory m → i < 8 → spot ≡ newest (listed m) block i → last_logged m < spot.id
    → last_write (8 * block + i) (kept_entries (live m)) ≡ Some bytes → length bytes ≡ 512
    → (last_write (8 * block + i) (kept_entries (live m)) ≡ Some bytes) × (length bytes ≡ 512) × (last_logged m < ((lookup_of m.lookup).spots block i).id)
newest_here m block i spot bytes is eight spot_is above last size =
    (last, size, subst (λ (p : Spot). last_logged m < p.id) (spot_is ∙ sym (is.spots block i eight)) above)

-- the last write of the open segment, as the code finds it
pub current_bytes : (m : MemoryContent) (block i : ℕ) (spot : Spot) (o : Option (Bor (List ℕ))) (x : Bor (List ℕ)) → IsMemory m → i < 8 → spot ≡ newest (listed m) block i → spot.id ≡ m.current.id
    → option_map (λ (y : Bor (List ℕ)). y.now) o ≡ last_write (8 * block + i) (entries_of m.current.blocks) → IfSome o (λ y. length y.now ≡ 512) → o ≡ Some x
    → (last_write (8 * block + i) (kept_entries (live m)) ≡ Some x.now) × (length x.now ≡ 512)
current_bytes m block i spot o x is eight spot_is at bytes size lent =
    let read = read_current m block i spot is eight spot_is at in (
      read.2 ∙ sym read.1 ∙ sym bytes ∙ ap (option_map (λ (y : Bor (List ℕ)). y.now)) lent,
      subst (λ (p : Option (Bor (List ℕ))). IfSome p (λ y. length y.now ≡ 512)) lent size,
    )

pub current_some : (m : MemoryContent) (block i : ℕ) (spot : Spot) (o : Option (Bor (List ℕ))) → IsMemory m → i < 8 → spot ≡ newest (listed m) block i → spot.id ≡ m.current.id
    → option_map (λ (y : Bor (List ℕ)). y.now) o ≡ last_write (8 * block + i) (entries_of m.current.blocks) → IsSome o
current_some m block i spot o is eight spot_is at bytes =
    some_lent o _ (bytes ∙ (read_current m block i spot is eight spot_is at).1)

-- ---- as the code reads

-- the first of some elements, behind a reference
pub first_lent : {X : Type 0} (o : Option (Bor X)) (xs : List X) (count : ℕ) → (IsSome o ↔ (0 < count)) → count ≡ length xs → IfSome o (λ x. x.now ≡ get_or xs 0 x.now) → IfSome o (λ x. (rest : List X) × (xs ≡ x.now ∷ rest))
first_lent None xs count some is first = tt
first_lent (Some x) [] count some is first = absurd (omega (arith, some.0 refl, is))
first_lent (Some x) (y ∷ ys) count some is first = (ys, ap (λ z. z ∷ ys) (sym first))

-- the bytes of a sector, as they lie in a block
pub sector_bytes : (payload : List ℕ) (i start : ℕ) → i < 8 → length payload ≡ 4096 → start ≡ i → take (start * 512 + 512 - start * 512) (drop (start * 512) payload) ≡ sector (sectors_of payload) i
sector_bytes payload i start eight size at =
    let count : start * 512 + 512 - start * 512 ≡ 512 = omega arith in
    let front : start * 512 ≡ 512 * i = omega (arith, at) in
    ap (λ (n : ℕ). take n (drop (start * 512) payload)) count
    ∙ ap (λ (n : ℕ). take 512 (drop n payload)) front
    ∙ sym (sector-sectors_of payload i (omega (arith, size)))

-- the spot that the code reads of the table
pub spot_read : (m : MemoryContent) (spots : List Spot) (block i at : ℕ) → IsMemory m → i < 8 → at ≡ i → ((k : ℕ) → k < 8 → get_or spots k nowhere ≡ (lookup_of m.lookup).spots block k) → get_or spots at nowhere ≡ newest (listed m) block i
spot_read m spots block i at is eight same found = ap (λ (n : ℕ). get_or spots n nowhere) same ∙ found i eight ∙ is.spots block i eight

pub sector_size : (payload : List ℕ) (i start : ℕ) → i < 8 → length payload ≡ 4096 → start ≡ i → length (take (start * 512 + 512 - start * 512) (drop (start * 512) payload)) ≡ 512
sector_size payload i start eight size at =
    omega (arith, length-take (start * 512 + 512 - start * 512) (drop (start * 512) payload), length-drop (start * 512) payload, size, at)

-- the sealed segment that the code reads, which so many stand before, has the sector at the spot's index
pub record ReadsSealed (m : MemoryContent) (block i : ℕ) (spot : Spot) (s : Segment) : Type 0 where
  pub above : last_logged m < spot.id
  pub index : spot.index < length s.blocks
  pub kept : last_write (8 * block + i) (kept_entries (live m)) ≡ Some (sector (sectors_of (block_at s.blocks spot.index).payload) i)

pub segment_read : (m : MemoryContent) (block i : ℕ) (spot : Spot) (s : Segment) (id count : ℕ) → IsMemory m → i < 8 → spot ≡ newest (listed m) block i
    → id ≡ m.current.id → count ≡ length m.sealed → id - spot.id ≢ 0 → id - spot.id ≤ count → s ≡ get_or m.sealed (count - (id - spot.id)) s → ReadsSealed m block i spot s
segment_read m block i spot s id count is eight spot_is id_is all other near read = record {
  above = above;
  index = subst (λ (t : Segment). spot.index < length t.blocks) (sym same) found.index;
  kept = found.kept ∙ ap (λ (t : Segment). Some (sector (sectors_of (block_at t.blocks spot.index).payload) i)) (sym same);
}
  where
    before : spot.id ≤ m.current.id
    before = spot_before m block i spot is eight spot_is

    above : last_logged m < spot.id
    above = omega (arith, before, near, all, id_is, is.early)

    found : IsReadFrom m block i spot (length m.sealed - (m.current.id - spot.id))
    found = read_sealed m block i spot is eight spot_is above (λ here. other (omega (arith, here, id_is)))

    place : count - (id - spot.id) ≡ length m.sealed - (m.current.id - spot.id)
    place = omega (arith, all, id_is)

    same : s ≡ segment_at m.sealed (length m.sealed - (m.current.id - spot.id))
    same = get_or_read_under m.sealed (count - (id - spot.id)) count s no_segment read (omega (arith, place, found.below, all)) all ∙ ap (segment_at m.sealed) place

-- the bytes that it lends
pub segment_bytes : (m : MemoryContent) (block i : ℕ) (spot : Spot) (s : Segment) (payload : List ℕ) (index start : ℕ) → IsMemory m → i < 8 → spot ≡ newest (listed m) block i → ReadsSealed m block i spot s
    → index ≡ spot.index → payload ≡ (block_at s.blocks index).payload → length payload ≡ 4096 → start ≡ i
    → (last_write (8 * block + i) (kept_entries (live m)) ≡ Some (take (start * 512 + 512 - start * 512) (drop (start * 512) payload)))
    × (length (take (start * 512 + 512 - start * 512) (drop (start * 512) payload)) ≡ 512) × (last_logged m < ((lookup_of m.lookup).spots block i).id)
segment_bytes m block i spot s payload index start is eight spot_is read index_is payload_is size at =
    let bytes : List ℕ = take (start * 512 + 512 - start * 512) (drop (start * 512) payload) in
    let there : payload ≡ (block_at s.blocks spot.index).payload = payload_is ∙ ap (λ (n : ℕ). (block_at s.blocks n).payload) index_is in
    newest_here m block i spot bytes is eight spot_is read.above
    (read.kept ∙ ap (λ (b : List ℕ). Some (sector (sectors_of b) i)) (sym there) ∙ ap (λ (b : List ℕ). Some b) (sym (sector_bytes payload i start eight size at)))
    (sector_size payload i start eight size at)
