-- The newest spot of a sector among segments, and what they keep of it.
use Rattle.std.proofs.Common.{ℕ, suc, zero, ◌≡◌, ◌≢◌, ◌⊎◌, ◌+◌, ◌-◌, ◌*◌, ◌<◌, ◌≤◌, ◌==◌, ◌&&◌, if◌then◌else◌, nat_le, List, [], ◌∷◌, ◌++◌, length, drop, Bool, Some, None, refl, sym, ap, ◌∙◌, inl, inr, arith}
use Rattle.std.specs.List.{All, Contains, flat_map, sum_by}
use Rattle.std.specs.Int.{bit_at}
use Rattle.std.specs.Cmp.{nat_eq_equiv}
use Rattle.std.proofs.lemmas.Bool.{cases_Bool, cases_lt, cond-true, cond-false, eq-eqb, ne_eqb, le-leb, lt-leb}
use Rattle.std.proofs.lemmas.Bool.Decides.{Decides-eqb}
use Rattle.std.proofs.lemmas.Map.Made.{length-le_from_is_member, IsDistinct-from_AllPairs, is_member-Decides}
use Rattle.std.proofs.lemmas.List.{length-append, length_push, drop_all, get_or_append_left, get_or-append_right, get_or_push, get_or_default}
use Rattle.std.proofs.lemmas.List.Elements.{All-head, All-tail, All-get_or, Contains-append_left, Contains-append_right}
use Rattle.std.proofs.lemmas.List.Sums.{sum_by-cons}
use Rattle.wb_geometry.specs.declared.spot.Spot.{Spot}
use Rattle.wb_geometry.specs.Image.{sector, sectors_of}
use Rattle.wb_geometry.specs.History.{later, last_write}
use Rattle.wb_geometry.proofs.Histories.{last_write-append}
use Rattle.wb_header.specs.Text.{AreDistinct}
use Rattle.wb_header.specs.Segments.{Segment}
use Rattle.wb_header.specs.Standing.{entries_of, numbers_of, block_at}
use Rattle.wb_header.proofs.Standings.{length-numbers_of, Contains-number}
use Rattle.wb_ram.specs.Merging.{IsMerged}
use Rattle.wb_table.specs.Lookup.{LookupContent, IsLookup, IsEachOnce, nowhere, noted, kept_after}
use Rattle.wb_memory.specs.Memory.{segment_at, no_segment, kept_entries, spot_from, newest}
use Rattle.wb_memory.proofs.SegmentSpots.{HasSector, spot_from-cases, spot_from-at, spot_from-id, spot_from-merged, last_write-has, last_write-has_not}

-- a segment whose spots are those of its blocks
pub record IsReadable (s : Segment) : Type 0 where
  pub named : 1 ≤ s.id
  pub distinct : AreDistinct s.blocks

-- segment j is the newest that has the sector, in the block at this index
pub record IsNewest (segments : List Segment) (j index block i : ℕ) : Type 0 where
  pub below : j < length segments
  pub has : HasSector (segment_at segments j).blocks index block i
  pub spot : newest segments block i ≡ record { id = (segment_at segments j).id; index = index }
  pub kept : last_write (8 * block + i) (kept_entries segments) ≡ Some (sector (sectors_of (block_at (segment_at segments j).blocks index).payload) i)

-- no segment has the sector
pub record IsNotKept (segments : List Segment) (block i : ℕ) : Type 0 where
  pub spot : newest segments block i ≡ nowhere
  pub kept : last_write (8 * block + i) (kept_entries segments) ≡ None

pub newest-rest : (s : Segment) (segments : List Segment) (block i : ℕ) → (newest segments block i).id ≢ 0 → newest (s ∷ segments) block i ≡ newest segments block i
newest-rest s segments block i some =
    cond-false ((newest segments block i).id == 0) (spot_from s.id 0 s.blocks block i) (newest segments block i) (ne_eqb (newest segments block i).id 0 some)

pub newest-first : (s : Segment) (segments : List Segment) (block i : ℕ) → (newest segments block i).id ≡ 0 → newest (s ∷ segments) block i ≡ spot_from s.id 0 s.blocks block i
newest-first s segments block i none =
    cond-true ((newest segments block i).id == 0) (spot_from s.id 0 s.blocks block i) (newest segments block i) (eq-eqb (newest segments block i).id 0 none)

-- either the one or the other
pub newest-cases : (segments : List Segment) (block i : ℕ) → i < 8 → All IsReadable segments → ((j : ℕ) × (index : ℕ) × IsNewest segments j index block i) ⊎ IsNotKept segments block i
newest-cases [] block i eight readable = inr (record { spot = refl; kept = refl })
newest-cases (s ∷ segments) block i eight readable =
    let k : ℕ = 8 * block + i in
    let here : IsReadable s = All-head IsReadable s segments readable in
    let both = last_write-append k (entries_of s.blocks) (kept_entries segments) in
    elim (newest-cases segments block i eight (All-tail IsReadable s segments readable)) [
      | inl found ↦
          let rest = found.2 in
          let name : 1 ≤ (segment_at segments found.0).id = (All-get_or IsReadable segments found.0 no_segment rest.below (All-tail IsReadable s segments readable)).named in
          let some : (newest segments block i).id ≢ 0 = λ none. absurd (omega (arith, name, sym (ap (λ (p : Spot). p.id) rest.spot) ∙ none)) in
          inl (
            suc found.0,
            found.1,
            record {
              below = omega (arith, rest.below);
              has = rest.has;
              spot = newest-rest s segments block i some ∙ rest.spot;
              kept = both ∙ ap (later (last_write k (entries_of s.blocks))) rest.kept;
            },
          )
      | inr rest ↦
          let spot_is = newest-first s segments block i (ap (λ (p : Spot). p.id) rest.spot) in
          let kept_is = both ∙ ap (later (last_write k (entries_of s.blocks))) rest.kept in
          elim (spot_from-cases s.id 0 s.blocks block i) [
            | inl found ↦ inl (
              0,
              found.0,
              record {
                below = omega arith;
                has = found.1;
                spot = spot_is ∙ spot_from-at s.id s.blocks found.0 block i here.distinct found.1;
                kept = kept_is ∙ last_write-has s.blocks found.0 block i here.distinct eight found.1;
              },
            )
            | inr none ↦ inr (record { spot = spot_is ∙ none.0; kept = kept_is ∙ last_write-has_not s.blocks block i eight none.1 })
          ]
    ]

-- the newest spot names a segment, or is nowhere
pub newest-nowhere : (segments : List Segment) (block i : ℕ) → i < 8 → All IsReadable segments → (newest segments block i).id ≡ 0 → newest segments block i ≡ nowhere
newest-nowhere segments block i eight readable none = elim (newest-cases segments block i eight readable) [
  | inl found ↦
      let name : 1 ≤ (segment_at segments found.0).id = (All-get_or IsReadable segments found.0 no_segment (found.2).below readable).named in
      absurd (omega (arith, name, sym (ap (λ (p : Spot). p.id) (found.2).spot) ∙ none))
  | inr is ↦ is.spot
]

-- a segment behind the others comes first
pub newest_push : (segments : List Segment) (s : Segment) (block i : ℕ) → 1 ≤ s.id → (spot_from s.id 0 s.blocks block i).id ≢ 0 → newest (segments ++ s ∷ []) block i ≡ spot_from s.id 0 s.blocks block i
newest_push [] s block i named some = newest-first s [] block i refl
newest_push (t ∷ segments) s block i named some =
    let rest = newest_push segments s block i named some in
    newest-rest t (segments ++ s ∷ []) block i (λ none. some (sym (ap (λ (p : Spot). p.id) rest) ∙ none)) ∙ rest

pub newest_push_none : (segments : List Segment) (s : Segment) (block i : ℕ) → spot_from s.id 0 s.blocks block i ≡ nowhere → newest (segments ++ s ∷ []) block i ≡ newest segments block i
newest_push_none [] s block i none = newest-first s [] block i refl ∙ none
newest_push_none (t ∷ segments) s block i none =
    ap (λ (p : Spot). if p.id == 0 then spot_from t.id 0 t.blocks block i else p) (newest_push_none segments s block i none)

-- only the id and the blocks of a segment count
pub newest_push_same : (segments : List Segment) (s t : Segment) (block i : ℕ) → spot_from s.id 0 s.blocks block i ≡ spot_from t.id 0 t.blocks block i → newest (segments ++ s ∷ []) block i ≡ newest (segments ++ t ∷ []) block i
newest_push_same [] s t block i same = newest-first s [] block i refl ∙ same ∙ sym (newest-first t [] block i refl)
newest_push_same (u ∷ segments) s t block i same =
    ap (λ (p : Spot). if p.id == 0 then spot_from u.id 0 u.blocks block i else p) (newest_push_same segments s t block i same)

-- ---- a merge into the last segment

pub newest_merged : (segments : List Segment) (old new : Segment) (number bits index block i : ℕ) → 1 ≤ old.id → new.id ≡ old.id → IsMerged number bits index old.blocks new.blocks → AreDistinct old.blocks → AreDistinct new.blocks
    → newest (segments ++ new ∷ []) block i ≡ noted (newest (segments ++ old ∷ []) block i) (block == number) bits i (record { id = old.id; index = index })
newest_merged segments old new number bits index block i named same merged before after = elim (cases_Bool test) [
  | inl is ↦
      let taken : spot_from new.id 0 new.blocks block i ≡ spot = now ∙ cond-true test spot was is in
      let some : (spot_from new.id 0 new.blocks block i).id ≢ 0 = λ none. absurd (omega (arith, named, sym (ap (λ (p : Spot). p.id) taken) ∙ none)) in
      newest_push segments new block i (omega (arith, named, same)) some ∙ taken ∙ sym (cond-true test spot (newest (segments ++ old ∷ []) block i) is)
  | inr isnt ↦
      newest_push_same segments new old block i (now ∙ cond-false test spot was isnt)
      ∙ sym (cond-false test spot (newest (segments ++ old ∷ []) block i) isnt)
]
  where
    test : Bool
    test = block == number && bit_at bits i == 1

    spot : Spot
    spot = record { id = old.id; index = index }

    was : Spot
    was = spot_from old.id 0 old.blocks block i

    now : spot_from new.id 0 new.blocks block i ≡ noted was (block == number) bits i spot
    now = ap (λ (id : ℕ). spot_from id 0 new.blocks block i) same ∙ spot_from-merged old.id number bits index old.blocks new.blocks block i merged before after

-- ---- segments behind others

-- those behind have the sector
pub newest-append_some : (xs ys : List Segment) (block i : ℕ) → (newest ys block i).id ≢ 0 → newest (xs ++ ys) block i ≡ newest ys block i
newest-append_some [] ys block i some = refl
newest-append_some (s ∷ xs) ys block i some =
    let rest = newest-append_some xs ys block i some in
    newest-rest s (xs ++ ys) block i (λ none. some (sym (ap (λ (p : Spot). p.id) rest) ∙ none)) ∙ rest

-- none of them has it
pub newest-append_none : (xs ys : List Segment) (block i : ℕ) → newest ys block i ≡ nowhere → newest (xs ++ ys) block i ≡ newest xs block i
newest-append_none [] ys block i none = none
newest-append_none (s ∷ xs) ys block i none =
    ap (λ (p : Spot). if p.id == 0 then spot_from s.id 0 s.blocks block i else p) (newest-append_none xs ys block i none)

-- only the id and the blocks of a segment among others count
pub newest_same_at : (xs : List Segment) (s t : Segment) (ys : List Segment) (block i : ℕ) → spot_from s.id 0 s.blocks block i ≡ spot_from t.id 0 t.blocks block i
    → newest (xs ++ s ∷ ys) block i ≡ newest (xs ++ t ∷ ys) block i
newest_same_at [] s t ys block i same = ap (λ (p : Spot). if (newest ys block i).id == 0 then p else newest ys block i) same
newest_same_at (u ∷ xs) s t ys block i same =
    ap (λ (p : Spot). if p.id == 0 then spot_from u.id 0 u.blocks block i else p) (newest_same_at xs s t ys block i same)

-- ---- ids that follow one another

-- the ids of the segments follow one another from this one on
abbrev pub IdsFrom : ℕ → List Segment → Type 0
IdsFrom first segments = (j : ℕ) → j < length segments → (segment_at segments j).id ≡ first + j

pub IdsFrom-push : (first : ℕ) (segments : List Segment) (s : Segment) → IdsFrom first segments → s.id ≡ first + length segments → IdsFrom first (segments ++ s ∷ [])
IdsFrom-push first segments s ids is j below = elim (cases_lt j (length segments)) [
  | inl inside ↦ ap (λ (t : Segment). t.id) (get_or_append_left segments (s ∷ []) no_segment j inside) ∙ ids j inside
  | inr from ↦
      let last : length segments ≡ j = omega (arith, below, from, length_push segments s) in
      ap (λ (t : Segment). t.id) (get_or_push segments s no_segment j last) ∙ is ∙ ap (λ (n : ℕ). first + n) last
]

pub IdsFrom-front : (first : ℕ) (segments : List Segment) (s : Segment) → IdsFrom first (segments ++ s ∷ []) → IdsFrom first segments
IdsFrom-front first segments s ids j below =
    sym (ap (λ (t : Segment). t.id) (get_or_append_left segments (s ∷ []) no_segment j below)) ∙ ids j (omega (arith, below, length_push segments s))

pub IdsFrom-rest : (first : ℕ) (segments : List Segment) (s : Segment) → IdsFrom first (s ∷ segments) → IdsFrom (first + 1) segments
IdsFrom-rest first segments s ids j below = omega (arith, ids (suc j) (omega (arith, below)))

pub IdsFrom-append : (first next : ℕ) (xs ys : List Segment) → IdsFrom first xs → IdsFrom next ys → first + length xs ≡ next → IdsFrom first (xs ++ ys)
IdsFrom-append first next xs ys front behind seam j below = elim (cases_lt j (length xs)) [
  | inl inside ↦ ap (λ (s : Segment). s.id) (get_or_append_left xs ys no_segment j inside) ∙ front j inside
  | inr past ↦
      let rest : j - length xs < length ys = omega (arith, below, past, length-append xs ys) in
      let end : next + (j - length xs) ≡ first + j = omega (arith, seam, past) in
      ap (λ (s : Segment). s.id) (get_or-append_right xs ys (length xs) j no_segment refl past) ∙ behind (j - length xs) rest ∙ end
]

-- ---- the oldest segments forgotten

kept_above : (id : ℕ) (spot : Spot) → id < spot.id → kept_after id spot ≡ spot
kept_above id spot above = cond-false (nat_le spot.id id) nowhere spot (lt-leb spot.id id above)

kept_below : (id : ℕ) (spot : Spot) → spot.id ≤ id → kept_after id spot ≡ nowhere
kept_below id spot below = cond-true (nat_le spot.id id) nowhere spot (le-leb spot.id id below)

kept_nowhere : (id : ℕ) → kept_after id nowhere ≡ nowhere
kept_nowhere id = kept_below id nowhere (omega arith)

-- a segment up to this id makes no difference
kept_front : (id : ℕ) (s : Segment) (segments : List Segment) (block i : ℕ) → i < 8 → s.id ≤ id → All IsReadable segments
    → kept_after id (newest (s ∷ segments) block i) ≡ kept_after id (newest segments block i)
kept_front id s segments block i eight below readable = elim (newest-cases segments block i eight readable) [
  | inl found ↦
      let new = found.2 in
      let name : 1 ≤ (segment_at segments found.0).id = (All-get_or IsReadable segments found.0 no_segment new.below readable).named in
      ap (kept_after id) (newest-rest s segments block i (λ none. absurd (omega (arith, name, sym (ap (λ (p : Spot). p.id) new.spot) ∙ none))))
  | inr none ↦
      ap (kept_after id) (newest-first s segments block i (ap (λ (p : Spot). p.id) none.spot))
      ∙ elim (spot_from-id s.id s.blocks block i) [
        | inl is ↦ kept_below id (spot_from s.id 0 s.blocks block i) (omega (arith, is, below))
        | inr is ↦ ap (kept_after id) is ∙ kept_nowhere id
      ]
      ∙ sym (ap (kept_after id) none.spot ∙ kept_nowhere id)
]

-- all ids are above this one
kept_all : (a id : ℕ) (segments : List Segment) (block i : ℕ) → i < 8 → id < a → IdsFrom a segments → All IsReadable segments
    → kept_after id (newest segments block i) ≡ newest segments block i
kept_all a id segments block i eight above ids readable = elim (newest-cases segments block i eight readable) [
  | inl found ↦
      let new = found.2 in
      kept_above id (newest segments block i) (omega (arith, above, ids found.0 new.below, ap (λ (p : Spot). p.id) new.spot))
  | inr none ↦ ap (kept_after id) none.spot ∙ kept_nowhere id ∙ sym none.spot
]

-- once the segments up to this id are forgotten, the others have the spots that are left
pub newest_above : (a id : ℕ) (segments : List Segment) (block i : ℕ) → i < 8 → IdsFrom a segments → All IsReadable segments
    → kept_after id (newest segments block i) ≡ newest (drop (id + 1 - a) segments) block i
newest_above a id [] block i eight ids readable =
    kept_nowhere id ∙ ap (λ (ss : List Segment). newest ss block i) (sym (drop_all (id + 1 - a) [] (omega arith)))
newest_above a id (s ∷ segments) block i eight ids readable = elim (cases_lt id a) [
  | inl above ↦
      let none : 0 ≡ id + 1 - a = omega (arith, above) in
      kept_all a id (s ∷ segments) block i eight above ids readable
      ∙ ap (λ (n : ℕ). newest (drop n (s ∷ segments)) block i) none
  | inr from ↦
      let count : suc (id + 1 - (a + 1)) ≡ id + 1 - a = omega (arith, from) in
      let first : s.id ≡ a + 0 = ids 0 (omega arith) in
      kept_front id s segments block i eight (omega (arith, first, from)) (All-tail IsReadable s segments readable)
      ∙ newest_above (a + 1) id segments block i eight (IdsFrom-rest a segments s ids) (All-tail IsReadable s segments readable)
      ∙ ap (λ (n : ℕ). newest (drop n (s ∷ segments)) block i) count
]

-- ---- the number of blocks in the table

-- the numbers of all blocks of the segments
abbrev pub numbers_in : List Segment → List ℕ
numbers_in segments = flat_map (λ segment. numbers_of segment.blocks) segments

Contains-numbers_in : (segments : List Segment) (j number : ℕ) → j < length segments → Contains (numbers_of (segment_at segments j).blocks) number → Contains (numbers_in segments) number
Contains-numbers_in [] j number below has = absurd (omega arith)
Contains-numbers_in (s ∷ segments) zero number below has = Contains-append_left (numbers_of s.blocks) (numbers_in segments) number has
Contains-numbers_in (s ∷ segments) (suc j) number below has =
    Contains-append_right (numbers_of s.blocks) (numbers_in segments) number (Contains-numbers_in segments j number (omega arith) has)

-- a list whose numbers are all in another, none of them twice, is no longer
pub length-le_from_once : (xs ys : List ℕ) → IsEachOnce xs → ((x : ℕ) → Contains xs x → Contains ys x) → length xs ≤ length ys
length-le_from_once xs ys once inside =
    length-le_from_is_member nat_eq_equiv xs ys
    (IsDistinct-from_AllPairs Decides-eqb xs (λ i j d less below. λ same. once i j less below (get_or_default xs i 0 d (omega arith) ∙ same ∙ get_or_default xs j d 0 below)))
    (λ q is. (is_member-Decides Decides-eqb ys q).1 (inside q ((is_member-Decides Decides-eqb xs q).0 is)))

pub length-numbers_in : (segments : List Segment) → length (numbers_in segments) ≡ sum_by (λ (s : Segment). length s.blocks) segments
length-numbers_in [] = refl
length-numbers_in (s ∷ segments) =
    omega (arith, length-append (numbers_of s.blocks) (numbers_in segments), length-numbers_of s.blocks, length-numbers_in segments, sum_by-cons (λ (t : Segment). length t.blocks) s segments)

pub length-table : (lookup : LookupContent) (segments : List Segment) → IsLookup lookup → All IsReadable segments → ((block i : ℕ) → i < 8 → lookup.spots block i ≡ newest segments block i) → length lookup.blocks ≤ length (numbers_in segments)
length-table lookup segments is readable spots =
    length-le_from_once lookup.blocks (numbers_in segments) is.once (λ block has.
    let at = is.there block has in
    elim (newest-cases segments block at.0 at.1 readable) [
      | inl found ↦
          let new = found.2 in
          Contains-numbers_in segments found.0 block new.below (Contains-number (segment_at segments found.0).blocks found.1 block new.has.below new.has.there)
      | inr none ↦ absurd (omega (arith, at.2, ap (λ (p : Spot). p.id) (spots block at.0 at.1 ∙ none.spot)))
    ])
