-- Blocks of which no two have the same number, as entries: each sector is written by one of them at most.
use Rattle.std.proofs.Common.{ℕ, suc, zero, ◌≡◌, ◌≢◌, ◌⊎◌, ◌+◌, ◌*◌, ◌/◌, ◌<◌, List, [], ◌∷◌, map, length, get_or, set, eqb, Option, Some, None, inl, inr, refl, ap, sym, ◌∙◌, arith}
use Rattle.std.specs.List.{AllPairs, Contains}
use Rattle.std.specs.List.Sorted.{IsPermutation}
use Rattle.std.proofs.lemmas.Bool.{cases_lt, cases_eq, eq-eqb, ne_eqb}
use Rattle.std.proofs.lemmas.Bool.Decides.{Decides-eqb}
use Rattle.std.proofs.lemmas.List.{length-map, get_or-map, get_or_default}
use Rattle.std.proofs.lemmas.List.Elements.{Contains-get_or}
use Rattle.std.proofs.lemmas.List.Sorted.{IsPermutation-map, IsPermutation-sym, Contains-permutation}
use Rattle.std.proofs.lemmas.Map.Keys.{IsDistinct-IsPermutation}
use Rattle.std.proofs.lemmas.Map.Made.{AllPairs-from_IsDistinct, IsDistinct-from_AllPairs}
use Rattle.wb_geometry.specs.Image.{Image, sector}
use Rattle.wb_geometry.specs.History.{HistoryEntry, written, later, last_write, PutsPartly}
use Rattle.wb_geometry.proofs.Histories.{written-before, written-behind, later-None, later_assoc, PutsLast, PutsLast-same, PutsPartly-from_last}
use Rattle.wb_header.specs.Text.{TextBlock, no_block, AreDistinct}
use Rattle.wb_header.specs.Standing.{entry_of, entries_of, block_at}

-- ---- lists whose members have different numbers

eqb_flips : (a b : ℕ) → eqb a b ≡ eqb b a
eqb_flips a b = elim (cases_eq a b) [
  | inl same ↦ eq-eqb a b same ∙ sym (eq-eqb b a (sym same))
  | inr other ↦ ne_eqb a b other ∙ sym (ne_eqb b a (λ e. other (sym e)))
]

-- in another order they still have
pub apart_permuted : {X : Type 0} (f : X → ℕ) (e : X) (xs ys : List X) → IsPermutation xs ys → AllPairs (λ (x y : X). f x ≢ f y) xs → AllPairs (λ (x y : X). f x ≢ f y) ys
apart_permuted {X} f e xs ys same apart =
    let numbers : AllPairs (λ (a b : ℕ). a ≢ b) (map f xs) = λ i j d lt below.
    let last : j < length xs = omega (arith, length-map xs f) in
    rw (get_or-map f xs i e d (omega arith), get_or-map f xs j e d last) (apart i j e lt last) in
    let moved : AllPairs (λ (a b : ℕ). a ≢ b) (map f ys) =
    AllPairs-from_IsDistinct Decides-eqb (map f ys)
    (IsDistinct-IsPermutation eqb eqb_flips (map f xs) (map f ys) (IsPermutation-map f xs ys same) (IsDistinct-from_AllPairs Decides-eqb (map f xs) numbers)) in
    λ i j d lt below.
    let first : get_or (map f ys) i (f d) ≡ f (get_or ys i d) = get_or-map f ys i d (f d) (omega arith) in
    let second : get_or (map f ys) j (f d) ≡ f (get_or ys j d) = get_or-map f ys j d (f d) below in
    λ is. moved i j (f d) lt (omega (arith, length-map ys f)) (first ∙ is ∙ sym second)

-- ---- what blocks write

-- a block's entry writes to the sectors of the block alone
pub written_other : (block : TextBlock) (k : ℕ) → block.number ≢ k / 8 → written k (entry_of block) ≡ None
written_other block k other = elim (cases_lt k (8 * block.number)) [
  | inl before ↦ written-before 0 block.number block.bits block.payload k before
  | inr from ↦ elim (cases_lt k (8 * block.number + 8)) [
    | inl inside ↦ absurd (other (omega arith))
    | inr behind ↦ written-behind 0 block.number block.bits block.payload k behind
  ]
]

distinct_rest : (block : TextBlock) (blocks : List TextBlock) → AreDistinct (block ∷ blocks) → AreDistinct blocks
distinct_rest block blocks distinct = λ i j lt below. distinct (suc i) (suc j) (omega arith) (omega arith)

-- where none of the blocks has the sector, none writes it
pub last_write-none : (k : ℕ) (blocks : List TextBlock) → ((j : ℕ) → j < length blocks → (block_at blocks j).number ≢ k / 8) → last_write k (entries_of blocks) ≡ None
last_write-none k [] other = refl
last_write-none k (block ∷ blocks) other =
    ap (later (written k (entry_of block))) (last_write-none k blocks (λ j below. other (suc j) (omega arith)))
    ∙ written_other block k (other 0 (omega arith))

-- else the block that has it does
pub last_write-one : (k : ℕ) (blocks : List TextBlock) (j : ℕ) → AreDistinct blocks → j < length blocks → (block_at blocks j).number ≡ k / 8
    → last_write k (entries_of blocks) ≡ written k (entry_of (block_at blocks j))
last_write-one k [] j distinct below is = absurd (omega arith)
last_write-one k (block ∷ blocks) zero distinct below is =
    ap (later (written k (entry_of block))) (last_write-none k blocks (λ j less e. distinct 0 (suc j) (omega arith) (omega arith) (is ∙ sym e)))
last_write-one k (block ∷ blocks) (suc j) distinct below is =
    ap (later (written k (entry_of block))) (last_write-one k blocks j (distinct_rest block blocks distinct) (omega arith) is)
    ∙ ap (λ (w : Option (List ℕ)). later w (written k (entry_of (block_at blocks j)))) (written_other block k (λ e. distinct 0 (suc j) (omega arith) below (e ∙ sym is)))
    ∙ later-None (written k (entry_of (block_at blocks j)))

-- one of the two
pub has_sector : (k : ℕ) (blocks : List TextBlock)
    → ((j : ℕ) × (j < length blocks) × ((block_at blocks j).number ≡ k / 8)) ⊎ ((j : ℕ) → j < length blocks → (block_at blocks j).number ≢ k / 8)
has_sector k [] = inr (λ j below. absurd (omega arith))
has_sector k (block ∷ blocks) = elim (cases_eq block.number (k / 8)) [
  | inl here ↦ inl (0, omega arith, here)
  | inr other ↦ elim (has_sector k blocks) [
    | inl there ↦ inl (suc there.0, omega arith, there.2)
    | inr none ↦ inr (λ j. none_of block blocks (k / 8) other none j)
  ]
]
  where
    none_of : (block : TextBlock) (blocks : List TextBlock) (n : ℕ) → block.number ≢ n → ((j : ℕ) → j < length blocks → (block_at blocks j).number ≢ n)
        → (j : ℕ) → j < length (block ∷ blocks) → (block_at (block ∷ blocks) j).number ≢ n
    none_of block blocks n other none zero below = other
    none_of block blocks n other none (suc j) below = none j (omega arith)

-- in another order the blocks write the same
pub last_write-permuted : (k : ℕ) (xs ys : List TextBlock) → AreDistinct xs → AreDistinct ys → IsPermutation xs ys → last_write k (entries_of ys) ≡ last_write k (entries_of xs)
last_write-permuted k xs ys apart still same = elim (has_sector k xs) [
  | inl one ↦
      let block : TextBlock = block_at xs one.0 in
      let there = Contains-permutation xs ys block same (Contains-get_or xs one.0 no_block one.1) in
      let is : block_at ys there.0 ≡ block = get_or_default ys there.0 no_block block there.1 ∙ there.2 in
      last_write-one k ys there.0 still there.1 (ap (λ (b : TextBlock). b.number) is ∙ one.2)
      ∙ ap (λ (b : TextBlock). written k (entry_of b)) is
      ∙ sym (last_write-one k xs one.0 apart one.1 one.2)
  | inr none ↦
      last_write-none k ys (λ j below e.
      let block : TextBlock = block_at ys j in
      let here = Contains-permutation ys xs block (IsPermutation-sym xs ys same) (Contains-get_or ys j no_block below) in
      let is : block_at xs here.0 ≡ block = get_or_default xs here.0 no_block block here.1 ∙ here.2 in
      none here.0 here.1 (ap (λ (b : TextBlock). b.number) is ∙ e))
      ∙ sym (last_write-none k xs none)
]

-- A block in the place of one of its number: what is written over it is written last.
pub last_write-set : (k : ℕ) (blocks : List TextBlock) (j : ℕ) (new : TextBlock) (over : Option (List ℕ)) → AreDistinct blocks → j < length blocks
    → new.number ≡ (block_at blocks j).number → written k (entry_of new) ≡ later (written k (entry_of (block_at blocks j))) over
    → (over ≡ None) ⊎ ((block_at blocks j).number ≡ k / 8)
    → last_write k (entries_of (set blocks j new)) ≡ later (last_write k (entries_of blocks)) over
last_write-set k [] j new over distinct below same put where_ = absurd (omega arith)
last_write-set k (block ∷ blocks) zero new over distinct below same put where_ = elim where_ [
  | inl none ↦
      ap (λ (w : Option (List ℕ)). later w (last_write k (entries_of blocks))) (put ∙ ap (later (written k (entry_of block))) none)
      ∙ sym (ap (later (last_write k (entries_of (block ∷ blocks)))) none)
  | inr here ↦
      let none : last_write k (entries_of blocks) ≡ None = last_write-none k blocks (λ j less e. distinct 0 (suc j) (omega arith) (omega arith) (here ∙ sym e)) in
      ap (later (written k (entry_of new))) none ∙ put
      ∙ sym (ap (λ (w : Option (List ℕ)). later (later (written k (entry_of block)) w) over) none)
]
last_write-set k (block ∷ blocks) (suc j) new over distinct below same put where_ =
    ap (later (written k (entry_of block))) (last_write-set k blocks j new over (distinct_rest block blocks distinct) (omega arith) same put where_)
    ∙ sym (later_assoc (written k (entry_of block)) (last_write k (entries_of blocks)) over)

-- ---- putting some of them

-- each sector is as it was, or as the last of them writes it, since no other does
pub PutsLast-from_partly : (blocks : List TextBlock) (x y : Image) → AreDistinct blocks → PutsPartly (entries_of blocks) x y → PutsLast (entries_of blocks) x y
PutsLast-from_partly blocks x y distinct partly = record {
  size = partly.size;
  each = λ i. elim (partly.each i) [
    | inl kept ↦ inl kept
    | inr by ↦ inr (last_of i by.0 (sector y i) by.1 by.2)
  ];
}
  where
    last_of : (i : ℕ) (entry : HistoryEntry) (s : List ℕ) → Contains (entries_of blocks) entry → written i entry ≡ Some s → last_write i (entries_of blocks) ≡ Some s
    last_of i entry s among put =
        let j : ℕ = among.0 in
        let below : j < length blocks = omega (arith, among.1, length-map blocks entry_of) in
        let is : entry_of (block_at blocks j) ≡ entry = sym (get_or-map entry_of blocks j no_block entry below) ∙ among.2 in
        let writes : written i (entry_of (block_at blocks j)) ≡ Some s = ap (written i) is ∙ put in
        elim (cases_eq (block_at blocks j).number (i / 8)) [
          | inl here ↦ last_write-one i blocks j distinct below here ∙ writes
          | inr other ↦ let none = written_other (block_at blocks j) i other in cc
        ]

-- So some of them are some of any entries with the same last writes.
pub PutsPartly-same_last : (blocks : List TextBlock) (es : List HistoryEntry) (x y : Image) → AreDistinct blocks → ((k : ℕ) → last_write k (entries_of blocks) ≡ last_write k es)
    → PutsPartly (entries_of blocks) x y → PutsPartly es x y
PutsPartly-same_last blocks es x y distinct same partly =
    PutsPartly-from_last es x y (PutsLast-same (entries_of blocks) es x y same (PutsLast-from_partly blocks x y distinct partly))
