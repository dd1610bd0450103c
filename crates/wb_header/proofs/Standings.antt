-- Blocks that stand for entries: what the last of their entries writes to a sector, and one more entry behind the others.
use Rattle.std.proofs.Common.{ℕ, suc, zero, ◌≡◌, ◌≢◌, ◌⊎◌, ◌+◌, ◌-◌, ◌*◌, ◌/◌, ◌<◌, ◌≤◌, List, [], ◌∷◌, ◌++◌, length, get_or, set, max, Option, Some, None, refl, sym, ap, ◌∙◌, subst, inl, inr, arith, bit_or}
use Rattle.std.specs.List.{Contains}
use Rattle.std.specs.Int.{bit_at}
use Rattle.std.proofs.lemmas.Bool.{cases_lt, cases_eq}
use Rattle.std.proofs.lemmas.Bool.Decides.{nat_tests}
use Rattle.std.proofs.lemmas.List.{length-map, map_push, length_push, get_or_push, get_or_append_left, get_or_default}
use Rattle.std.proofs.lemmas.List.Elements.{Contains-append_left, Contains-append_right}
use Rattle.std.proofs.lemmas.Nat.Bits.{bit_at_or, bit_at-lt}
use Rattle.wb_geometry.specs.Image.{sector, sectors_of}
use Rattle.wb_geometry.specs.Block.{joined_sector}
use Rattle.wb_geometry.specs.History.{HistoryEntry, Write, Void, written, later, last_write}
use Rattle.wb_geometry.proofs.Histories.{later-None, later_assoc, last_write_push, written-inside, written-before, written-behind, written-clear}
use Rattle.wb_header.specs.Text.{TextBlock, AreDistinct}
use Rattle.wb_header.specs.Standing.{entry_of, entries_of, numbers_of, block_at, first_at, StandsFor}

-- ---- the number of a sector's block

block_of_sector : (number i : ℕ) → i < 8 → (8 * number + i) / 8 ≡ number
block_of_sector number i below = omega arith

place_in_block : (number i : ℕ) → 8 * number + i - 8 * number ≡ i
place_in_block number i = omega arith

-- ---- the numbers of blocks

pub length-numbers_of : (blocks : List TextBlock) → length (numbers_of blocks) ≡ length blocks
length-numbers_of blocks = length-map blocks (λ (block : TextBlock). block.number)

pub number_at : (blocks : List TextBlock) (j : ℕ) → (block_at blocks j).number ≡ get_or (numbers_of blocks) j 0
number_at [] j = refl
number_at (b ∷ blocks) zero = refl
number_at (b ∷ blocks) (suc j) = number_at blocks j

pub Contains-number : (blocks : List TextBlock) (j number : ℕ) → j < length blocks → (block_at blocks j).number ≡ number → Contains (numbers_of blocks) number
Contains-number blocks j number below is =
    let inside : j < length (numbers_of blocks) = omega (arith, length-numbers_of blocks) in
    (j, inside, get_or_default (numbers_of blocks) j number 0 inside ∙ sym (number_at blocks j) ∙ is)

pub AreDistinct-tail : (b : TextBlock) (blocks : List TextBlock) → AreDistinct (b ∷ blocks) → AreDistinct blocks
AreDistinct-tail b blocks distinct = λ i j less below. distinct (suc i) (suc j) (omega arith) (omega arith)

-- blocks of the same numbers are distinct alike
pub AreDistinct-same : (old new : List TextBlock) → numbers_of new ≡ numbers_of old → AreDistinct old → AreDistinct new
AreDistinct-same old new same distinct = λ i j less below is.
    distinct i j less (omega (arith, length-numbers_of new, length-numbers_of old, ap length same)) (sym (number_same i) ∙ is ∙ number_same j)
  where
    number_same : (j : ℕ) → (block_at new j).number ≡ (block_at old j).number
    number_same j = number_at new j ∙ ap (λ (ns : List ℕ). get_or ns j 0) same ∙ sym (number_at old j)

-- one block more, of this number
module _ (old new : List TextBlock) (number : ℕ) (added : numbers_of new ≡ numbers_of old ++ number ∷ []) where
  length-added : length new ≡ length old + 1
  length-added = sym (length-numbers_of new) ∙ ap length added ∙ length_push (numbers_of old) number ∙ ap (λ (n : ℕ). n + 1) (length-numbers_of old)

  number-added_before : (j : ℕ) → j < length old → (block_at new j).number ≡ (block_at old j).number
  number-added_before j below =
      number_at new j ∙ ap (λ (ns : List ℕ). get_or ns j 0) added
      ∙ get_or_append_left (numbers_of old) (number ∷ []) 0 j (omega (arith, length-numbers_of old)) ∙ sym (number_at old j)

  number-added_last : (j : ℕ) → j ≡ length old → (block_at new j).number ≡ number
  number-added_last j is = number_at new j ∙ ap (λ (ns : List ℕ). get_or ns j 0) added ∙ get_or_push (numbers_of old) number 0 j (length-numbers_of old ∙ sym is)

-- so are they with one more whose number none of them has
pub AreDistinct-added : (old new : List TextBlock) (number : ℕ) → numbers_of new ≡ numbers_of old ++ number ∷ [] → (Contains (numbers_of old) number → ⊥) → AreDistinct old → AreDistinct new
AreDistinct-added old new number added absent distinct = λ i j less below is. elim (cases_lt j (length old)) [
  | inl inside ↦ distinct i j less inside (sym (number-added_before old new number added i (omega arith)) ∙ is ∙ number-added_before old new number added j inside)
  | inr from ↦
      let count = length-added old new number added in
      absent (Contains-number old i number (omega (arith, count)) (sym (number-added_before old new number added i (omega (arith, count))) ∙ is ∙ number-added_last old new number added j (omega (arith, count))))
]

-- of distinct blocks, those of one number are one
pub AreDistinct-one : (blocks : List TextBlock) (i j : ℕ) → AreDistinct blocks → i < length blocks → j < length blocks → (block_at blocks i).number ≡ (block_at blocks j).number → i ≡ j
AreDistinct-one blocks i j distinct first second same = elim (cases_lt i j) [
  | inl less ↦ absurd (distinct i j less second same)
  | inr from ↦ elim (cases_lt j i) [
    | inl more ↦ absurd (distinct j i more first (sym same))
    | inr equal ↦ omega arith
  ]
]

-- ---- what blocks write

-- a block writes to no sector of another one
pub written_elsewhere : (k client number bits : ℕ) (payload : List ℕ) → number ≢ k / 8 → written k (Write client number bits payload) ≡ None
written_elsewhere k client number bits payload other = elim (cases_lt k (8 * number)) [
  | inl before ↦ written-before client number bits payload k before
  | inr from ↦ written-behind client number bits payload k (omega arith)
]

-- nothing is written to a sector of a block that isn't there
pub last_write-unnamed : (k : ℕ) (blocks : List TextBlock) → ((j : ℕ) → j < length blocks → (block_at blocks j).number ≢ k / 8) → last_write k (entries_of blocks) ≡ None
last_write-unnamed k [] unnamed = refl
last_write-unnamed k (b ∷ blocks) unnamed =
    ap (later (written k (entry_of b))) (last_write-unnamed k blocks (λ j below. unnamed (suc j) (omega arith)))
    ∙ written_elsewhere k 0 b.number b.bits b.payload (unnamed 0 (omega arith))

-- a sector of a block is written by that block alone
pub last_write-at : (k j : ℕ) (blocks : List TextBlock) → AreDistinct blocks → j < length blocks → (block_at blocks j).number ≡ k / 8
    → last_write k (entries_of blocks) ≡ written k (entry_of (block_at blocks j))
last_write-at k j [] distinct below is = absurd (omega arith)
last_write-at k zero (b ∷ blocks) distinct below is =
    ap (later (written k (entry_of b))) (last_write-unnamed k blocks (λ j less same. distinct 0 (suc j) (omega arith) (omega arith) (is ∙ sym same)))
last_write-at k (suc j) (b ∷ blocks) distinct below is =
    ap (λ (o : Option (List ℕ)). later o (last_write k (entries_of blocks)))
    (written_elsewhere k 0 b.number b.bits b.payload (λ same. distinct 0 (suc j) (omega arith) below (same ∙ sym is)))
    ∙ later-None (last_write k (entries_of blocks))
    ∙ last_write-at k j blocks (AreDistinct-tail b blocks distinct) (omega arith) is

-- a sector whose bit is set in a block holds what the block has there
pub last_write-block : (blocks : List TextBlock) (j i : ℕ) → AreDistinct blocks → j < length blocks → i < 8 → bit_at (block_at blocks j).bits i ≡ 1
    → last_write (8 * (block_at blocks j).number + i) (entries_of blocks) ≡ Some (sector (sectors_of (block_at blocks j).payload) i)
last_write-block blocks j i distinct below eight is =
    let b : TextBlock = block_at blocks j in
    let k : ℕ = 8 * b.number + i in
    last_write-at k j blocks distinct below (sym (block_of_sector b.number i eight))
    ∙ written-inside 0 b.number b.bits b.payload k (omega arith) (omega arith) (ap (bit_at b.bits) (place_in_block b.number i) ∙ is)
    ∙ ap (λ (n : ℕ). Some (sector (sectors_of b.payload) n)) (place_in_block b.number i)

-- and where no block of that number has the bit, the sector isn't written
pub last_write-no_block : (blocks : List TextBlock) (number i : ℕ) → i < 8
    → ((j : ℕ) → j < length blocks → (block_at blocks j).number ≡ number → bit_at (block_at blocks j).bits i ≢ 1)
    → last_write (8 * number + i) (entries_of blocks) ≡ None
last_write-no_block [] number i eight unset = refl
last_write-no_block (b ∷ blocks) number i eight unset =
    ap (later (written (8 * number + i) (entry_of b))) (last_write-no_block blocks number i eight (λ j below. unset (suc j) (omega arith)))
    ∙ (elim (cases_eq b.number number) [
      | inl same ↦
          let at : 8 * number + i - 8 * b.number ≡ i = omega arith in
          let clear : bit_at b.bits i ≡ 0 = omega (arith, unset 0 (omega arith) same, bit_at-lt b.bits i) in
          written-clear 0 b.number b.bits b.payload (8 * number + i) (ap (bit_at b.bits) at ∙ clear)
      | inr other ↦ written_elsewhere (8 * number + i) 0 b.number b.bits b.payload (λ same. other (same ∙ block_of_sector number i eight))
    ])

-- ---- the last write of entries that blocks stand for

pub stands_block : (blocks : List TextBlock) (entries : List HistoryEntry) (j i : ℕ) → StandsFor blocks entries → j < length blocks → i < 8 → bit_at (block_at blocks j).bits i ≡ 1
    → last_write (8 * (block_at blocks j).number + i) entries ≡ Some (sector (sectors_of (block_at blocks j).payload) i)
stands_block blocks entries j i stands below eight is =
    sym (stands.each (8 * (block_at blocks j).number + i)) ∙ last_write-block blocks j i stands.distinct below eight is

pub stands_no_block : (blocks : List TextBlock) (entries : List HistoryEntry) (number i : ℕ) → StandsFor blocks entries → i < 8
    → ((j : ℕ) → j < length blocks → (block_at blocks j).number ≡ number → bit_at (block_at blocks j).bits i ≢ 1)
    → last_write (8 * number + i) entries ≡ None
stands_no_block blocks entries number i stands eight unset = sym (stands.each (8 * number + i)) ∙ last_write-no_block blocks number i eight unset

-- ---- a later block over one of the same number

pub written-join : (k client number old_bits bits : ℕ) (old payload new : List ℕ)
    → ((i : ℕ) → i < 8 → sector (sectors_of new) i ≡ joined_sector i old bits payload)
    → written k (Write 0 number (bit_or old_bits bits) new) ≡ later (written k (Write 0 number old_bits old)) (written k (Write client number bits payload))
written-join k client number old_bits bits old payload new joined = elim (cases_eq number (k / 8)) [
  | inr other ↦
      written_elsewhere k 0 number (bit_or old_bits bits) new other
      ∙ sym (ap (later (written k (Write 0 number old_bits old))) (written_elsewhere k client number bits payload other) ∙ written_elsewhere k 0 number old_bits old other)
  | inl same ↦
      let i : ℕ = k - 8 * number in
      let eight : i < 8 = omega arith in
      let either : bit_at (bit_or old_bits bits) i ≡ max (bit_at old_bits i) (bit_at bits i) = bit_at_or old_bits bits i in
      let first : bit_at old_bits i < 2 = bit_at-lt old_bits i in
      let second : bit_at bits i < 2 = bit_at-lt bits i in
      elim (cases_eq (bit_at bits i) 1) [
        | inl is ↦
            written-inside 0 number (bit_or old_bits bits) new k (omega arith) (omega arith) (either ∙ omega arith)
            ∙ ap (λ (s : List ℕ). Some s) (joined i eight ∙ taken i is)
            ∙ sym (ap (later (written k (Write 0 number old_bits old))) (written-inside client number bits payload k (omega arith) (omega arith) is))
        | inr unset ↦
            let none : written k (Write client number bits payload) ≡ None = written-clear client number bits payload k (omega arith) in
            (elim (cases_eq (bit_at old_bits i) 1) [
              | inl was ↦
                  written-inside 0 number (bit_or old_bits bits) new k (omega arith) (omega arith) (either ∙ omega arith)
                  ∙ ap (λ (s : List ℕ). Some s) (joined i eight ∙ left i unset)
                  ∙ sym (written-inside 0 number old_bits old k (omega arith) (omega arith) was)
              | inr clear ↦
                  written-clear 0 number (bit_or old_bits bits) new k (either ∙ omega arith)
                  ∙ sym (written-clear 0 number old_bits old k (omega arith))
            ])
            ∙ sym (ap (later (written k (Write 0 number old_bits old))) none)
      ]
]
  where
    taken : (i : ℕ) → bit_at bits i ≡ 1 → joined_sector i old bits payload ≡ sector (sectors_of payload) i
    taken i is = grind (arith, nat_tests)

    left : (i : ℕ) → bit_at bits i ≢ 1 → joined_sector i old bits payload ≡ sector (sectors_of old) i
    left i unset = grind (arith, nat_tests)

-- The block at one index is replaced by one that holds one more write of that block.
pub last_write-set : (k j : ℕ) (blocks : List TextBlock) (new : TextBlock) (more : Option (List ℕ)) → AreDistinct blocks → j < length blocks
    → written k (entry_of new) ≡ later (written k (entry_of (block_at blocks j))) more
    → ((block_at blocks j).number ≢ k / 8 → more ≡ None)
    → last_write k (entries_of (set blocks j new)) ≡ later (last_write k (entries_of blocks)) more
last_write-set k j [] new more distinct below joined elsewhere = absurd (omega arith)
last_write-set k zero (b ∷ blocks) new more distinct below joined elsewhere = elim (cases_eq b.number (k / 8)) [
  | inl same ↦
      let rest : last_write k (entries_of blocks) ≡ None =
      last_write-unnamed k blocks (λ j less is. distinct 0 (suc j) (omega arith) (omega arith) (same ∙ sym is)) in
      ap (later (written k (entry_of new))) rest ∙ joined ∙ sym (ap (λ (o : Option (List ℕ)). later (later (written k (entry_of b)) o) more) rest)
  | inr other ↦
      let none : more ≡ None = elsewhere other in
      ap (λ (o : Option (List ℕ)). later o (last_write k (entries_of blocks))) (joined ∙ ap (later (written k (entry_of b))) none)
      ∙ sym (ap (later (later (written k (entry_of b)) (last_write k (entries_of blocks)))) none)
]
last_write-set k (suc j) (b ∷ blocks) new more distinct below joined elsewhere =
    ap (later (written k (entry_of b))) (last_write-set k j blocks new more (AreDistinct-tail b blocks distinct) (omega arith) joined elsewhere)
    ∙ sym (later_assoc (written k (entry_of b)) (last_write k (entries_of blocks)) more)

pub last_write_pushed : (k : ℕ) (blocks : List TextBlock) (b : TextBlock) → last_write k (entries_of (blocks ++ b ∷ [])) ≡ later (last_write k (entries_of blocks)) (written k (entry_of b))
last_write_pushed k blocks b = ap (last_write k) (map_push entry_of blocks b) ∙ last_write_push k (entries_of blocks) (entry_of b)

-- ---- where a block is first written

first_at_here : (number client bits : ℕ) (payload : List ℕ) (entries : List HistoryEntry) → first_at number (Write client number bits payload ∷ entries) ≡ 0
first_at_here number client bits payload entries = grind (arith, nat_tests)

first_at_later : (number client block bits : ℕ) (payload : List ℕ) (entries : List HistoryEntry) → block ≢ number → first_at number (Write client block bits payload ∷ entries) ≡ suc (first_at number entries)
first_at_later number client block bits payload entries other = grind (arith, nat_tests)

-- where it is written already, more entries don't change it
pub first_at_inside : (number : ℕ) (entries more : List HistoryEntry) → first_at number entries < length entries → first_at number (entries ++ more) ≡ first_at number entries
first_at_inside number [] more less = absurd (omega arith)
first_at_inside number (Write client block bits payload ∷ entries) more less = elim (cases_eq block number) [
  | inl same ↦ subst (λ (n : ℕ). first_at n (Write client block bits payload ∷ (entries ++ more)) ≡ first_at n (Write client block bits payload ∷ entries)) same
      (first_at_here block client bits payload (entries ++ more) ∙ sym (first_at_here block client bits payload entries))
  | inr other ↦
      let is : first_at number (Write client block bits payload ∷ entries) ≡ suc (first_at number entries) = first_at_later number client block bits payload entries other in
      first_at_later number client block bits payload (entries ++ more) other
      ∙ ap (λ (n : ℕ). suc n) (first_at_inside number entries more (omega (arith, is, less)))
      ∙ sym is
]
first_at_inside number (Void client ∷ entries) more less = ap (λ (n : ℕ). suc n) (first_at_inside number entries more (omega (arith, less)))

-- where it isn't yet, it is first written behind
pub first_at_behind : (number : ℕ) (entries more : List HistoryEntry) → length entries ≤ first_at number entries → first_at number (entries ++ more) ≡ length entries + first_at number more
first_at_behind number [] more past = omega arith
first_at_behind number (Write client block bits payload ∷ entries) more past = elim (cases_eq block number) [
  | inl same ↦
      let is : first_at number (Write client block bits payload ∷ entries) ≡ 0 =
      subst (λ (n : ℕ). first_at n (Write client block bits payload ∷ entries) ≡ 0) same (first_at_here block client bits payload entries) in
      absurd (omega (arith, is, past))
  | inr other ↦
      let is : first_at number (Write client block bits payload ∷ entries) ≡ suc (first_at number entries) = first_at_later number client block bits payload entries other in
      let rest : first_at number (entries ++ more) ≡ length entries + first_at number more = first_at_behind number entries more (omega (arith, is, past)) in
      first_at_later number client block bits payload (entries ++ more) other ∙ (omega (arith, rest))
]
first_at_behind number (Void client ∷ entries) more past =
    let rest : first_at number (entries ++ more) ≡ length entries + first_at number more = first_at_behind number entries more (omega (arith, past)) in
    omega (arith, rest)

-- ---- one more entry behind the others

length_one_more : (entries : List HistoryEntry) (e : HistoryEntry) → length (entries ++ e ∷ []) ≡ length entries + 1
length_one_more entries e = length_push entries e

pub stands_none : StandsFor [] []
stands_none = record {
  distinct = λ i j less below. absurd (omega arith);
  each = λ k. refl;
  some = λ j below. absurd (omega arith);
  listed = λ number less. absurd (omega arith);
  order = λ i j less below. absurd (omega arith);
}

-- a place that changes nothing
pub stands_void : (blocks : List TextBlock) (entries : List HistoryEntry) (client : ℕ) → StandsFor blocks entries → StandsFor blocks (entries ++ Void client ∷ [])
stands_void blocks entries client stands = record {
  distinct = stands.distinct;
  each = λ k. stands.each k ∙ sym (last_write_push k entries (Void client));
  some = λ j below.
      omega (arith, stands.some j below, first_at_inside (block_at blocks j).number entries (Void client ∷ []) (stands.some j below), length_one_more entries (Void client));
  order = λ i j less below.
      let first = first_at_inside (block_at blocks i).number entries (Void client ∷ []) (stands.some i (omega arith)) in
      let second = first_at_inside (block_at blocks j).number entries (Void client ∷ []) (stands.some j below) in
      omega (arith, first, second, stands.order i j less below);
  listed = λ number less. elim (cases_lt (first_at number entries) (length entries)) [
    | inl inside ↦ stands.listed number inside
    | inr past ↦ absurd (omega (arith, less, first_at_behind number entries (Void client ∷ []) past, length_one_more entries (Void client)))
  ];
}

-- a write of a block that an entry names, or of none
named_after : (number client block bits : ℕ) (payload : List ℕ) (entries : List HistoryEntry)
    → first_at number (entries ++ Write client block bits payload ∷ []) < length (entries ++ Write client block bits payload ∷ [])
    → (first_at number entries < length entries) ⊎ (number ≡ block)
named_after number client block bits payload entries less = elim (cases_lt (first_at number entries) (length entries)) [
  | inl inside ↦ inl inside
  | inr past ↦ elim (cases_eq block number) [
    | inl same ↦ inr (sym same)
    | inr other ↦
        let behind = first_at_behind number entries (Write client block bits payload ∷ []) past in
        let later_one : first_at number (Write client block bits payload ∷ []) ≡ 1 = first_at_later number client block bits payload [] other in
        absurd (omega (arith, less, behind, later_one, length_one_more entries (Write client block bits payload)))
  ]
]

-- a write of a block that is there
pub stands_kept : (old new : List TextBlock) (entries : List HistoryEntry) (client number bits : ℕ) (payload : List ℕ)
    → StandsFor old entries → numbers_of new ≡ numbers_of old → Contains (numbers_of new) number
    → ((k : ℕ) → last_write k (entries_of new) ≡ later (last_write k (entries_of old)) (written k (Write client number bits payload)))
    → StandsFor new (entries ++ Write client number bits payload ∷ [])
stands_kept old new entries client number bits payload before same there last = record {
  distinct = AreDistinct-same old new same before.distinct;
  each = λ k. last k ∙ ap (λ (o : Option (List ℕ)). later o (written k (Write client number bits payload))) (before.each k) ∙ sym (last_write_push k entries (Write client number bits payload));
  some = λ j below.
      omega (arith, kept j below, before.some j (omega (arith, count)), length_one_more entries (Write client number bits payload));
  order = λ i j less below.
      omega (arith, kept i (omega arith), kept j below, before.order i j less (omega (arith, count)));
  listed = λ n less. elim (named_after n client number bits payload entries less) [
    | inl inside ↦ subst (λ (ns : List ℕ). Contains ns n) (sym same) (before.listed n inside)
    | inr is ↦ subst (Contains (numbers_of new)) (sym is) there
  ];
}
  where
    count : length new ≡ length old
    count = sym (length-numbers_of new) ∙ ap length same ∙ length-numbers_of old

    number_same : (j : ℕ) → (block_at new j).number ≡ (block_at old j).number
    number_same j = number_at new j ∙ ap (λ (ns : List ℕ). get_or ns j 0) same ∙ sym (number_at old j)

    kept : (j : ℕ) → j < length new → first_at (block_at new j).number (entries ++ Write client number bits payload ∷ []) ≡ first_at (block_at old j).number entries
    kept j below =
        ap (λ (n : ℕ). first_at n (entries ++ Write client number bits payload ∷ [])) (number_same j)
        ∙ first_at_inside (block_at old j).number entries (Write client number bits payload ∷ []) (before.some j (omega (arith, count)))

-- the write of a block that isn't, and stands behind the others then
pub stands_added : (old new : List TextBlock) (entries : List HistoryEntry) (client number bits : ℕ) (payload : List ℕ)
    → StandsFor old entries → numbers_of new ≡ numbers_of old ++ number ∷ [] → (Contains (numbers_of old) number → ⊥)
    → ((k : ℕ) → last_write k (entries_of new) ≡ later (last_write k (entries_of old)) (written k (Write client number bits payload)))
    → StandsFor new (entries ++ Write client number bits payload ∷ [])
stands_added old new entries client number bits payload before added absent last = record {
  distinct = AreDistinct-added old new number added absent before.distinct;
  each = λ k. last k ∙ ap (λ (o : Option (List ℕ)). later o (written k (Write client number bits payload))) (before.each k) ∙ sym (last_write_push k entries (Write client number bits payload));
  some = λ j below. elim (cases_lt j (length old)) [
    | inl inside ↦ omega (arith, kept j inside, before.some j inside, length_one_more entries (Write client number bits payload))
    | inr from ↦ omega (arith, first_last j (omega (arith, length-added old new number added)), length_one_more entries (Write client number bits payload))
  ];
  order = λ i j less below. elim (cases_lt j (length old)) [
    | inl inside ↦ omega (arith, kept i (omega arith), kept j inside, before.order i j less inside)
    | inr from ↦
        let count = length-added old new number added in
        omega (arith, kept i (omega (arith, count)), before.some i (omega (arith, count)), first_last j (omega (arith, count)))
  ];
  listed = λ n less. elim (named_after n client number bits payload entries less) [
    | inl inside ↦ subst (λ (ns : List ℕ). Contains ns n) (sym added) (Contains-append_left (numbers_of old) (number ∷ []) n (before.listed n inside))
    | inr is ↦ subst (λ (ns : List ℕ). Contains ns n) (sym added) (Contains-append_right (numbers_of old) (number ∷ []) n (0, omega arith, sym is))
  ];
}
  where
    kept : (j : ℕ) → j < length old → first_at (block_at new j).number (entries ++ Write client number bits payload ∷ []) ≡ first_at (block_at old j).number entries
    kept j below =
        ap (λ (n : ℕ). first_at n (entries ++ Write client number bits payload ∷ [])) (number-added_before old new number added j below)
        ∙ first_at_inside (block_at old j).number entries (Write client number bits payload ∷ []) (before.some j below)

    unnamed : length entries ≤ first_at number entries
    unnamed = elim (cases_lt (first_at number entries) (length entries)) [
      | inl inside ↦ absurd (absent (before.listed number inside))
      | inr past ↦ past
    ]

    first_last : (j : ℕ) → j ≡ length old → first_at (block_at new j).number (entries ++ Write client number bits payload ∷ []) ≡ length entries
    first_last j is =
        ap (λ (n : ℕ). first_at n (entries ++ Write client number bits payload ∷ [])) (number-added_last old new number added j is)
        ∙ first_at_behind number entries (Write client number bits payload ∷ []) unnamed
        ∙ ap (λ (n : ℕ). length entries + n) (first_at_here number client bits payload [])
        ∙ omega arith

-- ---- distinct blocks stand for themselves

first_at_own : (blocks : List TextBlock) (j : ℕ) → AreDistinct blocks → j < length blocks → first_at (block_at blocks j).number (entries_of blocks) ≡ j
first_at_own [] j distinct below = absurd (omega arith)
first_at_own (b ∷ blocks) zero distinct below = first_at_here b.number 0 b.bits b.payload (entries_of blocks)
first_at_own (b ∷ blocks) (suc j) distinct below =
    first_at_later (block_at blocks j).number 0 b.number b.bits b.payload (entries_of blocks) (distinct 0 (suc j) (omega arith) below)
    ∙ ap (λ (n : ℕ). suc n) (first_at_own blocks j (AreDistinct-tail b blocks distinct) (omega arith))

named_own : (blocks : List TextBlock) (number : ℕ) → first_at number (entries_of blocks) < length (entries_of blocks) → (j : ℕ) × (j < length blocks) × ((block_at blocks j).number ≡ number)
named_own [] number less = absurd (omega arith)
named_own (b ∷ blocks) number less = elim (cases_eq b.number number) [
  | inl same ↦ (0, omega arith, same)
  | inr other ↦
      let is : first_at number (entries_of (b ∷ blocks)) ≡ suc (first_at number (entries_of blocks)) = first_at_later number 0 b.number b.bits b.payload (entries_of blocks) other in
      let rest = named_own blocks number (omega (arith, is, less)) in
      (suc rest.0, omega (arith, rest.1), rest.2)
]

pub stands_own : (blocks : List TextBlock) → AreDistinct blocks → StandsFor blocks (entries_of blocks)
stands_own blocks distinct = record {
  distinct = distinct;
  each = λ k. refl;
  some = λ j below. omega (arith, first_at_own blocks j distinct below, length-map blocks entry_of);
  order = λ i j less below. omega (arith, first_at_own blocks i distinct (omega arith), first_at_own blocks j distinct below);
  listed = λ number less. let at = named_own blocks number less in Contains-number blocks at.0 number at.1 at.2;
}

-- ---- two lists of blocks that stand for the same entries

-- a number that is there is that of some block
named_at : (blocks : List TextBlock) (number : ℕ) → Contains (numbers_of blocks) number → (j : ℕ) × (j < length blocks) × ((block_at blocks j).number ≡ number)
named_at blocks number has =
    (has.0, omega (arith, has.1, length-numbers_of blocks), number_at blocks has.0 ∙ get_or_default (numbers_of blocks) has.0 0 number has.1 ∙ has.2)

-- block j of the one has the number of block j of the other
abbrev IsAlikeAt : (xs ys : List TextBlock) (j : ℕ) → Type 0
IsAlikeAt xs ys j = (j < length ys) × ((block_at ys j).number ≡ (block_at xs j).number)

-- so it is where it is so of all before it
alike_next : (xs ys : List TextBlock) (entries : List HistoryEntry) (j : ℕ) → StandsFor xs entries → StandsFor ys entries → j < length xs
    → ((i : ℕ) → i < j → IsAlikeAt xs ys i) → IsAlikeAt xs ys j
alike_next xs ys entries j first second below before =
    let at = named_at ys (block_at xs j).number (second.listed (block_at xs j).number (first.some j below)) in
    elim (cases_lt at.0 j) [
      | inl less ↦ absurd (first.distinct at.0 j less below (sym ((before at.0 less).1) ∙ at.2))
      | inr from ↦ elim (cases_lt j at.0) [
        | inr same ↦
            let is : at.0 ≡ j = omega arith in
            (omega (arith, at.1), ap (λ (n : ℕ). (block_at ys n).number) (sym is) ∙ at.2)
        | inl less ↦
            let inside : j < length ys = omega (arith, at.1) in
            let early : first_at (block_at ys j).number entries < first_at (block_at xs j).number entries =
            subst (λ (n : ℕ). first_at (block_at ys j).number entries < first_at n entries) at.2 (second.order j at.0 less at.1) in
            let other = named_at xs (block_at ys j).number (first.listed (block_at ys j).number (second.some j inside)) in
            let same_first : first_at (block_at xs other.0).number entries ≡ first_at (block_at ys j).number entries = ap (λ (n : ℕ). first_at n entries) other.2 in
            elim (cases_lt other.0 j) [
              | inl less_other ↦ absurd (second.distinct other.0 j less_other inside ((before other.0 less_other).1 ∙ other.2))
              | inr from_other ↦ elim (cases_lt j other.0) [
                | inl past ↦ absurd (omega (arith, first.order j other.0 past other.1, same_first, early))
                | inr here ↦
                    let is : other.0 ≡ j = omega arith in
                    absurd (omega (arith, ap (λ (n : ℕ). first_at (block_at xs n).number entries) is, same_first, early))
              ]
            ]
      ]
    ]

alike_below : (xs ys : List TextBlock) (entries : List HistoryEntry) (n i : ℕ) → StandsFor xs entries → StandsFor ys entries → i < n → i < length xs → IsAlikeAt xs ys i
alike_below xs ys entries zero i first second less below = absurd (omega arith)
alike_below xs ys entries (suc n) i first second less below =
    alike_next xs ys entries i first second below
    (λ k under. alike_below xs ys entries n k first second (omega arith) (omega arith))

-- they have the same numbers, in the same order
pub stands_alike : (xs ys : List TextBlock) (entries : List HistoryEntry) → StandsFor xs entries → StandsFor ys entries → (j : ℕ) → j < length xs
    → (j < length ys) × ((block_at ys j).number ≡ (block_at xs j).number)
stands_alike xs ys entries first second j below = alike_below xs ys entries (suc j) j first second (omega arith) below
