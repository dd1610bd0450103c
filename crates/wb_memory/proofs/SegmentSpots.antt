-- The spots of the sectors of one segment.
use Rattle.std.proofs.Common.{ℕ, suc, zero, ◌≡◌, ◌≢◌, ◌⊎◌, ◌+◌, ◌*◌, ◌<◌, ◌≤◌, ◌==◌, ◌&&◌, List, [], ◌∷◌, length, get_or, Bool, true, false, Some, None, refl, sym, ap, ◌∙◌, subst, inl, inr, arith, bit_or}
use Rattle.std.specs.Int.{bit_at}
use Rattle.std.proofs.lemmas.Bool.{cases_Bool, cases_eq, cond-true, cond-false, and_parts, and_from, both_ways, eqb-true, eq-eqb}
use Rattle.std.proofs.lemmas.List.{get_or_past, length_push}
use Rattle.std.proofs.lemmas.Nat.Bits.{bit_at_or, bit_at-lt, bit_at-zero}
use Rattle.wb_geometry.specs.declared.spot.Spot.{Spot}
use Rattle.wb_geometry.specs.Image.{sector, sectors_of}
use Rattle.wb_geometry.specs.History.{last_write}
use Rattle.wb_header.specs.Text.{TextBlock, no_block, AreDistinct}
use Rattle.wb_header.specs.Standing.{entries_of, numbers_of, block_at}
use Rattle.wb_header.proofs.Standings.{length-numbers_of, number_at, AreDistinct-one, last_write-block, last_write-no_block}
use Rattle.wb_ram.specs.Merging.{IsMerged}
use Rattle.wb_table.specs.Lookup.{nowhere, noted}
use Rattle.wb_memory.specs.Memory.{spot_from}

-- block j of these is the one of this number, and it has the bit
pub record HasSector (blocks : List TextBlock) (j number i : ℕ) : Type 0 where
  pub below : j < length blocks
  pub there : (block_at blocks j).number ≡ number
  pub set : bit_at (block_at blocks j).bits i ≡ 1

-- whether a block has the sector, as `spot_from` tests it
abbrev is_here : TextBlock → (number i : ℕ) → Bool
is_here here number i = here.number == number && bit_at here.bits i == 1

here_true : (here : TextBlock) (number i : ℕ) → is_here here number i ≡ true → (here.number ≡ number) × (bit_at here.bits i ≡ 1)
here_true here number i is =
    let parts = and_parts (here.number == number) (bit_at here.bits i == 1) is in
    (eqb-true here.number number parts.0, eqb-true (bit_at here.bits i) 1 parts.1)

here_false : (here : TextBlock) (number i : ℕ) → is_here here number i ≡ false → here.number ≡ number → bit_at here.bits i ≢ 1
here_false here number i is same set =
    both_ways (is_here here number i) is (and_from (here.number == number) (bit_at here.bits i == 1) (eq-eqb here.number number same) (eq-eqb (bit_at here.bits i) 1 set))

-- The spot names a block that has the sector, or it is nowhere and none has it.
pub spot_from-cases : (id index : ℕ) (blocks : List TextBlock) (number i : ℕ)
    → ((j : ℕ) × HasSector blocks j number i × (spot_from id index blocks number i ≡ record { id = id; index = index + j }))
    ⊎ ((spot_from id index blocks number i ≡ nowhere) × ((j : ℕ) → HasSector blocks j number i → ⊥))
spot_from-cases id index [] number i = inr (refl, λ j has. absurd (omega (arith, has.below)))
spot_from-cases id index (here ∷ blocks) number i = elim (cases_Bool (is_here here number i)) [
  | inl is ↦
      let parts = here_true here number i is in
      let at : index + 0 ≡ index = omega arith in
      inl (
        0,
        record { below = omega arith; there = parts.0; set = parts.1 },
        cond-true (is_here here number i) _ _ is ∙ ap (λ (n : ℕ). record { id = id; index = n }) (sym at),
      )
  | inr is ↦
      let skip = cond-false (is_here here number i) (record { id = id; index = index }) (spot_from id (index + 1) blocks number i) is in
      elim (spot_from-cases id (index + 1) blocks number i) [
        | inl found ↦
            let has = found.1 in
            let at : index + 1 + found.0 ≡ index + suc found.0 = omega arith in
            inl (
              suc found.0,
              record { below = omega (arith, has.below); there = has.there; set = has.set },
              skip ∙ found.2 ∙ ap (λ (n : ℕ). record { id = id; index = n }) at,
            )
        | inr none ↦ inr (
          skip ∙ none.0,
          λ j has. elim (cases_eq j 0) [
            | inl first ↦
                let h : HasSector (here ∷ blocks) 0 number i = subst (λ (n : ℕ). HasSector (here ∷ blocks) n number i) first has in
                here_false here number i is h.there h.set
            | inr later ↦ not_later none.1 j later has
          ],
        )
      ]
]
  where
    not_later : ((j : ℕ) → HasSector blocks j number i → ⊥) → (j : ℕ) → j ≢ 0 → HasSector (here ∷ blocks) j number i → ⊥
    not_later none zero later has = later refl
    not_later none (suc j) later has = none j (record { below = omega (arith, has.below); there = has.there; set = has.set })

-- of distinct blocks just one has the sector, and the spot names it
pub spot_from-at : (id : ℕ) (blocks : List TextBlock) (j number i : ℕ) → AreDistinct blocks → HasSector blocks j number i → spot_from id 0 blocks number i ≡ record { id = id; index = j }
spot_from-at id blocks j number i distinct has = elim (spot_from-cases id 0 blocks number i) [
  | inl found ↦
      let other = found.1 in
      let same : found.0 ≡ j = AreDistinct-one blocks found.0 j distinct other.below has.below (other.there ∙ sym has.there) in
      let at : 0 + found.0 ≡ j = omega (arith, same) in
      found.2 ∙ ap (λ (n : ℕ). record { id = id; index = n }) at
  | inr none ↦ absurd (none.1 j has)
]

pub spot_from-none : (id : ℕ) (blocks : List TextBlock) (number i : ℕ) → ((j : ℕ) → HasSector blocks j number i → ⊥) → spot_from id 0 blocks number i ≡ nowhere
spot_from-none id blocks number i none = elim (spot_from-cases id 0 blocks number i) [
  | inl found ↦ absurd (none found.0 found.1)
  | inr is ↦ is.0
]

-- the spot is in the segment, or nowhere
pub spot_from-id : (id : ℕ) (blocks : List TextBlock) (number i : ℕ) → ((spot_from id 0 blocks number i).id ≡ id) ⊎ (spot_from id 0 blocks number i ≡ nowhere)
spot_from-id id blocks number i = elim (spot_from-cases id 0 blocks number i) [
  | inl found ↦ inl (ap (λ (s : Spot). s.id) found.2)
  | inr none ↦ inr none.0
]

-- ---- a merge

pub merged_length : (number bits index : ℕ) (old new : List TextBlock) → IsMerged number bits index old new → (length new ≡ length old) ⊎ ((length new ≡ length old + 1) × (index ≡ length old))
merged_length number bits index old new merged = elim merged.numbers [
  | inl same ↦ inl (sym (length-numbers_of new) ∙ ap length same ∙ length-numbers_of old)
  | inr added ↦ inr (sym (length-numbers_of new) ∙ ap length added.0 ∙ length_push (numbers_of old) number ∙ ap (λ (n : ℕ). n + 1) (length-numbers_of old), added.1)
]

pub merged_few : (number bits index : ℕ) (old new : List TextBlock) → IsMerged number bits index old new → length new ≤ length old + 1
merged_few number bits index old new merged = elim (merged_length number bits index old new merged) [
  | inl kept ↦ omega (arith, kept)
  | inr more ↦ omega (arith, more.0)
]

-- where the numbers are the same, the block that takes the write was of that number before
merged_was : (number bits index : ℕ) (old new : List TextBlock) → IsMerged number bits index old new → numbers_of new ≡ numbers_of old → (block_at old index).number ≡ number
merged_was number bits index old new merged same =
    number_at old index ∙ ap (λ (ns : List ℕ). get_or ns index 0) (sym same) ∙ sym (number_at new index) ∙ merged.there

or_set : (a b i : ℕ) → bit_at a i ≡ 1 → bit_at (bit_or a b) i ≡ 1
or_set a b i set = omega (arith, bit_at_or a b i, set, bit_at-lt b i)

or_set_right : (a b i : ℕ) → bit_at b i ≡ 1 → bit_at (bit_or a b) i ≡ 1
or_set_right a b i set = omega (arith, bit_at_or a b i, set, bit_at-lt a i)

or_cases : (a b i : ℕ) → bit_at (bit_or a b) i ≡ 1 → bit_at b i ≢ 1 → bit_at a i ≡ 1
or_cases a b i set clear = omega (arith, bit_at_or a b i, set, clear, bit_at-lt a i, bit_at-lt b i)

-- another block has the sectors that it had
merged_other : (number bits index : ℕ) (old new : List TextBlock) (j block i : ℕ) → IsMerged number bits index old new → j ≢ index → HasSector new j block i → HasSector old j block i
merged_other number bits index old new j block i merged other has =
    let same = merged.others j has.below other in
    record {
      below = elim (merged_length number bits index old new merged) [
        | inl kept ↦ omega (arith, kept, has.below)
        | inr more ↦ omega (arith, more.0, more.1, has.below, other)
      ];
      there = sym (ap (λ (b : TextBlock). b.number) same) ∙ has.there;
      set = sym (ap (λ (b : TextBlock). bit_at b.bits i) same) ∙ has.set;
    }

-- no block loses a sector
merged_keeps : (number bits index : ℕ) (old new : List TextBlock) (j block i : ℕ) → IsMerged number bits index old new → HasSector old j block i → HasSector new j block i
merged_keeps number bits index old new j block i merged has = elim (cases_eq j index) [
  | inr other ↦
      let same = merged.others j inside other in
      record { below = inside; there = ap (λ (b : TextBlock). b.number) same ∙ has.there; set = ap (λ (b : TextBlock). bit_at b.bits i) same ∙ has.set }
  | inl here ↦ elim merged.numbers [
    | inr added ↦ absurd (omega (arith, added.1, here, has.below))
    | inl same ↦
        let h : HasSector old index block i = subst (λ (n : ℕ). HasSector old n block i) here has in
        let now : HasSector new index block i = record {
          below = merged.below;
          there = merged.there ∙ sym (merged_was number bits index old new merged same) ∙ h.there;
          set = ap (λ (n : ℕ). bit_at n i) merged.dirty ∙ or_set (block_at old index).bits bits i h.set;
        } in
        subst (λ (n : ℕ). HasSector new n block i) (sym here) now
  ]
]
  where
    inside : j < length new
    inside = elim (merged_length number bits index old new merged) [
      | inl kept ↦ omega (arith, kept, has.below)
      | inr more ↦ omega (arith, more.0, has.below)
    ]

-- the block that takes the write has its sectors
merged_takes : (number bits index : ℕ) (old new : List TextBlock) (i : ℕ) → IsMerged number bits index old new → bit_at bits i ≡ 1 → HasSector new index number i
merged_takes number bits index old new i merged set = record {
  below = merged.below;
  there = merged.there;
  set = ap (λ (n : ℕ). bit_at n i) merged.dirty ∙ or_set_right (block_at old index).bits bits i set;
}

-- and those that it had
merged_had : (number bits index : ℕ) (old new : List TextBlock) (block i : ℕ) → IsMerged number bits index old new → HasSector new index block i → bit_at bits i ≢ 1 → HasSector old index block i
merged_had number bits index old new block i merged has clear =
    let was : bit_at (block_at old index).bits i ≡ 1 = or_cases (block_at old index).bits bits i (sym (ap (λ (n : ℕ). bit_at n i) merged.dirty) ∙ has.set) clear in
    elim merged.numbers [
      | inl same ↦ record {
        below = omega (arith, merged.below, length-numbers_of new, length-numbers_of old, ap length same);
        there = merged_was number bits index old new merged same ∙ sym merged.there ∙ has.there;
        set = was;
      }
      | inr added ↦
          let none : block_at old index ≡ no_block = get_or_past old index no_block (omega (arith, added.1)) in
          absurd (omega (arith, sym was ∙ ap (λ (b : TextBlock). bit_at b.bits i) none, bit_at-zero i))
    ]

-- after a merge the sectors of the write are at its block, and all others where they were
pub spot_from-merged : (id number bits index : ℕ) (old new : List TextBlock) (block i : ℕ) → IsMerged number bits index old new → AreDistinct old → AreDistinct new
    → spot_from id 0 new block i ≡ noted (spot_from id 0 old block i) (block == number) bits i (record { id = id; index = index })
spot_from-merged id number bits index old new block i merged before after = elim (cases_Bool test) [
  | inl is ↦
      let parts = and_parts (block == number) (bit_at bits i == 1) is in
      let same : number ≡ block = sym (eqb-true block number parts.0) in
      let has : HasSector new index block i = subst (λ (n : ℕ). HasSector new index n i) same (merged_takes number bits index old new i merged (eqb-true (bit_at bits i) 1 parts.1)) in
      spot_from-at id new index block i after has ∙ sym (cond-true test (record { id = id; index = index }) (spot_from id 0 old block i) is)
  | inr isnt ↦ kept isnt ∙ sym (cond-false test (record { id = id; index = index }) (spot_from id 0 old block i) isnt)
]
  where
    test : Bool
    test = block == number && bit_at bits i == 1

    not_written : test ≡ false → HasSector new index block i → bit_at bits i ≢ 1
    not_written isnt has set =
        both_ways test isnt (and_from (block == number) (bit_at bits i == 1) (eq-eqb block number (sym has.there ∙ merged.there)) (eq-eqb (bit_at bits i) 1 set))

    kept : test ≡ false → spot_from id 0 new block i ≡ spot_from id 0 old block i
    kept isnt = elim (spot_from-cases id 0 old block i) [
      | inl found ↦
          spot_from-at id new found.0 block i after (merged_keeps number bits index old new found.0 block i merged found.1)
          ∙ sym (spot_from-at id old found.0 block i before found.1)
      | inr none ↦
          spot_from-none id new block i (λ j has. elim (cases_eq j index) [
            | inl here ↦
                let h : HasSector new index block i = subst (λ (n : ℕ). HasSector new n block i) here has in
                none.1 index (merged_had number bits index old new block i merged h (not_written isnt h))
            | inr other ↦ none.1 j (merged_other number bits index old new j block i merged other has)
          ])
          ∙ sym none.0
    ]

-- ---- what a segment keeps

pub last_write-has : (blocks : List TextBlock) (j number i : ℕ) → AreDistinct blocks → i < 8 → HasSector blocks j number i
    → last_write (8 * number + i) (entries_of blocks) ≡ Some (sector (sectors_of (block_at blocks j).payload) i)
last_write-has blocks j number i distinct eight has =
    ap (λ (n : ℕ). last_write (8 * n + i) (entries_of blocks)) (sym has.there)
    ∙ last_write-block blocks j i distinct has.below eight has.set

pub last_write-has_not : (blocks : List TextBlock) (number i : ℕ) → i < 8 → ((j : ℕ) → HasSector blocks j number i → ⊥) → last_write (8 * number + i) (entries_of blocks) ≡ None
last_write-has_not blocks number i eight none =
    last_write-no_block blocks number i eight (λ j below there set. none j (record { below = below; there = there; set = set }))
