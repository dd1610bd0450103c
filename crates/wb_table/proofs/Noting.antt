-- What a note makes of a table.
use Rattle.std.proofs.Common.{◌≡◌, ◌≢◌, ℕ, ◌<◌, ◌≤◌, ◌⊎◌, ◌==◌, ◌^◌, inl, inr, true, Some, IsSome, Contains, if◌then◌else◌, slice_index, refl, sym, ap, ◌∙◌, subst, arith, eq-eqb, w8}
use Rattle.std.proofs.lemmas.Bool.{cases_eq, ne_eqb}
use Rattle.std.proofs.lemmas.Nat.Bits.{bit_at-trailing_zeros}
use Rattle.std.specs.Int.{bit_at, trailing_zeros}
use Rattle.std.specs.Map.{keys_of}
use Rattle.std.specs.Option.{unwrap_or, option_map_or}
use Rattle.wb_geometry.specs.declared.spot.Spot.{Spot}
use Rattle.wb_table.specs.Keeping.{IsFilled, IsCovered, IsCoveredBut, IsDueBy}
use Rattle.wb_table.specs.Lookup.{nowhere, noted}
use Rattle.wb_table.specs.Queue.{QueueContent}
use Rattle.wb_table.specs.Tables.{BlockTable, spots_in, spot_in, spot_of, no_spots, IsTidy, IsThere, IsOldest}
use Rattle.wb_table.specs.declared.spots.Spots.{Spots}
use Rattle.wb_table.proofs.Soundness.{found_or_not, spot_there, there_from_lookup, lookup_from_there, spot_or_none, spot_of-no_spots}

-- a byte that isn't 0 has a bit that is set
some_bit : (bits : ℕ) → bits ≢ 0 → bits < 2 ^ 8 → (i : ℕ) × (i < 8) × (bit_at bits i ≡ 1)
some_bit bits some low = let found = bit_at-trailing_zeros w8 bits (omega arith) low in (trailing_zeros w8 bits, found.0, found.1)

-- a sector has the noted spot or its former one
set_or_not : (old : Spot) (bits i : ℕ) (spot : Spot) → (noted old true bits i spot ≡ spot) ⊎ (noted old true bits i spot ≡ old)
set_or_not old bits i spot = elim (cases_eq (bit_at bits i) 1) [
  | inl set ↦ inl (ap (λ b. if b then spot else old) (eq-eqb (bit_at bits i) 1 set))
  | inr clear ↦ inr (ap (λ b. if b then spot else old) (ne_eqb (bit_at bits i) 1 clear))
]

-- `was` are the spots of the block before, and `next` those after the note
module _ (old new : BlockTable) (block bits : ℕ) (spot : Spot) (was next : Spots) (is_was : was ≡ unwrap_or (spots_in old block) no_spots)
    (is_next : (i : ℕ) → i < 8 → spot_of next i ≡ noted (spot_of was i) true bits i spot)
    (inserted : (other : ℕ) → spots_in new other ≡ (if other == block then Some next else spots_in old other)) where
  at_block : spots_in new block ≡ Some next
  at_block = inserted block ∙ ap (λ b. if b then Some next else spots_in old block) (eq-eqb block block refl)

  at_other : (other : ℕ) → other ≢ block → spots_in new other ≡ spots_in old other
  at_other other differs = inserted other ∙ ap (λ b. if b then Some next else spots_in old other) (ne_eqb other block differs)

  was_spot : (i : ℕ) → i < 8 → spot_of was i ≡ spot_in old block i
  was_spot i low = ap (λ spots. spot_of spots i) is_was ∙ spot_or_none (spots_in old block) i low

  pub note_spots : (other i : ℕ) → i < 8 → spot_in new other i ≡ noted (spot_in old other i) (other == block) bits i spot
  note_spots other i low = elim (cases_eq other block) [
    | inl same ↦
        subst (λ b. spot_in new b i ≡ noted (spot_in old b i) true bits i spot) (sym same)
        (spot_there new block next i at_block ∙ is_next i low ∙ ap (λ s. noted s true bits i spot) (was_spot i low))
        ∙ ap (λ b. noted (spot_in old other i) b bits i spot) (sym (eq-eqb other block same))
    | inr differs ↦
        ap (λ found. option_map_or (λ s. spot_of s i) found nowhere) (at_other other differs)
        ∙ ap (λ b. noted (spot_in old other i) b bits i spot) (sym (ne_eqb other block differs))
  ]

  pub note_blocks : (other : ℕ) → Contains (keys_of new.entries) other → Contains (keys_of old.entries) other ⊎ (other ≡ block)
  note_blocks other there = elim (cases_eq other block) [
    | inl same ↦ inr same
    | inr differs ↦ inl (there_from_lookup old other (subst IsSome (at_other other differs) (lookup_from_there new other there)))
  ]

  -- the former spots of the block are tidy
  was_tidy : IsFilled old → IsTidy was
  was_tidy filled = elim (found_or_not (spots_in old block)) [
    | inl none ↦ λ i low zero. ap (λ s. (spot_of s i).index) (is_was ∙ ap (λ found. unwrap_or found no_spots) none) ∙ ap (λ s. s.index) (spot_of-no_spots i low)
    | inr some ↦ subst IsTidy (sym (is_was ∙ ap (λ found. unwrap_or found no_spots) some.1)) (filled.tidy block some.0 some.1)
  ]

  next_tidy : IsFilled old → 1 ≤ spot.id → IsTidy next
  next_tidy filled high i low zero = elim (set_or_not (spot_of was i) bits i spot) [
    | inl set ↦ absurd (let e : slice_index next.ids i ≡ spot.id = ap (λ s. s.id) (is_next i low ∙ set) in omega (arith, e))
    | inr kept ↦
        let same = is_next i low ∙ kept in
        ap (λ s. s.index) same ∙ was_tidy filled i low (ap (λ s. s.id) (sym same) ∙ zero)
  ]

  next_there : 1 ≤ spot.id → bits ≢ 0 → bits < 2 ^ 8 → IsThere next
  next_there high some fits =
      let at = some_bit bits some fits in
      let e : slice_index next.ids at.0 ≡ spot.id = ap (λ s. s.id) (is_next at.0 at.1 ∙ ap (λ b. if b then spot else spot_of was at.0) (eq-eqb (bit_at bits at.0) 1 at.2)) in
      (at.0, at.1, omega (arith, e))

  -- what holds of a block that is there after the note, if it does of the new spots
  by_block : (P : ℕ → Spots → Type 0) → P block next → ((other : ℕ) (spots : Spots) → spots_in old other ≡ Some spots → P other spots) → (other : ℕ) (spots : Spots) → spots_in new other ≡ Some spots → P other spots
  by_block P here before other spots is = elim (cases_eq other block) [
    | inl same ↦
        let found : Some next ≡ Some spots = sym at_block ∙ subst (λ b. spots_in new b ≡ Some spots) same is in
        subst (λ b. P b spots) (sym same) (subst (P block) (ap (λ o. unwrap_or o next) found) here)
    | inr differs ↦ before other spots (sym (at_other other differs) ∙ is)
  ]

  pub note_filled : IsFilled old → 1 ≤ spot.id → bits ≢ 0 → bits < 2 ^ 8 → IsFilled new
  note_filled filled high some fits = record {
    there = by_block (λ _ spots. IsThere spots) (next_there high some fits) filled.there;
    tidy = by_block (λ _ spots. IsTidy spots) (next_tidy filled high) filled.tidy;
  }

  module _ (queue : QueueContent) (covered : IsCovered old queue) where
    -- a former spot in a segment is one of a block that was there
    was_covered : (i : ℕ) → i < 8 → 1 ≤ slice_index was.ids i → IsDueBy queue block (slice_index was.ids i)
    was_covered i low high = elim (found_or_not (spots_in old block)) [
      | inl none ↦ absurd (
          let zero : slice_index was.ids i ≡ 0 = ap (λ s. (spot_of s i).id) (is_was ∙ ap (λ found. unwrap_or found no_spots) none) ∙ ap (λ s. s.id) (spot_of-no_spots i low) in
          omega (arith, zero))
      | inr some ↦
          let same : was ≡ some.0 = is_was ∙ ap (λ found. unwrap_or found no_spots) some.1 in
          covered block was (some.1 ∙ ap Some (sym same)) i low high
    ]

    -- each spot is covered but the new ones
    pub note_covered_but : IsCoveredBut block spot.id new queue
    note_covered_but = by_block (λ other spots. (i : ℕ) → i < 8 → 1 ≤ slice_index spots.ids i → IsDueBy queue other (slice_index spots.ids i) ⊎ ((other ≡ block) × (spot.id ≤ slice_index spots.ids i)))
        (λ i low high. elim (set_or_not (spot_of was i) bits i spot) [
          | inl set ↦
              let e : slice_index next.ids i ≡ spot.id = ap (λ s. s.id) (is_next i low ∙ set) in
              inr (refl, omega (arith, e))
          | inr kept ↦
              let e : slice_index next.ids i ≡ slice_index was.ids i = ap (λ s. s.id) (is_next i low ∙ kept) in
              inl (subst (IsDueBy queue block) (sym e) (was_covered i low (omega (arith, e))))
        ])
        (λ other spots is i low high. inl (covered other spots is i low high))

    -- and those too where the block had a spot in this segment or before
    pub note_covered : (least : ℕ) → IsOldest was.ids 8 (Some least) → least ≤ spot.id → IsCovered new queue
    note_covered least oldest before other spots is i low high = elim (note_covered_but other spots is i low high) [
      | inl due ↦ due
      | inr here ↦
          let at = oldest.1 in
          let due = was_covered at.0 at.1 (omega (arith, at.2, oldest.0)) in
          subst (λ b. IsDueBy queue b (slice_index spots.ids i)) (sym here.0) (due.0, omega (arith, due.1, at.2, here.1), due.2)
    ]
