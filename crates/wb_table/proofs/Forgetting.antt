-- What one turn of forgetting makes of a table and its queue.
use Rattle.std.proofs.Common.{◌≡◌, ◌≢◌, ℕ, ◌<◌, ◌≤◌, inl, inr, List, ◌∷◌, All, Some, None, IsPermutation, slice_index, if◌then◌else◌, nat_le, sum_by, sym, ap, ◌∙◌, subst, arith, le-leb}
use Rattle.std.proofs.lemmas.Bool.{cases_eq, cases_lt, lt-leb}
use Rattle.std.proofs.lemmas.List.Sorted.{sum_by_popped, sum_by_pushed}
use Rattle.std.proofs.lemmas.Option.{none-some}
use Rattle.std.specs.Option.{option_map_or}
use Rattle.wb_geometry.specs.declared.spot.Spot.{Spot}
use Rattle.wb_table.specs.Keeping.{IsFilled, IsCovered, IsDueBy, IsLeast}
use Rattle.wb_table.specs.Lookup.{nowhere, kept_after}
use Rattle.wb_table.specs.Queue.{QueueContent}
use Rattle.wb_table.specs.Tables.{BlockTable, spots_in, spot_in, spot_of}
use Rattle.wb_table.specs.declared.spots.Spots.{Spots}
use Rattle.wb_table.proofs.Covering.{still_due, now_due, due_after_pop}
use Rattle.wb_table.proofs.Sectors.{kept_after-gone, kept_after-stays}
use Rattle.wb_table.proofs.Soundness.{found_or_not, spot_there, spot_elsewhere, tidy_nowhere}

-- whether an item is due at this segment, as a number
abbrev pub due_count : ℕ → ℕ × ℕ → ℕ
due_count id item = if nat_le item.0 id then 1 else 0

count_due : (id : ℕ) (item : ℕ × ℕ) → item.0 ≤ id → due_count id item ≡ 1
count_due id item low = ap (λ b. if b then 1 else 0) (le-leb item.0 id low)

count_later : (id : ℕ) (item : ℕ × ℕ) → id < item.0 → due_count id item ≡ 0
count_later id item high = ap (λ b. if b then 1 else 0) (lt-leb item.0 id high)

-- a pop of what is due makes these fewer
pub fewer_after_pop : (id due block : ℕ) (old new : List (ℕ × ℕ)) → due ≤ id → IsPermutation old ((due, block) ∷ new) → sum_by (due_count id) new < sum_by (due_count id) old
fewer_after_pop id due block old new low popped =
    omega (arith, sum_by_popped (due_count id) (due, block) old new popped, count_due id (due, block) low)

-- and a push of what isn't leaves them
pub same_after_push : (id due block : ℕ) (old new : List (ℕ × ℕ)) → id < due → IsPermutation ((due, block) ∷ old) new → sum_by (due_count id) new ≡ sum_by (due_count id) old
same_after_push id due block old new high pushed =
    omega (arith, sum_by_pushed (due_count id) (due, block) old new pushed, count_later id (due, block) high)

-- what is forgotten twice is forgotten
kept_twice : (id : ℕ) (spot : Spot) → kept_after id (kept_after id spot) ≡ kept_after id spot
kept_twice id spot = elim (cases_lt id spot.id) [
  | inl high ↦ ap (kept_after id) (kept_after-stays id spot high)
  | inr low ↦ ap (kept_after id) (kept_after-gone id spot low) ∙ kept_after-gone id nowhere (omega arith) ∙ sym (kept_after-gone id spot low)
]

module _ (old new : BlockTable) (block id : ℕ) (others : (other : ℕ) → other ≢ block → spots_in new other ≡ spots_in old other) where
  -- after a block is forgotten the same is left to be seen as before
  pub forget_keeps : ((i : ℕ) → i < 8 → spot_in new block i ≡ kept_after id (spot_in old block i)) → (other i : ℕ) → i < 8 → kept_after id (spot_in new other i) ≡ kept_after id (spot_in old other i)
  forget_keeps here other i low = elim (cases_eq other block) [
    | inl same ↦
        subst (λ b. kept_after id (spot_in new b i) ≡ kept_after id (spot_in old b i)) (sym same)
        (ap (kept_after id) (here i low) ∙ kept_twice id (spot_in old block i))
    | inr differs ↦ ap (λ found. kept_after id (option_map_or (λ s. spot_of s i) found nowhere)) (others other differs)
  ]

  module _ (before after : QueueContent) (due : ℕ) (popped : IsPermutation before.items ((due, block) ∷ after.items)) (covered : IsCovered old before) where
    -- the spots of all other blocks are covered as before
    others_covered : (other : ℕ) (spots : Spots) → other ≢ block → spots_in new other ≡ Some spots → (i : ℕ) → i < 8 → 1 ≤ slice_index spots.ids i → IsDueBy after other (slice_index spots.ids i)
    others_covered other spots differs is i low high =
        due_after_pop before after due block popped other (slice_index spots.ids i) differs (covered other spots (sym (others other differs) ∙ is) i low high)

    -- so all are, where the block went
    pub covered_without : spots_in new block ≡ None → IsCovered new after
    covered_without gone other spots is = elim (cases_eq other block) [
      | inl same ↦ absurd (none-some spots (sym gone ∙ subst (λ b. spots_in new b ≡ Some spots) same is))
      | inr differs ↦ others_covered other spots differs is
    ]

    -- and where it is due at its oldest segment
    pub covered_again : (last : QueueContent) (oldest : ℕ) → IsPermutation ((oldest, block) ∷ after.items) last.items → IsLeast new block oldest → IsCovered new last
    covered_again last oldest pushed least other spots is i low high = elim (cases_eq other block) [
      | inl same ↦
          let found : spots_in new block ≡ Some spots = subst (λ b. spots_in new b ≡ Some spots) same is in
          subst (λ b. IsDueBy last b (slice_index spots.ids i)) (sym same) (now_due after last oldest block pushed (slice_index spots.ids i) (least spots found i low high))
      | inr differs ↦ still_due after last oldest block pushed other (slice_index spots.ids i) (others_covered other spots differs is i low high)
    ]

-- where no item is due nothing is left to be forgotten
pub nothing_left : (table : BlockTable) (queue : QueueContent) (id : ℕ) → IsFilled table → IsCovered table queue → All (λ item. id < item.0) queue.items → (block i : ℕ) → i < 8 → kept_after id (spot_in table block i) ≡ spot_in table block i
nothing_left table queue id filled covered later block i low = elim (found_or_not (spots_in table block)) [
  | inl none ↦ ap (kept_after id) (spot_elsewhere table block i none) ∙ kept_after-gone id nowhere (omega arith) ∙ sym (spot_elsewhere table block i none)
  | inr some ↦
      let is = spot_there table block some.0 i some.1 in
      ap (kept_after id) is ∙ there some.0 some.1 ∙ sym is
]
  where
    there : (spots : Spots) → spots_in table block ≡ Some spots → kept_after id (spot_of spots i) ≡ spot_of spots i
    there spots is = elim (cases_eq (slice_index spots.ids i) 0) [
      | inl zero ↦
          let none : spot_of spots i ≡ nowhere = tidy_nowhere spots i (filled.tidy block spots is) low zero in
          ap (kept_after id) none ∙ kept_after-gone id nowhere (omega arith) ∙ sym none
      | inr some ↦
          let due = covered block spots is i low (omega arith) in
          let at = later due.2.0 (due.0, block) due.2.1 in
          kept_after-stays id (spot_of spots i) (omega (arith, due.1, at, ap (λ item. item.0) due.2.2))
    ]
