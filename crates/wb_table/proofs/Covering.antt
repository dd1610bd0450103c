-- Which spots are covered by the items of a queue.
use Rattle.std.proofs.Common.{◌≡◌, ◌≢◌, ℕ, zero, suc, ◌+◌, ◌<◌, ◌≤◌, ◌⊎◌, inl, inr, List, ◌∷◌, [], Some, None, Contains, IsPermutation, length, slice_get, slice_index, nat_eq, sym, ap, ◌∙◌, subst, arith}
use Rattle.std.proofs.lemmas.Bool.{cases_eq, eqb-true}
use Rattle.std.proofs.lemmas.List.Elements.{Contains-append_right, Contains-get_or}
use Rattle.std.proofs.lemmas.List.Sorted.{Contains-permutation}
use Rattle.std.proofs.lemmas.Map.Entries.{place_from_lookup}
use Rattle.std.proofs.lemmas.Option.{slice_get_within}
use Rattle.std.specs.Option.{unwrap_or}
use Rattle.wb_table.specs.Keeping.{IsCovered, IsCoveredBut, IsDueBy}
use Rattle.wb_table.specs.Queue.{QueueContent}
use Rattle.wb_table.specs.Tables.{BlockTable, IsOldest}
use Rattle.wb_table.specs.declared.spots.Spots.{Spots}

-- an item of a list with one more in front
front_or_rest : {X : Type 0} (x y : X) (xs : List X) → Contains (x ∷ xs) y → (x ≡ y) ⊎ Contains xs y
front_or_rest x y xs (zero, low, at) = inl at
front_or_rest x y xs (suc i, low, at) = inr (i, omega arith, at)

module _ (old new : QueueContent) (due block : ℕ) where
  -- after a push each block is due as before
  pub still_due : IsPermutation ((due, block) ∷ old.items) new.items → (other id : ℕ) → IsDueBy old other id → IsDueBy new other id
  still_due pushed other id was = (was.0, was.1, Contains-permutation ((due, block) ∷ old.items) new.items (was.0, other) pushed (Contains-append_right ((due, block) ∷ []) old.items (was.0, other) was.2))

  -- and the pushed one is due
  pub now_due : IsPermutation ((due, block) ∷ old.items) new.items → (id : ℕ) → due ≤ id → IsDueBy new block id
  now_due pushed id before = (due, before, Contains-permutation ((due, block) ∷ old.items) new.items (due, block) pushed (Contains-get_or ((due, block) ∷ old.items) 0 (due, block) (omega arith)))

  -- after a pop each other block is due as before
  pub due_after_pop : IsPermutation old.items ((due, block) ∷ new.items) → (other id : ℕ) → other ≢ block → IsDueBy old other id → IsDueBy new other id
  due_after_pop popped other id differs was =
      elim (front_or_rest (due, block) (was.0, other) new.items (Contains-permutation old.items ((due, block) ∷ new.items) (was.0, other) popped was.2)) [
        | inl same ↦ absurd (differs (ap (λ item. item.1) (sym same)))
        | inr rest ↦ (was.0, was.1, rest)
      ]

  -- a push covers what it is for
  pub push_covers : (table : BlockTable) → IsPermutation ((due, block) ∷ old.items) new.items → IsCoveredBut block due table old → IsCovered table new
  push_covers table pushed covered other spots is i low high = elim (covered other spots is i low high) [
    | inl was ↦ still_due pushed other (slice_index spots.ids i) was
    | inr here ↦ subst (λ b. IsDueBy new b (slice_index spots.ids i)) (sym here.0) (now_due pushed (slice_index spots.ids i) here.1)
  ]

-- the first n blocks of a table are covered
abbrev pub IsCoveredTo : ℕ → BlockTable → QueueContent → Type 0
IsCoveredTo n table queue = (j block : ℕ) (spots : Spots) → j < n → slice_get table.entries j ≡ Some (block, spots) → (i : ℕ) → i < 8 → 1 ≤ slice_index spots.ids i
    → IsDueBy queue block (slice_index spots.ids i)

-- one more block, which has the spots of the entry at n
module _ (table : BlockTable) (n block : ℕ) (spots : Spots) (entry : slice_get table.entries n ≡ Some (block, spots)) (old : QueueContent) (covered : IsCoveredTo n table old) where
  one_more : (new : QueueContent) → ((other id : ℕ) → IsDueBy old other id → IsDueBy new other id) → ((i : ℕ) → i < 8 → 1 ≤ slice_index spots.ids i → IsDueBy new block (slice_index spots.ids i)) → IsCoveredTo (n + 1) table new
  one_more new kept here j other theirs low at i inside high = elim (cases_eq j n) [
    | inl same ↦
        let e : (block, spots) ≡ (other, theirs) = ap (λ found. unwrap_or found (block, spots)) (sym entry ∙ ap (slice_get table.entries) (sym same) ∙ at) in
        subst (λ (found : ℕ × Spots). 1 ≤ slice_index found.1.ids i → IsDueBy new found.0 (slice_index found.1.ids i)) e (here i inside) high
    | inr differs ↦ kept other (slice_index theirs.ids i) (covered j other theirs (omega arith) at i inside high)
  ]

  pub one_more_due : (new : QueueContent) (oldest : ℕ) → IsOldest spots.ids 8 (Some oldest) → IsPermutation ((oldest, block) ∷ old.items) new.items → IsCoveredTo (n + 1) table new
  one_more_due new oldest least pushed = one_more new (still_due old new oldest block pushed) (λ i inside high. now_due old new oldest block pushed (slice_index spots.ids i) (least.2 i inside high))

  pub one_more_nowhere : IsOldest spots.ids 8 None → IsCoveredTo (n + 1) table old
  one_more_nowhere none = one_more old (λ other id due. due) (λ i inside high. absurd (omega (arith, none i inside)))

-- a table is covered once all its blocks are
pub all_covered : (table : BlockTable) (queue : QueueContent) (n : ℕ) → length table.entries ≤ n → IsCoveredTo n table queue → IsCovered table queue
all_covered table queue n all covered block spots is =
    let at = place_from_lookup (nat_eq block) table.entries spots is in
    let same : block ≡ at.1 = eqb-true block at.1 at.3 in
    covered at.0 block spots (omega (arith, slice_get_within table.entries at.0 (at.1, spots) at.2)) (at.2 ∙ ap (λ key. Some (key, spots)) (sym same))
