-- The items of a queue.
use Rattle.std.proofs.Common.{◌≡◌, ℕ, ◌≤◌, false, List, [], ◌∷◌, map, All, sym, ap, ◌∙◌, inl, inr, cond, lt-ltb, true≢false, ◌==◌}
use Rattle.std.proofs.lemmas.Bool.{cases_lt}
use Rattle.std.proofs.lemmas.List.Elements.{All-from_recursion}
use Rattle.std.specs.BinaryHeap.{IsUpperBound}
use Rattle.std.specs.List.{AllByRecursion}
use Rattle.std.specs.Ordering.{is_lt, ordering_then, nat_cmp}
use Rattle.std.specs.declared.cmp.Ordering.TheVariants.{Less, Equal, Greater}
use Rattle.std.specs.declared.cmp.Reverse.{Reverse}
use Rattle.wb_table.specs.Queue.{later}

-- an item that isn't later than another is due no later
due_first : (a b : ℕ × ℕ) → is_lt (later a b) ≡ false → a.0 ≤ b.0
due_first a b first = elim (cases_lt b.0 a.0) [
  | inl below ↦ absurd (true≢false (sym (ap (λ t. is_lt (ordering_then (cond t Less (cond (b.0 == a.0) Equal Greater)) (nat_cmp b.1 a.1))) (lt-ltb b.0 a.0 below)) ∙ first))
  | inr above ↦ above
]

module _ (x : Reverse (ℕ × ℕ)) where
  least_by_recursion : (xs : List (Reverse (ℕ × ℕ))) → IsUpperBound (λ a b. later a.0 b.0) x xs → AllByRecursion (λ item. x.0.0 ≤ item.0) (map (λ item. item.0) xs)
  least_by_recursion [] bound = tt
  least_by_recursion (y ∷ ys) bound = (due_first x.0 y.0 bound.0, least_by_recursion ys bound.1)

  -- what a heap has on top is due first
  pub least_from_greatest : (xs : List (Reverse (ℕ × ℕ))) → IsUpperBound (λ a b. later a.0 b.0) x xs → All (λ item. x.0.0 ≤ item.0) (map (λ item. item.0) xs)
  least_from_greatest xs bound = All-from_recursion (λ item. x.0.0 ≤ item.0) (map (λ item. item.0) xs) (least_by_recursion xs bound)
