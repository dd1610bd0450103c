-- The heap's top is due first.
use Rattle.std.proofs.Common.{ℕ, ◌≡◌, ◌<◌, ◌≤◌, ◌∙◌, ◌∷◌, sym, subst, arith, map, IsPermutation, All, heap_items}
use Rattle.std.proofs.lemmas.List.Sorted.{IsPermutation-map}
use Rattle.std.specs.declared.cmp.Reverse.{Reverse}
use Rattle.wb_table.proofs.Items.{least_from_greatest}
use Rattle.wb_table.proofs.queue.Queue.pop_due.Goals as goal

pub returns-then-id-due-clause-none : goal.returns-then-id-due-clause-none
returns-then-id-due-clause-none c =
    let top = c.in_ok-due.field-0.now in
    let least = least_from_greatest top (heap_items c.self.inside.heap) (c.in_ok-due.ensures.greatest c.self.invariant) in
    subst (λ queue. All (λ item. c.args.id < item.0) queue.items) c.self.view_is (λ k d low. omega (arith, least k d low, c.if-id-due.true))

pub returns-clause-due : goal.returns-clause-due
returns-clause-due c =
    let peeked = c.in_ok-due.field-0.now in
    let popped = c.in_ok-block.field-0 in
    let items = heap_items c.self.inside.heap in
    let rest = heap_items c.pop.new.self in
    let same : popped ≡ peeked = c.in_ok-block.ensures.top ∙ sym (c.in_ok-due.ensures.item.3.1 popped) in
    let moved : IsPermutation items (popped ∷ rest) = c.in_ok-block.ensures.permutation in (
      popped.0.0,
      subst (λ item. item.0.0 ≤ c.args.id) (sym same) c.if-id-due.false,
      subst (λ queue. IsPermutation queue.items (popped.0 ∷ map (λ item. item.0) rest)) c.self.view_is (IsPermutation-map (λ (item : Reverse (ℕ × ℕ)). item.0) items (popped ∷ rest) moved),
    )
