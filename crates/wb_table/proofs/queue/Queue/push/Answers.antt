-- A heap's items, without what turns their order round.
use Rattle.std.proofs.Common.{ℕ, ◌∷◌, subst, IsPermutation, heap_items, map}
use Rattle.std.proofs.lemmas.List.Sorted.{IsPermutation-map}
use Rattle.std.proofs.lemmas.Result.{IfOk-at_ok}
use Rattle.std.specs.declared.cmp.Reverse.{Reverse}
use Rattle.wb_table.proofs.queue.Queue.push.Goals as goal

pub returns-clause-items : goal.returns-clause-items
returns-clause-items c =
    let item : Reverse (ℕ × ℕ) = record { 0 = (c.args.id, c.args.block) } in
    let old = heap_items c.self.inside.heap in
    let new = heap_items c.push.new.self in
    let pushed = IfOk-at_ok (λ _. IsPermutation (item ∷ old) new) c.unwrap.ensures c.push.ensures.permutation in
    subst (λ queue. IsPermutation ((c.args.id, c.args.block) ∷ queue.items) (map (λ each. each.0) new)) c.self.view_is (IsPermutation-map (λ (each : Reverse (ℕ × ℕ)). each.0) (item ∷ old) new pushed)
