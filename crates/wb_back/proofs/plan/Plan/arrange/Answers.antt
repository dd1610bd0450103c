-- The entries stand in another order, and rise.
use Rattle.std.proofs.Common.{List, map, ap, ◌∙◌, subst, rules}
use Rattle.std.specs.List.Sorted.{IsPermutation}
use Rattle.std.proofs.lemmas.List.Sorted.{IsPermutation-map, IsNonDecreasingBy-from_sort_by_key}
use Rattle.wb_geometry.specs.History.{last_write}
use Rattle.wb_header.specs.Standing.{entries_of}
use Rattle.wb_back.specs.Plans.{PlanContent}
use Rattle.wb_back.specs.Stored.{block_of}
use Rattle.wb_back.specs.declared.plan.Planned.{Planned}
use Rattle.wb_back.proofs.Planning.{stored_sorted, IsArranged-sorted, last_write-sorted}
use Rattle.wb_back.proofs.plan.Plan.arrange.Goals as goal

pub invariant_of-self : goal.invariant_of-self
invariant_of-self c =
    stored_sorted c.self.inside.planned.items c.sort_unstable_by_key.new.self.items c.self.inside.payloads.items c.self.invariant c.sort_unstable_by_key.ensures.permutation c.sort_unstable_by_key.ensures.capacity

pub returns-clause-arranged : goal.returns-clause-arranged
returns-clause-arranged c =
    let new : List Planned = c.sort_unstable_by_key.new.self.items in
    let stored = stored_sorted c.self.inside.planned.items new c.self.inside.payloads.items c.self.invariant c.sort_unstable_by_key.ensures.permutation c.sort_unstable_by_key.ensures.capacity in
    IsArranged-sorted new c.self.inside.payloads.items stored (IsNonDecreasingBy-from_sort_by_key (λ (one : Planned). one.block) _ c.sort_unstable_by_key.ensures.sorted (λ a r q k. search rules))

pub returns-clause-same : goal.returns-clause-same
returns-clause-same c =
    let new : List Planned = c.sort_unstable_by_key.new.self.items in
    subst (λ (p : PlanContent). IsPermutation p.blocks (map (block_of c.self.inside.payloads.items) new)) c.self.view_is
    (IsPermutation-map (block_of c.self.inside.payloads.items) c.self.inside.planned.items new c.sort_unstable_by_key.ensures.permutation)

pub returns-clause-put : goal.returns-clause-put
returns-clause-put c = λ k.
    last_write-sorted k c.self.inside.planned.items c.sort_unstable_by_key.new.self.items c.self.inside.payloads.items c.self.invariant c.sort_unstable_by_key.ensures.permutation
    ∙ ap (λ (p : PlanContent). last_write k (entries_of p.blocks)) c.self.view_is
