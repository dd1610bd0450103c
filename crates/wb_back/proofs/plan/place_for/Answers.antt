-- The block is where it is found, or comes to the end.
use Rattle.std.proofs.Common.{◌≡◌, List, length, eqb, Some, None, ap, sym, ◌∙◌, vec_len, vec_capacity}
use Rattle.std.specs.List.{position}
use Rattle.wb_back.specs.declared.plan.Planned.{Planned}
use Rattle.wb_back.proofs.Planning.{place_found, place_none, place_room, place_added}
use Rattle.wb_back.proofs.plan.place_for.Goals as goal

pub returns-in-Some-clause-place : goal.returns-in-Some-clause-place
returns-in-Some-clause-place c =
    let found : position (λ (one : Planned). eqb one.block c.args.block) c.args.planned.now.items ≡ Some c.in-Some.index =
    ap (position (λ (one : Planned). eqb one.block c.args.block)) (sym c.deref.ensures.value) ∙ sym c.in-Some.ensures in
    place_found c.args.planned.now.items c.args.block c.in-Some.index found

pub unwrap-requires : goal.unwrap-requires
unwrap-requires c =
    let planned : List Planned = c.args.planned.now.items in
    let none : position (λ (one : Planned). eqb one.block c.args.block) planned ≡ None =
    ap (position (λ (one : Planned). eqb one.block c.args.block)) (sym c.deref.ensures.value) ∙ sym c.in_default.ensures in
    let size : vec_len c.args.planned.now ≡ length planned = sym c.deref.ensures.len ∙ ap length c.deref.ensures.value in
    c.push.ensures.succeeds (place_room planned c.args.block (vec_len c.args.planned.now) (vec_capacity c.args.planned.now) size (place_none planned c.args.block none) c.requires)

pub returns-clause-place : goal.returns-clause-place
returns-clause-place c =
    let planned : List Planned = c.args.planned.now.items in
    let none : position (λ (one : Planned). eqb one.block c.args.block) planned ≡ None =
    ap (position (λ (one : Planned). eqb one.block c.args.block)) (sym c.deref.ensures.value) ∙ sym c.in_default.ensures in
    let size : c.len-index.result ≡ length planned = c.len-index.ensures ∙ sym c.deref.ensures.len ∙ ap length c.deref.ensures.value in
    let pushed = rw c.unwrap.ensures at c.push.ensures.items in
    place_added planned c.push.new.self.items c.args.block c.len-index.result (place_none planned c.args.block none) size pushed
