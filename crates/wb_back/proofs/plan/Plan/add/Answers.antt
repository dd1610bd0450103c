-- The block gets a place, and its sectors are joined there.
use Rattle.std.proofs.Common.{◌≡◌, ◌++◌, ◌∷◌, [], ◌<◌, ℕ, List, map, length, inl, inr, ap, sym, ◌∙◌, subst, arith, vec_len}
use Rattle.std.proofs.lemmas.List.{get_or_default}
use Rattle.wb_geometry.specs.History.{Write, written, later, last_write}
use Rattle.wb_header.specs.Standing.{entries_of, numbers_of}
use Rattle.wb_back.specs.Plans.{PlanContent}
use Rattle.wb_back.specs.Stored.{block_of, no_entry}
use Rattle.wb_back.specs.declared.plan.Planned.{Planned}
use Rattle.wb_back.proofs.Planning.{stored_room, entry_room, stored_placed, payload_below, stored_joined, last_write-placed, last_write-joined, numbers_placed, numbers_joined}
use Rattle.wb_back.proofs.plan.Plan.add.Goals as goal

pub place_for-index-requires : goal.place_for-index-requires
place_for-index-requires c =
    entry_room c.self.inside.planned.items c.self.inside.payloads.items c.args.meta.now.block (vec_len c.self.inside.planned) c.self.invariant c.self.inside.planned.ok.0
    (stored_room c.self.inside.planned.items c.self.inside.payloads.items c.args.self.now c.args.meta.now.block c.self.view_is c.requires.room)

pub index_mut-requires : goal.index_mut-requires
index_mut-requires c =
    let planned : List Planned = c.place_for-index.new.planned.items in
    let payloads : List (List ℕ) = c.self.inside.payloads.items in
    let place = c.place_for-index.ensures.place in
    let stored = stored_placed c.self.inside.planned.items planned payloads c.args.meta.now.block c.place_for-index.result c.self.invariant place c.place_for-index.ensures.capacity
    (stored_room c.self.inside.planned.items payloads c.args.self.now c.args.meta.now.block c.self.view_is c.requires.room) in
    let one : Planned = c.index_mut-one.result.now in
    let below : one.at < length payloads = subst (λ (e : Planned). e.at < length payloads) (sym c.index_mut-one.ensures.value) (payload_below planned payloads c.place_for-index.result one stored place.inside) in
    omega (arith, below, c.self.inside.payloads.ok.0)

pub invariant_of-self : goal.invariant_of-self
invariant_of-self c =
    let planned : List Planned = c.place_for-index.new.planned.items in
    let payloads : List (List ℕ) = c.self.inside.payloads.items in
    let place = c.place_for-index.ensures.place in
    let stored = stored_placed c.self.inside.planned.items planned payloads c.args.meta.now.block c.place_for-index.result c.self.invariant place c.place_for-index.ensures.capacity
    (stored_room c.self.inside.planned.items payloads c.args.self.now c.args.meta.now.block c.self.view_is c.requires.room) in
    stored_joined planned payloads c.place_for-index.result c.args.meta.now.bits c.index_mut-one.result.now c.join_sectors.new.payload stored place.inside c.index_mut-one.ensures.value c.join_sectors.ensures.size

pub returns-clause-put : goal.returns-clause-put
returns-clause-put c = λ k.
    let planned : List Planned = c.place_for-index.new.planned.items in
    let payloads : List (List ℕ) = c.self.inside.payloads.items in
    let index : ℕ = c.place_for-index.result in
    let block : ℕ = c.args.meta.now.block in
    let bits : ℕ = c.args.meta.now.bits in
    let place = c.place_for-index.ensures.place in
    let stored = stored_placed c.self.inside.planned.items planned payloads block index c.self.invariant place c.place_for-index.ensures.capacity
    (stored_room c.self.inside.planned.items payloads c.args.self.now block c.self.view_is c.requires.room) in
    let one : Planned = c.index_mut-one.result.now in
    let number : one.block ≡ block =
    ap (λ (e : Planned). e.block) (c.index_mut-one.ensures.value ∙ get_or_default planned index one no_entry place.inside) ∙ place.there in
    last_write-joined k planned payloads index bits one c.index_mut.result.now c.args.payload.now c.join_sectors.new.payload stored place.inside c.index_mut-one.ensures.value c.index_mut.ensures.value c.requires.size c.join_sectors.ensures.size c.join_sectors.ensures.joined
    ∙ ap (λ (w : ℕ). later (last_write k (entries_of (map (block_of payloads) planned))) (written k (Write 0 w bits c.args.payload.now))) number
    ∙ ap (λ w. later w (written k (Write 0 block bits c.args.payload.now)))
    (last_write-placed k c.self.inside.planned.items planned payloads block index place ∙ ap (λ (p : PlanContent). last_write k (entries_of p.blocks)) c.self.view_is)

pub returns-clause-numbers : goal.returns-clause-numbers
returns-clause-numbers c =
    let planned : List Planned = c.place_for-index.new.planned.items in
    let payloads : List (List ℕ) = c.self.inside.payloads.items in
    let index : ℕ = c.place_for-index.result in
    let block : ℕ = c.args.meta.now.block in
    let place = c.place_for-index.ensures.place in
    let stored = stored_placed c.self.inside.planned.items planned payloads block index c.self.invariant place c.place_for-index.ensures.capacity
    (stored_room c.self.inside.planned.items payloads c.args.self.now block c.self.view_is c.requires.room) in
    let joined = numbers_joined planned payloads index c.args.meta.now.bits c.index_mut-one.result.now c.join_sectors.new.payload stored place.inside c.index_mut-one.ensures.value in
    let were : numbers_of (map (block_of payloads) c.self.inside.planned.items) ≡ numbers_of c.args.self.now.blocks = ap (λ (p : PlanContent). numbers_of p.blocks) c.self.view_is in
    elim (numbers_placed c.self.inside.planned.items planned payloads block index place) [
      | inl same ↦ inl (joined ∙ same ∙ were)
      | inr more ↦ inr (joined ∙ more ∙ ap (λ (ns : List ℕ). ns ++ block ∷ []) were)
    ]
