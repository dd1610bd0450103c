-- The segment behind the others, in the last of the vectors that waited.
use Rattle.std.proofs.Common.{◌≡◌, ◌⊎◌, ◌+◌, ◌<◌, ◌≤◌, ◌∙◌, ◌++◌, [], length, map, sym, ap, subst, arith}
use Rattle.std.specs.Option.{option_to_list}
use Rattle.std.specs.Vec.{vec_capacity}
use Rattle.std.proofs.lemmas.List.{map_push, length_push, length-map}
use Rattle.std.proofs.lemmas.List.Elements.{All-push, All-same}
use Rattle.wb_log.specs.Kept.{Kept, meta_of}
use Rattle.wb_log.proofs.Keeping.{All-before, All-last, kept_more, next_last}
use Rattle.wb_log.proofs.state.LogState.keep.Goals as goal

pub invariant_of-self : goal.invariant_of-self
invariant_of-self c =
    let held = c.self.invariant in
    let places = c.self.inside.places in
    let old = c.self.inside.kept.items in
    let waiting = c.pop.new.self.items in
    let metas = c.fill.new.metas in
    let same = sym c.self.view_is in
    let popped = c.pop.ensures.items ∙ ap (λ o. waiting ++ option_to_list o) c.unwrap-metas.ensures in
    let rooms = All-same (λ metas. places ≤ vec_capacity metas) _ _ (sym popped) held.rooms in
    let pushed = c.push_back_reserved.ensures.items in
    let many : length (map (λ metas. metas.items) old) ≡ length old = length-map old (λ metas. metas.items) in
    let count : length waiting + length c.push_back_reserved.new.self.items ≡ length c.self.inside.waiting.items + length old =
    omega (arith, ap length popped, length_push waiting c.unwrap-metas.result, ap length pushed, length_push old metas) in
    let next : length (map (λ metas. metas.items) old) ≤ c.args.segment.now.id =
    next_last c.self.inside.first c.args.segment.now.id _ (subst (λ (state : Kept). (state.kept ≡ []) ⊎ (c.args.segment.now.id ≡ state.first + length state.kept)) same c.requires.next) in
    record {
      sound = kept_more _ _ _ c.args.segment.now.id metas.items _ held.sound
          (subst (λ (state : Kept). length state.kept < state.slots) same c.requires.room)
          (omega (arith, ap length c.fill.ensures.metas, length-map c.args.segment.now.blocks meta_of, subst (λ (state : Kept). length c.args.segment.now.blocks ≤ state.places) same c.requires.few))
          count
          (omega (arith, next, many, c.id.ensures, c.len.ensures, c.self.inside.kept.ok.0))
          c.requires.id
          (ap (map (λ metas. metas.items)) pushed ∙ map_push (λ metas. metas.items) old metas);
      kept_room = omega (arith, count, held.kept_room, c.push_back_reserved.ensures.capacity);
      waiting_room = omega (arith, count, held.waiting_room, c.pop.ensures.capacity);
      kept_rooms = All-same (λ metas. places ≤ vec_capacity metas) _ _ pushed
          (All-push (λ metas. places ≤ vec_capacity metas) old metas held.kept_rooms (omega (arith, c.fill.ensures.capacity, All-last (λ metas. places ≤ vec_capacity metas) waiting c.unwrap-metas.result rooms)));
      rooms = All-before (λ metas. places ≤ vec_capacity metas) waiting c.unwrap-metas.result rooms;
    }
