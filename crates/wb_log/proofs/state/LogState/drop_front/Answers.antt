-- The segments behind the first, and its vector behind those that wait.
use Rattle.std.proofs.Common.{◌≡◌, ◌+◌, ◌∙◌, ◌++◌, ◌≤◌, length, map, sym, ap, arith}
use Rattle.std.specs.Option.{option_to_list}
use Rattle.std.specs.Vec.{vec_capacity}
use Rattle.std.proofs.lemmas.List.{length_push}
use Rattle.std.proofs.lemmas.List.Elements.{All-head, All-tail, All-push, All-same}
use Rattle.wb_log.proofs.Keeping.{kept_fewer}
use Rattle.wb_log.proofs.state.LogState.drop_front.Goals as goal

pub invariant_of-self : goal.invariant_of-self
invariant_of-self c =
    let held = c.self.invariant in
    let places = c.self.inside.places in
    let metas = c.unwrap-metas.result in
    let rest = c.pop_front.new.self.items in
    let popped = c.pop_front.ensures.items ∙ ap (λ o. option_to_list o ++ rest) c.unwrap-metas.ensures in
    let rooms = All-same (λ metas. places ≤ vec_capacity metas) _ _ (sym popped) held.kept_rooms in
    let count : length c.push_reserved.new.self.items + length rest ≡ length c.self.inside.waiting.items + length c.self.inside.kept.items =
    omega (arith, ap length popped, ap length c.push_reserved.ensures.items, length_push c.self.inside.waiting.items metas) in
    record {
      sound = kept_fewer _ _ metas.items _ held.sound (ap (map (λ metas. metas.items)) popped) count;
      kept_room = omega (arith, count, held.kept_room, c.pop_front.ensures.capacity);
      waiting_room = omega (arith, count, held.waiting_room, c.push_reserved.ensures.capacity);
      kept_rooms = All-tail (λ metas. places ≤ vec_capacity metas) metas rest rooms;
      rooms = All-same (λ metas. places ≤ vec_capacity metas) _ _ c.push_reserved.ensures.items
          (All-push (λ metas. places ≤ vec_capacity metas) c.self.inside.waiting.items metas held.rooms (All-head (λ metas. places ≤ vec_capacity metas) metas rest rooms));
    }
