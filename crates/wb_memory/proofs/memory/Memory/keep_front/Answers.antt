-- The segments behind the first, what is kept of it, and its vector behind those that wait.
use Rattle.std.proofs.Common.{◌≡◌, ◌+◌, ◌<◌, ◌∙◌, ◌++◌, length, map, sym, ap, subst, arith}
use Rattle.std.specs.Option.{option_to_list}
use Rattle.std.specs.Vec.{vec_capacity}
use Rattle.std.proofs.lemmas.List.{map_push, length_push}
use Rattle.wb_memory.specs.Memory.{MemoryContent}
use Rattle.wb_memory.proofs.Memories.{memory_kept, front_id, front_next}
use Rattle.wb_memory.proofs.memory.Memory.keep_front.Goals as goal

pub keep-requires-clause-next : goal.keep-requires-clause-next
keep-requires-clause-next c =
    front_next _ c.unwrap-front.result c.pop_front.new.self.items c.self.invariant.sound
    (c.pop_front.ensures.items ∙ ap (λ o. option_to_list o ++ c.pop_front.new.self.items) c.unwrap-front.ensures)

pub keep-requires-clause-id : goal.keep-requires-clause-id
keep-requires-clause-id c =
    omega (
      arith,
      front_id _ c.unwrap-front.result c.pop_front.new.self.items c.self.invariant.sound
          (c.pop_front.ensures.items ∙ ap (λ o. option_to_list o ++ c.pop_front.new.self.items) c.unwrap-front.ensures),
      subst (λ (m : MemoryContent). m.current.id < 9223372036854775808) (sym c.self.view_is) c.requires.id,
    )

pub invariant_of-self : goal.invariant_of-self
invariant_of-self c =
    let popped = c.pop_front.ensures.items ∙ ap (λ o. option_to_list o ++ c.pop_front.new.self.items) c.unwrap-front.ensures in
    let kept = c.keep.ensures in
    let count : length c.push_reserved.new.self.items + length c.pop_front.new.self.items ≡ length c.self.inside.waiting.items + length c.self.inside.sealed.items =
    omega (arith, ap length popped, ap length c.push_reserved.ensures.items, length_push c.self.inside.waiting.items c.clear.new.self) in
    record {
      sound = memory_kept _ _ c.unwrap-front.result c.pop_front.new.self.items c.keep.new.self (map vec_capacity c.push_reserved.new.self.items) (vec_capacity c.clear.new.self) c.self.invariant.sound
          popped
          (subst (λ (m : MemoryContent). length m.logged.kept < m.logged.slots) (sym c.self.view_is) c.requires.room)
          kept.kept kept.first kept.sizes.0 kept.sizes.1
          (sym (c.clear.ensures.capacity ∙ c.into_blocks-vector.ensures.room))
          (ap (map vec_capacity) c.push_reserved.ensures.items ∙ map_push vec_capacity c.self.inside.waiting.items c.clear.new.self)
          count;
      sealed_room = omega (arith, count, c.self.invariant.sealed_room, c.pop_front.ensures.capacity);
      waiting_room = omega (arith, count, c.self.invariant.waiting_room, c.push_reserved.ensures.capacity);
    }

pub returns-clause-sound : goal.returns-clause-sound
returns-clause-sound c = (invariant_of-self c).sound
