-- The segment behind the sealed ones, and the next in the last of the vectors.
use Rattle.std.proofs.Common.{◌≡◌, ◌≤◌, ◌+◌, ◌∙◌, ◌++◌, length, map, sym, ap, subst, arith}
use Rattle.std.specs.Option.{option_to_list}
use Rattle.std.specs.Vec.{vec_capacity}
use Rattle.std.proofs.lemmas.List.{map_push, length_push}
use Rattle.wb_header.specs.Segments.{Segment}
use Rattle.wb_memory.specs.Memory.{MemoryContent}
use Rattle.wb_memory.proofs.Memories.{memory_sealed}
use Rattle.wb_memory.proofs.memory.Memory.seal.Goals as goal

pub invariant_of-self : goal.invariant_of-self
invariant_of-self c =
    let again = c.again-next.ensures in
    let full = c.seal.ensures in
    let was = c.replace-full.ensures.value in
    let next = c.replace-full.ensures.after in
    let popped = c.pop.ensures.items ∙ ap (λ o. c.pop.new.self.items ++ option_to_list o) c.unwrap-vector.ensures in
    let count : length c.pop.new.self.items + length c.push_back_reserved.new.self.items ≡ length c.self.inside.waiting.items + length c.self.inside.sealed.items =
    omega (arith, ap length popped, length_push c.pop.new.self.items c.unwrap-vector.result, ap length c.push_back_reserved.ensures.items, length_push c.self.inside.sealed.items c.seal.result) in
    record {
      sound = memory_sealed _ _ c.push_back_reserved.new.self.items c.seal.result c.replace-full.new.dest (map vec_capacity c.pop.new.self.items) (vec_capacity c.unwrap-vector.result) c.self.invariant.sound
          (subst (λ (m : MemoryContent). 1 ≤ length m.current.blocks) (sym c.self.view_is) c.requires.some)
          (full.id ∙ ap (λ (s : Segment). s.id) was)
          (full.blocks ∙ ap (λ (s : Segment). s.blocks) was)
          (omega (arith, full.room, ap (λ (s : Segment). s.room) was))
          c.push_back_reserved.ensures.items
          (ap (λ (s : Segment). s.id) next ∙ again.id ∙ ap (λ n. n + 1) c.id.ensures)
          (ap (λ (s : Segment). s.blocks) next ∙ again.empty)
          (ap (λ (s : Segment). s.room) next ∙ again.room)
          (ap (map vec_capacity) popped ∙ map_push vec_capacity c.pop.new.self.items c.unwrap-vector.result)
          count;
      sealed_room = omega (arith, count, c.self.invariant.sealed_room, c.push_back_reserved.ensures.capacity);
      waiting_room = omega (arith, count, c.self.invariant.waiting_room, c.pop.ensures.capacity);
    }

pub returns-clause-sound : goal.returns-clause-sound
returns-clause-sound c = (invariant_of-self c).sound
