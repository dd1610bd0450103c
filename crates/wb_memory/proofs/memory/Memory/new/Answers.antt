-- All of the memory, and no write yet.
use Rattle.std.proofs.Common.{ℕ, ◌≡◌, ◌≤◌, ◌+◌, ◌*◌, ◌∙◌, length, map, sym, ap, arith}
use Rattle.std.specs.Vec.{vec_capacity}
use Rattle.std.proofs.lemmas.List.{length-map}
use Rattle.std.proofs.lemmas.List.Elements.{All-map}
use Rattle.wb_memory.proofs.Memories.{memory_empty}
use Rattle.wb_memory.proofs.memory.Memory.new.Goals as goal

pub invariant_of-result : goal.invariant_of-result
invariant_of-result c =
    let current = c.in_ok-new-2.ensures in
    let lookup = c.in_ok-new-3.ensures in
    let logged = c.in_ok-new.ensures in
    let vectors = c.in_ok-vectors.ensures in
    let none : length c.in_ok-with_capacity.field-0.items ≡ 0 = ap length c.in_ok-with_capacity.ensures.items in
    let many = vectors.count in
    record {
      sound = memory_empty c.places-places.result _ c.args.geometry.now.ram c.in_ok-new.field-0 c.in_ok-with_capacity.field-0.items c.in_ok-new-2.field-0 c.in_ok-new-3.field-0 (map vec_capacity c.in_ok-vectors.field-0.items)
          c.places-places.ensures.some c.places-places.ensures.few logged.kept (logged.places ∙ sym c.places-places.ensures.places) c.in_ok-with_capacity.ensures.items (omega (arith, current.id)) current.empty current.room
          lookup.sound lookup.nowhere (lookup.room ∙ ap (λ (n : ℕ). (n + c.args.geometry.now.ram) * c.places-places.result) (sym logged.slots))
          (All-map (λ room. c.places-places.result ≤ room) vec_capacity c.in_ok-vectors.field-0.items vectors.rooms)
          (length-map c.in_ok-vectors.field-0.items vec_capacity ∙ vectors.count)
          (ap (λ n. n + length c.in_ok-with_capacity.field-0.items) (sym (length-map c.in_ok-vectors.field-0.items vec_capacity)));
      sealed_room = omega (arith, many, none, c.in_ok-with_capacity.ensures.capacity);
      waiting_room = omega (arith, many, none, vectors.capacity);
    }

pub returns-clause-sound : goal.returns-clause-sound
returns-clause-sound c = (invariant_of-result c).sound
