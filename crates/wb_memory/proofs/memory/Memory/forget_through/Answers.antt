-- The segments behind this one, and the spots that are left.
use Rattle.std.proofs.Common.{◌+◌, ◌<◌, length, sym, subst}
use Rattle.wb_memory.specs.Memory.{MemoryContent}
use Rattle.wb_memory.proofs.Memories.{memory_forgot}
use Rattle.wb_memory.proofs.memory.Memory.forget_through.Goals as goal

pub invariant_of-self : goal.invariant_of-self
invariant_of-self c =
    let dropped = c.drop_through.ensures in
    let forgot = c.forget_through.ensures in
    record {
      sound = memory_forgot _ c.args.id c.drop_through.new.self c.forget_through.new.self c.self.invariant.sound
          (subst (λ (m : MemoryContent). c.args.id + length m.sealed < m.current.id) (sym c.self.view_is) c.requires)
          dropped.kept dropped.last dropped.sizes.0 dropped.sizes.1
          forgot.sound forgot.spots forgot.room;
      sealed_room = c.self.invariant.sealed_room;
      waiting_room = c.self.invariant.waiting_room;
    }

pub returns-clause-sound : goal.returns-clause-sound
returns-clause-sound c = (invariant_of-self c).sound
