-- The write in the open segment, and its spot in the table.
use Rattle.std.proofs.Common.{arith, ℕ, ◌==◌, ◌<◌, ◌≤◌, ◌+◌, ◌∙◌, length, inr, sym, ap, subst}
use Rattle.wb_header.specs.Standing.{StandsFor}
use Rattle.wb_table.specs.Lookup.{noted}
use Rattle.wb_table.specs.Tables.{spot_in}
use Rattle.wb_memory.specs.Memory.{MemoryContent}
use Rattle.wb_memory.proofs.SegmentSpots.{merged_few}
use Rattle.wb_memory.proofs.Memories.{table_room, memory_put}
use Rattle.wb_memory.proofs.memory.Memory.put.Goals as goal

pub note-requires-clause-room : goal.note-requires-clause-room
note-requires-clause-room c =
    inr (table_room _ c.self.invariant.sound
    (subst (λ (m : MemoryContent). length m.sealed < m.segments) (sym c.self.view_is) c.requires.sealed)
    (subst (λ (m : MemoryContent). length m.current.blocks < m.places) (sym c.self.view_is) c.requires.room))

pub invariant_of-self : goal.invariant_of-self
invariant_of-self c =
    let merge = c.merge-index.ensures in
    let at = c.id-id.ensures ∙ merge.id in
    record {
      sound = memory_put _ c.merge-index.new.self c.note.new.self c.args.block c.args.payload.value.bits c.merge-index.result c.self.invariant.sound
          (subst (λ (m : MemoryContent). length m.current.blocks < m.places) (sym c.self.view_is) c.requires.room)
          merge.merged merge.id merge.room merge.segment c.note.ensures.sound
          (λ block i eight. c.note.ensures.spots block i eight
          ∙ ap (λ (id : ℕ). noted (spot_in c.self.inside.lookup block i) (block == c.args.block) c.deref.result.now.bits i (record { id = id; index = c.merge-index.result })) at
          ∙ ap (λ (bits : ℕ). noted (spot_in c.self.inside.lookup block i) (block == c.args.block) bits i (record { id = c.self.inside.current.id; index = c.merge-index.result })) (ap (λ b. b.bits) c.deref.ensures))
          c.note.ensures.room;
      sealed_room = c.self.invariant.sealed_room;
      waiting_room = c.self.invariant.waiting_room;
    }

pub returns-clause-stands : goal.returns-clause-stands
returns-clause-stands c client entries stands =
    c.merge-index.ensures.stands client entries (subst (λ (m : MemoryContent). StandsFor m.current.blocks entries) (sym c.self.view_is) stands)

pub returns-clause-sound : goal.returns-clause-sound
returns-clause-sound c = (invariant_of-self c).sound

pub returns-clause-some : goal.returns-clause-some
returns-clause-some c = omega (arith, c.merge-index.ensures.merged.below)

pub returns-clause-few : goal.returns-clause-few
returns-clause-few c =
    subst (λ (m : MemoryContent). length c.merge-index.new.self.blocks ≤ length m.current.blocks + 1) c.self.view_is
    (merged_few c.args.block c.args.payload.value.bits c.merge-index.result _ _ c.merge-index.ensures.merged)
