use Rattle.std.proofs.Common.{◌++◌, length, take, drop, Some, None, refl, arith}
use Rattle.wb_header.specs.Segments.{blocks_of}
use Rattle.wb_ram.proofs.Merges.{IsPut, IsOpenSegment-put, IsPut-joined, IsPut-pushed, searched, room_asked, room_left}
use Rattle.wb_ram.proofs.segment.RamSegment.merge.Goals as goal

-- the block was there

joined : (c : goal.After-self-1)
    → IsPut c.args.block c.args.payload.value.bits c.args.payload.value.payload c.in-Some.index (blocks_of c.self.inside.blocks.items)
    (blocks_of (take c.self.inside.blocks.len (c.join_at.new.blocks ++ drop (length c.join_at.new.blocks) c.self.inside.blocks.items)))
joined c =
    let found = searched c.args.block c.self.inside.blocks.items _ _ (Some c.in-Some.index) c.deref.ensures.value c.find.ensures c.in-Some.is in
    IsPut-joined c.self.inside.blocks.items c.deref_mut.result.now c.join_at.new.blocks c.self.inside.blocks.len c.args.block c.args.payload.value.bits c.args.payload.value.payload c.in-Some.index
    c.self.invariant.distinct c.self.invariant.dirty found c.self.inside.blocks.ok.0 c.deref_mut.ensures.value c.join_at.ensures.len c.join_at.ensures.number c.join_at.ensures.bits c.join_at.ensures.sectors c.join_at.ensures.others

pub invariant_of-self : goal.invariant_of-self
invariant_of-self c = IsOpenSegment-put c.self.inside.id _ c.self.invariant (room_asked _ _ c.args.block _ _ c.self.view_is c.requires.room) (joined c)

pub returns-in-Some-clause-merged : goal.returns-in-Some-clause-merged
returns-in-Some-clause-merged c = rw (← c.self.view_is) (joined c).merged

pub returns-in-Some-clause-written : goal.returns-in-Some-clause-written
returns-in-Some-clause-written c = rw (← c.self.view_is) (joined c).written

pub returns-in-Some-clause-stands : goal.returns-in-Some-clause-stands
returns-in-Some-clause-stands c = rw (← c.self.view_is) (joined c).stands

-- the block stands behind the others

pub push_reserved-requires : goal.push_reserved-requires
push_reserved-requires c =
    let none = searched c.args.block c.self.inside.blocks.items _ _ None c.deref.ensures.value c.find.ensures c.in_default.is in
    omega (arith, room_left c.self.inside.blocks.items c.args.block _ none (room_asked _ _ c.args.block _ _ c.self.view_is c.requires.room), c.self.inside.blocks.ok.0)

pushed : (c : goal.After-push_reserved)
    → IsPut c.args.block c.args.payload.value.bits c.args.payload.value.payload c.len-index.result (blocks_of c.self.inside.blocks.items) (blocks_of c.push_reserved.new.self.items)
pushed c =
    let none = searched c.args.block c.self.inside.blocks.items _ _ None c.deref.ensures.value c.find.ensures c.in_default.is in
    IsPut-pushed c.self.inside.blocks.items c.push_reserved.new.self.items c.args.block c.args.payload.value.bits c.args.payload.value.payload c.len-index.result _ c.self.invariant.distinct c.self.invariant.dirty c.requires.some none
    (omega (arith, c.len-index.ensures, c.self.inside.blocks.ok.0)) c.push_reserved.ensures.items refl

pub invariant_of-self-2 : goal.invariant_of-self-2
invariant_of-self-2 c =
    rw c.push_reserved.ensures.capacity
    (IsOpenSegment-put c.self.inside.id _ c.self.invariant (room_asked _ _ c.args.block _ _ c.self.view_is c.requires.room) (pushed c))

pub returns-clause-written : goal.returns-clause-written
returns-clause-written c = rw (← c.self.view_is) (pushed c).written

pub returns-clause-stands : goal.returns-clause-stands
returns-clause-stands c = rw (← c.self.view_is) (pushed c).stands

-- what the segment keeps

pub returns-in-Some-clause-segment : goal.returns-in-Some-clause-segment
returns-in-Some-clause-segment c = invariant_of-self c

pub returns-clause-segment : goal.returns-clause-segment
returns-clause-segment c = invariant_of-self-2 c
