-- The note as a change of the table.
use Rattle.std.proofs.Common.{◌≡◌, ◌<◌, ◌⊎◌, inl, inr, sym, subst, arith, length, Contains}
use Rattle.std.proofs.lemmas.Map.Entries.{length-keys_of}
use Rattle.std.specs.Map.{keys_of}
use Rattle.wb_table.specs.Tables.{BlockTable, IsOldest}
use Rattle.wb_table.proofs.Noting.{note_filled, note_blocks, note_covered, note_covered_but}
use Rattle.wb_table.proofs.Soundness.{lookup_from_there, lookup_sound}
use Rattle.wb_table.proofs.lookup.Lookup.note.Goals as goal

pub insert-requires : goal.insert-requires
insert-requires c =
    let old = c.self.inside.table in
    elim (subst (λ (table : BlockTable). Contains (keys_of table.entries) c.args.block ⊎ (length (keys_of table.entries) < table.room)) (sym c.self.view_is) c.requires.room) [
      | inl there ↦ inl (lookup_from_there old c.args.block there)
      | inr few ↦ inr (omega (arith, few, length-keys_of old.entries))
    ]

pub expect-requires-clause-covered : goal.expect-requires-clause-covered
expect-requires-clause-covered c =
    note_covered_but c.self.inside.table c.insert.new.self c.args.block c.args.bits c.args.spot c.spots_of-spots.result c.noted.result c.spots_of-spots.ensures c.noted.ensures c.insert.ensures.spots
    c.self.inside.queue c.self.invariant.covered

pub invariant_of-self : goal.invariant_of-self
invariant_of-self c = record {
  sound = c.insert.ensures.sound;
  filled = note_filled c.self.inside.table c.insert.new.self c.args.block c.args.bits c.args.spot c.spots_of-spots.result c.noted.result c.spots_of-spots.ensures c.noted.ensures c.insert.ensures.spots
      c.self.invariant.filled c.requires.id c.requires.some c.ranges.bits.fits;
  covered = note_covered c.self.inside.table c.insert.new.self c.args.block c.args.bits c.args.spot c.spots_of-spots.result c.noted.result c.spots_of-spots.ensures c.noted.ensures c.insert.ensures.spots
      c.self.inside.queue c.self.invariant.covered c.in-Some.oldest (subst (IsOldest c.spots_of-spots.result.ids 8) c.in-Some.is c.oldest.ensures) c.if-oldest-spot.true;
  room = omega (arith, c.self.invariant.room, c.insert.ensures.room);
}

pub invariant_of-self-in_default : goal.invariant_of-self-in_default
invariant_of-self-in_default c = record {
  sound = c.insert.ensures.sound;
  filled = note_filled c.self.inside.table c.insert.new.self c.args.block c.args.bits c.args.spot c.spots_of-spots.result c.noted.result c.spots_of-spots.ensures c.noted.ensures c.insert.ensures.spots
      c.self.invariant.filled c.requires.id c.requires.some c.ranges.bits.fits;
  covered = c.expect.ensures.covered;
  room = omega (arith, c.self.invariant.room, c.insert.ensures.room, c.expect.ensures.room);
}

pub returns-in-Some-clause-blocks : goal.returns-in-Some-clause-blocks
returns-in-Some-clause-blocks c other there =
    subst (λ (table : BlockTable). Contains (keys_of table.entries) other ⊎ (other ≡ c.args.block)) c.self.view_is
    (note_blocks c.self.inside.table c.insert.new.self c.args.block c.args.bits c.args.spot c.spots_of-spots.result c.noted.result c.spots_of-spots.ensures c.noted.ensures c.insert.ensures.spots other there)

pub returns-in_default-clause-blocks : goal.returns-in_default-clause-blocks
returns-in_default-clause-blocks c other there =
    subst (λ (table : BlockTable). Contains (keys_of table.entries) other ⊎ (other ≡ c.args.block)) c.self.view_is
    (note_blocks c.self.inside.table c.insert.new.self c.args.block c.args.bits c.args.spot c.spots_of-spots.result c.noted.result c.spots_of-spots.ensures c.noted.ensures c.insert.ensures.spots other there)

pub returns-in-Some-clause-sound : goal.returns-in-Some-clause-sound
returns-in-Some-clause-sound c = lookup_sound c.insert.new.self c.insert.ensures.sound (invariant_of-self c).filled

pub returns-in_default-clause-sound : goal.returns-in_default-clause-sound
returns-in_default-clause-sound c = lookup_sound c.insert.new.self c.insert.ensures.sound (invariant_of-self-in_default c).filled
