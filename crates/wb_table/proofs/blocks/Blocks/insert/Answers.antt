-- The entry goes into those of the blocks that are there, or behind them.
use Rattle.std.proofs.Common.{ℕ, ◌≡◌, ◌<◌, ◌+◌, ◌⊎◌, ◌∙◌, sym, ap, subst, arith, nat_eq, Some, IsSome, inl, inr, length, take, swap, if◌then◌else◌, ◌==◌}
use Rattle.std.proofs.lemmas.List.{length-take}
use Rattle.std.specs.Map.{lookup}
use Rattle.wb_table.specs.Tables.{BlockTable, spots_in}
use Rattle.wb_table.proofs.Entries.{lookup-insert_entry, lookup-take-inside, inside_from_lookup, room_behind, take-insert_entry-inside, length-insert_entry-inside, take-swap-insert_entry}
use Rattle.wb_table.proofs.Placed.{IsTable-placed}
use Rattle.wb_table.proofs.blocks.Blocks.insert.Goals as goal

-- what the call requires of the table
abbrev HasRoom : BlockTable → ℕ → Type 0
HasRoom table block = IsSome (spots_in table block) ⊎ (length table.entries < table.room)

pub put-index-requires : goal.put-index-requires
put-index-requires c =
    let m = c.self.inside in
    let es = m.entries.entries in
    elim (subst (λ table. HasRoom table c.args.block) (sym c.self.view_is) c.requires) [
      | inl some ↦ inl (subst IsSome (lookup-take-inside (nat_eq c.args.block) es m.live (inside_from_lookup (nat_eq c.args.block) es m.live some)) some)
      | inr few ↦ inr (omega (arith, few, length-take m.live es, c.self.invariant.within, c.self.invariant.few, c.self.invariant.places))
    ]

pub overflow_add-self : goal.overflow_add-self
overflow_add-self c =
    let m = c.self.inside in
    let free : m.live < m.room = room_behind (nat_eq c.args.block) m.entries.entries m.live m.room c.self.invariant.within (omega (arith, c.put-index.ensures.index, c.if-index-self.true)) (subst (λ table. HasRoom table c.args.block) (sym c.self.view_is) c.requires) in
    omega (arith, free, c.self.ranges.1.1.0.1)

pub invariant_of-self : goal.invariant_of-self
invariant_of-self c =
    let m = c.self.inside in
    let i = c.self.invariant in
    let p = c.put-index.ensures in
    let s = c.swap_indices.ensures in
    record {
      unique = s.unique;
      within = omega (arith, s.reordered.1, p.within, c.if-index-self.true);
      few = omega (arith, s.reordered.1, p.len.1, i.few);
      fits = omega (arith, room_behind (nat_eq c.args.block) m.entries.entries m.live m.room i.within (omega (arith, p.index, c.if-index-self.true)) (subst (λ table. HasRoom table c.args.block) (sym c.self.view_is) c.requires));
      places = omega (arith, i.places, p.room, s.reordered.1, s.room.0);
    }

pub invariant_of-self-else-index-self : goal.invariant_of-self-else-index-self
invariant_of-self-else-index-self c =
    let m = c.self.inside in
    let i = c.self.invariant in
    let p = c.put-index.ensures in
    let same : length c.put-index.new.entries.entries ≡ length m.entries.entries =
    ap length p.entries ∙ length-insert_entry-inside c.args.block c.args.spots m.entries.entries (omega (arith, p.index, c.if-index-self.false, i.within)) in
    record {
      unique = p.unique;
      within = omega (arith, same, i.within);
      few = omega (arith, same, i.few);
      fits = i.fits;
      places = omega (arith, i.places, p.room);
    }

pub returns-then-index-self-clause-spots : goal.returns-then-index-self-clause-spots
returns-then-index-self-clause-spots c other =
    let m = c.self.inside in
    let es = m.entries.entries in
    let p = c.put-index.ensures in
    ap (λ l. lookup (nat_eq other) (take (m.live + 1) l)) (c.swap_indices.ensures.entries ∙ (λ j. swap (p.entries j) (p.index j) m.live))
    ∙ ap (lookup (nat_eq other)) (take-swap-insert_entry es c.args.block c.args.spots m.live (omega (arith, p.index, c.if-index-self.true)) c.self.invariant.within (omega (arith, p.within, p.index, ap length p.entries)))
    ∙ lookup-insert_entry (take m.live es) c.args.block c.args.spots other
    ∙ ap (λ table. if other == c.args.block then Some c.args.spots else spots_in table other) c.self.view_is

pub returns-else-index-self-clause-spots : goal.returns-else-index-self-clause-spots
returns-else-index-self-clause-spots c other =
    let m = c.self.inside in
    let es = m.entries.entries in
    let p = c.put-index.ensures in
    ap (λ l. lookup (nat_eq other) (take m.live l)) p.entries
    ∙ ap (lookup (nat_eq other)) (take-insert_entry-inside c.args.block c.args.spots es m.live (omega (arith, p.index, c.if-index-self.false)) c.self.invariant.within)
    ∙ lookup-insert_entry (take m.live es) c.args.block c.args.spots other
    ∙ ap (λ table. if other == c.args.block then Some c.args.spots else spots_in table other) c.self.view_is

pub returns-then-index-self-clause-sound : goal.returns-then-index-self-clause-sound
returns-then-index-self-clause-sound c = IsTable-placed c.swap_indices.new.self (c.self.inside.live + 1) c.self.inside.room (invariant_of-self c)

pub returns-else-index-self-clause-sound : goal.returns-else-index-self-clause-sound
returns-else-index-self-clause-sound c = IsTable-placed c.put-index.new.entries c.self.inside.live c.self.inside.room (invariant_of-self-else-index-self c)
