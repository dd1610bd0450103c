-- A block that isn't there stays so, and the entry of one that is goes behind the others.
use Rattle.std.proofs.Common.{rules, ◌-◌, ◌≡◌, ◌∙◌, sym, ap, subst, arith, nat_eq, None, take, if◌then◌else◌, ◌==◌}
use Rattle.std.proofs.lemmas.List.{take-take}
use Rattle.std.specs.Map.{lookup}
use Rattle.indexmap.proofs.MapLemmas.{Found-position, Missing-position}
use Rattle.wb_table.specs.Tables.{IsTable, spots_in}
use Rattle.wb_table.proofs.Entries.{lookup-taken_out, lookup-take-behind, lookup-absent}
use Rattle.wb_table.proofs.Placed.{IsTable-placed}
use Rattle.wb_table.proofs.blocks.Blocks.remove.Goals as goal

pub returns-in_default-clause-spots : goal.returns-in_default-clause-spots
returns-in_default-clause-spots c =
    let m = c.self.inside in
    let absent = (Missing-position (nat_eq c.args.block) m.entries.entries (sym c.in_default.ensures.index)).or_len in
    lookup-absent c.args.self.now.entries c.args.block
    (subst (λ table. spots_in table c.args.block ≡ None) c.self.view_is (lookup-take-behind (nat_eq c.args.block) m.entries.entries m.live (omega (arith, absent, c.self.invariant.within))))

pub returns-then-self-index-clause-spots : goal.returns-then-self-index-clause-spots
returns-then-self-index-clause-spots c =
    let m = c.self.inside in
    let found = (Found-position (nat_eq c.args.block) m.entries.entries c.in-Some.index (sym c.in-Some.ensures.index)).or_len in
    lookup-absent c.args.self.now.entries c.args.block
    (subst (λ table. spots_in table c.args.block ≡ None) c.self.view_is (lookup-take-behind (nat_eq c.args.block) m.entries.entries m.live (omega (arith, found, c.if-self-index.true))))

pub returns-then-self-len-clause-spots : goal.returns-then-self-len-clause-spots
returns-then-self-len-clause-spots c other =
    let m = c.self.inside in
    let last = m.live - 1 in
    ap (λ l. lookup (nat_eq other) (take last l)) c.truncate.ensures.entries
    ∙ ap (lookup (nat_eq other)) (take-take last last c.swap_indices.new.self.entries (omega arith))
    ∙ ap (λ l. lookup (nat_eq other) (take last l)) c.swap_indices.ensures.entries
    ∙ lookup-taken_out m.entries.entries c.args.block c.in-Some.index m.live c.self.invariant.unique (sym c.in-Some.ensures.index) c.if-self-index.false c.self.invariant.within other
    ∙ ap (λ table. if other == c.args.block then None else spots_in table other) c.self.view_is

pub returns-else-self-len-clause-spots : goal.returns-else-self-len-clause-spots
returns-else-self-len-clause-spots c other =
    let m = c.self.inside in
    ap (λ l. lookup (nat_eq other) (take (m.live - 1) l)) c.swap_indices.ensures.entries
    ∙ lookup-taken_out m.entries.entries c.args.block c.in-Some.index m.live c.self.invariant.unique (sym c.in-Some.ensures.index) c.if-self-index.false c.self.invariant.within other
    ∙ ap (λ table. if other == c.args.block then None else spots_in table other) c.self.view_is

pub returns-in_default-clause-sound : goal.returns-in_default-clause-sound
returns-in_default-clause-sound c = subst IsTable c.self.view_is (IsTable-placed c.self.inside.entries c.self.inside.live c.self.inside.room c.self.invariant)

pub returns-then-self-index-clause-sound : goal.returns-then-self-index-clause-sound
returns-then-self-index-clause-sound c = subst IsTable c.self.view_is (IsTable-placed c.self.inside.entries c.self.inside.live c.self.inside.room c.self.invariant)

pub returns-then-self-len-clause-sound : goal.returns-then-self-len-clause-sound
returns-then-self-len-clause-sound c = IsTable-placed c.truncate.new.self (c.self.inside.live - 1) c.self.inside.room (search rules)

pub returns-else-self-len-clause-sound : goal.returns-else-self-len-clause-sound
returns-else-self-len-clause-sound c = IsTable-placed c.swap_indices.new.self (c.self.inside.live - 1) c.self.inside.room (search rules)
