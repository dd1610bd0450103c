-- A block is there where its entry is among the first.
use Rattle.std.proofs.Common.{◌∙◌, sym, ap, arith, nat_eq}
use Rattle.indexmap.proofs.MapLemmas.{Found-position, Missing-position}
use Rattle.wb_table.specs.Tables.{spots_in}
use Rattle.wb_table.proofs.Entries.{lookup-take-inside, lookup-take-behind}
use Rattle.wb_table.proofs.blocks.Blocks.get.Goals as goal

pub returns-in_err-index : goal.returns-in_err-index
returns-in_err-index c =
    let m = c.self.inside in
    let absent = (Missing-position (nat_eq c.args.block) m.entries.entries (sym c.in_err-index.ensures.index)).or_len in
    c.from_residual.ensures ∙ sym (lookup-take-behind (nat_eq c.args.block) m.entries.entries m.live (omega (arith, absent, c.self.invariant.within)))
    ∙ ap (λ table. spots_in table c.args.block) c.self.view_is

pub returns-then-index-self : goal.returns-then-index-self
returns-then-index-self c =
    let m = c.self.inside in
    let found = (Found-position (nat_eq c.args.block) m.entries.entries c.in_ok-index.index (sym c.in_ok-index.ensures.index)).or_len in
    c.in_ok-index.ensures.value ∙ sym (lookup-take-inside (nat_eq c.args.block) m.entries.entries m.live (omega (arith, found, c.if-index-self.true)))
    ∙ ap (λ table. spots_in table c.args.block) c.self.view_is

pub returns-else-index-self : goal.returns-else-index-self
returns-else-index-self c =
    let m = c.self.inside in
    let found = (Found-position (nat_eq c.args.block) m.entries.entries c.in_ok-index.index (sym c.in_ok-index.ensures.index)).or_len in
    sym (lookup-take-behind (nat_eq c.args.block) m.entries.entries m.live (omega (arith, found, c.if-index-self.false)))
    ∙ ap (λ table. spots_in table c.args.block) c.self.view_is
