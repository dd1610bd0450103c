-- An entry that is there keeps its place.
use Rattle.std.proofs.Common.{sym, subst, arith, nat_eq}
use Rattle.std.specs.List.{IsDistinct}
use Rattle.indexmap.proofs.CallerLemmas.{index_map_len-with_value_at, keys-with_value_at}
use Rattle.indexmap.proofs.MapLemmas.{Found-position, insert_entry-first}
use Rattle.wb_table.proofs.blocks.put.Goals as goal

pub returns-in-Some-clause-within : goal.returns-in-Some-clause-within
returns-in-Some-clause-within c = omega (arith, c.in-Some.ensures.within, index_map_len-with_value_at c.args.entries.now c.in-Some.index c.args.spots)

pub returns-in-Some-clause-entries : goal.returns-in-Some-clause-entries
returns-in-Some-clause-entries c =
    let es = c.args.entries.now.entries in
    sym (insert_entry-first nat_eq c.args.block c.args.spots es c.in-Some.index (Found-position (nat_eq c.args.block) es c.in-Some.index (sym c.in-Some.ensures.index)).first)

pub returns-in-Some-clause-len : goal.returns-in-Some-clause-len
returns-in-Some-clause-len c =
    let same = index_map_len-with_value_at c.args.entries.now c.in-Some.index c.args.spots in
    (omega (arith, same), omega (arith, same))

pub returns-in-Some-clause-room : goal.returns-in-Some-clause-room
returns-in-Some-clause-room c = omega (arith, index_map_len-with_value_at c.args.entries.now c.in-Some.index c.args.spots)

pub returns-in-Some-clause-unique : goal.returns-in-Some-clause-unique
returns-in-Some-clause-unique c =
    subst (IsDistinct nat_eq) (sym (keys-with_value_at c.args.entries.now c.in-Some.index c.args.spots)) c.in-Some.ensures.unique
