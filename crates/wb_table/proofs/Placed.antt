-- The blocks that are there, as they stand in a map, are a table.
use Rattle.std.proofs.Common.{ℕ, subst, arith, nat_eq, take}
use Rattle.std.proofs.lemmas.List.{length-take, take-map}
use Rattle.std.specs.List.{IsDistinct}
use Rattle.std.proofs.lemmas.Cmp.{nat_eq_equiv}
use Rattle.std.specs.Map.{keys_of}
use Rattle.indexmap.specs.IndexMap.{IndexMap}
use Rattle.indexmap.proofs.MapLemmas.{distinct-take}
use Rattle.wb_table.specs.declared.spots.Spots.{Spots}
use Rattle.wb_table.specs.Places.{IsPlaced}
use Rattle.wb_table.specs.Tables.{IsTable}

pub IsTable-placed : {S : Type 0} (entries : IndexMap ℕ Spots S) (live room : ℕ) → IsPlaced entries live room → IsTable (record { entries = take live entries.entries; room = room })
IsTable-placed entries live room placed = record {
  once = subst (IsDistinct nat_eq) (take-map (λ e. e.0) live entries.entries) (distinct-take nat_eq_equiv live (keys_of entries.entries) placed.unique);
  fits = omega (arith, length-take live entries.entries, placed.fits);
}
