-- How the blocks that are there and those that were removed stand in a map.
use Rattle.std.specs.Prelude.{ℕ, ◌+◌, ◌*◌, ◌≤◌, nat_eq}
use Rattle.indexmap.specs.IndexMap.{IndexMap, IsUnique, index_map_len, spare}
use Rattle.wb_table.specs.declared.spots.Spots.{Spots}

-- The first `live` entries are the blocks that are there. The others are no more than these, and the map has places for
-- twice as many as there may be.
pub record IsPlaced {S : Type 0} (entries : IndexMap ℕ Spots S) (live room : ℕ) : Type 0 where
  pub unique : IsUnique nat_eq entries
  pub within : live ≤ index_map_len entries
  pub few : index_map_len entries ≤ 2 * live
  pub fits : live ≤ room
  pub places : 2 * room ≤ index_map_len entries + spare entries
