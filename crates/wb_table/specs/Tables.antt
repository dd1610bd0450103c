-- How a lookup table is kept: the blocks that are there in a list, each with the spots of its eight sectors.
use Rattle.std.specs.Prelude.{ℕ, ◌≡◌, ◌<◌, ◌≤◌, List, length, nat_eq, replicate, slice_index, Option, None, Some}
use Rattle.std.specs.List.{IsDistinct}
use Rattle.std.specs.Map.{keys_of, lookup}
use Rattle.std.specs.Option.{option_map_or}
use Rattle.wb_geometry.specs.declared.spot.Spot.{Spot}
use Rattle.wb_table.specs.Lookup.{LookupContent, nowhere}
use Rattle.wb_table.specs.declared.spots.Spots.{Spots}

-- the entries of a table, and for how many there is room
pub record BlockTable : Type 0 where
  pub entries : List (ℕ × Spots)
  pub room : ℕ

-- the spot of a sector of a block
abbrev pub spot_of : Spots → ℕ → Spot
spot_of spots i = record { id = slice_index spots.ids i; index = slice_index spots.indexes i }

-- all sectors are on the backing device
abbrev pub no_spots : Spots
no_spots = record { ids = replicate 8 0; indexes = replicate 8 0 }

-- the spots of a block that is there
abbrev pub spots_in : BlockTable → ℕ → Option Spots
spots_in table block = lookup (nat_eq block) table.entries

-- the spot of a sector; those of all other blocks are on the backing device
abbrev pub spot_in : BlockTable → (block i : ℕ) → Spot
spot_in table block i = option_map_or (λ spots. spot_of spots i) (spots_in table block) nowhere

-- what a table stands for
abbrev pub lookup_of : BlockTable → LookupContent
lookup_of table = record { blocks = keys_of table.entries; spots = spot_in table; room = table.room }

-- no block stands twice in a table, and there is room for each
pub record IsTable (table : BlockTable) : Type 0 where
  pub once : IsDistinct nat_eq (keys_of table.entries)
  pub fits : length table.entries ≤ table.room

-- the index of a sector on the backing device is 0
abbrev pub IsTidy : Spots → Type 0
IsTidy spots = (i : ℕ) → i < 8 → slice_index spots.ids i ≡ 0 → slice_index spots.indexes i ≡ 0

-- one of the sectors has a spot in a segment
abbrev pub IsThere : Spots → Type 0
IsThere spots = (i : ℕ) × (i < 8) × (1 ≤ slice_index spots.ids i)

-- the least number of the first n that isn't 0, if there is one
abbrev pub IsOldest : List ℕ → ℕ → Option ℕ → Type 0
IsOldest ids n None = (i : ℕ) → i < n → slice_index ids i ≡ 0
IsOldest ids n (Some id) = (1 ≤ id) × ((i : ℕ) × (i < n) × (slice_index ids i ≡ id)) × ((i : ℕ) → i < n → 1 ≤ slice_index ids i → id ≤ slice_index ids i)
