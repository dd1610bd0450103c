-- The lookup table, as contracts see it: where the newest content of each sector stands.
use Rattle.std.specs.Prelude.{ℕ, ◌≡◌, ◌≢◌, ◌<◌, ◌≤◌, List, length, ◌==◌, ◌&&◌, nat_le, if◌then◌else◌, Contains, Bool}
use Rattle.std.specs.Int.{bit_at}
use Rattle.std.specs.List.{slice_index_or}
use Rattle.wb_geometry.specs.declared.spot.Spot.{Spot}

-- the backing device
abbrev pub nowhere : Spot
nowhere = record { id = 0; index = 0 }

-- the blocks that are there, the spot of each sector of each block, and for how many blocks there is room
pub record LookupContent : Type 0 where
  pub blocks : List ℕ
  pub spots : (block i : ℕ) → Spot
  pub room : ℕ

-- no number stands twice in the list
abbrev pub IsEachOnce : List ℕ → Type 0
IsEachOnce numbers = (i j : ℕ) → i < j → j < length numbers → slice_index_or numbers i 0 ≢ slice_index_or numbers j 0

-- A block is there where one of its eight sectors has a spot in a segment. All other sectors are on the backing device.
pub record IsLookup (lookup : LookupContent) : Type 0 where
  pub once : IsEachOnce lookup.blocks
  pub fits : length lookup.blocks ≤ lookup.room
  pub there : (block : ℕ) → Contains lookup.blocks block → (i : ℕ) × (i < 8) × (1 ≤ (lookup.spots block i).id)
  pub other : (block i : ℕ) → i < 8 → 1 ≤ (lookup.spots block i).id → Contains lookup.blocks block
  pub none : (block i : ℕ) → i < 8 → (lookup.spots block i).id ≡ 0 → lookup.spots block i ≡ nowhere

-- the spot of a sector after a note of these bits of a block
abbrev pub noted : (old : Spot) (here : Bool) (bits i : ℕ) (spot : Spot) → Spot
noted old here bits i spot = if here && bit_at bits i == 1 then spot else old

-- the spot of a sector after all segments up to this one are forgotten
abbrev pub kept_after : ℕ → Spot → Spot
kept_after id spot = if nat_le spot.id id then nowhere else spot
