-- Which spot a sector has, told by the history alone.
use Rattle.std.specs.Prelude.{ℕ, ◌≡◌, ◌≢◌, ◌⊎◌, ◌+◌, ◌-◌, ◌*◌, ◌<◌, ◌≤◌, List, length, None}
use Rattle.wb_geometry.specs.History.{last_write, IsUnwritten}
use Rattle.wb_geometry.specs.Line.{Line, span}
use Rattle.wb_geometry.specs.declared.spot.Spot.{Spot}
use Rattle.wb_header.specs.Text.{TextBlock}
use Rattle.wb_header.specs.Standing.{StandsFor, block_at}

-- no segment from `from` + 1 to `to` writes sector k
pub record IsOnBacking (line : Line) (from to k : ℕ) (spot : Spot) : Type 0 where
  pub id : spot.id ≡ 0
  pub index : spot.index ≡ 0
  pub unwritten : IsUnwritten k (span line.list from (to - from))

-- the newest of those segments that writes it, and the block's index in whatever blocks stand for that segment
pub record IsInSegment (line : Line) (from to block k : ℕ) (spot : Spot) : Type 0 where
  pub after : from < spot.id
  pub until : spot.id ≤ to
  pub written : last_write k (line.list spot.id) ≢ None
  pub newest : IsUnwritten k (span line.list spot.id (to - spot.id))
  pub index : (blocks : List TextBlock) → StandsFor blocks (line.list spot.id)
      → (spot.index < length blocks) × ((block_at blocks spot.index).number ≡ block)

-- the spot of sector i of a block, among the segments from `from` + 1 to `to`
abbrev pub IsNewestSpot : Line → (from to block i : ℕ) → Spot → Type 0
IsNewestSpot line from to block i spot = IsOnBacking line from to (8 * block + i) spot ⊎ IsInSegment line from to block (8 * block + i) spot
