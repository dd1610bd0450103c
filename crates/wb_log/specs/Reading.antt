-- Where a spot's block stands in the log.
use Rattle.std.specs.Prelude.{ℕ, ◌+◌, ◌*◌}
use Rattle.wb_geometry.specs.Layout.{slot_start}
use Rattle.wb_geometry.specs.declared.geometry.Geometry.{Geometry}
use Rattle.wb_geometry.specs.declared.spot.Spot.{Spot}

-- where the block begins, behind the header and the blocks before it
abbrev pub block_start : Geometry → Spot → ℕ
block_start g spot = slot_start g spot.id + 8 * (1 + spot.index)
