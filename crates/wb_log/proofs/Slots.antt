-- Where the blocks of a spot lie in a log.
use Rattle.std.proofs.Common.{◌+◌, ◌<◌, ◌≤◌, arith}
use Rattle.wb_geometry.specs.Layout.{slot_sectors, log_sectors, places}
use Rattle.wb_geometry.specs.declared.geometry.Geometry.{Geometry}
use Rattle.wb_geometry.specs.declared.spot.Spot.{Spot}
use Rattle.wb_geometry.proofs.Slots.{slot_blocks, slot_inside}
use Rattle.wb_log.specs.Reading.{block_start}

-- the block of a spot lies in the log
pub block_inside : (g : Geometry) (spot : Spot) → spot.index < places g → block_start g spot + 8 ≤ log_sectors g
block_inside g spot below = omega (arith, below, slot_inside g spot.id (slot_sectors g) (omega arith), slot_blocks g)
