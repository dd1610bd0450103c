-- Texts of segments in the slots of a log.
use Rattle.std.proofs.Common.{ℕ, ◌≤◌, List, length, arith}
use Rattle.wb_geometry.specs.Image.{Image}
use Rattle.wb_geometry.specs.Layout.{slot_sectors}
use Rattle.wb_geometry.specs.declared.geometry.Geometry.{Geometry}
use Rattle.wb_geometry.proofs.Slots.{slot_blocks}
use Rattle.wb_header.specs.Text.{TextBlock}
use Rattle.wb_header.specs.Slots.{IsSegmentText}

-- a text fits a slot
pub text_fits : (g : Geometry) (text : Image) (id : ℕ) (blocks : List TextBlock) → IsSegmentText g text id blocks → length text ≤ slot_sectors g
text_fits g text id blocks is = omega (arith, is.whole.size, is.is.few, slot_blocks g)
