-- Segments in the slots of a log image.
use Rattle.std.specs.Prelude.{ℕ, ◌≡◌, ◌+◌, ◌*◌, ◌/◌, ◌<◌, List, length}
use Rattle.wb_geometry.specs.Image.{Image, IsImage, sector, bytes_of}
use Rattle.wb_geometry.specs.History.{HistoryEntry}
use Rattle.wb_geometry.specs.Layout.{places, slot_start}
use Rattle.wb_geometry.specs.declared.geometry.Geometry.{Geometry}
use Rattle.wb_header.specs.Text.{TextBlock, IsText}
use Rattle.wb_header.specs.Standing.{StandsFor}

-- these sectors are the text of segment `id` with these blocks, in a log of this geometry
pub record IsSegmentText (g : Geometry) (text : Image) (id : ℕ) (blocks : List TextBlock) : Type 0 where
  pub whole : IsImage (8 * (1 + length blocks)) text
  pub is : IsText (places g) (g.backing_sectors / 8) (bytes_of text) id blocks

-- they are the text of segment `id` with blocks that stand for these entries
pub record IsTextOf (g : Geometry) (entries : List HistoryEntry) (id : ℕ) (text : Image) : Type 0 where
  pub blocks : List TextBlock
  pub is : IsSegmentText g text id blocks
  pub for : StandsFor blocks entries

-- the text stands in x from sector `at` on
pub record Stands (at : ℕ) (text x : Image) : Type 0 where
  pub each : (i : ℕ) → i < length text → sector x (at + i) ≡ sector text i

-- the slot of segment `id` begins with a text of it with these blocks
pub record HoldsText (g : Geometry) (x : Image) (id : ℕ) (blocks : List TextBlock) : Type 0 where
  pub text : Image
  pub is : IsSegmentText g text id blocks
  pub stands : Stands (slot_start g id) text x
