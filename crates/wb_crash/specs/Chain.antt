-- What recovery makes of a log image and a backing image.
use Rattle.std.specs.Prelude.{ℕ, ◌≡◌, ◌⊎◌, ◌+◌, ◌<◌, ◌≤◌, List, [], length}
use Rattle.std.specs.List.{flat_map, slice_index_or}
use Rattle.wb_geometry.specs.Image.{Image, sector, bytes_at}
use Rattle.wb_geometry.specs.History.{after}
use Rattle.wb_geometry.specs.Layout.{slot_start}
use Rattle.wb_geometry.specs.Line.{Line}
use Rattle.wb_geometry.specs.declared.geometry.Geometry.{Geometry}
use Rattle.wb_sum.specs.Crc32c.{sum_of}
use Rattle.wb_header.specs.Text.{TextBlock, blanked, sum_in}
use Rattle.wb_header.specs.Standing.{entries_of}
use Rattle.wb_header.specs.Slots.{HoldsText, IsTextOf, Stands}
use Rattle.wb_super.specs.Superblock.{record_of, header_id}

-- the blocks of a member of a list of segments
abbrev pub member : List (List TextBlock) → ℕ → List TextBlock
member chain i = slice_index_or chain i []

-- a list of segments, at most one for each slot, whose ids follow the record, such that the slot of each begins with a text
-- of it
pub record IsRun (g : Geometry) (x : Image) (chain : List (List TextBlock)) : Type 0 where
  pub few : length chain ≤ g.slots
  pub texts : (i : ℕ) → i < length chain → HoldsText g x (record_of x + 1 + i) (member chain i)

-- the longest such list
pub record IsChain (g : Geometry) (x : Image) (chain : List (List TextBlock)) : Type 0 where
  pub run : IsRun g x chain
  pub longest : (length chain ≡ g.slots) ⊎ ((blocks : List TextBlock) → HoldsText g x (record_of x + 1 + length chain) blocks → ⊥)

-- recovery makes z of the log image x and the backing image y: it puts the blocks of the chain's members, one after another
pub record IsRecovered (g : Geometry) (x y z : Image) : Type 0 where
  pub chain : List (List TextBlock)
  pub is : IsChain g x chain
  pub all : z ≡ after y (flat_map entries_of chain)

-- No torn text has the checksum by chance: where the slot of a segment from a + 1 to b begins with the first sector of its
-- text, and the checksum of as many bytes as the text has is the stored one, the whole text stands there.
pub record SumHolds (g : Geometry) (line : Line) (x : Image) (a b : ℕ) : Type 0 where
  pub whole : (s : ℕ) (text : Image) → a < s → s ≤ b → IsTextOf g (line.list s) s text
      → sector x (slot_start g s) ≡ sector text 0
      → sum_in (bytes_at x (slot_start g s) (length text)) ≡ sum_of (blanked (bytes_at x (slot_start g s) (length text)))
      → Stands (slot_start g s) text x

-- no slot has an id above that of the last slot behind the record
abbrev pub IsTidy : Geometry → Image → Type 0
IsTidy g x = (slot : ℕ) → slot < g.slots → header_id g x slot ≤ record_of x + g.slots
