-- The images that an engine's devices may show, by its numbers.
use Rattle.std.specs.Prelude.{ℕ, ◌≡◌, ◌⊎◌, ◌+◌, ◌-◌, ◌%◌, ◌^◌, ◌<◌, ◌≤◌, length}
use Rattle.wb_geometry.specs.Image.{Image, sector}
use Rattle.wb_geometry.specs.Layout.{slot_start}
use Rattle.wb_geometry.specs.Line.{Line, Agrees}
use Rattle.wb_geometry.specs.declared.geometry.Geometry.{Geometry}
use Rattle.wb_header.specs.Slots.{IsTextOf, Stands}
use Rattle.wb_super.specs.Superblock.{SuperText, record_of, header_id}
use Rattle.wb_crash.specs.declared.numbers.Numbers.{Numbers}

-- the numbers stand in this order
pub record IsOrdered (g : Geometry) (e : Numbers) : Type 0 where
  pub start : e.first ≤ e.recorded
  pub recorded : e.recorded ≤ e.back
  pub back : e.back ≤ e.stable
  pub stable : e.stable ≤ e.logged
  pub logged : e.logged ≤ e.tried
  pub tried : e.tried ≤ e.sealed
  pub one : e.tried ≤ e.logged + 1
  pub room : e.tried ≤ e.recorded + g.slots
  pub ids : e.sealed ≤ 2 ^ 48

-- the slot of segment s begins with its text
pub record HoldsSegment (g : Geometry) (line : Line) (x : Image) (s : ℕ) : Type 0 where
  pub text : Image
  pub is : IsTextOf g (line.list s) s text
  pub stands : Stands (slot_start g s) text x

-- the slot of segment s begins with the first sector of its text, or the id there is below s
pub record BeginsSegment (g : Geometry) (line : Line) (x : Image) (s : ℕ) : Type 0 where
  pub text : Image
  pub is : IsTextOf g (line.list s) s text
  pub front : (sector x (slot_start g s) ≡ sector text 0) ⊎ (header_id g x ((s - 1) % g.slots) < s)

-- An image of the log: the superblock is good, and the record is the one that was written last, or one that may have been
-- written since. The segments up to the last that a sync covered stand in their slots, those behind it may be torn, and
-- no slot has a later id than that of the last segment that was begun.
pub record IsLogImage (g : Geometry) (line : Line) (e : Numbers) (x : Image) : Type 0 where
  pub super : SuperText x g 1
  pub from : e.recorded ≤ record_of x
  pub to : record_of x ≤ e.back
  pub synced : (s : ℕ) → e.recorded < s → s ≤ e.stable → HoldsSegment g line x s
  pub begun : (s : ℕ) → e.stable < s → s ≤ e.tried → BeginsSegment g line x s
  pub newest : (slot : ℕ) → slot < g.slots → header_id g x slot ≤ e.tried

-- An image of the backing device: for each segment from the recorded one to the last that is back it agrees with the image
-- after that segment in each sector that no segment behind it, up to the last that a sync of the log covered, writes.
pub record IsBackingImage (line : Line) (e : Numbers) (y : Image) : Type 0 where
  pub size : length y ≡ length line.base
  pub agrees : (r : ℕ) → e.recorded ≤ r → r ≤ e.back → Agrees line r e.stable y
