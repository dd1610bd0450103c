-- What the writing of a segment makes of a log.
use Rattle.std.specs.Prelude.{ℕ, ◌≡◌, ◌+◌, ◌*◌, ◌<◌, ◌≤◌, List, Result, OnOk}
use Rattle.wb_geometry.specs.Image.{Image, overlay, IsPartlyWritten}
use Rattle.wb_geometry.specs.Device.{State, Passes, ContentPasses}
use Rattle.wb_geometry.specs.Layout.{slot_start}
use Rattle.wb_geometry.specs.declared.geometry.Geometry.{Geometry}
use Rattle.wb_header.specs.Text.{TextBlock}
use Rattle.wb_header.specs.Slots.{IsSegmentText}

-- A text of the segment came into its slot, whole at `Ok`, and else some of its sectors. Nothing else was written.
pub record WritesSegment {T E : Type 0} (g : Geometry) (id : ℕ) (blocks : List TextBlock) (old new : State) (result : Result T E) : Type 0 where
  pub text : Image
  pub is : IsSegmentText g text id blocks
  pub ok : OnOk result (ContentPasses (λ x y. y ≡ overlay (slot_start g id) text x) old new)
  pub partly : ContentPasses (IsPartlyWritten (slot_start g id) text) old new
  pub crash : Passes (IsPartlyWritten (slot_start g id) text) old new

-- the sectors that a segment of so many blocks takes in its slot, with its header
abbrev pub IsInText : Geometry → (id count : ℕ) → ℕ → Type 0
IsInText g id count i = (slot_start g id ≤ i) × (i < slot_start g id + 8 * (1 + count))
