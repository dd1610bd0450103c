-- The step of formatting in its middle: the slots and the record. Private clauses alone speak of it.
use Rattle.std.specs.Prelude.{ℕ, ◌≡◌, ◌⊎◌, ◌<◌, length}
use Rattle.wb_geometry.specs.Image.{Image, sector}
use Rattle.wb_geometry.specs.Layout.{slot_at}
use Rattle.wb_geometry.specs.declared.geometry.Geometry.{Geometry}
use Rattle.wb_super.specs.Superblock.{record_at}
use Rattle.wb_super.specs.Formatting.{zero_sector, IsSlotStart}

-- the sectors that are cleared
abbrev pub IsCleared : Geometry → ℕ → Type 0
IsCleared g i = (i ≡ record_at) ⊎ IsSlotStart g i

-- y is x with some of them cleared
pub record ClearsPartly (g : Geometry) (x y : Image) : Type 0 where
  pub size : length y ≡ length x
  pub each : (i : ℕ) → (sector y i ≡ sector x i) ⊎ (IsCleared g i × (sector y i ≡ zero_sector))

-- with so many slots cleared
pub record ClearsSlots (g : Geometry) (count : ℕ) (x y : Image) : Type 0 where
  pub partly : ClearsPartly g x y
  pub slots : (slot : ℕ) → slot < count → sector y (slot_at g slot) ≡ zero_sector

-- with all of them cleared
pub record Clears (g : Geometry) (x y : Image) : Type 0 where
  pub all_slots : ClearsSlots g g.slots x y
  pub zero_record : sector y record_at ≡ zero_sector
