-- What formatting makes of an image.
use Rattle.std.specs.Prelude.{ℕ, ◌≡◌, ◌⊎◌, ◌<◌, List, ◌++◌, replicate}
use Rattle.wb_geometry.specs.Image.{Image, sector, IsSameBut}
use Rattle.wb_geometry.specs.Layout.{slot_at}
use Rattle.wb_geometry.specs.declared.geometry.Geometry.{Geometry}
use Rattle.wb_super.specs.Superblock.{SuperText, super_text, record_at, record_of, header_id, HasMagic}

abbrev pub zero_sector : List ℕ
zero_sector = replicate 512 0

-- sector 0 of a log of this geometry
abbrev pub super_sector : Geometry → List ℕ
super_sector g = super_text 1 g ++ replicate 476 0

-- sector i is the first of a slot
pub record IsSlotStart (g : Geometry) (i : ℕ) : Type 0 where
  pub slot : ℕ
  pub inside : slot < g.slots
  pub place : i ≡ slot_at g slot

-- the sectors that formatting writes: the superblock, the record, and the first of each slot
abbrev pub IsFormatSector : Geometry → ℕ → Type 0
IsFormatSector g i = (i ≡ 0) ⊎ (i ≡ record_at) ⊎ IsSlotStart g i

-- an empty log of this geometry: the record is 0, and no slot has an id
pub record IsEmptyLog (g : Geometry) (y : Image) : Type 0 where
  pub text : SuperText y g 1
  pub no_record : record_of y ≡ 0
  pub no_segment : (slot : ℕ) → slot < g.slots → header_id g y slot ≡ 0

-- y is x formatted
pub record Formats (g : Geometry) (x y : Image) : Type 0 where
  pub empty : IsEmptyLog g y
  pub others : IsSameBut (IsFormatSector g) x y
  pub superblock : sector y 0 ≡ super_sector g
  pub zero_record : sector y record_at ≡ zero_sector
  pub zero_slots : (slot : ℕ) → slot < g.slots → sector y (slot_at g slot) ≡ zero_sector

-- y is x half formatted, so that it is refused for its magic
pub record IsWithdrawn (g : Geometry) (x y : Image) : Type 0 where
  pub no_magic : HasMagic y → ⊥
  pub others : IsSameBut (IsFormatSector g) x y

-- what formatting leaves of x, wherever it stops
abbrev pub FormatsOrNot : Geometry → Image → Image → Type 0
FormatsOrNot g x y = (y ≡ x) ⊎ IsWithdrawn g x y ⊎ Formats g x y
