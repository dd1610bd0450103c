-- What writing the record makes of an image.
use Rattle.std.specs.Prelude.{ℕ, ◌≡◌, ◌⊎◌, List, ◌++◌, replicate}
use Rattle.std.specs.Int.{w64, to_le_bytes}
use Rattle.wb_geometry.specs.Image.{Image, Replaces}
use Rattle.wb_super.specs.Superblock.{record_at, record_of}

-- the content of the record's sector
abbrev pub record_sector : (id : ℕ) → List ℕ
record_sector id = to_le_bytes w64 id ++ replicate 504 0

-- y is x with this record
pub record Records (id : ℕ) (x y : Image) : Type 0 where
  pub sector : Replaces record_at (record_sector id) x y
  pub number : record_of y ≡ id

-- y is x, or x with this record
abbrev pub RecordsOrNot : (id : ℕ) → Image → Image → Type 0
RecordsOrNot id x y = (y ≡ x) ⊎ Records id x y
