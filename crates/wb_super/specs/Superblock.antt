-- What a log image says of itself (docs/FORMAT.md): the superblock in sector 0, the record in sector 2047, and the first
-- field of each slot.
use Rattle.std.specs.Prelude.{ℕ, ◌≡◌, ◌≤◌, List, ◌++◌, length, take, drop, replicate, codes}
use Rattle.std.specs.Int.{w32, w64, from_le_bytes, to_le_bytes}
use Rattle.wb_geometry.specs.Image.{Image, sector}
use Rattle.wb_geometry.specs.Layout.{slot_at, log_sectors}
use Rattle.wb_geometry.specs.declared.geometry.Geometry.{Geometry}
use Rattle.wb_sum.specs.Crc32c.{sum_of}

-- the number of the record's sector
abbrev pub record_at : ℕ
record_at = 2047

-- "WBLOG" and three zeros
abbrev pub magic : List ℕ
magic = codes "WBLOG" ++ replicate 3 0

-- bytes 0 to 31 of the superblock
abbrev pub super_fields : (version : ℕ) → Geometry → List ℕ
super_fields version g = magic ++ to_le_bytes w32 version ++ to_le_bytes w32 g.order ++ to_le_bytes w32 g.slots
    ++ to_le_bytes w32 g.ram ++ to_le_bytes w64 g.backing_sectors

-- bytes 0 to 35: the fields and their checksum
abbrev pub super_text : (version : ℕ) → Geometry → List ℕ
super_text version g = super_fields version g ++ to_le_bytes w32 (sum_of (super_fields version g))

-- the image is of a log of this geometry
pub record SuperText (x : Image) (g : Geometry) (version : ℕ) : Type 0 where
  pub room : log_sectors g ≤ length x
  pub text : take 36 (sector x 0) ≡ super_text version g

-- the record: the id of the last segment that was written back
abbrev pub record_of : Image → ℕ
record_of x = from_le_bytes w64 (take 8 (sector x record_at))

-- the id in the first field of a slot, counted from 0
abbrev pub header_id : Geometry → Image → ℕ → ℕ
header_id g x slot = from_le_bytes w64 (take 8 (sector x (slot_at g slot)))

-- the fields of a sector 0, as numbers

abbrev pub field_32 : (from : ℕ) → Image → ℕ
field_32 from x = from_le_bytes w32 (take 4 (drop from (sector x 0)))

abbrev pub version_in : Image → ℕ
version_in x = field_32 8 x

abbrev pub stored_sum : Image → ℕ
stored_sum x = field_32 32 x

-- the checksum that the fields have
abbrev pub computed_sum : Image → ℕ
computed_sum x = sum_of (take 32 (sector x 0))

-- the fields name this geometry
pub record Describes (x : Image) (g : Geometry) : Type 0 where
  pub order : field_32 12 x ≡ g.order
  pub slots : field_32 16 x ≡ g.slots
  pub ram : field_32 20 x ≡ g.ram
  pub backing : from_le_bytes w64 (take 8 (drop 24 (sector x 0))) ≡ g.backing_sectors

-- What is asked of a sector 0, each after the one before.

abbrev pub HasMagic : Image → Type 0
HasMagic x = take 8 (sector x 0) ≡ magic

abbrev pub HasVersion : Image → Type 0
HasVersion x = HasMagic x × (version_in x ≡ 1)

abbrev pub HasSum : Image → Type 0
HasSum x = HasVersion x × (stored_sum x ≡ computed_sum x)

abbrev pub HasGeometry : Image → Geometry → Type 0
HasGeometry x g = HasSum x × Describes x g
