-- A block of eight sectors, of which some are dirty.
use Rattle.std.specs.Prelude.{ℕ, ◌≡◌, ◌≢◌, ◌+◌, ◌-◌, ◌*◌, ◌/◌, ◌<◌, ◌^◌, List, ◌++◌, replicate, slice_index, ◌==◌, if◌then◌else◌}
use Rattle.std.specs.Int.{bit_at}
use Rattle.wb_geometry.specs.Image.{sector, sectors_of}
use Rattle.wb_geometry.specs.declared.request.Part.{Part}

-- sectors whose bit isn't set hold zeros
abbrev pub IsClean : (bits : ℕ) → (payload : List ℕ) → Type 0
IsClean bits payload = (at : ℕ) → at < 4096 → bit_at bits (at / 512) ≢ 1 → slice_index payload at ≡ 0

-- the dirty bits of a part
abbrev pub part_bits : Part → ℕ
part_bits part = 2 ^ (part.from + part.count) - 2 ^ part.from

-- the bytes of a block with those of a part in their place, and zeros elsewhere
abbrev pub part_payload : Part → List ℕ → List ℕ
part_payload part bytes = replicate (512 * part.from) 0 ++ bytes ++ replicate (512 * (8 - (part.from + part.count))) 0

-- the sector of a block with a later one over it
abbrev pub joined_sector : (i : ℕ) → (old : List ℕ) → (later_bits : ℕ) → (later : List ℕ) → List ℕ
joined_sector i old later_bits later = if bit_at later_bits i == 1 then sector (sectors_of later) i else sector (sectors_of old) i

-- the byte of a block at this place, with a later block over it
abbrev pub joined_byte : (at : ℕ) → (old : List ℕ) → (later_bits : ℕ) → (later : List ℕ) → ℕ
joined_byte at old later_bits later = if bit_at later_bits (at / 512) == 1 then slice_index later at else slice_index old at
