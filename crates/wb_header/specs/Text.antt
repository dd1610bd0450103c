-- The text of a segment, byte by byte (docs/FORMAT.md). Numbers are little endian, and bytes are counted from 0.
use Rattle.std.specs.Prelude.{ℕ, ◌≡◌, ◌≢◌, ◌⊎◌, ◌+◌, ◌-◌, ◌*◌, ◌/◌, ◌<◌, ◌≤◌, List, [], ◌++◌, length, take, drop, replicate, map, slice_index, All}
use Rattle.std.specs.List.{range_with_len, slice_index_or}
use Rattle.std.specs.Int.{w32, w64, from_le_bytes, bit_at}
use Rattle.wb_sum.specs.Crc32c.{sum_of}

-- a block of a segment: its number, its dirty bits, and the bytes of its eight sectors
pub record TextBlock : Type 0 where
  pub number : ℕ
  pub bits : ℕ
  pub payload : List ℕ

abbrev pub no_block : TextBlock
no_block = record { number = 0; bits = 0; payload = [] }

-- the fields, at their places

abbrev pub id_in : List ℕ → ℕ
id_in bytes = from_le_bytes w64 (take 8 bytes)

abbrev pub sum_in : List ℕ → ℕ
sum_in bytes = from_le_bytes w32 (take 4 (drop 8 bytes))

abbrev pub length_in : List ℕ → ℕ
length_in bytes = slice_index bytes 12

abbrev pub number_in : List ℕ → ℕ → ℕ
number_in bytes j = from_le_bytes w64 (take 8 (drop (512 + 16 * j) bytes))

abbrev pub bits_in : List ℕ → ℕ → ℕ
bits_in bytes j = slice_index bytes (520 + 16 * j)

abbrev pub payload_in : List ℕ → ℕ → List ℕ
payload_in bytes j = take 4096 (drop (4096 * (j + 1)) bytes)

-- the blocks of a text of so many
abbrev pub block_in : List ℕ → ℕ → TextBlock
block_in bytes j = record { number = number_in bytes j; bits = bits_in bytes j; payload = payload_in bytes j }

abbrev pub blocks_in : (count : ℕ) → List ℕ → List TextBlock
blocks_in count bytes = map (block_in bytes) (range_with_len 0 count)

-- what the checksum covers: the text with the checksum's own bytes as zeros
abbrev pub blanked : List ℕ → List ℕ
blanked bytes = take 8 bytes ++ replicate 4 0 ++ drop 12 bytes

-- Where a text of so many blocks has zeros: behind the length, behind the bits of each entry, behind the entries, and in
-- the sectors whose bit isn't set.
abbrev pub IsZeroPlace : (count : ℕ) → List ℕ → ℕ → Type 0
IsZeroPlace count bytes at =
    ((13 ≤ at) × (at < 512))
    ⊎ ((j : ℕ) × (j < count) × (521 + 16 * j ≤ at) × (at < 528 + 16 * j))
    ⊎ ((512 + 16 * count ≤ at) × (at < 4096))
    ⊎ ((j : ℕ) × (j < count) × (4096 * (j + 1) ≤ at) × (at < 4096 * (j + 2)) × (bit_at (bits_in bytes j) ((at - 4096 * (j + 1)) / 512) ≢ 1))

-- no two of them have the same number
abbrev pub AreDistinct : List TextBlock → Type 0
AreDistinct blocks = (i j : ℕ) → i < j → j < length blocks
    → (slice_index_or blocks i no_block).number ≢ (slice_index_or blocks j no_block).number

-- the text of a segment of this id with these blocks, in a log whose slots have room for so many blocks, for a backing
-- device of so many blocks
pub record IsText (room limit : ℕ) (bytes : List ℕ) (id : ℕ) (blocks : List TextBlock) : Type 0 where
  pub some : 1 ≤ length blocks
  pub few : length blocks ≤ room
  pub size : length bytes ≡ 4096 * (1 + length blocks)
  pub bounded : All (λ byte. byte < 256) bytes
  pub named : id_in bytes ≡ id
  pub summed : sum_in bytes ≡ sum_of (blanked bytes)
  pub counted : length_in bytes ≡ length blocks
  pub listed : blocks ≡ blocks_in (length blocks) bytes
  pub inside : All (λ block. block.number < limit) blocks
  pub dirty : All (λ block. block.bits ≢ 0) blocks
  pub distinct : AreDistinct blocks
  pub zeros : (at : ℕ) → IsZeroPlace (length blocks) bytes at → slice_index bytes at ≡ 0
