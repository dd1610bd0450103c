-- A segment, as its blocks and its id.
use Rattle.std.specs.Prelude.{ℕ, ◌≢◌, ◌≤◌, List, length, map, All}
use Rattle.wb_header.specs.Text.{TextBlock, AreDistinct}
use Rattle.wb_header.specs.declared.sealed.Cached.{Cached}

-- the vector that holds the blocks has room for so many
pub record Segment : Type 0 where
  pub id : ℕ
  pub blocks : List TextBlock
  pub room : ℕ

abbrev pub block_of : Cached → TextBlock
block_of cached = record { number = cached.block; bits = cached.payload.value.bits; payload = cached.payload.value.payload }

abbrev pub blocks_of : List Cached → List TextBlock
blocks_of cached = map block_of cached

-- ids begin at 1; there are 1 to 127 blocks, no two of the same number, each with a dirty bit at least
pub record IsSegment (id : ℕ) (blocks : List TextBlock) : Type 0 where
  pub named : 1 ≤ id
  pub some : 1 ≤ length blocks
  pub few : length blocks ≤ 127
  pub distinct : AreDistinct blocks
  pub dirty : All (λ block. block.bits ≢ 0) blocks
