-- What a merge does to the blocks of a segment.
use Rattle.std.specs.Prelude.{ℕ, ◌≡◌, ◌≢◌, ◌⊎◌, ◌<◌, ◌≤◌, List, [], ◌∷◌, ◌++◌, length, bit_or, All}
use Rattle.wb_header.specs.Text.{TextBlock, AreDistinct}
use Rattle.wb_header.specs.Standing.{numbers_of, block_at}

-- A write of these bits came to block `index`: it was there, or it stands behind the others now, and all others are as
-- they were.
pub record IsMerged (number bits index : ℕ) (old new : List TextBlock) : Type 0 where
  pub below : index < length new
  pub there : (block_at new index).number ≡ number
  pub numbers : (numbers_of new ≡ numbers_of old) ⊎ ((numbers_of new ≡ numbers_of old ++ number ∷ []) × (index ≡ length old))
  pub others : (j : ℕ) → j < length new → j ≢ index → block_at new j ≡ block_at old j
  pub dirty : (block_at new index).bits ≡ bit_or (block_at old index).bits bits

-- what holds of the blocks of a segment in memory: its vector has room for them, at most 127
pub record IsOpenSegment (id : ℕ) (blocks : List TextBlock) (room : ℕ) : Type 0 where
  pub named : 1 ≤ id
  pub fits : length blocks ≤ room
  pub few : room ≤ 127
  pub distinct : AreDistinct blocks
  pub dirty : All (λ block. block.bits ≢ 0) blocks
