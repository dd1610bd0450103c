-- A plan of what is written back to the backing device.
use Rattle.std.specs.Prelude.{ℕ, ◌≡◌, ◌+◌, ◌*◌, ◌<◌, ◌≤◌, List, length, All}
use Rattle.wb_header.specs.Text.{TextBlock, AreDistinct}
use Rattle.wb_header.specs.Standing.{block_at}

-- the blocks that the plan has, each once, and for how many there is room
pub record PlanContent : Type 0 where
  pub blocks : List TextBlock
  pub room : ℕ

-- no block stands twice, each has all its bytes, and there is room for them
pub record IsPlan (plan : PlanContent) : Type 0 where
  pub distinct : AreDistinct plan.blocks
  pub fits : length plan.blocks ≤ plan.room
  pub whole : All (λ block. length block.payload ≡ 4096) plan.blocks

-- the blocks stand by rising number
pub record IsArranged (blocks : List TextBlock) : Type 0 where
  pub rising : (i j : ℕ) → i < j → j < length blocks → (block_at blocks i).number < (block_at blocks j).number

-- the blocks are inside a device of so many sectors
abbrev pub AreInside : ℕ → List TextBlock → Type 0
AreInside sectors blocks = All (λ block. 8 * block.number + 8 ≤ sectors) blocks
