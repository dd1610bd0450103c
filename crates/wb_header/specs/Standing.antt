-- Blocks that stand for a list of entries: what a segment keeps of the writes that came into it.
use Rattle.std.specs.Prelude.{ℕ, suc, ◌≡◌, ◌<◌, List, [], ◌∷◌, length, map, ◌==◌, if◌then◌else◌, Contains}
use Rattle.std.specs.List.{slice_index_or}
use Rattle.wb_geometry.specs.History.{HistoryEntry, Write, Void, last_write}
use Rattle.wb_header.specs.Text.{TextBlock, no_block, AreDistinct}

-- the block as an entry; its client doesn't matter
abbrev pub entry_of : TextBlock → HistoryEntry
entry_of block = Write 0 block.number block.bits block.payload

abbrev pub entries_of : List TextBlock → List HistoryEntry
entries_of blocks = map entry_of blocks

-- the numbers of the blocks, in order
abbrev pub numbers_of : List TextBlock → List ℕ
numbers_of blocks = map (λ block. block.number) blocks

abbrev pub block_at : List TextBlock → ℕ → TextBlock
block_at blocks j = slice_index_or blocks j no_block

-- where the block is first written; the length where it isn't
abbrev pub first_at : ℕ → List HistoryEntry → ℕ
first_at number [] = 0
first_at number (Write client block bits payload ∷ entries) = if block == number then 0 else suc (first_at number entries)
first_at number (Void client ∷ entries) = suc (first_at number entries)

-- The blocks are distinct; what the last of the entries that write a sector writes to it, its block holds, and it is dirty
-- where some entry writes it; and just the blocks that entries write are listed, in the order in which they are first written.
pub record StandsFor (blocks : List TextBlock) (entries : List HistoryEntry) : Type 0 where
  pub distinct : AreDistinct blocks
  pub each : (k : ℕ) → last_write k (entries_of blocks) ≡ last_write k entries
  pub some : (j : ℕ) → j < length blocks → first_at (block_at blocks j).number entries < length entries
  pub listed : (number : ℕ) → first_at number entries < length entries → Contains (numbers_of blocks) number
  pub order : (i j : ℕ) → i < j → j < length blocks
      → first_at (block_at blocks i).number entries < first_at (block_at blocks j).number entries
