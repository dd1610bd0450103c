-- What a lookup table keeps of its blocks and of its queue.
use Rattle.std.specs.Prelude.{ℕ, ◌≡◌, ◌≤◌, ◌<◌, ◌⊎◌, Contains, Some, slice_index}
use Rattle.wb_table.specs.Queue.{QueueContent}
use Rattle.wb_table.specs.Tables.{BlockTable, IsTable, spots_in, IsThere, IsTidy}
use Rattle.wb_table.specs.declared.spots.Spots.{Spots}

-- an item of this block is due at this segment or before
abbrev pub IsDueBy : QueueContent → (block id : ℕ) → Type 0
IsDueBy queue block id = (due : ℕ) × (due ≤ id) × Contains queue.items (due, block)

-- of each spot in a segment there is an item of its block that is due at that segment or before
abbrev pub IsCovered : BlockTable → QueueContent → Type 0
IsCovered table queue = (block : ℕ) (spots : Spots) → spots_in table block ≡ Some spots → (i : ℕ) → i < 8 → 1 ≤ slice_index spots.ids i
    → IsDueBy queue block (slice_index spots.ids i)

-- the same, but for spots of this block in this segment and later ones
abbrev pub IsCoveredBut : (block id : ℕ) → BlockTable → QueueContent → Type 0
IsCoveredBut block id table queue = (other : ℕ) (spots : Spots) → spots_in table other ≡ Some spots → (i : ℕ) → i < 8 → 1 ≤ slice_index spots.ids i
    → IsDueBy queue other (slice_index spots.ids i) ⊎ ((other ≡ block) × (id ≤ slice_index spots.ids i))

-- no sector of the block has a spot in an earlier segment
abbrev pub IsLeast : BlockTable → (block id : ℕ) → Type 0
IsLeast table block id = (spots : Spots) → spots_in table block ≡ Some spots → (i : ℕ) → i < 8 → 1 ≤ slice_index spots.ids i → id ≤ slice_index spots.ids i

-- a block is there where one of its sectors has a spot in a segment
pub record IsFilled (table : BlockTable) : Type 0 where
  pub there : (block : ℕ) (spots : Spots) → spots_in table block ≡ Some spots → IsThere spots
  pub tidy : (block : ℕ) (spots : Spots) → spots_in table block ≡ Some spots → IsTidy spots

pub record IsKept (table : BlockTable) (queue : QueueContent) : Type 0 where
  pub sound : IsTable table
  pub filled : IsFilled table
  pub covered : IsCovered table queue
  pub room : table.room ≤ queue.room
