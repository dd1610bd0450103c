-- How a plan stands in memory: entries with the numbers and the bits of the blocks, and payloads by index.
use Rattle.std.specs.Prelude.{ℕ, ◌≡◌, ◌≢◌, ◌⊎◌, ◌<◌, ◌≤◌, List, [], ◌∷◌, ◌++◌, length, map, All}
use Rattle.std.specs.List.{AllPairs, slice_index_or}
use Rattle.wb_header.specs.Text.{TextBlock}
use Rattle.wb_back.specs.Plans.{PlanContent}
use Rattle.wb_back.specs.declared.plan.Planned.{Planned}

-- a block with its payload
abbrev pub block_of : List (List ℕ) → Planned → TextBlock
block_of payloads one = record { number = one.block; bits = one.bits; payload = slice_index_or payloads one.at [] }

-- the plan of these entries, with room for as many blocks as there are payloads
abbrev pub content_of : List Planned → List (List ℕ) → PlanContent
content_of planned payloads = record { blocks = map (block_of payloads) planned; room = length payloads }

-- No block stands twice, each has a payload of its own, and there is room for as many entries as there are payloads.
pub record IsStored (capacity : ℕ) (planned : List Planned) (payloads : List (List ℕ)) : Type 0 where
  pub fits : length planned ≤ length payloads
  pub capacious : length payloads ≤ capacity
  pub distinct : AllPairs (λ (one other : Planned). one.block ≢ other.block) planned
  pub apart : AllPairs (λ (one other : Planned). one.at ≢ other.at) planned
  pub below : All (λ (one : Planned). one.at < length planned) planned
  pub whole : All (λ payload. length payload ≡ 4096) payloads

abbrev pub no_entry : Planned
no_entry = record { block = 0; bits = 0; at = 0 }

-- an entry of this block with no dirty bit
abbrev pub blank : (block at : ℕ) → Planned
blank block at = record { block = block; bits = 0; at = at }

-- The entry at the index is that of the block. It came to the end, with no dirty bit, or it was there.
pub record HasPlace (old new : List Planned) (block index : ℕ) : Type 0 where
  pub entries : (new ≡ old) ⊎ ((new ≡ old ++ blank block (length old) ∷ []) × All (λ (one : Planned). one.block ≢ block) old)
  pub inside : index < length new
  pub there : (slice_index_or new index no_entry).block ≡ block
