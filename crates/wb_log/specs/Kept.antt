-- What is kept of segments whose ids follow one another.
use Rattle.std.specs.Prelude.{ℕ, ◌+◌, ◌-◌, ◌^◌, ◌<◌, ◌≤◌, List, [], length, map, All}
use Rattle.std.specs.List.{slice_index_or}
use Rattle.wb_header.specs.Text.{TextBlock}
use Rattle.wb_header.specs.declared.sealed.Meta.{Meta}

-- For how many segments there is room, and for how many blocks of each; the id of the oldest that is kept; and the numbers
-- and the dirty bits of the blocks of each, by rising id.
pub record Kept : Type 0 where
  pub slots : ℕ
  pub places : ℕ
  pub first : ℕ
  pub kept : List (List Meta)

-- what is kept of a block
abbrev pub meta_of : TextBlock → Meta
meta_of block = record { block = block.number; bits = block.bits }

abbrev pub metas_of : List TextBlock → List Meta
metas_of blocks = map meta_of blocks

abbrev pub no_meta : Meta
no_meta = record { block = 0; bits = 0 }

-- the segment of this id is kept
abbrev pub IsThere : Kept → ℕ → Type 0
IsThere state id = (state.first ≤ id) × (id < state.first + length state.kept)

-- what is kept of it
abbrev pub metas_at : Kept → ℕ → List Meta
metas_at state id = slice_index_or state.kept (id - state.first) []

-- no more is kept than there is room for, and the ids have an end
pub record IsKept (state : Kept) : Type 0 where
  pub places_few : state.places ≤ 127
  pub few : length state.kept ≤ state.slots
  pub fit : All (λ metas. length metas ≤ state.places) state.kept
  pub ends : state.first + length state.kept ≤ 2 ^ 63
