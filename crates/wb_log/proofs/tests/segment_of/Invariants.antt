use Rattle.std.proofs.Common.{ℕ, ◌≡◌, ◌≢◌, ◌+◌, ◌<◌, List, length, slice_index_or}
use Rattle.wb_header.specs.Text.{no_block}
use Rattle.wb_header.specs.Segments.{blocks_of}
use Rattle.wb_header.specs.declared.sealed.Cached.{Cached}
use Rattle.wb_log.proofs.tests.segment_of.Given as goal

-- so many blocks, numbered from `first` on, each with a dirty sector
pub record AreNumbered (first count : ℕ) (cached : List Cached) : Type 0 where
  pub size : length (blocks_of cached) ≡ count
  pub numbered : (j : ℕ) → j < count → (slice_index_or (blocks_of cached) j no_block).number ≡ first + j
  pub dirty : (j : ℕ) → j < count → (slice_index_or (blocks_of cached) j no_block).bits ≢ 0

abbrev pub invariant-loop-index : goal.invariant-loop-index
invariant-loop-index l = AreNumbered l.first l.index l.blocks.items
