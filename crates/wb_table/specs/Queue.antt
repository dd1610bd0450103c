-- The queue of blocks by the segment from which on they are due.
use Rattle.std.specs.Prelude.{ℕ, List}
use Rattle.std.specs.Ordering.{nat_cmp, ordering_then}
use Rattle.std.specs.declared.cmp.Ordering.{Ordering}

-- the items of a queue, each a segment and a block, and for how many there is room
pub record QueueContent : Type 0 where
  pub items : List (ℕ × ℕ)
  pub room : ℕ

-- the order of two items, the least segment last
abbrev pub later : ℕ × ℕ → ℕ × ℕ → Ordering
later x y = ordering_then (nat_cmp y.0 x.0) (nat_cmp y.1 x.1)
