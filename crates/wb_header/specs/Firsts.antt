-- The first number of a kind. Private clauses alone speak of it.
use Rattle.std.specs.Prelude.{ℕ, ◌≢◌, ◌<◌, ◌≤◌, List, Option, MatchOption, slice_index}
use Rattle.wb_header.specs.Text.{length_in, IsZeroPlace}
use Rattle.wb_header.specs.Refused.{IsEntry}

-- no number from one to before another has P
abbrev pub HasNone : (P : ℕ → Type 0) → (from to : ℕ) → Type 0
HasNone P from to = (k : ℕ) → from ≤ k → k < to → P k → ⊥

-- the least number there with P
pub record IsLeast (P : ℕ → Type 0) (from to found : ℕ) : Type 0 where
  pub start : from ≤ found
  pub inside : found < to
  pub here : P found
  pub least : HasNone P from found

-- what a search for it answers
abbrev pub Finds : (P : ℕ → Type 0) → (from to : ℕ) → Option ℕ → Type 0
Finds P from to answer = MatchOption answer (HasNone P from to) (IsLeast P from to)

-- the byte at this offset isn't zero
abbrev pub IsSet : List ℕ → ℕ → Type 0
IsSet bytes at = slice_index bytes at ≢ 0

-- the byte at this offset isn't zero, and has to be
abbrev pub IsStray : List ℕ → ℕ → Type 0
IsStray bytes at = IsZeroPlace (length_in bytes) bytes at × IsSet bytes at

-- the entry at this index isn't fit
abbrev pub IsUnfit : (limit : ℕ) → List ℕ → ℕ → Type 0
IsUnfit limit bytes j = IsEntry limit bytes j → ⊥
