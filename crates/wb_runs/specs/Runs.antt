-- The runs of set bits of a byte.
use Rattle.std.specs.Prelude.{ℕ, ◌≡◌, ◌+◌, ◌<◌, ◌≤◌, Option, Some, None}
use Rattle.std.specs.Int.{bit_at}

-- the bits from `first` on, so many, are set, and none from `from` to before `first` is, nor is the next behind them
pub record IsFirstRun (bits from first count : ℕ) : Type 0 where
  pub start : from ≤ first
  pub some : 1 ≤ count
  pub inside : first + count ≤ 8
  pub set : (i : ℕ) → first ≤ i → i < first + count → bit_at bits i ≡ 1
  pub before : (i : ℕ) → from ≤ i → i < first → bit_at bits i ≡ 0
  pub behind : first + count < 8 → bit_at bits (first + count) ≡ 0

-- the first run from bit `from` on, and none where no bit from there on is set
abbrev pub FindsRun : (bits from : ℕ) → Option (ℕ × ℕ) → Type 0
FindsRun bits from None = (i : ℕ) → from ≤ i → i < 8 → bit_at bits i ≡ 0
FindsRun bits from (Some run) = IsFirstRun bits from run.0 run.1
