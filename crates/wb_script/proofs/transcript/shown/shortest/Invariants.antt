use Rattle.std.proofs.Common.{◌≡◌, ◌<◌, ◌≤◌, ℕ, false}
use Rattle.wb_script.specs.Patterns.{repeats}
use Rattle.wb_script.proofs.transcript.shown.shortest.Given as goal

abbrev pub invariant-loop-n : goal.invariant-loop-n
invariant-loop-n l = (k : ℕ) → 1 ≤ k → k < l.n → repeats l.bytes k ≡ false
