use Rattle.std.proofs.Common.{ℕ, ◌≢◌, ◌<◌}
use Rattle.wb_header.specs.Text.{number_in}
use Rattle.wb_header.proofs.checking.is_repeated.Given as goal

abbrev pub invariant-loop-earlier : goal.invariant-loop-earlier
invariant-loop-earlier l = (k : ℕ) → k < l.earlier → number_in l.bytes k ≢ l.number
