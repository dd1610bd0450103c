-- The sectors so far are as they are to be, and the others as they were.
use Rattle.std.proofs.Common.{◌≡◌, ◌≤◌, ◌<◌, ℕ}
use Rattle.wb_table.specs.Lookup.{kept_after}
use Rattle.wb_table.specs.Tables.{spot_of}
use Rattle.wb_table.proofs.spots.Spots.kept_after.Given as goal

abbrev pub invariant-loop-i : goal.invariant-loop-i
invariant-loop-i l = record {
  done : (k : ℕ) → k < l.i → spot_of l.spots k ≡ kept_after l.fn.id (spot_of l.fn.self k);
  rest : (k : ℕ) → l.i ≤ k → spot_of l.spots k ≡ spot_of l.fn.self k;
}
