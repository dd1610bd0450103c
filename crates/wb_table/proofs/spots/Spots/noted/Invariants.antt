-- The sectors so far are as they are to be, and the others as they were.
use Rattle.std.proofs.Common.{◌≡◌, ◌≤◌, ◌<◌, ℕ, true}
use Rattle.wb_table.specs.Lookup.{noted}
use Rattle.wb_table.specs.Tables.{spot_of}
use Rattle.wb_table.proofs.spots.Spots.noted.Given as goal

abbrev pub invariant-loop-i : goal.invariant-loop-i
invariant-loop-i l = record {
  done : (k : ℕ) → k < l.i → spot_of l.spots k ≡ noted (spot_of l.fn.self k) true l.fn.bits k l.fn.spot;
  rest : (k : ℕ) → l.i ≤ k → spot_of l.spots k ≡ spot_of l.fn.self k;
}
