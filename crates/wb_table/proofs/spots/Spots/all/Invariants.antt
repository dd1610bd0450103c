-- The spots so far.
use Rattle.std.proofs.Common.{◌≡◌, ◌<◌, ℕ, length, slice_index_or}
use Rattle.wb_table.specs.Lookup.{nowhere}
use Rattle.wb_table.specs.Tables.{spot_of}
use Rattle.wb_table.proofs.spots.Spots.all.Given as goal

abbrev pub invariant-loop-i : goal.invariant-loop-i
invariant-loop-i l = record {
  size : length l.all ≡ 8;
  done : (k : ℕ) → k < l.i → slice_index_or l.all k nowhere ≡ spot_of l.self k;
}
