-- The sectors before this one have the spot.
use Rattle.std.proofs.Common.{◌≡◌, ◌+◌, ◌/◌, ◌%◌, ◌≤◌, ◌<◌, ℕ}
use Rattle.wb_table.specs.Tables.{spot_in}
use Rattle.wb_engine.proofs.reading.run_of.Given as goal

abbrev pub invariant-loop-count : goal.invariant-loop-count
invariant-loop-count l = (j : ℕ) → 1 ≤ j → j < l.count → spot_in l.fn.memory.lookup ((l.fn.sector + j) / 8) ((l.fn.sector + j) % 8) ≡ l.fn.spot
