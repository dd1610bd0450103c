-- What is still to be forgotten is covered by items that are due, and all else is as it was.
use Rattle.std.proofs.Common.{◌≡◌, ◌<◌, ℕ, sum_by}
use Rattle.wb_table.specs.Lookup.{kept_after}
use Rattle.wb_table.specs.Tables.{spot_in}
use Rattle.wb_table.specs.Keeping.{IsKept}
use Rattle.wb_table.proofs.Forgetting.{due_count}
use Rattle.wb_table.proofs.lookup.Lookup.forget_through.Given as goal

abbrev pub invariant-loop-block : goal.invariant-loop-block
invariant-loop-block l = record {
  kept : IsKept l.self-inside.table l.self-inside.queue;
  room : l.self-inside.table.room ≡ l.fn.self.room;
  spots : (block i : ℕ) → i < 8 → kept_after l.fn.id (spot_in l.self-inside.table block i) ≡ kept_after l.fn.id (spot_in l.fn.self block i);
}

abbrev pub decreases-loop-block : goal.decreases-loop-block
decreases-loop-block l = sum_by (due_count l.fn.id) l.self-inside.queue.items
