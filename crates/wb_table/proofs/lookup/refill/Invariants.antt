-- The blocks so far are covered, by no more items than they are.
use Rattle.std.proofs.Common.{◌≤◌, length}
use Rattle.wb_table.proofs.Covering.{IsCoveredTo}
use Rattle.wb_table.proofs.lookup.refill.Given as goal

abbrev pub invariant-loop-index : goal.invariant-loop-index
invariant-loop-index l = record {
  few : length l.queue.items ≤ l.index;
  room : l.fn.queue.room ≤ l.queue.room;
  covered : IsCoveredTo l.index l.blocks l.queue;
}
