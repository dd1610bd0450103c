-- As many vectors as turns, each with its room, and there is room for all of them.
use Rattle.std.proofs.Common.{◌≡◌, ◌≤◌, length, All}
use Rattle.std.specs.Vec.{vec_capacity}
use Rattle.wb_log.proofs.state.vectors.Given as goal

abbrev pub invariant-loop : goal.invariant-loop
invariant-loop g l = record {
  count : length l.vectors.items ≡ l.counter;
  rooms : All (λ vector. l.room ≤ vec_capacity vector) l.vectors.items;
  capacity : l.count ≤ vec_capacity l.vectors;
}
