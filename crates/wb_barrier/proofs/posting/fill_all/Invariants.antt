use Rattle.std.proofs.Common.{◌≡◌, ◌+◌, []}
use Rattle.wb_intake.specs.Belongs.{IsOwed}
use Rattle.wb_intake.specs.Passes.{name_of, pass_name, client_of_pass, view_of, loads_of}
use Rattle.wb_barrier.proofs.posting.fill_all.Given as goal

-- so many voids are filled, and all others are owed; nothing else of the pass changed
abbrev pub invariant-loop-filled : goal.invariant-loop-filled
invariant-loop-filled l = record {
  own : pass_name l.pass ≡ name_of l.intake;
  client : client_of_pass l.pass ≡ client_of_pass l.fn.pass;
  loads : loads_of l.pass ≡ loads_of l.fn.pass;
  owed : IsOwed (view_of l.pass) l.pass.client l.voids.next l.voids.left;
  left : l.voids.left + l.filled ≡ l.count;
  same : record (view_of l.pass) { unfilled = [] } ≡ record (view_of l.fn.pass) { unfilled = [] };
}
