-- The pass has only seen more, and loads were counted.
use Rattle.std.proofs.Common.{◌≡◌, ◌≤◌}
use Rattle.wb_intake.specs.Belongs.{Saw}
use Rattle.wb_intake.specs.Passes.{pass_name, client_of_pass, view_of, loads_of}
use Rattle.wb_front.proofs.front.Front.wait_flush.Given as goal

abbrev pub invariant-loop : goal.invariant-loop
invariant-loop g l = record {
  own : pass_name l.pass ≡ pass_name l.fn.pass;
  client : client_of_pass l.pass ≡ client_of_pass l.fn.pass;
  saw : Saw (view_of l.fn.pass) (view_of l.pass);
  loads : (loads_of l.fn.pass).stable.count ≤ (loads_of l.pass).stable.count;
  faults : (loads_of l.fn.pass).fault.count ≤ (loads_of l.pass).fault.count;
  ticket : l.ticket ≡ l.fn.ticket;
}
