-- The pass has seen the cursor that it loaded, and nothing else came.
use Rattle.std.proofs.Common.{◌≡◌}
use Rattle.wb_intake.specs.Belongs.{Saw}
use Rattle.wb_intake.specs.Passes.{pass_name, client_of_pass, view_of}
use Rattle.wb_front.proofs.front.Front.read.Given as goal

abbrev pub invariant-loop : goal.invariant-loop
invariant-loop g l = record {
  own : pass_name l.pass ≡ pass_name l.fn.pass;
  client : client_of_pass l.pass ≡ client_of_pass l.fn.pass;
  saw : Saw (view_of l.fn.pass) (view_of l.pass);
  cursor : (view_of l.pass).seen.cursor ≡ l.seen;
  into : l.into ≡ l.fn.into;
}
