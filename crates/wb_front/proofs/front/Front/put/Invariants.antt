-- The piece is still to be put, and the pass has only seen more.
use Rattle.std.proofs.Common.{◌≡◌}
use Rattle.wb_intake.specs.Belongs.{Saw}
use Rattle.wb_intake.specs.Passes.{pass_name, client_of_pass, view_of, loads_of}
use Rattle.wb_front.specs.Requests.{IsSince}
use Rattle.wb_front.proofs.front.Front.put.Given as goal

abbrev pub invariant-loop : goal.invariant-loop
invariant-loop g l = record {
  own : pass_name l.pass ≡ pass_name l.fn.pass;
  client : client_of_pass l.pass ≡ client_of_pass l.fn.pass;
  saw : Saw (view_of l.fn.pass) (view_of l.pass);
  loads : IsSince (loads_of l.fn.pass) (loads_of l.pass);
  block : l.block ≡ l.fn.piece.block;
  payload : l.payload ≡ l.fn.piece.payload;
}
