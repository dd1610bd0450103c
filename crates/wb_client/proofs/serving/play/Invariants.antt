-- The requests before this one are answered.
use Rattle.std.proofs.Common.{◌≡◌, [], take}
use Rattle.wb_intake.specs.Passes.{pass_name, client_of_pass, view_of}
use Rattle.wb_script.specs.Valid.{requests_at}
use Rattle.wb_client.proofs.Clients.{IsPlaying}
use Rattle.wb_client.proofs.serving.play.Given as goal

abbrev pub invariant-loop-request : goal.invariant-loop-request
invariant-loop-request g l = record {
  own : (pass_name l.pass ≡ pass_name l.fn.pass) × (client_of_pass l.pass ≡ client_of_pass l.fn.pass) × ((view_of l.pass).unfilled ≡ []);
  playing : IsPlaying g.T.Named.carried l.script.requests l.number (view_of l.fn.pass) (view_of l.pass) (take l.request-index (requests_at l.script.requests l.number)) l.work;
}
