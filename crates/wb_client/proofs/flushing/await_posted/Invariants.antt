-- The flushes that were posted at the lines before this one are done.
use Rattle.std.proofs.Common.{ℕ, ◌≡◌, ◌<◌, ◌≤◌, [], get_or, max}
use Rattle.wb_intake.specs.Passes.{pass_name, client_of_pass, view_of}
use Rattle.wb_script.specs.Transcripts.{covered_line}
use Rattle.wb_script.specs.declared.transcript.Line.{Line}
use Rattle.wb_client.specs.Done.{HasLooked}
use Rattle.wb_client.specs.Played.{awaited_line}
use Rattle.wb_client.proofs.flushing.await_posted.Given as goal

abbrev pub invariant-loop-index : goal.invariant-loop-index
invariant-loop-index g l = record {
  own : (pass_name l.pass ≡ pass_name l.fn.pass) × (client_of_pass l.pass ≡ client_of_pass l.fn.pass) × ((view_of l.pass).unfilled ≡ []);
  looked : HasLooked (view_of l.fn.pass) (view_of l.pass);
  lines : l.transcript ≡ l.fn.transcript;
  done : (k : ℕ) (d : Line) → k < l.index → covered_line (get_or l.transcript k d) ≤ max (awaited_line (get_or l.transcript k d)) (view_of l.pass).seen.stable;
}
