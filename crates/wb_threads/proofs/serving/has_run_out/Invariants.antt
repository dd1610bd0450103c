-- No line before this one says so.
use Rattle.wb_script.specs.Transcripts.{HasStop}
use Rattle.wb_script.specs.declared.transcript.Stop.TheVariants.{Ids}
use Rattle.wb_threads.proofs.Stops.{AreNone}
use Rattle.wb_threads.proofs.serving.has_run_out.Given as goal

abbrev pub invariant-loop-index : goal.invariant-loop-index
invariant-loop-index l = AreNone (HasStop Ids) l.transcript l.index
