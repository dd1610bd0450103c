-- No transcript before this one says so.
use Rattle.std.proofs.Common.{Any}
use Rattle.wb_script.specs.Transcripts.{HasStop}
use Rattle.wb_script.specs.declared.transcript.Stop.TheVariants.{Ids}
use Rattle.wb_threads.proofs.Stops.{AreNone}
use Rattle.wb_threads.proofs.serving.are_out_of_ids.Given as goal

abbrev pub invariant-loop-transcript : goal.invariant-loop-transcript
invariant-loop-transcript l = AreNone (Any (HasStop Ids)) l.transcripts l.transcript-index
