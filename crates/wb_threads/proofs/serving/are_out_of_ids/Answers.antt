-- Transcript after transcript.
use Rattle.std.proofs.Common.{◌≡◌, ◌<◌, List, length, slice_index_or, Any, true, false, sym, ◌∙◌, subst, arith}
use Rattle.std.proofs.lemmas.List.{get_or_default}
use Rattle.wb_script.specs.Transcripts.{HasStop}
use Rattle.wb_script.specs.declared.transcript.Line.{Line}
use Rattle.wb_script.specs.declared.transcript.Stop.TheVariants.{Ids}
use Rattle.wb_threads.proofs.Stops.{none_next, none_of_all}
use Rattle.wb_threads.proofs.serving.are_out_of_ids.Goals as goal

differ : false ≡ true → ⊥
differ same = absurd (cc)

pub loop-transcript-preserved : goal.loop-transcript-preserved
loop-transcript-preserved c =
    let inside : c.loop-transcript.transcript-index < length c.args.transcripts.now = omega (arith, c.loop-transcript-test.true, c.loop-transcript.auto.transcript-index-end) in
    none_next (Any (HasStop Ids)) c.args.transcripts.now c.loop-transcript.transcript-index c.loop-transcript.invariant (λ d has.
    differ (c.if-has_run_out.ensures.all (subst (Any (HasStop Ids)) (get_or_default c.args.transcripts.now c.loop-transcript.transcript-index d c.transcript-item.result inside ∙ sym c.transcript-item.is) has)))

pub returns-clause-all : goal.returns-clause-all
returns-clause-all c = λ has.
    absurd (none_of_all (Any (HasStop Ids)) c.args.transcripts.now c.loop-transcript.transcript-index (omega (arith, c.loop-transcript-test.false, c.loop-transcript.auto.transcript-index-end)) c.loop-transcript.invariant has)
