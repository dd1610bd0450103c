-- Each pass looks, and what it has seen then is drained.
use Rattle.std.proofs.Common.{length, slice_index_or, arith, ◌∙◌}
use Rattle.std.proofs.lemmas.List.{length-set}
use Rattle.std.proofs.lemmas.Option.{slice_get_within, slice_get-get_or}
use Rattle.wb_intake.specs.declared.pass.Pass.{Pass}
use Rattle.wb_front.specs.Joined.{drained}
use Rattle.wb_front.specs.Closing.{IsReached}
use Rattle.wb_front.proofs.Closings.{get_behind_set, longer_since, reached_next}
use Rattle.wb_front.proofs.closing.drain_all.Goals as goal

pub loop-pass-preserved : goal.loop-pass-preserved
loop-pass-preserved g c =
    let at = c.loop-pass.invariant in
    let k = c.loop-pass.pass-index in
    let before : Pass = slice_index_or c.loop-pass.passes k c.pass-item.result in
    let saw = c.look-seen.ensures in
    let here : IsReached (length (drained c.drain_up_to.new.core)) before c.look-seen.new.pass = record {
      own = saw.own.0;
      saw = saw.saw;
      below = omega (arith, saw.cursor.1, c.drain_up_to.ensures.reached);
    } in record {
      long = length-set c.loop-pass.passes k c.look-seen.new.pass ∙ at.long;
      reached = reached_next c.args.passes.now c.loop-pass.passes k before c.look-seen.new.pass (length (drained c.loop-pass.core)) (length (drained c.drain_up_to.new.core))
          (longer_since (drained c.loop-pass.core) (drained c.drain_up_to.new.core) c.drain_up_to.ensures.more) (slice_get-get_or c.loop-pass.passes k c.pass-item.result (omega (arith, c.loop-pass-test.true, c.loop-pass.auto.pass-index-end))) (at.others k (omega arith)) here at.reached;
      others = λ i low. get_behind_set c.loop-pass.passes k i c.look-seen.new.pass (omega (arith, low)) ∙ at.others i (omega (arith, low));
    }

pub returns : goal.returns
returns g c = λ i p q before is.
    c.loop-pass.invariant.reached i p q (omega (arith, c.loop-pass-test.false, c.loop-pass.auto.pass-index-end, slice_get_within c.loop-pass.passes i q is)) before is
