-- Client after client hears the notes of all before it.
use Rattle.std.proofs.Common.{ℕ, ◌≡◌, ◌+◌, ◌<◌, ◌∙◌, List, length, slice_index_or, arith}
use Rattle.wb_intake.specs.Passes.{view_of}
use Rattle.wb_intake.specs.declared.pass.Pass.{Pass}
use Rattle.wb_threads.proofs.Hearings.{heard_none, all_heard, all_kept, all_few, own_still}
use Rattle.wb_threads.proofs.last_notes.tell_last.Goals as goal

pub hear_lower-requires-clause-own : goal.hear_lower-requires-clause-own
hear_lower-requires-clause-own g c =
    let at = c.loop-hearer.invariant in
    own_still g.T.Named.carried c.args.passes.now c.loop-hearer.passes at.long c.requires.own at.kept

pub hear_lower-requires-clause-few : goal.hear_lower-requires-clause-few
hear_lower-requires-clause-few g c = λ i d below.
    let at = c.loop-hearer.invariant in
    let inside : i < length c.args.passes.now = omega (arith, below, at.long) in
    omega (arith, at.few i d inside, c.requires.few i d inside, c.requires.count, c.loop-hearer-test.true, c.loop-hearer.auto.hearer-end, at.long)

pub loop-hearer-preserved : goal.loop-hearer-preserved
loop-hearer-preserved g c =
    let at = c.loop-hearer.invariant in
    let t = g.T.Named.carried in
    let before : List Pass = c.args.passes.now in
    let ps : List Pass = c.loop-hearer.passes in
    let qs : List Pass = c.hear_lower.new.passes in
    let h : ℕ = c.loop-hearer.hearer in
    let now = c.hear_lower.ensures in
    let inside : h < length before = omega (arith, c.loop-hearer-test.true, c.loop-hearer.auto.hearer-end) in
    record {
      long = now.count ∙ at.long;
      heard = all_heard t before ps qs h inside at.long at.heard at.kept at.few now.heard now.kept now.few;
      kept = all_kept t before ps qs h inside at.long at.heard at.kept at.few now.heard now.kept now.few;
      few = all_few t before ps qs h inside at.long at.heard at.kept at.few now.heard now.kept now.few (omega (arith, inside, c.requires.count));
    }

pub returns-clause-heard : goal.returns-clause-heard
returns-clause-heard g c = λ i d below.
    c.loop-hearer.invariant.heard i d (omega (arith, below, c.loop-hearer-test.false, c.loop-hearer.auto.hearer-end))
