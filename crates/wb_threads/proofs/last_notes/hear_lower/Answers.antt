-- The client before tells, and the pass hears the note.
use Rattle.std.proofs.Common.{ℕ, ◌≡◌, ◌<◌, ◌∙◌, List, length, set, slice_index_or, subst, arith}
use Rattle.std.proofs.lemmas.List.{length-set, get_or_default}
use Rattle.wb_intake.specs.Passes.{view_of, note_view}
use Rattle.wb_intake.specs.declared.pass.Pass.{Pass}
use Rattle.wb_threads.specs.Threads.{HasHeardLast}
use Rattle.wb_threads.proofs.Hearings.{heard_next, kept_next, few_next}
use Rattle.wb_threads.proofs.last_notes.hear_lower.Goals as goal

pub loop-teller-preserved : goal.loop-teller-preserved
loop-teller-preserved g c =
    let at = c.loop-teller.invariant in
    let t = g.T.Named.carried in
    let before : List Pass = c.args.passes.now in
    let ps : List Pass = c.loop-teller.passes in
    let k : ℕ = c.loop-teller.teller in
    let h : ℕ = c.args.hearer in
    let low : k < h = omega (arith, c.loop-teller-test.true, c.loop-teller.auto.teller-end) in
    let told : Pass = c.tell-note.new.pass in
    let hearing : Pass = c.hear.new.pass in
    let teller : Pass = slice_index_or ps k c.index-passes-teller.result in
    let hearer : Pass = slice_index_or (set ps k told) h c.index-passes-hearer.result in
    let teller_is : (d : Pass) → teller ≡ slice_index_or ps k d = λ d. get_or_default ps k c.index-passes-teller.result d (omega (arith, low, c.requires.hearer, at.long)) in
    let hearer_is : (d : Pass) → hearer ≡ slice_index_or (set ps k told) h d = λ d. get_or_default (set ps k told) h c.index-passes-hearer.result d (omega (arith, c.requires.hearer, at.long, length-set ps k told)) in
    record {
      long = length-set (set ps k told) h hearing ∙ length-set ps k told ∙ at.long;
      heard = heard_next t before ps k h teller told hearer hearing (note_view c.tell-note.result) low c.requires.hearer at.long c.requires.own teller_is hearer_is
          c.tell-note.ensures.own c.tell-note.ensures.told c.tell-note.ensures.note.1 c.hear.ensures.own c.hear.ensures.heard c.hear.ensures.more at.heard at.kept at.few;
      kept = kept_next t before ps k h teller told hearer hearing (note_view c.tell-note.result) low c.requires.hearer at.long c.requires.own teller_is hearer_is
          c.tell-note.ensures.own c.tell-note.ensures.told c.tell-note.ensures.note.1 c.hear.ensures.own c.hear.ensures.heard c.hear.ensures.more at.heard at.kept at.few;
      few = few_next t before ps k h teller told hearer hearing (note_view c.tell-note.result) low c.requires.hearer at.long c.requires.own teller_is hearer_is
          c.tell-note.ensures.own c.tell-note.ensures.told c.tell-note.ensures.note.1 c.hear.ensures.own c.hear.ensures.heard c.hear.ensures.more at.heard at.kept at.few;
    }

pub returns-clause-heard : goal.returns-clause-heard
returns-clause-heard g c = λ d.
    let end : c.loop-teller.teller ≡ c.args.hearer = omega (arith, c.loop-teller-test.false, c.loop-teller.auto.teller-end) in
    subst (λ (k : ℕ). HasHeardLast g.T.Named.carried c.args.passes.now k (slice_index_or c.args.passes.now c.args.hearer d) (slice_index_or c.loop-teller.passes c.args.hearer d)) end (c.loop-teller.invariant.heard d)
