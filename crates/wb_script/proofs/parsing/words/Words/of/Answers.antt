use Rattle.std.proofs.Common.{ℕ, ◌<◌, ◌++◌, ◌∷◌, [], eqb, length, map, rules, tests, ap, ◌∙◌, arith}
use Rattle.std.specs.List.{slice_split}
use Rattle.std.proofs.lemmas.List.{take_more_set, length_push, length-set, length-take}
use Rattle.std.proofs.lemmas.Iterator.{YieldsList-from_take}
use Rattle.std.proofs.lemmas.Iterator.Consumers.{YieldsList-at, YieldsList-turn, YieldsList-end}
use Rattle.std.proofs.lemmas.Iterator.Splits.{YieldsList-from_slice_split}
use Rattle.wb_script.specs.Grammar.{words}
use Rattle.wb_script.proofs.parsing.words.Words.of.Goals as goal

pub loop-word-preserved : goal.loop-word-preserved
loop-word-preserved c =
    let byte = λ (b : ℕ). eqb b 32 in
    let turn = YieldsList-turn
    (YieldsList-from_take {s = c.into_iter-word-iterator.result} 6 (YieldsList-at (search rules)
    (YieldsList-from_slice_split {s = c.split.result} _ byte c.args.line.now c.split.ensures.rest c.split.ensures.done c.split.ensures.closure (λ x r q k. search (rules, tests)))) (search rules))
    c.loop-word.yielded _ c.loop-word.yielded_by _ _ c.in-Some.word c.in-Some.is c.next.ensures.steps in
    let few = length-take 6 (slice_split byte c.args.line.now) in
    let room : c.loop-word.count < length c.loop-word.first = omega (arith, turn.0, few) in
    record {
      sized = omega (arith, length-set c.loop-word.first c.loop-word.count c.in-Some.word);
      counted = omega (arith, length_push c.loop-word.yielded c.in-Some.word);
      kept = take_more_set c.loop-word.first c.loop-word.count c.in-Some.word room ∙ ap (λ v. v ++ c.in-Some.word ∷ []) c.loop-word.invariant.kept;
    }

pub invariant_of-result : goal.invariant_of-result
unfolding words
invariant_of-result c =
    let byte = λ (b : ℕ). eqb b 32 in
    let all = YieldsList-end
    (YieldsList-from_take {s = c.into_iter-word-iterator.result} 6 (YieldsList-at (search rules)
    (YieldsList-from_slice_split {s = c.split.result} _ byte c.args.line.now c.split.ensures.rest c.split.ensures.done c.split.ensures.closure (λ x r q k. search (rules, tests)))) (search rules))
    c.loop-word.yielded _ c.loop-word.yielded_by _ _ c.in-None.is c.next.ensures.steps in
    (c.loop-word.invariant.counted ∙ all.1, ap (map (λ part. part.now)) c.loop-word.invariant.kept ∙ all.0)
