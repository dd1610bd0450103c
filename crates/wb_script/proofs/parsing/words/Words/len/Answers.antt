use Rattle.std.proofs.Common.{ℕ, length, eqb, ap, ◌∙◌, rules, tests, arith}
use Rattle.std.proofs.lemmas.List.{length-take}
use Rattle.std.proofs.lemmas.Iterator.Consumers.{count_from_yields_List}
use Rattle.std.proofs.lemmas.Iterator.Splits.{YieldsList-from_slice_split}
use Rattle.wb_script.specs.Grammar.{words}
use Rattle.wb_script.proofs.parsing.words.Words.len.Goals as goal

pub returns-then-self-lt-MOST_WORDS : goal.returns-then-self-lt-MOST_WORDS
returns-then-self-lt-MOST_WORDS c =
    omega (arith, c.self.invariant.0, length-take 6 (words c.self.inside.line.now), ap length c.self.view_is)

pub returns-else-self-lt-MOST_WORDS : goal.returns-else-self-lt-MOST_WORDS
unfolding words
returns-else-self-lt-MOST_WORDS c =
    let byte = λ (b : ℕ). eqb b 32 in
    count_from_yields_List _ _ c.count.ensures.ran
    (YieldsList-from_slice_split {s = c.split.result} _ byte c.self.inside.line.now c.split.ensures.rest c.split.ensures.done c.split.ensures.closure (λ x r q k. search (rules, tests)))
    ∙ ap length c.self.view_is
