use Rattle.std.proofs.Common.{◌+◌, ◌*◌, [], ◌∷◌, length, ap, refl, ◌∙◌}
use Rattle.std.specs.Int.Bits.{bit_xor}
use Rattle.wb_sum.specs.Crc32c.{number, message}
use Rattle.wb_sum.specs.Register.{reduce, run, state}
use Rattle.wb_sum.proofs.Braids.{first, next_turn, last}
use Rattle.wb_sum.proofs.register.after_bytes.Goals as goal

pub loop-rest-init : goal.loop-rest-init
loop-rest-init c =
    let words = c.words_of-words.result in
    let rest = words.rest.now in
    ap (λ start. reduce (256 + 8 * length rest) (state (bit_xor words.first start ∷ words.second ∷ words.third ∷ words.fourth ∷ []) (number (message rest)))) c.from.ensures
    ∙ first c.args.start words.first words.second words.third words.fourth (number (message rest)) c.args.bytes.now rest c.words_of-words.ensures.words c.words_of-words.ensures.rest

pub loop-rest-preserved : goal.loop-rest-preserved
loop-rest-preserved c =
    let next = c.words_of-next.result in
    next_turn (run c.args.start c.args.bytes.now) c.loop-rest.first c.loop-rest.second c.loop-rest.third c.loop-rest.fourth
    next.first next.second next.third next.fourth
    c.from-in-loop-rest.result c.from-in-loop-rest-2.result c.from-in-loop-rest-3.result c.from-in-loop-rest-4.result
    c.loop-rest.rest.now next.rest.now c.words_of-next.ensures.words c.words_of-next.ensures.rest
    (c.from-in-loop-rest.ensures ∙ c.after_turn.ensures)
    (c.from-in-loop-rest-2.ensures ∙ c.after_turn-in-loop-rest.ensures)
    (c.from-in-loop-rest-3.ensures ∙ c.after_turn-in-loop-rest-2.ensures)
    (c.from-in-loop-rest-4.ensures ∙ c.after_turn-in-loop-rest-3.ensures)
    c.loop-rest.invariant

pub returns : goal.returns
returns c =
    c.after_few-2.ensures
    ∙ last c.after_four.result (c.loop-rest.first ∷ c.loop-rest.second ∷ c.loop-rest.third ∷ c.loop-rest.fourth ∷ []) c.loop-rest.rest.now c.after_four.ensures refl
    ∙ c.loop-rest.invariant
