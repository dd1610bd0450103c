use Rattle.wb_sum.proofs.Braids.{word_apart}
use Rattle.wb_sum.proofs.register.first_word.Goals as goal

pub returns-clause-word : goal.returns-clause-word
returns-clause-word c =
    let cut = rw c.unwrap.ensures at c.split_first_chunk.ensures.cases in
    word_apart c.word_of.result c.args.bytes.now c.unwrap.result.0.now c.unwrap.result.1.now c.word_of.ensures cut.0 cut.1 c.requires
