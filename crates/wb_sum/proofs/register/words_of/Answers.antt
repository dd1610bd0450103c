use Rattle.wb_sum.proofs.Braids.{words_more}
use Rattle.wb_sum.proofs.register.words_of.Goals as goal

pub returns-clause-words : goal.returns-clause-words
returns-clause-words c =
    words_more _ _ _ _ _ _ _ _ _ c.first_word-first.ensures.word c.first_word-second.ensures.word c.first_word-third.ensures.word c.first_word-fourth.ensures.word
