use Rattle.wb_sum.proofs.Braids.{four_words}
use Rattle.wb_sum.proofs.register.after_four.Goals as goal

pub returns : goal.returns
returns c =
    rw (c.after_word.ensures, c.from-3.ensures, c.after_word-three.ensures, c.from-2.ensures, c.after_word-two.ensures, c.from.ensures, c.after_word-one.ensures)
    (four_words c.args.first c.args.second c.args.third c.args.fourth)
