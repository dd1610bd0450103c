use Rattle.std.proofs.Common.{refl}
use Rattle.wb_sum.specs.Register.{reduce, are_remainders, are_tables}
use Rattle.wb_sum.proofs.register.after_word.Goals as goal

pub returns : goal.returns
unfolding are_tables are_remainders reduce
returns c = c.look_up_all.ensures 0 refl
