use Rattle.std.proofs.Common.{refl}
use Rattle.wb_sum.specs.Register.{reduce, are_remainders, are_tables}
use Rattle.wb_sum.proofs.register.after_turn.Goals as goal

pub returns : goal.returns
unfolding are_tables are_remainders reduce
returns c = c.look_up_all.ensures 24 refl
