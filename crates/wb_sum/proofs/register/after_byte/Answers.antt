use Rattle.std.proofs.Common.{◌/◌, ◌∙◌, ap, refl}
use Rattle.std.specs.Int.Bits.{bit_xor}
use Rattle.wb_sum.specs.Register.{reduce, are_remainders, are_tables}
use Rattle.wb_sum.proofs.Lookups.{register_byte}
use Rattle.wb_sum.proofs.register.after_byte.Goals as goal

pub returns : goal.returns
unfolding are_tables are_remainders reduce
returns c = ap (λ x. bit_xor x (c.args.register / 256)) (c.look_up-low.ensures 0 refl ∙ ap (reduce 8) c.from.ensures) ∙ register_byte c.args.register
