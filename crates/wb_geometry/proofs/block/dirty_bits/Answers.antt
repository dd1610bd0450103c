use Rattle.std.proofs.Common.{◌≢◌, subst, sym}
use Rattle.wb_geometry.proofs.Blocks.{ones_shifted, part_is_dirty}
use Rattle.wb_geometry.proofs.block.dirty_bits.Goals as goal

pub returns-clause-bits : goal.returns-clause-bits
returns-clause-bits c = ones_shifted c.args.from c.args.count c.requires.some c.requires.inside

pub returns-clause-dirty : goal.returns-clause-dirty
returns-clause-dirty c =
    subst (λ n. n ≢ 0) (sym (ones_shifted c.args.from c.args.count c.requires.some c.requires.inside)) (part_is_dirty c.args.from c.args.count c.requires.some)
