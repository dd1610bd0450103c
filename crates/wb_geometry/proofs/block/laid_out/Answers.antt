use Rattle.std.proofs.Common.{◌+◌, ◌-◌, ◌*◌, length, refl, arith}
use Rattle.wb_geometry.proofs.Blocks.{laid_over_zeros}
use Rattle.wb_geometry.proofs.block.laid_out.Goals as goal

pub returns : goal.returns
returns c =
    let start = c.from-start.result * 512 in
    laid_over_zeros c.args.part.now c.args.bytes.now start (start + length c.args.bytes.now - start) _ _ c.requires.inside c.requires.size (omega (arith, c.from-start.ensures)) (omega arith) refl c.copy_from_slice.ensures.after
