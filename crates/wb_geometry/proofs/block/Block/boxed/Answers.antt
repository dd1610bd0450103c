use Rattle.wb_geometry.proofs.Blocks.{IsClean-part_at}
use Rattle.wb_geometry.proofs.block.Block.boxed.Goals as goal

pub invariant_of-new : goal.invariant_of-new
invariant_of-new c = record {
  clean = IsClean-part_at c.args.part.now c.args.bytes.now _ _ c.requires.inside c.requires.size c.dirty_bits-bits.ensures.bits c.laid_out-payload.ensures;
}
