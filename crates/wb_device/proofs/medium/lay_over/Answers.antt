use Rattle.std.proofs.Common.{refl, arith}
use Rattle.wb_device.proofs.Contents.{lays_over}
use Rattle.wb_device.proofs.medium.lay_over.Goals as goal

pub returns-clause-laid : goal.returns-clause-laid
returns-clause-laid c = rw c.copy_from_slice.ensures.after (lays_over c.args.at _ _ c.args.bytes.now c.args.onto.now refl (omega arith) c.requires.whole c.requires.inside)
