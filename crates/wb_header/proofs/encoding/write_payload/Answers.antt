use Rattle.std.proofs.Common.{◌+◌, ◌*◌, ◌∙◌, ap, length, arith}
use Rattle.wb_header.proofs.Writing.{part_put}
use Rattle.wb_header.proofs.encoding.write_payload.Goals as goal

pub returns-clause-part : goal.returns-clause-part
returns-clause-part c =
    part_put (4096 * (c.args.index + 1)) 4096 _ c.args.text.now c.copy_from_slice.new.self (omega arith) (ap length c.copy_from_slice.ensures.after ∙ c.requires.size)
    ∙ c.copy_from_slice.ensures.after
