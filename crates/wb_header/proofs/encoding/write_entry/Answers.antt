use Rattle.std.proofs.Common.{◌∙◌, arith}
use Rattle.wb_header.proofs.Writing.{HoldsEntry-written, IsSameOutside-entry}
use Rattle.wb_header.proofs.encoding.write_entry.Goals as goal

pub returns-clause-entry : goal.returns-clause-entry
returns-clause-entry c =
    HoldsEntry-written c.args.text.now c.copy_from_slice.new.self c.args.index c.args.number c.args.bits _ c.requires.size c.requires.few (omega arith) (omega arith)
    (c.copy_from_slice.ensures.after ∙ c.to_le_bytes.ensures) c.requires.zeros

pub returns-clause-others : goal.returns-clause-others
returns-clause-others c =
    IsSameOutside-entry c.args.text.now c.copy_from_slice.new.self c.args.index c.args.bits _ c.args.number c.requires.size c.requires.few (omega arith)
    (c.copy_from_slice.ensures.after ∙ c.to_le_bytes.ensures)
