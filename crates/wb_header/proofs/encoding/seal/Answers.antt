use Rattle.std.proofs.Common.{◌∙◌, ap, length, arith}
use Rattle.wb_header.proofs.Writing.{IsSameOutside-put_mid}
use Rattle.wb_header.proofs.encoding.seal.Goals as goal

pub returns-clause-others : goal.returns-clause-others
returns-clause-others c =
    IsSameOutside-put_mid 8 12 8 4 c.args.text.now c.copy_from_slice.new.self (omega arith) (omega arith) (omega arith) (ap length (c.copy_from_slice.ensures.after ∙ c.to_le_bytes.ensures))
