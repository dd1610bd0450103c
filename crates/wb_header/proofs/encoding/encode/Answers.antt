use Rattle.std.proofs.Common.{◌+◌, ◌*◌, ◌∙◌, drop, arith}
use Rattle.std.proofs.lemmas.List.{take_at, length-take-le}
use Rattle.wb_header.proofs.encoding.encode.Goals as goal

pub returns-clause-text : goal.returns-clause-text
returns-clause-text c room limit few inside =
    let size = 4096 * (1 + c.len.result) in
    let whole = take_at c.write_text.new.text (drop size c.args.into.now) size (c.write_text.auto.text ∙ length-take-le size c.args.into.now (omega (arith, c.len.ensures.count))) in
    rw whole (c.write_text.ensures room limit few inside)
