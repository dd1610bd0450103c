use Rattle.std.proofs.Common.{◌∙◌, length, arith}
use Rattle.std.proofs.lemmas.List.{get_or_default}
use Rattle.wb_header.proofs.Writing.{HoldsFront-of, IsText-written}
use Rattle.wb_header.proofs.encoding.write_text.Goals as goal

pub returns : goal.returns
returns c room limit few inside =
    let front = HoldsFront-of c.id.result c.len.result c.args.segment.now.id (length c.args.segment.now.blocks) c.id.ensures c.len.ensures.count c.write_front.ensures.front in
    IsText-written room limit c.args.segment.now.id c.args.segment.now.blocks c.write_front.new.text c.write_entries.new.text c.write_payloads.new.text c.seal.new.text
    (c.write_front.ensures.size ∙ c.requires) front c.write_entries.ensures.entries c.write_entries.ensures.others c.write_payloads.ensures.payloads c.write_payloads.ensures.others
    c.seal.ensures.sum c.seal.ensures.others c.len.ensures.segment (λ k d below. omega (arith, c.type_inv.text k, get_or_default c.seal.new.text k d 0 below)) few inside
