use Rattle.std.proofs.Common.{◌∙◌}
use Rattle.std.proofs.lemmas.Result.{IfOk-weaker}
use Rattle.wb_tool.proofs.SlotLines.{segment_told}
use Rattle.wb_tool.proofs.slots.first_text.Goals as goal

pub returns : goal.returns
returns c = IfOk-weaker c.format.result _ _ (λ text same.
    same ∙ segment_told c.args.slot c.id-id.result c.length-length.result c.sum.result c.args.found.now _ c.id-id.ensures c.length-length.ensures c.sum.ensures c.in_ok-sum.ensures)
    c.format.ensures.ok
