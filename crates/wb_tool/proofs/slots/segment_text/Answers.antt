use Rattle.std.proofs.Common.{sym, ◌∙◌}
use Rattle.std.specs.String.{string_bytes}
use Rattle.wb_tool.specs.SlotTexts.{segment_line}
use Rattle.wb_tool.proofs.SlotLines.{line_more}
use Rattle.wb_tool.proofs.slots.segment_text.Goals as goal

pub loop-index-preserved : goal.loop-index-preserved
loop-index-preserved c =
    c.in_ok-push_str.ensures.bytes
    ∙ line_more (segment_line c.args.slot c.args.found.now) c.args.found.now (string_bytes c.loop-index.text) c.as_str.result.now c.loop-index.index c.loop-index.invariant
    (c.as_str.ensures.value ∙ c.in_ok-entry_text.ensures c.args.found.now c.loop-index.index (sym c.entry.ensures.block) (sym c.entry.ensures.bits))
