use Rattle.std.proofs.Common.{◌≡◌, ◌++◌}
use Rattle.std.specs.String.{string_bytes}
use Rattle.wb_tool.specs.SlotTexts.{segment_line, entries_text}
use Rattle.wb_tool.proofs.slots.segment_text.Given as goal

abbrev pub invariant-loop-index : goal.invariant-loop-index
invariant-loop-index l = string_bytes l.text ≡ segment_line l.fn.slot l.fn.found ++ entries_text l.fn.found l.index
