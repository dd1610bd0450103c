use Rattle.std.proofs.Common.{◌<◌, ◌+◌, ◌*◌, ℕ, slice_index_or}
use Rattle.wb_header.specs.Text.{no_block}
use Rattle.wb_header.specs.Writing.{HoldsEntry, IsSameOutside}
use Rattle.wb_header.proofs.encoding.write_entries.Given as goal

abbrev pub invariant-loop-index : goal.invariant-loop-index
invariant-loop-index l = record {
  entries : (j : ℕ) → j < l.index → HoldsEntry (slice_index_or l.segment.blocks j no_block).number (slice_index_or l.segment.blocks j no_block).bits l.text j;
  others : IsSameOutside 512 (512 + 16 * l.index) l.fn.text l.text;
}
