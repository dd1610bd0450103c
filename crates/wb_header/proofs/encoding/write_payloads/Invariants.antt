use Rattle.std.proofs.Common.{◌<◌, ◌+◌, ◌*◌, ℕ, slice_index_or}
use Rattle.wb_header.specs.Text.{no_block}
use Rattle.wb_header.specs.Writing.{HoldsPayload, IsSameOutside}
use Rattle.wb_header.proofs.encoding.write_payloads.Given as goal

abbrev pub invariant-loop-index : goal.invariant-loop-index
invariant-loop-index l = record {
  payloads : (j : ℕ) → j < l.index → HoldsPayload (slice_index_or l.segment.blocks j no_block).bits (slice_index_or l.segment.blocks j no_block).payload l.text j;
  others : IsSameOutside 4096 (4096 * (1 + l.index)) l.fn.text l.text;
}
