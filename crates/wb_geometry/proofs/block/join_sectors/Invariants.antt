use Rattle.std.proofs.Common.{◌≡◌, ◌<◌, ◌≤◌, ◌*◌, ℕ, length, slice_index}
use Rattle.wb_geometry.specs.Block.{joined_byte}
use Rattle.wb_geometry.proofs.block.join_sectors.Given as goal

abbrev pub invariant-loop-index : goal.invariant-loop-index
invariant-loop-index l = record {
  size : length l.payload ≡ 4096;
  joined : (at : ℕ) → at < 512 * l.index → slice_index l.payload at ≡ joined_byte at l.fn.payload l.bits l.later;
  rest : (at : ℕ) → 512 * l.index ≤ at → slice_index l.payload at ≡ slice_index l.fn.payload at;
}
