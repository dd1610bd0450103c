use Rattle.std.proofs.Common.{◌+◌, ◌*◌}
use Rattle.wb_header.specs.Firsts.{HasNone, IsStray}
use Rattle.wb_header.proofs.checking.stray_in_blocks.Given as goal

abbrev pub invariant-loop-index : goal.invariant-loop-index
invariant-loop-index l = HasNone (IsStray l.bytes) 4096 (4096 * (l.index + 1))
