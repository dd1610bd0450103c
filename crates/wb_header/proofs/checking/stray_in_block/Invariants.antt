use Rattle.std.proofs.Common.{◌+◌, ◌*◌}
use Rattle.wb_header.specs.Firsts.{HasNone, IsStray}
use Rattle.wb_header.proofs.checking.stray_in_block.Given as goal

abbrev pub invariant-loop-sector : goal.invariant-loop-sector
invariant-loop-sector l = HasNone (IsStray l.bytes) (4096 * (l.fn.index + 1)) (4096 * (l.fn.index + 1) + 512 * l.sector)
