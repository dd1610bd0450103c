use Rattle.wb_header.specs.Firsts.{HasNone, IsUnfit}
use Rattle.wb_header.proofs.checking.first_unfit.Given as goal

abbrev pub invariant-loop-index : goal.invariant-loop-index
invariant-loop-index l = HasNone (IsUnfit l.blocks l.bytes) 0 l.index
