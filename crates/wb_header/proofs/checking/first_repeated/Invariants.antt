use Rattle.wb_header.specs.Refused.{IsRepeated}
use Rattle.wb_header.specs.Firsts.{HasNone}
use Rattle.wb_header.proofs.checking.first_repeated.Given as goal

abbrev pub invariant-loop-index : goal.invariant-loop-index
invariant-loop-index l = HasNone (IsRepeated l.bytes) 0 l.index
