use Rattle.std.proofs.Common.{◌≡◌, ◌++◌, map, take, drop}
use Rattle.wb_script.specs.Keeping.{marked}
use Rattle.wb_script.proofs.transcript.Transcript.mark_deferred.Given as goal

abbrev pub invariant-loop-line : goal.invariant-loop-line
invariant-loop-line l = l.line-items ≡ map (marked l.stable l.device) (take l.line-index l.fn.self) ++ drop l.line-index l.fn.self
