-- The oldest are gone up to some id.
use Rattle.std.proofs.Common.{length}
use Rattle.wb_log.proofs.Keeping.{IsFewer}
use Rattle.wb_log.proofs.state.LogState.drop_through.Given as goal

abbrev pub invariant-loop-self : goal.invariant-loop-self
invariant-loop-self l = IsFewer l.id l.fn.self l.self

abbrev pub decreases-loop-self : goal.decreases-loop-self
decreases-loop-self l = length l.self.kept
