use Rattle.wb_back.specs.Plans.{AreInside}
use Rattle.wb_back.proofs.tests.fill.Given as goal

abbrev pub invariant-loop-block : goal.invariant-loop-block
invariant-loop-block g l = AreInside 32 l.plan.blocks
