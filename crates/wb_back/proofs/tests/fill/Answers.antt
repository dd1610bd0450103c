-- Each block that is added is inside, and stays so in another order.
use Rattle.std.proofs.Common.{arith}
use Rattle.wb_back.proofs.Added.{AreInside-added, AreInside-arranged}
use Rattle.wb_back.proofs.tests.fill.Goals as goal

pub loop-block-preserved : goal.loop-block-preserved
loop-block-preserved g c = AreInside-added 32 c.loop-block.plan.blocks c.add.new.self.blocks _ c.add.ensures.numbers c.loop-block.invariant (omega arith)

pub returns-clause-inside : goal.returns-clause-inside
returns-clause-inside g c = AreInside-arranged 32 _ _ c.arrange.ensures.same c.loop-block.invariant
