-- The superblock is good, but its record, or the backing device, isn't.
use Rattle.std.proofs.Common.{refl, arith}
use Rattle.wb_engine.proofs.opening.judge.Goals as goal

pub returns-then-found-from-clause-refused : goal.returns-then-found-from-clause-refused
returns-then-found-from-clause-refused g c = (c.in-Ok.found, c.in-Ok.ensures.found, refl, omega (arith, c.if-found-from.true, c.from.ensures))

pub returns-then-has-needs-clause-refused : goal.returns-then-has-needs-clause-refused
returns-then-has-needs-clause-refused g c = (c.in-Ok.found, c.in-Ok.ensures.found, omega (arith, c.if-found-from.false, c.from.ensures), refl, refl, c.if-has-needs.true)
