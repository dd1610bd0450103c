use Rattle.std.proofs.Common.{subst, sym}
use Rattle.wb_intake.specs.Sights.{AreAlike}
use Rattle.wb_intake.proofs.Results.{legal_still, below_still}
use Rattle.wb_intake.proofs.board.Intake.look.Goals as goal

pub returns-clause-legal : goal.returns-clause-legal
returns-clause-legal c = legal_still _ _ c.look_around.ensures.saw (c.look_around.ensures.names c.args.pass.now.owns.0).0

pub returns-clause-below : goal.returns-clause-below
returns-clause-below c = below_still _ _ c.look_around.ensures.saw (c.look_around.ensures.names c.args.pass.now.owns.0).1

pub returns-clause-alike : goal.returns-clause-alike
returns-clause-alike c = subst AreAlike (sym c.look_around.ensures.saw.heard) (c.look_around.ensures.names c.args.pass.now.owns.0).2
