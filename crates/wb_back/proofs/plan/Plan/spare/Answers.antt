use Rattle.std.proofs.Common.{subst}
use Rattle.wb_back.specs.Plans.{IsPlan}
use Rattle.wb_back.proofs.Planning.{IsPlan-stored}
use Rattle.wb_back.proofs.plan.Plan.spare.Goals as goal

pub returns-clause-sound : goal.returns-clause-sound
returns-clause-sound c = subst IsPlan c.self.view_is (IsPlan-stored c.self.inside.planned.items c.self.inside.payloads.items c.self.invariant)
