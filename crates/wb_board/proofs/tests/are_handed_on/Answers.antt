use Rattle.std.proofs.Common.{[]}
use Rattle.wb_intake.specs.Passes.{name_of}
use Rattle.wb_intake.proofs.Results.{newcomer_in}
use Rattle.wb_board.proofs.tests.are_handed_on.Goals as goal

pub hand_on_two-requires-clause-own : goal.hand_on_two-requires-clause-own
hand_on_two-requires-clause-own g c κs within = (newcomer_in (name_of c.in_ok-intake.intake) _ c.in_ok-intake.passes.items c.pop.new.self.items [] c.in-Some.pass c.in-Some.ensures.items c.in_ok-intake.ensures.passes).0
