use Rattle.std.proofs.Common.{ap, ◌∙◌}
use Rattle.wb_steps.specs.Views.{without}
use Rattle.wb_intake.specs.declared.sight.Sight.{Sight}
use Rattle.wb_intake.proofs.Results.{without_self}
use Rattle.wb_intake.proofs.board.Intake.fill.Goals as goal

pub returns-clause-free : goal.returns-clause-free
returns-clause-free c = ap (λ (x : Sight). x.view.unfilled) c.put.ensures.filled ∙ ap (without c.args.claim.place) c.requires.claimed.0 ∙ without_self c.args.claim.place
