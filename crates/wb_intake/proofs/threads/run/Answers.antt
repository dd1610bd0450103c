use Rattle.std.proofs.Common.{[], ◌∷◌, ◌++◌, List, ap, ◌∙◌, append_assoc}
use Rattle.wb_intake.specs.Passes.{name_of}
use Rattle.wb_intake.specs.declared.pass.Pass.{Pass}
use Rattle.wb_intake.proofs.Results.{newcomer_in}
use Rattle.wb_intake.proofs.threads.run.Goals as goal

pub run_three-requires-clause-second : goal.run_three-requires-clause-second
run_three-requires-clause-second g c κs within = newcomer_in (name_of c.in_ok-intake.intake) _ c.in_ok-intake.passes.items c.pop.new.self.items [] c.in-Some.second c.in-Some.ensures.items c.in_ok-intake.ensures.passes

pub run_three-requires-clause-first : goal.run_three-requires-clause-first
run_three-requires-clause-first g c κs within = newcomer_in (name_of c.in_ok-intake.intake) _ c.in_ok-intake.passes.items c.pop-2.new.self.items (c.in-Some.second ∷ []) c.in-Some-pop.first
    (c.in-Some.ensures.items ∙ ap (λ (l : List Pass). l ++ c.in-Some.second ∷ []) c.in-Some-pop.ensures.items ∙ append_assoc c.pop-2.new.self.items (c.in-Some-pop.first ∷ []) (c.in-Some.second ∷ []))
    c.in_ok-intake.ensures.passes
