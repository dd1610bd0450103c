use Rattle.std.proofs.Common.{[], ◌∷◌, ◌++◌, List, ap, ◌∙◌}
use Rattle.std.proofs.lemmas.List.{append_assoc}
use Rattle.wb_intake.specs.Passes.{name_of}
use Rattle.wb_intake.specs.declared.pass.Pass.{Pass}
use Rattle.wb_intake.proofs.Results.{newcomer_in}
use Rattle.wb_front.specs.Beginning.{intake_of}
use Rattle.wb_front.proofs.tests.played_over.Goals as goal

pub played-requires-clause-one : goal.played-requires-clause-one
played-requires-clause-one g c =
    newcomer_in (name_of (intake_of c.in-Ok.ready)) _ c.in-Ok.passes.items c.pop-2.new.self.items (c.in-Some.two ∷ []) c.in-Some-pop.one
    (c.in-Some.ensures.items ∙ ap (λ (front : List Pass). front ++ c.in-Some.two ∷ []) c.in-Some-pop.ensures.items ∙ append_assoc c.pop-2.new.self.items (c.in-Some-pop.one ∷ []) (c.in-Some.two ∷ []))
    c.in-Ok.ensures.opened.passes

pub played-requires-clause-two : goal.played-requires-clause-two
played-requires-clause-two g c =
    newcomer_in (name_of (intake_of c.in-Ok.ready)) _ c.in-Ok.passes.items c.pop.new.self.items [] c.in-Some.two c.in-Some.ensures.items c.in-Ok.ensures.opened.passes
