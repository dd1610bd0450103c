use Rattle.std.proofs.Common.{[], ◌∷◌, ◌++◌, ap, ◌∙◌}
use Rattle.wb_steps.specs.Views.{copy}
use Rattle.wb_steps.specs.declared.view.View.{View}
use Rattle.wb_steps.proofs.Cells.{read_one}
use Rattle.wb_steps.proofs.machine.show_copy.Goals as goal

pub returns-clause-ok : goal.returns-clause-ok
returns-clause-ok c v at =
    let same = read_one c.args.views.now.items c.args.seat c.index.result.now v c.requires c.index.ensures at in
    c.in_ok-push.ensures.items ∙ ap (λ (w : View). c.args.views.now.items ++ w ∷ []) (c.in_ok-copy.ensures ∙ ap (λ (y : View). copy y []) same)
