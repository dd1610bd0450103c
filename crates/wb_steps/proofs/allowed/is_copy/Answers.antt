use Rattle.std.proofs.Common.{refl, ap, ◌∙◌}
use mathlib.Core.Bool.{false≢true}
use Rattle.atomic_table.proofs.Lists.{at_index}
use Rattle.wb_steps.specs.declared.view.View.{View}
use Rattle.wb_steps.proofs.Cells.{inside_of, at_one}
use Rattle.wb_steps.proofs.allowed.is_copy.Goals as goal

pub returns-in-Copy : goal.returns-in-Copy
returns-in-Copy c = ((λ h. (c.in-Some.view.now, at_index c.args.views.now c.args.copy c.in-Some.view.now c.in-Some.ensures.lookup.3.0 c.in-Some.ensures.lookup.1, c.in-Copy.is)), λ h. refl)

pub returns-in_default : goal.returns-in_default
returns-in_default c = (
  (λ h. absurd (false≢true h)),
  λ w. absurd (c.in_default.not-Copy
      (ap (λ (v : View). v.role) (at_one c.args.views.now c.args.copy c.in-Some.view.now w.0 (at_index c.args.views.now c.args.copy c.in-Some.view.now c.in-Some.ensures.lookup.3.0 c.in-Some.ensures.lookup.1) w.1) ∙ w.2)),
)

pub returns-in-None : goal.returns-in-None
returns-in-None c = ((λ h. absurd (false≢true h)), λ w. let h = c.in-None.ensures.lookup in h.2 (inside_of c.args.views.now c.args.copy w.0 w.1))
