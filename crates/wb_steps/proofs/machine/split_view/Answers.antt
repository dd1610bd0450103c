use Rattle.std.proofs.Common.{◌≡◌, ℕ, List, [], ◌∷◌, ◌++◌, refl, sym, ap, ◌∙◌, subst}
use mathlib.Core.Bool.{false≢true}
use Rattle.wb_steps.specs.Views.{copy}
use Rattle.wb_steps.specs.Steps.{split}
use Rattle.wb_steps.specs.declared.view.View.{View}
use Rattle.wb_steps.specs.declared.view.Role.{Role}
use Rattle.wb_steps.specs.declared.view.Role.TheVariants.{Owner, Copy, Drain, Spent}
use Rattle.wb_steps.proofs.Cells.{read_one}
use Rattle.wb_steps.proofs.machine.split_view.Goals as goal

-- all but an owner make a copy without a note
no_owner : (xs views : List View) (id : ℕ) (v : View) (role : Role) → (role ≡ Owner → ⊥) → xs ≡ views ++ copy v [] ∷ [] → xs ≡ split views id v role
no_owner xs views id v Owner n e = absurd (n refl)
no_owner xs views id v Copy n e = e
no_owner xs views id v Drain n e = e
no_owner xs views id v Spent n e = e

pub returns-then-is_owner-clause-ok : goal.returns-then-is_owner-clause-ok
returns-then-is_owner-clause-ok c v at =
    let same = read_one c.args.views.now.items c.args.seat c.index.result.now v c.requires c.index.ensures at in
    let role : v.role ≡ Owner = ap (λ (x : View). x.role) (sym same) ∙ c.is_owner.ensures.0 c.if-is_owner.true in
    subst (λ (r : Role). c.tell_note.new.views.items ≡ split c.args.views.now.items c.args.seat v r) (sym role) (c.in_ok-tell_note.ensures.ok v at)

pub returns-clause-ok : goal.returns-clause-ok
returns-clause-ok c v at =
    let same = read_one c.args.views.now.items c.args.seat c.index.result.now v c.requires c.index.ensures at in
    no_owner c.show_copy.new.views.items c.args.views.now.items c.args.seat v v.role
    (λ role. false≢true (sym c.if-is_owner.false ∙ c.is_owner.ensures.1 (ap (λ (x : View). x.role) same ∙ role)))
    (c.in_ok-show_copy.ensures.ok v at)
