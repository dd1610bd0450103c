-- Pass after pass is shown, and what was shown stays so.
use Rattle.std.proofs.Common.{◌≡◌, ◌++◌, ◌∷◌, [], List, length, refl, ap, sym, ◌∙◌, subst, arith, append_assoc, append-nil}
use Rattle.std.specs.List.{All}
use Rattle.std.specs.Vec.Iter.{into_iter_items}
use Rattle.wb_intake.specs.Passes.{view_of, drain_view}
use Rattle.wb_intake.specs.declared.pass.Pass.{Pass}
use Rattle.wb_front.specs.Closing.{IsShown}
use Rattle.wb_front.proofs.Closings.{shown_next, looked_then}
use Rattle.wb_front.proofs.core_of.Core.show_all.Goals as goal

nothing_left : (xs : List Pass) → length xs ≡ 0 → xs ≡ []
nothing_left [] none = refl
nothing_left (x ∷ xs) none = absurd (omega (arith, none))

pub loop-pass-preserved : goal.loop-pass-preserved
loop-pass-preserved g c =
    let at = c.loop-pass.invariant in
    let shown = c.show_pass.ensures in
    let done : List Pass = c.loop-pass.yielded in
    let pass : Pass = c.in-Some.pass in
    let rest : List Pass = into_iter_items c.next.new.self in
    let turn : done ++ pass ∷ rest ≡ c.args.passes.items = ap (λ (more : List Pass). done ++ more) (sym c.in-Some.ensures.steps.0) ∙ at.all in
    let was = at.left in
    let gone = c.in-Some.ensures.steps.1 in
    let short = ap length c.in-Some.ensures.steps.0 in
    record {
      all = append_assoc done (pass ∷ []) rest ∙ turn;
      left = omega (arith, was, gone, short);
      shown = shown_next (drain_view c.loop-pass.self.drain) (drain_view c.show_pass.new.self.drain) done pass shown.drain at.shown shown.shown;
      clients = λ some. shown.clients;
      drain = looked_then (drain_view c.args.self.now.drain) (drain_view c.loop-pass.self.drain) (drain_view c.show_pass.new.self.drain) at.drain shown.drain;
      engine = shown.same ∙ at.engine;
    }

pub returns-clause-shown : goal.returns-clause-shown
returns-clause-shown g c =
    let at = c.loop-pass.invariant in
    let empty : into_iter_items c.loop-pass.pass-iterator ≡ [] = nothing_left (into_iter_items c.loop-pass.pass-iterator) (sym at.left ∙ c.in-None.ensures.steps.0) in
    let all : c.loop-pass.yielded ≡ c.args.passes.items = sym (append-nil c.loop-pass.yielded) ∙ ap (λ (rest : List Pass). c.loop-pass.yielded ++ rest) (sym empty) ∙ at.all in
    subst (λ (ps : List Pass). All (λ p. IsShown (drain_view c.loop-pass.self.drain) (view_of p)) ps) all at.shown
