use Rattle.std.proofs.Common.{◌≡◌, ℕ, length, get_or, refl, sym, ap, ◌∙◌, subst, arith}
use mathlib.Core.Bool.{false≢true}
use Rattle.std.proofs.lemmas.List.{get_or_default}
use mathlib.Core.Option.{some}
use lib.ListN.{get_elem?}
use Rattle.wb_steps.specs.Rule.{Intake, IsOwned, IsDrainAt, IsLawful}
use Rattle.wb_steps.specs.Steps.{Allows, Makes, word_of, stepped}
use Rattle.wb_steps.specs.Machines.{Standing, state_of}
use Rattle.wb_steps.specs.declared.view.View.{View}
use Rattle.wb_steps.proofs.Cells.{inside_of, at_one, view_at}
use Rattle.wb_steps.proofs.Ready.{word_inside}
use Rattle.wb_steps.proofs.Keeps.{step_keeps}
use Rattle.wb_steps.proofs.Seats.{drain_stays, owner_stays}
use Rattle.wb_steps.proofs.machine.step.Goals as goal

pub returns-in_default-clause-reply : goal.returns-in_default-clause-reply
returns-in_default-clause-reply c = (
  (λ a. let there = ap (λ (m : Standing). get_elem? m.state.views c.args.step.now.seat) c.machine.view_is ∙ a.1 in
      let h = inside_of c.machine.inside.parts.views.items c.args.step.now.seat a.0 there in let long = ap length c.deref.ensures.value in
      false≢true (c.in_default.ensures.lookup.2 (omega (arith, h, long)))),
  refl,
)

pub returns-then-not-allows-clause-reply : goal.returns-then-not-allows-clause-reply
returns-then-not-allows-clause-reply c = (
  (λ a. let x : View = c.in-Some.view.now in let s = state_of c.machine.inside.parts in
      let at = view_at c.machine.inside.parts.views.items c.deref.result.now c.args.step.now.seat x c.deref.ensures.value c.in-Some.ensures.lookup.3.0 c.in-Some.ensures.lookup.1 in
      let there : get_elem? c.machine.inside.parts.views.items c.args.step.now.seat ≡ some a.0 = ap (λ (m : Standing). get_elem? m.state.views c.args.step.now.seat) c.machine.view_is ∙ a.1 in
      let same : a.0 ≡ x = at_one c.machine.inside.parts.views.items c.args.step.now.seat a.0 x there at in
      let allowed : Allows c.machine.inside.shape s x c.args.step.now.kind = subst (λ (m : Standing × View). Allows m.0.shape m.0.state m.1 c.args.step.now.kind) (λ i. (sym c.machine.view_is i, same i)) a.2 in
      false≢true (sym c.if-not-allows.true ∙ (c.allows.ensures s (sym c.deref-2.ensures.value)).1 allowed)),
  refl,
)

pub make-requires-clause-allowed : goal.make-requires-clause-allowed
make-requires-clause-allowed c = (
  c.in-Some.view.now,
  view_at c.machine.inside.parts.views.items c.deref.result.now c.args.step.now.seat c.in-Some.view.now c.deref.ensures.value c.in-Some.ensures.lookup.3.0 c.in-Some.ensures.lookup.1,
  (c.allows.ensures (state_of c.machine.inside.parts) (sym c.deref-2.ensures.value)).0 c.if-not-allows.false,
)

pub index-found-requires : goal.index-found-requires
index-found-requires c =
    let a = (c.allows.ensures (state_of c.machine.inside.parts) (sym c.deref-2.ensures.value)).0 c.if-not-allows.false in
    let h = word_inside c.machine.inside.shape (state_of c.machine.inside.parts) c.machine.invariant.lawful c.in-Some.view.now c.args.step.now.kind a in
    omega (arith, h, c.word_read.ensures, c.machine.inside.parts.words.ok.0)

-- the view of the seat
at : (c : goal.In_ok-make) → get_elem? c.machine.inside.parts.views.items c.args.step.now.seat ≡ some c.in-Some.view.now
at c = view_at c.machine.inside.parts.views.items c.deref.result.now c.args.step.now.seat c.in-Some.view.now c.deref.ensures.value c.in-Some.ensures.lookup.3.0 c.in-Some.ensures.lookup.1

-- the step is allowed
allowed : (c : goal.In_ok-make) → Allows c.machine.inside.shape (state_of c.machine.inside.parts) c.in-Some.view.now c.args.step.now.kind
allowed c = (c.allows.ensures (state_of c.machine.inside.parts) (sym c.deref-2.ensures.value)).0 c.if-not-allows.false

-- what the step leaves
left : (c : goal.In_ok-make) → state_of c.make.new.parts ≡ stepped c.machine.inside.shape (state_of c.machine.inside.parts) c.args.step.now.seat c.in-Some.view.now
    (get_or c.machine.inside.parts.words.items (word_of c.machine.inside.shape c.in-Some.view.now c.args.step.now.kind) 0) c.args.step.now.kind
left c = c.in_ok-make.ensures.ok c.in-Some.view.now (at c)

-- the number that the word held
held : (c : goal.In_ok-make) → c.index-found.result.now ≡ get_or c.machine.inside.parts.words.items (word_of c.machine.inside.shape c.in-Some.view.now c.args.step.now.kind) 0
held c =
    let h = word_inside c.machine.inside.shape (state_of c.machine.inside.parts) c.machine.invariant.lawful c.in-Some.view.now c.args.step.now.kind (allowed c) in
    c.index-found.ensures ∙ ap (λ (i : ℕ). get_or c.machine.inside.parts.words.items i c.index-found.result.now) c.word_read.ensures
    ∙ get_or_default c.machine.inside.parts.words.items (word_of c.machine.inside.shape c.in-Some.view.now c.args.step.now.kind) c.index-found.result.now 0 h

lawful : (c : goal.In_ok-make) → IsLawful c.machine.inside.shape (state_of c.make.new.parts)
lawful c = subst (IsLawful c.machine.inside.shape) (sym (left c))
    (step_keeps c.machine.inside.shape (state_of c.machine.inside.parts) c.machine.invariant.lawful c.args.step.now.seat c.in-Some.view.now (at c) c.args.step.now.kind (allowed c))

pub returns-clause-lawful : goal.returns-clause-lawful
returns-clause-lawful c = lawful c

pub invariant_of-machine-2 : goal.invariant_of-machine-2
invariant_of-machine-2 c = record {
  shape = c.machine.invariant.shape;
  lawful = lawful c;
  owners = λ n inside. subst (λ (s : Intake). IsOwned s.views (λ j. j) n) (sym (left c))
      (owner_stays n c.machine.inside.shape (state_of c.machine.inside.parts) c.args.step.now.seat c.in-Some.view.now _ c.args.step.now.kind (at c) (allowed c) (c.machine.invariant.owners n inside));
  drain = subst (λ (s : Intake). IsDrainAt s.views c.machine.inside.clients) (sym (left c))
      (drain_stays c.machine.inside.shape (state_of c.machine.inside.parts) c.args.step.now.seat c.machine.inside.clients c.in-Some.view.now _ c.args.step.now.kind (at c) (allowed c) c.machine.invariant.drain);
}

pub returns-clause-reply : goal.returns-clause-reply
returns-clause-reply c = subst (λ (m : Standing). Makes m.shape m.state c.args.step.now c.index-found.result.now (state_of c.make.new.parts)) c.machine.view_is (record {
  view = c.in-Some.view.now;
  seat = at c;
  allowed = allowed c;
  found_is = held c;
  after_is = left c ∙ ap (λ (r : ℕ). stepped c.machine.inside.shape (state_of c.machine.inside.parts) c.args.step.now.seat c.in-Some.view.now r c.args.step.now.kind) (sym (held c));
})
