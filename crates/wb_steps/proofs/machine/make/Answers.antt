use Rattle.std.proofs.Common.{◌≡◌, List, length, map, get_or, set, sym, ap, ◌∙◌, subst, arith}
use Rattle.std.proofs.lemmas.List.{length-map}
use mathlib.Core.Option.{some}
use lib.ListN.{get_elem?}
use Rattle.wb_steps.specs.Steps.{Allows, word_of, stepped, effect, Effect}
use Rattle.wb_steps.specs.Machines.{state_of, home_of, Acts, Fits}
use Rattle.wb_steps.specs.declared.view.View.{View}
use Rattle.wb_steps.specs.declared.steps.Kind.TheVariants as kind
use Rattle.wb_steps.proofs.Cells.{inside_of, read_one}
use Rattle.wb_steps.proofs.Ready.{known_fits, step_fits, own_views}
use Rattle.wb_steps.proofs.machine.make.Goals as goal

pub split_view-requires : goal.split_view-requires
split_view-requires c = inside_of c.args.parts.now.views.items c.args.seat c.requires.allowed.0 c.requires.allowed.1

pub join_views-requires-clause-seat : goal.join_views-requires-clause-seat
join_views-requires-clause-seat c = inside_of c.args.parts.now.views.items c.args.seat c.requires.allowed.0 c.requires.allowed.1

pub join_views-requires-clause-other : goal.join_views-requires-clause-other
join_views-requires-clause-other c =
    let a : Allows c.args.shape.now (state_of c.args.parts.now) c.requires.allowed.0 (kind.Join c.in-Join.copy) = subst (Allows c.args.shape.now (state_of c.args.parts.now) c.requires.allowed.0) c.in-Join.is c.requires.allowed.2 in
    inside_of c.args.parts.now.views.items c.in-Join.copy a.1.0 a.1.1

pub index_mut-view-requires : goal.index_mut-view-requires
index_mut-view-requires c = let h = inside_of c.args.parts.now.views.items c.args.seat c.requires.allowed.0 c.requires.allowed.1 in let n = c.args.parts.now.views.ok.0 in omega (arith, h, n)

pub act-requires : goal.act-requires
act-requires c =
    let k = c.args.shape.now in let s = state_of c.args.parts.now in let v : View = c.requires.allowed.0 in
    let h = inside_of c.args.parts.now.views.items c.args.seat v c.requires.allowed.1 in
    let same : v ≡ c.index_mut-view.result.now = sym (read_one c.args.parts.now.views.items c.args.seat c.index_mut-view.result.now v h c.index_mut-view.ensures.value c.requires.allowed.1) in
    record {
      shape = c.requires.shape;
      words = c.requires.lawful.sound.wide;
      cells = sym (length-map c.args.parts.now.cells.items home_of) ∙ c.requires.lawful.sound.deep;
      fits = (let n = known_fits k c.requires.shape s c.requires.lawful c.args.seat v c.requires.allowed.1 c.args.kind.now c.requires.allowed.2 in let e = ap (λ (x : View). length x.known) same in omega (arith, n, e));
      allowed = subst (λ (x : View). Fits x c.args.kind.now) same (step_fits k c.requires.shape s c.requires.lawful c.args.seat v c.requires.allowed.1 c.args.kind.now c.requires.allowed.2);
    }

pub returns-in_ok-act-in_default : goal.returns-in_ok-act-in_default
returns-in_ok-act-in_default c = record { ok = leads; err = tt }
  where
    leads : (v : View) → get_elem? c.args.parts.now.views.items c.args.seat ≡ some v
        → state_of record { words = c.act.new.words; cells = c.act.new.cells; views = Rattle.std.specs.Vec.with_item c.args.parts.now.views c.args.seat c.act.new.view }
        ≡ stepped c.args.shape.now (state_of c.args.parts.now) c.args.seat v (get_or c.args.parts.now.words.items (word_of c.args.shape.now v c.args.kind.now) 0) c.args.kind.now
    leads v at =
        let k = c.args.shape.now in let what = c.args.kind.now in let views : List View = c.args.parts.now.views.items in
        let same : c.index_mut-view.result.now ≡ v = read_one views c.args.seat c.index_mut-view.result.now v (inside_of views c.args.seat v at) c.index_mut-view.ensures.value at in
        let a : Acts k c.args.parts.now.words.items c.args.parts.now.cells.items v what c.act.new.words.items c.act.new.cells.items c.act.new.view =
        subst (λ (x : View). Acts k c.args.parts.now.words.items c.args.parts.now.cells.items x what c.act.new.words.items c.act.new.cells.items c.act.new.view) same c.in_ok-act-in_default.ensures.ok in
        let e : Effect = effect k c.args.parts.now.words.items (map home_of c.args.parts.now.cells.items) v (get_or c.args.parts.now.words.items (word_of k v what) 0) what in
        (λ i. record { words = a.words_are i; homes = a.cells_are i; views = set views c.args.seat (a.view_is i) })
        ∙ ap (λ (vs : List View). record { words = e.words; homes = e.homes; views = vs }) (own_views views c.args.seat v e.view what c.in_default.not-Split c.in_default.not-Join)
