use Rattle.std.proofs.Common.{◌≡◌, ◌+◌, refl, sym, ap, ◌∙◌, subst, map, set, get_or, length, Bool, cond, arith}
use Rattle.std.proofs.lemmas.Bool.{eq-eqb}
use Rattle.wb_steps.specs.Steps.{Effect, knows, take_out, next_out}
use Rattle.std.specs.Prelude.{Some, None}
use Rattle.std.proofs.lemmas.List.{map-set, set-get_or, get_or_default}
use mathlib.Core.Option.{some, none, some-injective}
use mathlib.Core.Option as maybe
use lib.ListN.{get_elem?}
use Rattle.atomic_table.proofs.Lists.{at_index, at_map}
use Rattle.wb_steps.specs.Rule.{Home}
use Rattle.wb_steps.specs.Machines.{home_of}
use Rattle.wb_steps.specs.declared.parts.Cell.{Cell}
use Rattle.wb_steps.proofs.acts.take.Goals as goal

-- the cell is as it was
same_cells : (c : goal.In_ok-take_out) → c.take_out.new.cell ≡ c.index_mut.result.now → map home_of (set c.args.cells.now.items c.args.cell c.take_out.new.cell) ≡ map home_of c.args.cells.now.items
same_cells c is = ap (λ (x : Cell). map home_of (set c.args.cells.now.items c.args.cell x)) (is ∙ c.index_mut.ensures.value) ∙ ap (map home_of) (set-get_or c.args.cells.now.items c.args.cell c.index_mut.result.now)

-- what the drain finds
abbrev Found : (c : goal.In_ok-take_out) → Effect → Type 0
Found c e = (map home_of (set c.args.cells.now.items c.args.cell c.take_out.new.cell) ≡ e.homes) × (c.take_out.new.view ≡ e.view)

found_home : (c : goal.In_ok-take_out) (h : Home) → home_of c.index_mut.result.now ≡ h → Found c (take_out c.args.words.now.items (map home_of c.args.cells.now.items) c.args.cell c.args.view.now (some h))
found_home c none is = let r = c.in_ok-take_out.ensures.out is in (same_cells c r.0, r.1)
found_home c (some None) is = let r = c.in_ok-take_out.ensures.empty is in (same_cells c r.0, r.1)
found_home c (some (Some e)) is = let r = c.in_ok-take_out.ensures.there e is in
    (map-set home_of c.args.cells.now.items c.args.cell c.take_out.new.cell ∙ ap (λ (h : Home). set (map home_of c.args.cells.now.items) c.args.cell h) r.0, r.1)

found : (c : goal.In_ok-take_out) → Found c (next_out c.args.words.now.items (map home_of c.args.cells.now.items) c.args.cell c.args.view.now (get_or c.args.words.now.items (c.args.cell + 4) 0))
found c =
    let x : Cell = c.index_mut.result.now in
    let at : get_elem? (map home_of c.args.cells.now.items) c.args.cell ≡ some (home_of x) = at_map home_of c.args.cells.now.items c.args.cell x (at_index c.args.cells.now.items c.args.cell x c.requires.cells c.index_mut.ensures.value) in
    let says : get_or c.args.words.now.items (c.args.cell + 4) 0 ≡ length c.args.view.now.known + 1 = (let z = get_or_default c.args.words.now.items (c.args.cell + 4) c.index.result.now 0 c.requires.words in omega (arith, c.if-index-len.false, c.len.ensures, c.index.ensures, z)) in
    subst (λ (b : Bool). Found c (cond b (take_out c.args.words.now.items (map home_of c.args.cells.now.items) c.args.cell c.args.view.now (get_elem? (map home_of c.args.cells.now.items) c.args.cell)) (knows c.args.words.now.items (map home_of c.args.cells.now.items) c.args.view.now)))
    (sym (eq-eqb _ _ says))
    (subst (λ (y : maybe.Option Home). Found c (take_out c.args.words.now.items (map home_of c.args.cells.now.items) c.args.cell c.args.view.now y)) (sym at) (found_home c (home_of x) refl))

pub returns-clause-cells : goal.returns-clause-cells
returns-clause-cells c = (found c).0

pub returns-clause-view : goal.returns-clause-view
returns-clause-view c = (found c).1
