-- Entry after entry comes until one is stopped.
use Rattle.std.proofs.Common.{ℕ, ◌≡◌, ◌+◌, ◌++◌, ◌∷◌, [], List, length, refl, ap, sym, ◌∙◌, arith, append_assoc, append-nil, length-append}
use Rattle.std.specs.Vec.Iter.{into_iter_items}
use Rattle.std.proofs.lemmas.List.{length-map}
use Rattle.std.proofs.lemmas.List.FromFn.{length-range_with_len}
use Rattle.wb_geometry.specs.Entering.{entered}
use Rattle.wb_geometry.specs.declared.entry.Entry.{Entry}
use Rattle.wb_serve.proofs.Taken.{next_fits, taken_more, places_more, none_came, taken_stopped, taken_all}
use Rattle.wb_serve.proofs.writing.take_places.Goals as goal
use Rattle.wb_serve.proofs.writing.take_places.Goals.{In-Some}

-- where this entry stands
turn : (g : _) (c : In-Some g) → c.loop-entry.yielded ++ c.in-Some.entry ∷ into_iter_items c.next.new.self ≡ c.args.entries.items
turn g c = ap (λ (rest : List Entry). c.loop-entry.yielded ++ rest) (sym c.in-Some.ensures.steps.0) ∙ c.loop-entry.invariant.all

nothing_left : {X : Type 0} (xs : List X) → length xs ≡ 0 → xs ≡ []
nothing_left [] none = refl
nothing_left (x ∷ xs) none = absurd (omega arith)

pub take_place-requires : goal.take_place-requires
take_place-requires g c =
    next_fits c.args.engine.now c.loop-entry.engine c.args.entries.items c.loop-entry.yielded c.in-Some.entry (into_iter_items c.next.new.self) c.requires.inside
    (turn g (goal.at.take_place-requires g c).In-Some) c.loop-entry.invariant.moved.kept.geometry

pub push-requires : goal.push-requires
push-requires g c =
    let here = turn g (goal.at.push-requires g c).In-Some in
    let size : length (c.loop-entry.yielded ++ c.in-Some.entry ∷ into_iter_items c.next.new.self) ≡ length c.args.entries.items = ap length here in
    let count : length c.loop-entry.places ≡ length c.loop-entry.yielded = ap length c.loop-entry.invariant.places ∙ length-range_with_len c.args.engine.now.absorbed (length c.loop-entry.yielded) in
    omega (arith, count, size, length-append c.loop-entry.yielded (c.in-Some.entry ∷ into_iter_items c.next.new.self), c.requires.few)

pub loop-entry-preserved : goal.loop-entry-preserved
loop-entry-preserved g c =
    let at = c.loop-entry.invariant in
    let (here, left, moved, quiet) = c.in-Ok.ensures.taken in
    let absorbed : c.loop-entry.engine.absorbed ≡ c.args.engine.now.absorbed + length c.loop-entry.yielded =
    at.moved.absorbed ∙ ap (λ (n : ℕ). c.args.engine.now.absorbed + n) (length-map c.loop-entry.yielded entered) in
    let was = at.left in
    let gone = c.in-Some.ensures.steps.1 in
    let short = ap length c.in-Some.ensures.steps.0 in
    record {
      all = append_assoc c.loop-entry.yielded (c.in-Some.entry ∷ []) (into_iter_items c.next.new.self) ∙ turn g (goal.at.loop-entry-preserved g c).In-Some;
      left = omega (arith, was, gone, short);
      moved = taken_more c.loop-entry.yielded c.in-Some.entry at.moved moved;
      places = c.push.ensures ∙ places_more c.args.engine.now.absorbed c.in-Ok.place c.loop-entry.places c.loop-entry.yielded c.in-Some.entry at.places (here ∙ absorbed);
      none_left = λ spent. none_came c.loop-entry.yielded at.moved at.none_left left spent;
    }

pub returns-in-Err : goal.returns-in-Err
returns-in-Err g c =
    let at = c.loop-entry.invariant in
    let (by, moved, quiet) = c.in-Err.ensures.taken in
    taken_stopped c.args.entries.items c.loop-entry.yielded c.in-Some.entry (into_iter_items c.next.new.self) c.loop-entry.places c.in-Err.stop
    (turn g (goal.at.returns-in-Err g c).In-Some) at.places at.moved moved at.none_left by

pub returns : goal.returns
returns g c =
    let at = c.loop-entry.invariant in
    let empty : into_iter_items c.loop-entry.entry-iterator ≡ [] = nothing_left (into_iter_items c.loop-entry.entry-iterator) (sym at.left ∙ c.in-None.ensures.steps.0) in
    let all = sym (append-nil c.loop-entry.yielded) ∙ ap (λ (rest : List Entry). c.loop-entry.yielded ++ rest) (sym empty) ∙ at.all in
    taken_all c.args.entries.items c.loop-entry.yielded c.loop-entry.places all at.places at.moved at.none_left
