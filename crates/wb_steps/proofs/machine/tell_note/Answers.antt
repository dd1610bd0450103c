use Rattle.std.proofs.Common.{◌≡◌, ◌<◌, List, [], ◌∷◌, ◌++◌, length, set, ap, ◌∙◌, arith}
use Rattle.std.proofs.lemmas.List.{set-append_left, length-append}
use mathlib.Core.Option.{some}
use lib.ListN.{get_elem?}
use Rattle.atomic_table.proofs.Lists.{at_longer}
use Rattle.wb_steps.specs.Views.{telling, note_of}
use Rattle.wb_steps.specs.declared.view.View.{View}
use Rattle.wb_steps.proofs.Cells.{read_one}
use Rattle.wb_steps.proofs.machine.tell_note.Goals as goal

pub returns-clause-ok : goal.returns-clause-ok
returns-clause-ok c v at =
    let xs : List View = c.args.views.now.items in
    let note : View = c.in_ok-note.note in
    let pushed : c.push.new.self.items ≡ xs ++ note ∷ [] = c.in_ok-push.ensures.items in
    let same : c.index.result.now ≡ v = read_one xs c.args.seat c.index.result.now v c.requires c.index.ensures at in
    let there : get_elem? c.push.new.self.items c.args.seat ≡ some v = ap (λ (l : List View). get_elem? l c.args.seat) pushed ∙ at_longer xs (note ∷ []) c.args.seat v at in
    let inside : c.args.seat < length c.push.new.self.items = (let e = ap length pushed ∙ length-append xs (note ∷ []) in omega (arith, e, c.requires)) in
    let again : c.index_mut.result.now ≡ v = read_one c.push.new.self.items c.args.seat c.index_mut.result.now v inside c.index_mut.ensures.value there in
    let told : c.in_ok-note.told ≡ v.told ++ v.seen.cursor ∷ [] = c.in_ok-note.ensures.told ∙ ap (λ (y : View). y.told ++ y.seen.cursor ∷ []) same in
    (λ i. set (pushed i) c.args.seat (record (again i) { told = told i })) ∙ set-append_left xs (note ∷ []) c.args.seat (telling v) c.requires
    ∙ ap (λ (w : View). set xs c.args.seat (telling v) ++ w ∷ []) (c.in_ok-note.ensures.note ∙ ap note_of same)
