use Rattle.std.proofs.Common.{◌≡◌, List, set, ◌∙◌}
use Rattle.wb_steps.specs.Views.{longer, heard_by, greater_seen}
use Rattle.wb_steps.specs.declared.view.View.{View}
use Rattle.wb_steps.proofs.Cells.{read_one}
use Rattle.wb_steps.proofs.machine.join_views.Goals as goal

pub returns-clause-ok : goal.returns-clause-ok
returns-clause-ok c v w at there =
    let xs : List View = c.args.views.now.items in
    let v1 : c.index.result.now ≡ v = read_one xs c.args.seat c.index.result.now v c.requires.seat c.index.ensures at in
    let w1 : c.index-2.result.now ≡ w = read_one xs c.args.other c.index-2.result.now w c.requires.other c.index-2.ensures there in
    let v2 : c.index-3.result.now ≡ v = read_one xs c.args.seat c.index-3.result.now v c.requires.seat c.index-3.ensures at in
    let w2 : c.index-4.result.now ≡ w = read_one xs c.args.other c.index-4.result.now w c.requires.other c.index-4.ensures there in
    let v3 : c.index_mut-view.result.now ≡ v = read_one xs c.args.seat c.index_mut-view.result.now v c.requires.seat c.index_mut-view.ensures.value at in
    let known : c.in_ok-known.known ≡ longer v.known w.known = c.in_ok-known.ensures.known ∙ (λ i. longer (v1 i).known (w1 i).known) in
    let heard : c.in_ok-known.heard ≡ heard_by v.role v.heard w.heard = c.in_ok-known.ensures.heard ∙ (λ i. heard_by (v1 i).role (v1 i).heard (w1 i).heard) in
    let seen : c.greater-seen.result ≡ greater_seen v.seen w.seen = c.greater-seen.ensures ∙ (λ i. greater_seen (v2 i).seen (w2 i).seen) in
    λ i. set (set xs c.args.seat (record (v3 i) { known = known i; heard = heard i; seen = seen i })) c.args.other (c.spent_view.ensures i)
