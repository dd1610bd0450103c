-- The entries of the bytes come.
use Rattle.std.proofs.Common.{ℕ, List, ◌≡◌, ◌*◌, ◌%◌, ◌≤◌, length, map, All, ◌∙◌, sym, ap, subst, arith}
use Rattle.std.proofs.lemmas.List.{length-map}
use Rattle.wb_geometry.specs.History.{HistoryEntry}
use Rattle.wb_geometry.specs.Entering.{entered}
use Rattle.wb_serve.specs.Playing.{IsWriteInside}
use Rattle.wb_serve.proofs.Parts.{writes_inside, few_parts}
use Rattle.wb_buffers.proofs.Repeats.{length-repeated}
use Rattle.wb_serve.proofs.writing.write.Goals as goal

pub entries_of-requires-clause-sized : goal.entries_of-requires-clause-sized
entries_of-requires-clause-sized g c =
    let some : 1 ≤ length c.as_slice.result.now = subst (λ (bytes : List ℕ). 1 ≤ length bytes) (sym c.as_slice.ensures) c.requires.fills.some in
    let whole : 512 * c.args.count % length c.as_slice.result.now ≡ 0 = subst (λ (bytes : List ℕ). 512 * c.args.count % length bytes ≡ 0) (sym c.as_slice.ensures) c.requires.fills.whole in
    ap length c.deref.ensures.value ∙ ap length c.in_ok-repeat.ensures ∙ length-repeated c.as_slice.result.now (512 * c.args.count) some whole

pub take_places-requires-clause-inside : goal.take_places-requires-clause-inside
take_places-requires-clause-inside g c =
    subst (All (IsWriteInside c.args.engine.now.geometry.backing_sectors)) (sym c.in_ok-entries.ensures)
    (writes_inside c.args.client c.args.sector c.args.count c.args.engine.now.geometry.backing_sectors c.deref.result.now c.requires.within.inside c.args.engine.now.geometry.backing_fits.2)

pub take_places-requires-clause-few : goal.take_places-requires-clause-few
take_places-requires-clause-few g c =
    let size : length (map entered c.in_ok-entries.entries.items) ≡ length c.in_ok-entries.entries.items = length-map c.in_ok-entries.entries.items entered in
    let few = subst (λ (es : List HistoryEntry). length es ≤ 33) (sym c.in_ok-entries.ensures) (few_parts c.args.client c.args.sector c.args.count c.deref.result.now c.requires.within.few) in
    omega (arith, size, few)
