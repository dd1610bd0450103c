-- No segment has more blocks than a slot has places.
use Rattle.std.proofs.Common.{◌-◌, ◌<◌, length, refl, ap, sym, subst, arith}
use Rattle.std.proofs.lemmas.List.{length-map}
use Rattle.wb_log.specs.Kept.{Kept, IsThere}
use Rattle.wb_log.proofs.Keeping.{short_there}
use Rattle.wb_log.proofs.state.LogState.segment.Goals as goal

pub returns-clause-few : goal.returns-clause-few
returns-clause-few c =
    let there = subst (λ (state : Kept). IsThere state c.args.id) (sym c.self.view_is) c.requires in
    let below : c.args.id - c.self.inside.first < length c.self.inside.kept.items = omega (arith, there.0, there.1, length-map c.self.inside.kept.items (λ metas. metas.items)) in
    omega (arith, ap length c.deref.ensures.value, short_there (λ metas. metas.items) _ c.self.inside.kept.items (c.args.id - c.self.inside.first) c.index-metas.result.now c.self.invariant.sound refl below c.index-metas.ensures)
