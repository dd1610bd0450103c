-- One more goes, until none is left that is to go.
use Rattle.std.proofs.Common.{◌≤◌, length, subst, arith, rules}
use Rattle.std.specs.VecDeque.{deque_len}
use Rattle.std.proofs.lemmas.List.{length-map}
use Rattle.wb_log.specs.Kept.{Kept}
use Rattle.wb_log.proofs.Keeping.{fewer_none, fewer_more}
use Rattle.wb_log.proofs.state.LogState.drop_through.Goals as goal

pub loop-self-init : goal.loop-self-init
loop-self-init c = fewer_none c.args.id c.args.self.now

pub loop-self-preserved : goal.loop-self-preserved
loop-self-preserved c =
    let some : 1 ≤ deque_len c.self.inside.kept = search rules in
    fewer_more c.args.id _ _ _ c.loop-self.invariant
    (subst (λ (state : Kept). state.first ≤ c.args.id) c.self.view_is (omega (arith, c.if-self-id.true)))
    (subst (λ (state : Kept). 1 ≤ length state.kept) c.self.view_is (omega (arith, some, c.self.inside.kept.ok.0, length-map c.self.inside.kept.items (λ metas. metas.items))))
    c.drop_front.ensures.kept c.drop_front.ensures.first c.drop_front.ensures.sizes
