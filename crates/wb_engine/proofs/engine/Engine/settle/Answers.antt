-- Each turn comes before the last segment below the place is stable.
use Rattle.std.proofs.Common.{refl, subst}
use Rattle.std.proofs.lemmas.Result.{err_from_is_err_and}
use Rattle.wb_engine.specs.Content.{IsEngine}
use Rattle.wb_engine.proofs.Settled.{still_unstable, stable_now, settling_none, settling_busy, settling_more, settling_kept, settled, settled_failed, settled_covers, was_stable, one_sync}
use Rattle.wb_engine.proofs.Drained.{turn_less, still_up}
use Rattle.wb_engine.proofs.engine.Engine.settle.Goals as goal

pub loop-self-init : goal.loop-self-init
loop-self-init g c = record { up = c.requires.up; so_far = settling_none g.L.Device.state g.B.Device.state c.args.place c.args.self.now c.requires.up }

pub loop-self-smaller : goal.loop-self-smaller
loop-self-smaller g c =
    let engine = subst (IsEngine g.L.Device.state g.B.Device.state) c.self-in-loop-self.view_is c.self-in-loop-self.invariant.0 in
    let unstable = still_unstable _ _ _ _ c.args.place c.places.result c.self.view_is c.self-in-loop-self.view_is c.places.ensures.places c.loop-self-test.true in
    turn_less c.loop-self.self c.turn.new.self c.turn.result c.loop-self.invariant.up
    (settling_busy _ _ c.args.place _ _ _ _ c.requires.taken c.loop-self.invariant.so_far engine unstable c.turn.ensures.does) c.turn.ensures.does

pub loop-self-preserved : goal.loop-self-preserved
loop-self-preserved g c =
    let engine = subst (IsEngine g.L.Device.state g.B.Device.state) c.self-in-loop-self.view_is c.self-in-loop-self.invariant.0 in
    let unstable = still_unstable _ _ _ _ c.args.place c.places.result c.self.view_is c.self-in-loop-self.view_is c.places.ensures.places c.loop-self-test.true in
    record {
      up = still_up c.loop-self.self c.turn.new.self c.turn.result _ c.loop-self.invariant.up c.in_ok-turn.was c.turn.ensures.does;
      so_far = settling_more _ _ c.args.place _ _ _ _ c.requires.taken c.loop-self.invariant.so_far engine unstable c.turn.ensures.does c.loop-self.invariant.up c.turn.ensures.step.moves;
    }

pub returns-in_err-turn-clause-settled : goal.returns-in_err-turn-clause-settled
returns-in_err-turn-clause-settled g c =
    let engine = subst (IsEngine g.L.Device.state g.B.Device.state) c.self-in-loop-self.view_is c.self-in-loop-self.invariant.0 in
    let unstable = still_unstable _ _ _ _ c.args.place c.places.result c.self.view_is c.self-in-loop-self.view_is c.places.ensures.places c.loop-self-test.true in
    let more = settling_more _ _ c.args.place _ _ _ _ c.requires.taken c.loop-self.invariant.so_far engine unstable c.turn.ensures.does c.loop-self.invariant.up c.turn.ensures.step.moves in
    let p = err_from_is_err_and c.from_residual.result c.from_residual.ensures.1 in
    settled_failed _ _ c.args.place _ _ _ _ c.from_residual.result _ _ c.in_err-turn.was p.1 p.2 c.turn.ensures.does more

pub returns-in_err-turn-clause-kept : goal.returns-in_err-turn-clause-kept
returns-in_err-turn-clause-kept g c = λ covered.
    let unstable = still_unstable _ _ _ _ c.args.place c.places.result c.self.view_is c.self-in-loop-self.view_is c.places.ensures.places c.loop-self-test.true in
    let engine = subst (IsEngine g.L.Device.state g.B.Device.state) c.self.view_is c.self.invariant.0 in
    absurd (settling_kept _ _ c.args.place _ _ c.loop-self.invariant.so_far unstable (was_stable _ _ c.args.place _ engine covered))

pub returns-in_err-turn-clause-one_sync : goal.returns-in_err-turn-clause-one_sync
returns-in_err-turn-clause-one_sync g c =
    let engine = subst (IsEngine g.L.Device.state g.B.Device.state) c.self-in-loop-self.view_is c.self-in-loop-self.invariant.0 in
    let unstable = still_unstable _ _ _ _ c.args.place c.places.result c.self.view_is c.self-in-loop-self.view_is c.places.ensures.places c.loop-self-test.true in
    let more = settling_more _ _ c.args.place _ _ _ _ c.requires.taken c.loop-self.invariant.so_far engine unstable c.turn.ensures.does c.loop-self.invariant.up c.turn.ensures.step.moves in
    one_sync _ _ c.args.place _ _ more

pub returns-clause-stable : goal.returns-clause-stable
returns-clause-stable g c =
    let stable = stable_now _ _ _ _ c.args.place c.places.result c.self.view_is c.self-in-loop-self.view_is c.places.ensures.places c.loop-self-test.false in
    settled_covers _ _ c.args.place _ _ c.loop-self.invariant.so_far c.requires.whole stable

pub returns-clause-settled : goal.returns-clause-settled
returns-clause-settled g c = settled _ _ c.args.place _ _ _ c.loop-self.invariant.so_far c.loop-self.invariant.up tt

pub returns-clause-kept : goal.returns-clause-kept
returns-clause-kept g c = λ covered.
    let engine = subst (IsEngine g.L.Device.state g.B.Device.state) c.self.view_is c.self.invariant.0 in
    (c.loop-self.invariant.so_far.kept (was_stable _ _ c.args.place _ engine covered), refl)
