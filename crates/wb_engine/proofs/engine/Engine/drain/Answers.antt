use Rattle.std.proofs.Common.{◌≡◌, None, Ok, rules, ap, sym, ◌∙◌, subst}
use Rattle.wb_crash.specs.Images.{IsOrdered}
use Rattle.wb_engine.proofs.Drained.{up_there, not_up, turn_less, draining_none, draining_more, drained, idle_recorded, idle_stays}
use Rattle.wb_engine.proofs.engine.Engine.drain.Goals as goal

pub loop-self-init : goal.loop-self-init
loop-self-init g c = draining_none g.L.Device.state g.B.Device.state c.args.self.now c.requires

pub returns-in-Ok-Idle-clause-drained : goal.returns-in-Ok-Idle-clause-drained
returns-in-Ok-Idle-clause-drained g c =
    let up : c.loop-self.self.down ≡ None = up_there c.self.view_is c.loop-self-test.ensures in
    let so_far = draining_more g.L.Device.state g.B.Device.state c.args.self.now c.loop-self.self c.turn.new.self c.turn.result c.loop-self.invariant up c.turn.ensures.step.moves c.turn.ensures.does in
    let ordered = subst (λ e. IsOrdered e.geometry e.numbers) c.self.view_is c.self.invariant.0.ordered in
    drained g.L.Device.state g.B.Device.state c.args.self.now c.turn.new.self so_far
    (λ _. idle_recorded c.loop-self.self c.turn.new.self c.turn.result ordered (c.in-Ok-Idle.is ∙ ap (λ t. Ok t) c.in-Ok-Idle.field-0-is) c.turn.ensures.does)

pub returns-in-Ok-Idle-clause-ordered : goal.returns-in-Ok-Idle-clause-ordered
returns-in-Ok-Idle-clause-ordered g c = λ _.
    let ordered = subst (λ e. IsOrdered e.geometry e.numbers) c.self.view_is c.self.invariant.0.ordered in
    subst (λ e. IsOrdered e.geometry e.numbers)
    (sym (idle_stays c.loop-self.self c.turn.new.self c.turn.result (c.in-Ok-Idle.is ∙ ap (λ t. Ok t) c.in-Ok-Idle.field-0-is) c.turn.ensures.does)) ordered

pub loop-self-smaller-in-Logged-1 : goal.loop-self-smaller-in-Logged-1
loop-self-smaller-in-Logged-1 g c =
    let up : c.loop-self.self.down ≡ None = up_there c.self.view_is c.loop-self-test.ensures in
    turn_less c.loop-self.self c.turn.new.self c.turn.result up (λ is. search rules) c.turn.ensures.does

pub loop-self-preserved-in-Logged-1 : goal.loop-self-preserved-in-Logged-1
loop-self-preserved-in-Logged-1 g c =
    let up : c.loop-self.self.down ≡ None = up_there c.self.view_is c.loop-self-test.ensures in
    draining_more g.L.Device.state g.B.Device.state c.args.self.now c.loop-self.self c.turn.new.self c.turn.result c.loop-self.invariant up c.turn.ensures.step.moves c.turn.ensures.does

pub loop-self-smaller : goal.loop-self-smaller
loop-self-smaller g c =
    let up : c.loop-self.self.down ≡ None = up_there c.self.view_is c.loop-self-test.ensures in
    turn_less c.loop-self.self c.turn.new.self c.turn.result up (λ is. search rules) c.turn.ensures.does

pub loop-self-preserved : goal.loop-self-preserved
loop-self-preserved g c =
    let up : c.loop-self.self.down ≡ None = up_there c.self.view_is c.loop-self-test.ensures in
    draining_more g.L.Device.state g.B.Device.state c.args.self.now c.loop-self.self c.turn.new.self c.turn.result c.loop-self.invariant up c.turn.ensures.step.moves c.turn.ensures.does

pub returns-clause-drained : goal.returns-clause-drained
returns-clause-drained g c =
    drained g.L.Device.state g.B.Device.state c.args.self.now c.loop-self.self c.loop-self.invariant (λ up. absurd (not_up c.self.view_is c.loop-self-test.ensures up))

pub returns-clause-ordered : goal.returns-clause-ordered
returns-clause-ordered g c = λ up. absurd (not_up c.self.view_is c.loop-self-test.ensures up)
