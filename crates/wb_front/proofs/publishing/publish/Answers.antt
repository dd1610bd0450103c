use Rattle.std.proofs.Common.{◌≡◌, ◌+◌, ◌*◌, ◌%◌, ◌≤◌, ℕ, length, sym, ◌∙◌, subst, arith}
use Rattle.wb_geometry.specs.Layout.{places}
use Rattle.wb_steps.specs.Rule.{cells}
use Rattle.wb_steps.specs.declared.shape.Shape.{Shape}
use Rattle.wb_intake.specs.Passes.{drain_view}
use Rattle.wb_engine.specs.Content.{limit_of}
use Rattle.wb_front.proofs.Turns.{limit_room, limit_whole, stable_whole}
use Rattle.wb_front.proofs.publishing.publish.Goals as goal

pub raise-requires-clause-whole : goal.raise-requires-clause-whole
raise-requires-clause-whole g c = (λ i. c.limit.ensures i % (c.requires.shape i).places) ∙ limit_whole c.args.engine.now.geometry c.args.engine.now.numbers

pub raise-requires-clause-room : goal.raise-requires-clause-room
raise-requires-clause-room g c =
    let e = c.args.engine.now in
    let d : ℕ = length (drain_view c.args.drain.now).known in
    let w : ℕ = e.geometry.ram * places e.geometry in
    let room : limit_of e.geometry e.numbers ≤ e.absorbed + w = limit_room g.L.Device.state g.B.Device.state e c.geometry-geometry.ensures.sound in
    let l : ℕ = limit_of e.geometry e.numbers in
    let room' : l ≤ e.absorbed + w = room in
    let is : c.limit.result ≡ l = c.limit.ensures in
    let absorbed : d ≡ e.absorbed = c.requires.absorbed in
    let fits : c.limit.result ≤ d + w = omega (arith, room', is, absorbed) in
    subst (λ (k : Shape). c.limit.result ≤ d + cells k) (sym c.requires.shape) fits

pub publish_stable-requires-clause-whole : goal.publish_stable-requires-clause-whole
publish_stable-requires-clause-whole g c = (λ i. c.stable.ensures i % (c.requires.shape i).places) ∙ stable_whole c.args.engine.now
