use Rattle.std.proofs.Common.{length, sym, ap, ◌∙◌, arith}
use mathlib.Core.Bool.{false≢true}
use Rattle.wb_steps.specs.Machines.{drained_of}
use Rattle.wb_steps.proofs.Cells.{inside_of, view_at}
use Rattle.wb_steps.proofs.Seats.{known_here}
use Rattle.wb_steps.proofs.machine.Machine.drained.Goals as goal

pub returns-in-Some : goal.returns-in-Some
returns-in-Some c =
    let at = view_at c.self.inside.parts.views.items c.deref.result.now c.self.inside.clients c.in-Some.view.now c.deref.ensures.value c.in-Some.ensures.lookup.3.0 c.in-Some.ensures.lookup.1 in
    c.as_slice.ensures ∙ sym (known_here c.self.inside.parts.views.items c.self.inside.clients c.in-Some.view.now at) ∙ ap drained_of c.self.view_is

pub returns-in-None : goal.returns-in-None
returns-in-None c =
    let d = c.self.invariant.drain in
    let h = inside_of c.self.inside.parts.views.items c.self.inside.clients d.0 d.1 in let long = ap length c.deref.ensures.value in
    absurd (false≢true (c.in-None.ensures.lookup.2 (omega (arith, h, long))))
