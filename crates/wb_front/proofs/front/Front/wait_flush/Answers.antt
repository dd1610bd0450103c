-- No load was forgotten before the looks that found the engine down.
use Rattle.std.proofs.Common.{arith}
use Rattle.wb_intake.specs.Passes.{view_of, loads_of}
use Rattle.wb_front.proofs.Requests.{undone_sooner}
use Rattle.wb_front.proofs.front.Front.wait_flush.Goals as goal

pub returns-in-Some-look_undone-clause-down : goal.returns-in-Some-look_undone-clause-down
returns-in-Some-look_undone-clause-down g c =
    let polled = c.poll_flush.ensures in
    let at = c.loop.invariant in
    undone_sooner (loads_of c.args.pass.now) (loads_of c.poll_flush.new.pass) (loads_of c.look_undone.new.pass) (view_of c.look_undone.new.pass) c.args.ticket.number c.in-Some-look_undone.down
    (let rose = polled.loaded.0 in omega (arith, rose, at.loads)) (omega (arith, polled.fault, at.faults)) c.in-Some-look_undone.ensures.undone
