-- Turns made room, or the engine went down.
use Rattle.std.proofs.Common.{◌≤◌, sym, ◌∙◌, arith}
use Rattle.wb_engine.specs.Content.{limit_of}
use Rattle.wb_engine.proofs.Drained.{turn_less}
use Rattle.wb_serve.proofs.Rooms.{busy, full_waits, room_more, room_failed}
use Rattle.wb_serve.proofs.writing.make_room.Goals as goal

pub returns-in-Err-clause-moved : goal.returns-in-Err-clause-moved
returns-in-Err-clause-moved g c =
    let e = c.loop-engine.engine in
    let full : limit_of e.geometry e.numbers ≤ e.absorbed = omega (arith, c.loop-engine-test.true, c.absorbed.ensures, c.limit.ensures) in
    let more = room_more c.args.engine.now e c.turn.new.self c.turn.result c.loop-engine.invariant (sym c.down.ensures ∙ c.in_default.is) full
    c.turn.ensures.step.moves c.turn.ensures.does in
    more.moved

pub returns-in-Err-clause-kept : goal.returns-in-Err-clause-kept
returns-in-Err-clause-kept g c =
    let e = c.loop-engine.engine in
    let full : limit_of e.geometry e.numbers ≤ e.absorbed = omega (arith, c.loop-engine-test.true, c.absorbed.ensures, c.limit.ensures) in
    let more = room_more c.args.engine.now e c.turn.new.self c.turn.result c.loop-engine.invariant (sym c.down.ensures ∙ c.in_default.is) full
    c.turn.ensures.step.moves c.turn.ensures.does in
    more.kept

pub returns-in-Err-clause-down : goal.returns-in-Err-clause-down
returns-in-Err-clause-down g c =
    let e = c.loop-engine.engine in
    let full : limit_of e.geometry e.numbers ≤ e.absorbed = omega (arith, c.loop-engine-test.true, c.absorbed.ensures, c.limit.ensures) in
    room_failed e c.turn.new.self c.turn.result c.in-Err.device c.in-Err.is c.turn.ensures.step.moves c.turn.ensures.does c.loop-engine.invariant.order full

pub loop-engine-smaller : goal.loop-engine-smaller
loop-engine-smaller g c =
    let e = c.loop-engine.engine in
    let full : limit_of e.geometry e.numbers ≤ e.absorbed = omega (arith, c.loop-engine-test.true, c.absorbed.ensures, c.limit.ensures) in
    let waits = full_waits e c.loop-engine.invariant.order c.loop-engine.invariant.sealed full in
    turn_less e c.turn.new.self c.turn.result (sym c.down.ensures ∙ c.in_default.is) (busy e c.turn.new.self c.turn.result waits c.turn.ensures.does) c.turn.ensures.does

pub loop-engine-preserved : goal.loop-engine-preserved
loop-engine-preserved g c =
    let e = c.loop-engine.engine in
    let full : limit_of e.geometry e.numbers ≤ e.absorbed = omega (arith, c.loop-engine-test.true, c.absorbed.ensures, c.limit.ensures) in
    room_more c.args.engine.now e c.turn.new.self c.turn.result c.loop-engine.invariant (sym c.down.ensures ∙ c.in_default.is) full
    c.turn.ensures.step.moves c.turn.ensures.does
