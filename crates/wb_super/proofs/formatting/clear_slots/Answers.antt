-- Each write clears one more slot, or where it fails perhaps.
use Rattle.std.proofs.Common.{arith}
use Rattle.wb_geometry.proofs.Moments.{on_err}
use Rattle.wb_super.proofs.Formattings.{IsTurn, clearing_inside, clearing_crash, clearing_stopped, clearing_done, clearing_next}
use Rattle.wb_super.proofs.formatting.clear_slots.Goals as goal

pub put-requires : goal.put-requires
put-requires g c =
    let turn : IsTurn c.args.g.now c.loop-id.id c.slot_start.result = record { first = omega arith; last = omega arith; place = c.slot_start.ensures } in
    clearing_inside c.args.g.now c.loop-id.id c.slot_start.result turn c.requires c.loop-id.invariant

pub returns-in_err-put-clause-err : goal.returns-in_err-put-clause-err
returns-in_err-put-clause-err g c =
    let turn : IsTurn c.args.g.now c.loop-id.id c.slot_start.result = record { first = omega arith; last = omega arith; place = c.slot_start.ensures } in
    on_err _ (clearing_stopped c.args.g.now c.loop-id.id c.slot_start.result turn c.loop-id.invariant c.in_err-put.ensures.err)

pub returns-in_err-put-clause-crash : goal.returns-in_err-put-clause-crash
returns-in_err-put-clause-crash g c =
    let turn : IsTurn c.args.g.now c.loop-id.id c.slot_start.result = record { first = omega arith; last = omega arith; place = c.slot_start.ensures } in
    clearing_crash c.args.g.now c.loop-id.id c.slot_start.result turn c.loop-id.invariant c.put.ensures.crash

pub loop-id-preserved : goal.loop-id-preserved
loop-id-preserved g c =
    let turn : IsTurn c.args.g.now c.loop-id.id c.slot_start.result = record { first = omega arith; last = omega arith; place = c.slot_start.ensures } in
    clearing_next c.args.g.now c.loop-id.id c.slot_start.result turn c.loop-id.invariant c.in_ok-put.ensures.ok c.put.ensures.crash c.put.ensures.reads c.put.ensures.same c.in_ok-put.ensures.cause.kept

pub returns-in_ok-put-clause-ok : goal.returns-in_ok-put-clause-ok
returns-in_ok-put-clause-ok g c =
    let turn : IsTurn c.args.g.now c.loop-id.id c.slot_start.result = record { first = omega arith; last = omega arith; place = c.slot_start.ensures } in
    clearing_done c.args.g.now c.loop-id.id c.slot_start.result turn (omega arith) c.loop-id.invariant c.in_ok-put.ensures.ok

pub returns-in_ok-put-clause-crash : goal.returns-in_ok-put-clause-crash
returns-in_ok-put-clause-crash g c =
    let turn : IsTurn c.args.g.now c.loop-id.id c.slot_start.result = record { first = omega arith; last = omega arith; place = c.slot_start.ensures } in
    clearing_crash c.args.g.now c.loop-id.id c.slot_start.result turn c.loop-id.invariant c.put.ensures.crash
