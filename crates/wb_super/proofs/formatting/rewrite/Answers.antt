-- The three steps, each with nothing pending behind it.
use Rattle.std.proofs.lemmas.Result.{on_ok_weaker, on_err_weaker}
use Rattle.wb_geometry.proofs.Moments.{on_err}
use Rattle.wb_super.proofs.Formattings.{front_stopped, front_crash, withdraws, middle_stopped, middle_crash, blanks, last_whole, last_stopped, last_crash}
use Rattle.wb_super.proofs.formatting.rewrite.Goals as goal

pub returns-in_err-store-clause-err : goal.returns-in_err-store-clause-err
returns-in_err-store-clause-err g c = on_err _ (front_stopped c.args.g.now c.in_err-store.ensures.err)

pub returns-in_err-store-clause-crash : goal.returns-in_err-store-clause-crash
returns-in_err-store-clause-crash g c = front_crash c.args.g.now c.store.ensures.crash

pub returns-in_err-clear-clause-err : goal.returns-in_err-clear-clause-err
returns-in_err-clear-clause-err g c =
    let device = g.met.D.Device.sound c.args.log.now in
    let first = withdraws c.args.g.now device (g.met.D.Device.sound c.store.new.device) c.store.ensures.same c.in_ok-store.ensures.durable c.in_ok-store.ensures.ok c.store.ensures.crash in
    on_err _ (middle_stopped c.args.g.now first c.in_err-clear.ensures.err)

pub returns-in_err-clear-clause-crash : goal.returns-in_err-clear-clause-crash
returns-in_err-clear-clause-crash g c =
    let device = g.met.D.Device.sound c.args.log.now in
    let first = withdraws c.args.g.now device (g.met.D.Device.sound c.store.new.device) c.store.ensures.same c.in_ok-store.ensures.durable c.in_ok-store.ensures.ok c.store.ensures.crash in
    middle_crash c.args.g.now first c.clear.ensures.crash

pub returns-clause-ok : goal.returns-clause-ok
returns-clause-ok g c =
    let device = g.met.D.Device.sound c.args.log.now in
    let first = withdraws c.args.g.now device (g.met.D.Device.sound c.store.new.device) c.store.ensures.same c.in_ok-store.ensures.durable c.in_ok-store.ensures.ok c.store.ensures.crash in
    let second = blanks c.args.g.now device (g.met.D.Device.sound c.clear.new.log) c.store.ensures.same c.clear.ensures.same c.in_ok-clear.ensures.durable first c.in_ok-clear.ensures.ok c.clear.ensures.crash in
    on_ok_weaker c.store-2.result (last_whole c.args.g.now c.super_sector.result c.super_sector.ensures device c.requires second) c.store-2.ensures.ok

pub returns-clause-err : goal.returns-clause-err
returns-clause-err g c =
    let device = g.met.D.Device.sound c.args.log.now in
    let first = withdraws c.args.g.now device (g.met.D.Device.sound c.store.new.device) c.store.ensures.same c.in_ok-store.ensures.durable c.in_ok-store.ensures.ok c.store.ensures.crash in
    let second = blanks c.args.g.now device (g.met.D.Device.sound c.clear.new.log) c.store.ensures.same c.clear.ensures.same c.in_ok-clear.ensures.durable first c.in_ok-clear.ensures.ok c.clear.ensures.crash in
    on_err_weaker c.store-2.result (last_stopped c.args.g.now c.super_sector.result c.super_sector.ensures device c.requires second) c.store-2.ensures.err

pub returns-clause-crash : goal.returns-clause-crash
returns-clause-crash g c =
    let device = g.met.D.Device.sound c.args.log.now in
    let first = withdraws c.args.g.now device (g.met.D.Device.sound c.store.new.device) c.store.ensures.same c.in_ok-store.ensures.durable c.in_ok-store.ensures.ok c.store.ensures.crash in
    let second = blanks c.args.g.now device (g.met.D.Device.sound c.clear.new.log) c.store.ensures.same c.clear.ensures.same c.in_ok-clear.ensures.durable first c.in_ok-clear.ensures.ok c.clear.ensures.crash in
    last_crash c.args.g.now c.super_sector.result c.super_sector.ensures device c.requires second c.store-2.ensures.crash
