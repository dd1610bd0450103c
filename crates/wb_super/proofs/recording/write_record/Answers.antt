-- One sector is put, and its first eight bytes are the record.
use Rattle.std.proofs.lemmas.Result.{on_ok_weaker, on_err_weaker}
use Rattle.wb_super.proofs.Formattings.{records_whole, records_stopped, records_crash, records_any_moment}
use Rattle.wb_super.proofs.recording.write_record.Goals as goal

pub returns-clause-ok : goal.returns-clause-ok
returns-clause-ok g c =
    on_ok_weaker c.store.result (records_whole c.args.id c.record_sector.result c.ranges.id.fits c.record_sector.ensures) c.store.ensures.ok

pub returns-clause-err : goal.returns-clause-err
returns-clause-err g c =
    on_err_weaker c.store.result (records_stopped c.args.id c.record_sector.result c.ranges.id.fits c.record_sector.ensures) c.store.ensures.err

pub returns-clause-crash : goal.returns-clause-crash
returns-clause-crash g c = records_crash c.args.id c.record_sector.result c.ranges.id.fits c.record_sector.ensures c.store.ensures.crash

pub returns-clause-any_moment : goal.returns-clause-any_moment
returns-clause-any_moment g c = λ nothing x told.
    records_any_moment c.args.id x (g.met.D.Device.sound c.args.log.now) nothing told (records_crash c.args.id c.record_sector.result c.ranges.id.fits c.record_sector.ensures c.store.ensures.crash)
