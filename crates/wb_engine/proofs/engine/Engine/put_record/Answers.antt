-- The record was written, or the log failed.
use Rattle.std.proofs.Common.{◌≡◌, None, refl, sym, ◌∙◌, subst}
use Rattle.wb_engine.proofs.Recordings.{recorded_step, unrecorded_step}
use Rattle.wb_engine.proofs.engine.Engine.put_record.Goals as goal

pub returns-in-Ok-clause-step : goal.returns-in-Ok-clause-step
returns-in-Ok-clause-step g c =
    let up = subst (λ e. e.down ≡ None) (sym c.self.view_is) c.requires.up in
    let gone = c.forget_recorded.ensures in
    rw (← c.self.view_is) (recorded_step _ c.forget_recorded.new.self _ c.self.invariant.0 up c.write_record.ensures.crash c.write_record.ensures.same
    (g.met.L.Device.sound c.self.inside.log) (g.met.B.Device.sound c.self.inside.backing)
    (record { geometry = gone.kept.geometry; numbers_are = gone.numbers; absorbed = gone.absorbed; down_is = gone.kept.down ∙ up; log = gone.kept.log; backing = gone.kept.backing })
    (record { sealed = gone.sealed; current = gone.current; kept = gone.logged; last = gone.last }) c.in-Ok.ensures.ok c.in-Ok.ensures.durable)

pub returns-in-Err-clause-step : goal.returns-in-Err-clause-step
returns-in-Err-clause-step g c =
    let up = subst (λ e. e.down ≡ None) (sym c.self.view_is) c.requires.up in
    rw (← c.self.view_is) (unrecorded_step _ _ _ c.self.invariant.0 up c.write_record.ensures.crash c.write_record.ensures.same
    (g.met.L.Device.sound c.self.inside.log) (g.met.B.Device.sound c.self.inside.backing)
    (record { geometry = refl; numbers_are = refl; absorbed = refl; down_is = refl; log = refl; backing = refl }) refl c.in-Err.ensures.err)
