-- The front segment is written to the log.
use Rattle.std.proofs.Common.{◌≡◌, None, refl, sym, ◌∙◌, subst}
use Rattle.wb_engine.specs.Stepping.{MayLog}
use Rattle.wb_engine.proofs.Logging.{front_in_backing, wrote_step, tried_step, writes_front, front_is}
use Rattle.wb_engine.proofs.engine.Engine.log_next.Goals as goal

pub returns-in-Ok-clause-step : goal.returns-in-Ok-clause-step
returns-in-Ok-clause-step g c =
    let up = subst (λ e. e.down ≡ None) (sym c.self.view_is) c.requires.up in
    let found = front_is c.front.ensures.front c.unwrap-segment.ensures in
    let text = c.in-Ok.ensures.written (front_in_backing _ _ found.0 c.self.invariant.0 found.1) in
    let may = subst (λ e. MayLog e.geometry e.numbers) (sym c.self.view_is) c.requires.may in
    let gone = c.keep_front.ensures in
    rw (← c.self.view_is) (wrote_step _ _ c.unwrap-segment.result.now found.0 c.self.invariant.0 up may found.1 text c.write_segment.ensures.same
    (g.met.L.Device.sound c.self.inside.log) (g.met.B.Device.sound c.self.inside.backing) c.keep_front.new.self
    (record { geometry = gone.kept.geometry; numbers_are = gone.numbers; absorbed = gone.absorbed; down_is = gone.kept.down ∙ up; log = gone.kept.log; backing = gone.kept.backing })
    (record { sealed = gone.sealed; logged = gone.logged; current = gone.current }) text.ok)

pub returns-in-Ok-clause-does : goal.returns-in-Ok-clause-does
returns-in-Ok-clause-does g c =
    let up = subst (λ e. e.down ≡ None) (sym c.self.view_is) c.requires.up in
    let found = front_is c.front.ensures.front c.unwrap-segment.ensures in
    let text = c.in-Ok.ensures.written (front_in_backing _ _ found.0 c.self.invariant.0 found.1) in
    let gone = c.keep_front.ensures in
    rw (← c.self.view_is, gone.kept.log) (record {
      writes = writes_front _ c.unwrap-segment.result.now found.0 found.1 (record { text = text.text; is = text.is; ok = text.ok; partly = text.partly; crash = text.crash });
      ok = (gone.numbers, gone.kept.down ∙ up);
      failed = tt;
      cause = record { later = c.in-Ok.ensures.cause.later; failed = tt; kept = c.in-Ok.ensures.cause.kept };
      syncs = c.write_segment.ensures.syncs;
      reads = c.write_segment.ensures.reads;
      backing = gone.kept.backing;
    })

pub returns-in-Err-clause-step : goal.returns-in-Err-clause-step
returns-in-Err-clause-step g c =
    let up = subst (λ e. e.down ≡ None) (sym c.self.view_is) c.requires.up in
    let found = front_is c.front.ensures.front c.unwrap-segment.ensures in
    let text = c.in-Err.ensures.written (front_in_backing _ _ found.0 c.self.invariant.0 found.1) in
    let may = subst (λ e. MayLog e.geometry e.numbers) (sym c.self.view_is) c.requires.may in
    rw (← c.self.view_is) (tried_step _ _ c.unwrap-segment.result.now found.0 c.self.invariant.0 up may found.1 text c.write_segment.ensures.same
    (g.met.L.Device.sound c.self.inside.log) (g.met.B.Device.sound c.self.inside.backing) _
    (record { geometry = refl; numbers_are = refl; absorbed = refl; down_is = refl; log = refl; backing = refl }) refl)

pub returns-in-Err-clause-does : goal.returns-in-Err-clause-does
returns-in-Err-clause-does g c =
    let found = front_is c.front.ensures.front c.unwrap-segment.ensures in
    let text = c.in-Err.ensures.written (front_in_backing _ _ found.0 c.self.invariant.0 found.1) in
    rw (← c.self.view_is) (record {
      writes = writes_front _ c.unwrap-segment.result.now found.0 found.1 (record { text = text.text; is = text.is; ok = tt; partly = text.partly; crash = text.crash });
      ok = tt;
      failed = (refl, refl, refl);
      cause = record { later = c.in-Err.ensures.cause.later; failed = c.in-Err.ensures.cause.failed; kept = tt };
      syncs = c.write_segment.ensures.syncs;
      reads = c.write_segment.ensures.reads;
      backing = refl;
    })
