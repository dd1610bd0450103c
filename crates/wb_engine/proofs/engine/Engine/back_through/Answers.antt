use Rattle.std.proofs.Common.{◌<◌, ◌≤◌, [], refl, ap, sym, ◌∙◌, subst, arith}
use Rattle.std.specs.Result.{is_err}
use Rattle.wb_engine.proofs.Backed.{backed, partly_backed, unbacked, failed_counts, kept_there, ok_there}
use Rattle.wb_engine.proofs.engine.Engine.back_through.Goals as goal

pub returns-then-is_err-clause-step : goal.returns-then-is_err-clause-step
returns-then-is_err-clause-step g c =
    rw (← c.self.view_is)
    (unbacked _ _ (g.met.L.Device.sound c.self.inside.log) (g.met.B.Device.sound c.self.inside.backing) (ap (λ e. e.down) c.self.view_is ∙ c.requires.up) c.plan_segments.ensures.only_read
    (record { geometry = refl; numbers = refl; absorbed = refl; memory = refl }) refl)

pub returns-then-is_err-clause-does : goal.returns-then-is_err-clause-does
returns-then-is_err-clause-does g c =
    let counts = failed_counts c.plan_segments.result (sym c.is_err.ensures.value ∙ c.if-is_err.true) c.plan_segments.ensures.cause in
    rw (← c.self.view_is) (record {
      planned = [];
      untouched = λ _. refl;
      plan = λ not. absurd (not refl);
      partly = λ is. absurd (cc);
      content = tt;
      durable = tt;
      syncs = tt;
      not_synced = (omega arith, omega arith);
      only_read = c.plan_segments.ensures.only_read;
      log_reads = c.plan_segments.ensures.reads;
      reads = refl;
      memory = refl;
      ok = tt;
      failed = (refl, refl);
      log_cause = record { later = counts.0; failed = λ _. counts.1; kept = λ not. absurd (not refl) };
      backing_cause = record { later = omega arith; failed = λ is. absurd (cc); kept = λ _. refl };
    })

pub returns-in-Ok-clause-step : goal.returns-in-Ok-clause-step
returns-in-Ok-clause-step g c =
    let planned = ok_there c.plan_segments.result (sym c.is_err.ensures.value ∙ c.if-is_err.false) c.plan_segments.ensures.planned in
    rw (← c.self.view_is)
    (backed _ _ c.args.last _ (g.met.L.Device.sound c.self.inside.log) (g.met.B.Device.sound c.self.inside.backing) (subst (λ e. e.numbers.back < c.args.last) (sym c.self.view_is) c.requires.some) (subst (λ e. c.args.last ≤ e.numbers.stable) (sym c.self.view_is) c.requires.stable) (ap (λ e. e.down) c.self.view_is ∙ c.requires.up) planned
    c.plan_segments.ensures.only_read c.apply.ensures.same c.apply.ensures.crash (record { geometry = refl; numbers = refl; absorbed = refl; memory = refl }) c.in-Ok.ensures.durable c.in-Ok.ensures.ok)

pub returns-in-Err-clause-step : goal.returns-in-Err-clause-step
returns-in-Err-clause-step g c =
    let planned = ok_there c.plan_segments.result (sym c.is_err.ensures.value ∙ c.if-is_err.false) c.plan_segments.ensures.planned in
    rw (← c.self.view_is)
    (partly_backed _ _ c.args.last _ (g.met.L.Device.sound c.self.inside.log) (g.met.B.Device.sound c.self.inside.backing) (subst (λ e. e.numbers.back < c.args.last) (sym c.self.view_is) c.requires.some) (subst (λ e. c.args.last ≤ e.numbers.stable) (sym c.self.view_is) c.requires.stable) (ap (λ e. e.down) c.self.view_is ∙ c.requires.up) planned
    c.plan_segments.ensures.only_read c.apply.ensures.same c.apply.ensures.crash (record { geometry = refl; numbers = refl; absorbed = refl; memory = refl }) (λ is. absurd (cc)) c.in-Err.ensures.err)

pub returns-in-Err-clause-does : goal.returns-in-Err-clause-does
returns-in-Err-clause-does g c =
    let counts = failed_counts c.apply.result (ap is_err c.in-Err.is) c.apply.ensures.cause in
    rw (← c.self.view_is) (record {
      planned = c.plan_segments.new.plan.blocks;
      untouched = λ is. absurd (cc);
      plan = λ _. ok_there c.plan_segments.result (sym c.is_err.ensures.value ∙ c.if-is_err.false) c.plan_segments.ensures.planned;
      partly = λ _. c.in-Err.ensures.err;
      content = tt;
      durable = tt;
      syncs = tt;
      not_synced = c.in-Err.ensures.not_synced;
      only_read = c.plan_segments.ensures.only_read;
      log_reads = c.plan_segments.ensures.reads;
      reads = c.apply.ensures.reads;
      memory = refl;
      ok = tt;
      failed = (refl, refl);
      log_cause = record { later = c.plan_segments.ensures.cause.later; failed = λ is. absurd (cc); kept = λ _. kept_there c.plan_segments.result (sym c.is_err.ensures.value ∙ c.if-is_err.false) c.plan_segments.ensures.cause };
      backing_cause = record { later = counts.0; failed = λ _. counts.1; kept = λ not. absurd (not refl) };
    })
