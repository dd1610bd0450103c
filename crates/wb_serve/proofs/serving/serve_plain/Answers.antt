-- The session of the requests that were played.
use Rattle.std.proofs.Common.{◌≡◌, ◌≤◌, ◌⊎◌, inl, inr, refl, sym, ap, subst, ◌∙◌, arith}
use Rattle.std.proofs.lemmas.Option.{IfSome_then}
use Rattle.std.proofs.lemmas.Result.{IfOk-weaker, IfErr-weaker}
use Rattle.wb_geometry.specs.declared.geometry.Geometry.{Geometry}
use Rattle.wb_super.specs.declared.reading.SuperRefused.TheVariants as refused
use Rattle.wb_engine.specs.declared.opening.OpenCause.{OpenCause}
use Rattle.wb_engine.specs.declared.opening.OpenCause.TheVariants as opening
use Rattle.wb_serve.specs.declared.serving.ServeStop.TheVariants as stop
use Rattle.wb_serve.specs.Session.{devices, IsUnserved, SaysLogFault, SaysBackingFault}
use Rattle.wb_serve.proofs.Openings.{come_opened}
use Rattle.wb_serve.proofs.Closed.{Closes}
use Rattle.wb_serve.proofs.Servings.{session_told, session_cut, says_fault, counts_same}
use Rattle.wb_serve.proofs.Cut.{all_in_part}
use Rattle.wb_serve.proofs.serving.serve_plain.Goals as goal

pub play_all-played-requires-clause-fits : goal.play_all-played-requires-clause-fits
play_all-played-requires-clause-fits g c = omega (arith, c.if-found-parsed.false, c.sectors-parsed.ensures, ap (λ (g : Geometry). g.backing_sectors) c.geometry.ensures.geometry)

pub play_all-played-requires-clause-opened : goal.play_all-played-requires-clause-opened
play_all-played-requires-clause-opened g c =
    let ends = c.in-Ok.ensures in
    come_opened ends.opened

pub returns : goal.returns
returns g c =
    let e = c.in-Ok.engine in
    let ends = c.in-Ok.ensures in
    let mid = c.play_all-played.new.engine in
    let end = c.close-closed.result in
    let close = c.close-closed.ensures in
    let fits : c.args.script.now.sectors ≤ e.geometry.backing_sectors = omega (arith, c.if-found-parsed.false, c.sectors-parsed.ensures, ap (λ (g : Geometry). g.backing_sectors) c.geometry.ensures.geometry) in
    let opens = ends.opened in
    let closes : Closes g.L.Device.state g.B.Device.state end.fault (g.L.Device.state end.log) (g.B.Device.state end.backing) mid = record {
      content = close.content;
      empty = λ none base history stands image told. (close.empty none base history stands image told, (close.recorded none base history stands image told).0);
      crash = close.crash;
      changed = close.changed;
      durable = close.durable;
      log_faults = record {
        was_down = IfSome_then mid.down close.was_down (λ which is. (is.0, ap (λ l. (g.L.Device.state l).faults) is.1));
        cause = close.log_cause;
      };
      backing_faults = record {
        was_down = IfSome_then mid.down close.was_down (λ which is. (is.0, ap (λ b. (g.B.Device.state b).faults) is.2));
        cause = close.backing_cause;
      };
    } in
    let session = IfOk-weaker c.session_of.result _ _
    (λ s tells.
    let told = session_told c.args.script.now c.first-first.result c.absorbed-places.result c.play_all-played.result s
    opens fits c.play_all-played.ensures.played closes c.first-first.ensures c.absorbed-places.ensures tells in (opens.found, told))
    c.session_of.ensures.told in
    let cut = session_cut c.args.script.now opens fits
    (all_in_part c.args.script.now.requests c.play_all-played.result c.play_all-played.ensures.played c.play_all-played.ensures.in_part) closes in
    let unserved = IsUnserved c.args.script.now (devices (g.L.Device.state c.args.log) (g.B.Device.state c.args.backing)) (devices (g.L.Device.state end.log) (g.B.Device.state end.backing)) in
    let memory = c.session_of.ensures.memory in
    record {
      session = session;
      unserved = IfErr-weaker c.session_of.result _ _ (λ why is. subst unserved (sym is) (inl (refl, (opens.found, cut)))) memory;
      log_cause = λ other. says_fault SaysLogFault c.session_of.result _ _ (IfOk-weaker c.session_of.result _ _ (λ s is. is.1.is.leaves.log_cause) session) memory other;
      backing_cause = λ other. says_fault SaysBackingFault c.session_of.result _ _ (IfOk-weaker c.session_of.result _ _ (λ s is. is.1.is.leaves.backing_cause) session) memory other;
    }

pub returns-then-found-parsed-clause-unserved : goal.returns-then-found-parsed-clause-unserved
returns-then-found-parsed-clause-unserved g c =
    let ends = c.in-Ok.ensures in
    let opens = ends.opened in
    let sectors = ap (λ (n : Geometry). n.backing_sectors) (c.geometry.ensures.geometry ∙ opens.geometry) in (
      c.sectors-parsed.ensures,
      c.if-found-parsed.true,
      (
        opens.found,
        rw (c.into_devices-log.ensures.log, c.into_devices-log.ensures.backing) opens.recovered,
        sectors,
      ),
    )

pub returns-then-found-parsed-clause-log_cause : goal.returns-then-found-parsed-clause-log_cause
returns-then-found-parsed-clause-log_cause g c = λ other.
    let quiet = ap (λ l. (g.L.Device.state l).faults) c.into_devices-log.ensures.log ∙ c.in-Ok.ensures.opened.log_faults in
    record {
      later = omega (arith, quiet);
      failed = λ is. elim is [ inl one ↦ absurd (cc) | inr two ↦ absurd (cc) ];
      kept = λ never. quiet;
    }

pub returns-then-found-parsed-clause-backing_cause : goal.returns-then-found-parsed-clause-backing_cause
returns-then-found-parsed-clause-backing_cause g c = λ other.
    let quiet = ap (λ b. (g.B.Device.state b).faults) c.into_devices-log.ensures.backing ∙ c.in-Ok.ensures.opened.backing_faults in
    record {
      later = omega (arith, quiet);
      failed = λ is. absurd (cc);
      kept = λ never. quiet;
    }

pub returns-in-Err-clause-unserved : goal.returns-in-Err-clause-unserved
returns-in-Err-clause-unserved g c = inr c.in-Err.ensures.refused

pub returns-in-Err-clause-log_cause : goal.returns-in-Err-clause-log_cause
returns-in-Err-clause-log_cause g c = λ other.
    let cause = c.in-Err.stop.cause in
    counts_same ((cause ≡ opening.Super refused.Fault) ⊎ (cause ≡ opening.LogFault)) ((stop.Open cause ≡ stop.Open (opening.Super refused.Fault)) ⊎ (stop.Open cause ≡ stop.Open opening.LogFault)) _ _
    (λ is. elim is [
      | inl one ↦ inl (ap (λ (why : OpenCause). stop.Open why) one)
      | inr two ↦ inr (ap (λ (why : OpenCause). stop.Open why) two)
    ])
    (λ is. elim is [ inl one ↦ inl (cc) | inr two ↦ inr (cc) ])
    c.in-Err.ensures.log_cause

pub returns-in-Err-clause-backing_cause : goal.returns-in-Err-clause-backing_cause
returns-in-Err-clause-backing_cause g c = λ other.
    let cause = c.in-Err.stop.cause in
    counts_same (cause ≡ opening.BackingFault) (stop.Open cause ≡ stop.Open opening.BackingFault) _ _
    (λ is. ap (λ (why : OpenCause). stop.Open why) is) (λ is. cc) c.in-Err.ensures.backing_cause
