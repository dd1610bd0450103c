-- The superblock is judged, a slot's memory taken, and the log replayed.
use Rattle.std.proofs.Common.{ℕ, ◌∙◌, Err, ap, sym, subst}
use Rattle.std.proofs.lemmas.Result.{err_from_is_err_and}
use Rattle.wb_replay.specs.Stopping.{MayRecover, RefusesRecovery}
use Rattle.wb_replay.specs.declared.recovering.RecoverStop.{RecoverStop}
use Rattle.wb_replay.specs.declared.recovering.RecoverStop.TheVariants as cause
use Rattle.wb_replay.proofs.Turns.{at_err}
use Rattle.wb_replay.proofs.Leavings.{crash_of, contents_of, left_of}
use Rattle.wb_replay.proofs.Judged.{goes_judged, goes_unjudged, tells_judged, all_put_judged, records_judged, fresh_judged, refuses_judged, calls_judged, calls_unjudged}
use Rattle.wb_replay.proofs.recovering.recover.Goals as goal

-- the superblock is refused, or the backing device is too small

pub returns-in_err-found-clause-refused : goal.returns-in_err-found-clause-refused
returns-in_err-found-clause-refused g c =
    let p = err_from_is_err_and c.from_residual.result c.from_residual.ensures.1 in
    at_err _ c.from_residual.result c.in_err-found.field-0.0 (p.1 ∙ ap (λ (why : RecoverStop). Err why) p.2)
    (subst (λ (n : ℕ). RefusesRecovery (g.L.Device.state c.args.log.now) n c.in_err-found.field-0.0) c.sectors.ensures c.in_err-found.ensures.refused)

pub returns-in_err-found-clause-crash : goal.returns-in_err-found-clause-crash
returns-in_err-found-clause-crash g c =
    λ h x0 y0 z text of.
    crash_of x0 y0 z (g.met.L.Device.sound c.args.log.now) (g.met.B.Device.sound c.args.backing.now) (goes_unjudged (g.B.Device.state c.args.backing.now) c.judge.ensures.only_read h x0) of

pub returns-in_err-found-clause-stopped_calls : goal.returns-in_err-found-clause-stopped_calls
returns-in_err-found-clause-stopped_calls g c =
    let p = err_from_is_err_and c.from_residual.result c.from_residual.ensures.1 in
    at_err _ c.from_residual.result c.in_err-found.field-0.0 (p.1 ∙ ap (λ (why : RecoverStop). Err why) p.2)
    (calls_unjudged (g.B.Device.state c.args.backing.now) c.sectors.result c.in_err-found.field-0.0 c.in_err-found.ensures.refused c.judge.ensures.only_read c.in_err-found.ensures.stopped_reads)

-- there is no memory

pub returns-in_default-clause-refused : goal.returns-in_default-clause-refused
returns-in_default-clause-refused g c = (c.in_ok-found.found, subst (λ (n : ℕ). MayRecover (g.L.Device.state c.args.log.now) n c.in_ok-found.found) c.sectors.ensures c.in_ok-found.ensures.found)

pub returns-in_default-clause-goes : goal.returns-in_default-clause-goes
returns-in_default-clause-goes g c = λ h x told text. goes_unjudged (g.B.Device.state c.args.backing.now) c.judge.ensures.only_read h x

pub returns-in_default-clause-crash : goal.returns-in_default-clause-crash
returns-in_default-clause-crash g c =
    λ h x0 y0 z text of.
    crash_of x0 y0 z (g.met.L.Device.sound c.args.log.now) (g.met.B.Device.sound c.args.backing.now) (goes_unjudged (g.B.Device.state c.args.backing.now) c.judge.ensures.only_read h x0) of

pub returns-in_default-clause-stopped_calls : goal.returns-in_default-clause-stopped_calls
returns-in_default-clause-stopped_calls g c =
    calls_unjudged (g.B.Device.state c.args.backing.now) c.sectors.result cause.Memory (c.in_ok-found.found, c.in_ok-found.ensures.found) c.judge.ensures.only_read (λ behind. c.in_ok-found.ensures.reads)

-- it is recovered

pub returns-in-Ok-replay-clause-numbers : goal.returns-in-Ok-replay-clause-numbers
returns-in-Ok-replay-clause-numbers g c = (
  c.in_ok-found.found,
  subst (λ (n : ℕ). MayRecover (g.L.Device.state c.args.log.now) n c.in_ok-found.found) c.sectors.ensures c.in_ok-found.ensures.found,
  c.in-Ok-replay.ensures.numbers,
)

pub returns-in-Ok-replay-clause-chain : goal.returns-in-Ok-replay-clause-chain
returns-in-Ok-replay-clause-chain g c = tells_judged c.in_ok-found.found c.in-Ok-replay.recovery c.in_ok-found.ensures.found.super c.judge.ensures.only_read c.in-Ok-replay.ensures.chain

pub returns-in-Ok-replay-clause-all_put : goal.returns-in-Ok-replay-clause-all_put
returns-in-Ok-replay-clause-all_put g c = all_put_judged c.in_ok-found.found c.in_ok-found.ensures.found.super c.judge.ensures.only_read c.in-Ok-replay.ensures.all_put

pub returns-in-Ok-replay-clause-records : goal.returns-in-Ok-replay-clause-records
returns-in-Ok-replay-clause-records g c = records_judged c.in_ok-found.found c.in_ok-found.ensures.found.super c.judge.ensures.only_read c.in-Ok-replay.ensures.records

pub returns-in-Ok-replay-clause-fresh : goal.returns-in-Ok-replay-clause-fresh
returns-in-Ok-replay-clause-fresh g c = fresh_judged (g.L.Device.state c.replay.new.log) c.in_ok-found.found c.in_ok-found.ensures.found.super c.judge.ensures.only_read c.in-Ok-replay.ensures.fresh

pub returns-in-Ok-replay-clause-goes : goal.returns-in-Ok-replay-clause-goes
returns-in-Ok-replay-clause-goes g c = goes_judged c.in_ok-found.found c.in_ok-found.ensures.found.super c.judge.ensures.only_read c.replay.ensures.goes

pub returns-in-Ok-replay-clause-crash : goal.returns-in-Ok-replay-clause-crash
returns-in-Ok-replay-clause-crash g c =
    λ h x0 y0 z text of.
    crash_of x0 y0 z (g.met.L.Device.sound c.args.log.now) (g.met.B.Device.sound c.args.backing.now)
    (goes_judged c.in_ok-found.found c.in_ok-found.ensures.found.super c.judge.ensures.only_read c.replay.ensures.goes h x0 of.log_told text) of

pub returns-in-Ok-replay-clause-left : goal.returns-in-Ok-replay-clause-left
returns-in-Ok-replay-clause-left g c =
    λ h x0 y0 z text of.
    left_of x0 y0 z of (records_judged c.in_ok-found.found c.in_ok-found.ensures.found.super c.judge.ensures.only_read c.in-Ok-replay.ensures.records h x0 of.log_told text)
    c.in-Ok-replay.ensures.durable.0
    (all_put_judged c.in_ok-found.found c.in_ok-found.ensures.found.super c.judge.ensures.only_read c.in-Ok-replay.ensures.all_put h x0 of.log_told text)

pub returns-in-Ok-replay-clause-contents : goal.returns-in-Ok-replay-clause-contents
returns-in-Ok-replay-clause-contents g c =
    λ h x0 y0 z text of.
    contents_of x0 y0 z text (goes_judged c.in_ok-found.found c.in_ok-found.ensures.found.super c.judge.ensures.only_read c.replay.ensures.goes h x0 of.log_told text) of

pub returns-in-Ok-replay-clause-calls : goal.returns-in-Ok-replay-clause-calls
returns-in-Ok-replay-clause-calls g c = calls_judged c.in_ok-found.found c.in_ok-found.ensures.found.super c.judge.ensures.only_read c.in_ok-found.ensures.reads c.replay.ensures.calls

-- it is stopped

pub returns-clause-refused : goal.returns-clause-refused
returns-clause-refused g c =
    subst (λ (why : RecoverStop). RefusesRecovery (g.L.Device.state c.args.log.now) (g.B.Device.state c.args.backing.now).sectors why) (sym c.stop_of.ensures)
    (refuses_judged c.in-Err.stop (g.L.Device.state c.args.log.now) (g.L.Device.state c.judge.new.log) (g.B.Device.state c.args.backing.now).sectors c.in_ok-found.found
    (subst (λ (n : ℕ). MayRecover (g.L.Device.state c.args.log.now) n c.in_ok-found.found) c.sectors.ensures c.in_ok-found.ensures.found) c.judge.ensures.only_read.content c.in-Err.ensures.refused)

pub returns-clause-goes : goal.returns-clause-goes
returns-clause-goes g c = goes_judged c.in_ok-found.found c.in_ok-found.ensures.found.super c.judge.ensures.only_read c.replay.ensures.goes

pub returns-clause-crash : goal.returns-clause-crash
returns-clause-crash g c =
    λ h x0 y0 z text of.
    crash_of x0 y0 z (g.met.L.Device.sound c.args.log.now) (g.met.B.Device.sound c.args.backing.now)
    (goes_judged c.in_ok-found.found c.in_ok-found.ensures.found.super c.judge.ensures.only_read c.replay.ensures.goes h x0 of.log_told text) of

pub returns-clause-contents : goal.returns-clause-contents
returns-clause-contents g c =
    λ h x0 y0 z text of.
    contents_of x0 y0 z text (goes_judged c.in_ok-found.found c.in_ok-found.ensures.found.super c.judge.ensures.only_read c.replay.ensures.goes h x0 of.log_told text) of

pub returns-clause-stopped_calls : goal.returns-clause-stopped_calls
returns-clause-stopped_calls g c =
    λ behind. calls_judged c.in_ok-found.found c.in_ok-found.ensures.found.super c.judge.ensures.only_read c.in_ok-found.ensures.reads c.replay.ensures.calls
