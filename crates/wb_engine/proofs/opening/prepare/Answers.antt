-- The superblock, the memory, and then recovery.
use Rattle.std.proofs.Common.{rules, ℕ, ap, ◌∙◌, subst, inr, Err}
use Rattle.std.proofs.lemmas.Result.{err_from_is_err_and}
use Rattle.wb_replay.proofs.Turns.{at_err}
use Rattle.wb_engine.specs.Opening.{MayOpen, RefusesLog}
use Rattle.wb_engine.specs.declared.opening.OpenCause.{OpenCause}
use Rattle.wb_engine.specs.declared.opening.OpenCause.TheVariants.{Memory}
use Rattle.wb_engine.proofs.Openings.{buffer_size, goes_opened, recovered_opened, stopped_opened, unbegun_opened, log_counts, backing_counts}
use Rattle.wb_engine.proofs.opening.prepare.Goals as goal

-- it isn't begun

pub returns-in_err-found-clause-refused : goal.returns-in_err-found-clause-refused
returns-in_err-found-clause-refused g c =
    let why = c.in_err-found.field-0.0 in
    let p = err_from_is_err_and c.from_residual.result c.from_residual.ensures.1 in
    let refuses = subst (λ (n : ℕ). RefusesLog (g.L.Device.state c.args.log.now) n why) c.sectors.ensures c.in_err-found.ensures.refused in
    at_err _ c.from_residual.result why (p.1 ∙ ap (λ (cause : OpenCause). Err cause) p.2)
    (unbegun_opened (g.L.Device.state c.args.log.now) (g.L.Device.state c.judge.new.log) (g.B.Device.state c.args.backing.now) why refuses c.judge.ensures.only_read)

pub returns-in_default-clause-refused : goal.returns-in_default-clause-refused
returns-in_default-clause-refused g c =
    let found = c.in_ok-found.found in
    let may = subst (λ (n : ℕ). MayOpen (g.L.Device.state c.args.log.now) n found) c.sectors.ensures c.in_ok-found.ensures.found in
    unbegun_opened (g.L.Device.state c.args.log.now) (g.L.Device.state c.judge.new.log) (g.B.Device.state c.args.backing.now) Memory (found, may) c.judge.ensures.only_read

-- it is

pub returns-in-Ok-replay-clause-ready : goal.returns-in-Ok-replay-clause-ready
returns-in-Ok-replay-clause-ready g c =
    let found = c.in_ok-found.found in
    let may = subst (λ (n : ℕ). MayOpen (g.L.Device.state c.args.log.now) n found) c.sectors.ensures c.in_ok-found.ensures.found in
    let only = c.judge.ensures.only_read in
    let went = goes_opened found may only (g.met.L.Device.sound c.args.log.now) (g.met.B.Device.sound c.args.backing.now) c.replay.ensures.goes c.replay.ensures.same_log c.replay.ensures.same_backing in
    let ready = c.in-Ok.ensures in (
      found,
      recovered_opened found went only c.in-Ok-replay.ensures.no_stray c.in-Ok-replay.ensures.all_put c.in-Ok-replay.ensures.records c.in-Ok-replay.ensures.fresh c.in-Ok-replay.ensures.durable,
      record {
        geometry = ready.geometry;
        number = ready.number;
        each = ready.each;
        segments = ready.segments;
        slots = ready.slots;
        kept = ready.kept;
        sealed = ready.sealed;
        id = ready.id;
        blocks = ready.blocks;
        plan = ready.plan;
        scratch = buffer_size _ _ c.replay.new.slot c.in-Ok.opened.scratch.items (search rules) ready.scratch (search rules);
      },
    )

pub returns-in-Err-clause-refused : goal.returns-in-Err-clause-refused
returns-in-Err-clause-refused g c =
    let found = c.in_ok-found.found in
    let may = subst (λ (n : ℕ). MayOpen (g.L.Device.state c.args.log.now) n found) c.sectors.ensures c.in_ok-found.ensures.found in
    let only = c.judge.ensures.only_read in
    let went = goes_opened found may only (g.met.L.Device.sound c.args.log.now) (g.met.B.Device.sound c.args.backing.now) c.replay.ensures.goes c.replay.ensures.same_log c.replay.ensures.same_backing in
    inr (c.in-Err.stop, c.cause_of.ensures, stopped_opened found c.in-Err.stop went only c.in-Err.ensures.refused c.in-Err.ensures.in_turn)

pub returns-in-Err-clause-log_cause : goal.returns-in-Err-clause-log_cause
returns-in-Err-clause-log_cause g c =
    rw c.cause_of.ensures (log_counts c.replay.result c.in-Err.stop _ _ _ c.in-Err.is (c.in_ok-found.ensures.cause.kept (λ failed. cc)) c.replay.ensures.log_cause)

pub returns-in-Err-clause-backing_cause : goal.returns-in-Err-clause-backing_cause
returns-in-Err-clause-backing_cause g c = rw c.cause_of.ensures (backing_counts c.replay.result c.in-Err.stop _ _ c.in-Err.is c.replay.ensures.backing_cause)
