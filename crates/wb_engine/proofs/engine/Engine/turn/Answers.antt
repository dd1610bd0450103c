use Rattle.std.proofs.Common.{inl, inr, refl}
use Rattle.std.proofs.lemmas.Result.{err_from_is_err_and}
use Rattle.wb_engine.specs.declared.turning.Turn.TheVariants as turn
use Rattle.wb_engine.proofs.Turns.{logs_alike, backs_alike, records_alike, passed_on, answered, says_nothing, not_true, idle}
use Rattle.wb_engine.proofs.engine.Engine.turn.Goals as goal

pub returns-in_err-log_next-clause-does : goal.returns-in_err-log_next-clause-does
returns-in_err-log_next-clause-does g c =
    let p = err_from_is_err_and c.from_residual.result c.from_residual.ensures.1 in
    inl ((c.can_log.ensures.0 c.if-can_log.true).1, logs_alike (passed_on c.log_next.result c.from_residual.result _ _ c.in_err-log_next.was p.1 p.2) c.log_next.ensures.does, says_nothing turn.Logged _ _ p.1)

pub returns-then-can_log-clause-does : goal.returns-then-can_log-clause-does
returns-then-can_log-clause-does g c = inl ((c.can_log.ensures.0 c.if-can_log.true).1, logs_alike (answered c.log_next.result _ turn.Logged c.in_ok-log_next.was) c.log_next.ensures.does, refl)

pub returns-in_err-back_batch-clause-does : goal.returns-in_err-back_batch-clause-does
returns-in_err-back_batch-clause-does g c =
    let p = err_from_is_err_and c.from_residual-in_err-back_batch.result c.from_residual-in_err-back_batch.ensures.1 in
    inr (inr (inl (
      λ may. not_true c.can_log.ensures.1 c.if-can_log.false (c.requires, may),
      λ may. not_true c.can_sync.ensures.1 c.if-can_sync.false (c.requires, may),
      (c.can_back.ensures.0 c.if-can_back.true).1,
      backs_alike (passed_on c.back_batch.result c.from_residual-in_err-back_batch.result _ _ c.in_err-back_batch.was p.1 p.2) c.back_batch.ensures.does,
      says_nothing turn.Backed _ _ p.1,
    )))

pub returns-then-can_back-clause-does : goal.returns-then-can_back-clause-does
returns-then-can_back-clause-does g c =
    inr (inr (inl (
      λ may. not_true c.can_log.ensures.1 c.if-can_log.false (c.requires, may),
      λ may. not_true c.can_sync.ensures.1 c.if-can_sync.false (c.requires, may),
      (c.can_back.ensures.0 c.if-can_back.true).1,
      backs_alike (answered c.back_batch.result _ turn.Backed c.in_ok-back_batch.was) c.back_batch.ensures.does,
      refl,
    )))

pub returns-then-can_record-clause-does : goal.returns-then-can_record-clause-does
returns-then-can_record-clause-does g c =
    inr (inr (inr (inl (
      λ may. not_true c.can_log.ensures.1 c.if-can_log.false (c.requires, may),
      λ may. not_true c.can_sync.ensures.1 c.if-can_sync.false (c.requires, may),
      λ may. not_true c.can_back.ensures.1 c.if-can_back.false (c.requires, may),
      (c.can_record.ensures.0 c.if-can_record.true).1,
      records_alike (answered c.put_record.result _ turn.Recorded c.in_ok-put_record.was) c.put_record.ensures.does,
      refl,
    ))))

pub returns-clause-step : goal.returns-clause-step
returns-clause-step g c = idle c.args.self.now (g.met.L.Device.sound c.args.self.now.log) (g.met.B.Device.sound c.args.self.now.backing) c.requires
