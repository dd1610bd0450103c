-- What `recover` leaves, by how it ended.
use Rattle.std.proofs.Common.{◌≡◌, ◌≢◌, ◌⊎◌, List, ℕ, ap, sym, ◌∙◌, arith, inl, inr, refl, Result, Ok, Err}
use Rattle.wb_geometry.specs.Device.{CountsFaultsWhere}
use Rattle.wb_super.specs.declared.reading.SuperRefused.TheVariants as refused
use Rattle.wb_replay.specs.Stopping.{RefusesRecovery, RecoverStopsInTurn}
use Rattle.wb_replay.specs.declared.replaying.Recovery.{Recovery}
use Rattle.wb_replay.specs.declared.recovering.RecoverStop.{RecoverStop}
use Rattle.wb_replay.specs.declared.recovering.RecoverStop.TheVariants as cause
use Rattle.wb_serve.specs.Session.{Devices}
use Rattle.wb_tool.specs.Run.{Lent, Took, EndsTelling}
use Rattle.wb_tool.specs.Recover.{HasGone, EndsWell, IsLeftWanting, RecoverEnds, stopped_status, stopped_line, recovered_line}
use Rattle.wb_tool.proofs.Stops.{super_at_6, super_not_7}

-- the cause says that the log failed
abbrev SaysLog : RecoverStop → Type 0
SaysLog why = (why ≡ cause.Super refused.Fault) ⊎ (why ≡ cause.LogFault)

-- and the answer
abbrev pub AnswersLog : Result Recovery RecoverStop → Type 0
AnswersLog answer = (answer ≡ Err (cause.Super refused.Fault)) ⊎ (answer ≡ Err cause.LogFault)

log_at_6 : (why : RecoverStop) → stopped_status why ≡ 6 → SaysLog why
log_at_6 (cause.Super refused) six = inl (ap (λ c. cause.Super c) (super_at_6 refused six))
log_at_6 (cause.Backing needs has) six = absurd (omega (arith, six))
log_at_6 cause.Memory six = absurd (omega (arith, six))
log_at_6 (cause.Stray slot id) six = absurd (omega (arith, six))
log_at_6 cause.LogFault six = inr refl
log_at_6 cause.BackingFault six = absurd (omega (arith, six))

backing_at_7 : (why : RecoverStop) → stopped_status why ≡ 7 → why ≡ cause.BackingFault
backing_at_7 (cause.Super refused) seven = absurd (super_not_7 refused seven)
backing_at_7 (cause.Backing needs has) seven = absurd (omega (arith, seven))
backing_at_7 cause.Memory seven = absurd (omega (arith, seven))
backing_at_7 (cause.Stray slot id) seven = absurd (omega (arith, seven))
backing_at_7 cause.LogFault seven = absurd (omega (arith, seven))
backing_at_7 cause.BackingFault seven = refl

-- a status that isn't 1 is that of the cause
known : (status of : ℕ) (P : Type 0) → status ≢ 1 → (status ≡ 1) ⊎ ((status ≡ of) × P) → of ≡ status
known status of P other (inl one) = absurd (other one)
known status of P other (inr told) = sym told.0

one_stop : (answer : Result Recovery RecoverStop) (why other : RecoverStop) → answer ≡ Err why → answer ≡ Err other → why ≡ other
one_stop answer why other is same = let both : Err why ≡ Err other = sym is ∙ same in cc

answers_log : (answer : Result Recovery RecoverStop) (why : RecoverStop) → answer ≡ Err why → SaysLog why → AnswersLog answer
answers_log answer why is (inl e) = inl (is ∙ ap (λ (c : RecoverStop). Err c) e)
answers_log answer why is (inr e) = inr (is ∙ ap (λ (c : RecoverStop). Err c) e)

says_log : (answer : Result Recovery RecoverStop) (why : RecoverStop) → answer ≡ Err why → AnswersLog answer → SaysLog why
says_log answer why is (inl e) = inl (one_stop answer why (cause.Super refused.Fault) is e)
says_log answer why is (inr e) = inr (one_stop answer why cause.LogFault is e)

-- where memory was wanting for the line: a fault's line needs none
left_stopped : (before after : Devices) (status : ℕ) (why : RecoverStop) → RefusesRecovery before.log before.backing.sectors why
    → RecoverStopsInTurn why before.log after.log before.backing after.backing → (SaysLog why → status ≡ 6) → (why ≡ cause.BackingFault → status ≡ 7)
    → status ≡ 1 → IsLeftWanting before after
left_stopped before after status (cause.Super refused) refuses so_far six seven one = inl so_far
left_stopped before after status (cause.Backing needs has) refuses so_far six seven one = inl so_far
left_stopped before after status cause.Memory refuses so_far six seven one = inl so_far
left_stopped before after status (cause.Stray slot id) refuses so_far six seven one = inr (inl (slot, id, refuses, so_far))
left_stopped before after status cause.LogFault refuses so_far six seven one = absurd (let is = six (inr refl) in omega (arith, is, one))
left_stopped before after status cause.BackingFault refuses so_far six seven one = absurd (let is = seven refl in omega (arith, is, one))

-- it stopped
pub recover_stopped : (sink : Lent) (before after : Devices) (status : ℕ) (answer : Result Recovery RecoverStop) (why : RecoverStop) → answer ≡ Err why → HasGone before after
    → CountsFaultsWhere (AnswersLog answer) before.log.faults after.log.faults → CountsFaultsWhere (answer ≡ Err cause.BackingFault) before.backing.faults after.backing.faults
    → RefusesRecovery before.log before.backing.sectors why → RecoverStopsInTurn why before.log after.log before.backing after.backing
    → (status ≡ 1) ⊎ ((status ≡ stopped_status why) × Took sink (stopped_line why)) → (SaysLog why → status ≡ 6) → (why ≡ cause.BackingFault → status ≡ 7)
    → RecoverEnds sink before after status
recover_stopped sink before after status answer why is went log backing refuses so_far told six seven = record {
  went = went;
  log_faults = record {
    later = log.later;
    failed = λ at. log.failed (answers_log answer why is (log_at_6 why (known status (stopped_status why) (Took sink (stopped_line why)) (λ one. omega (arith, at, one)) told ∙ at)));
    kept = λ other. log.kept (λ says. other (six (says_log answer why is says)));
  };
  backing_faults = record {
    later = backing.later;
    failed = λ at. backing.failed (is ∙ ap (λ (c : RecoverStop). Err c) (backing_at_7 why (known status (stopped_status why) (Took sink (stopped_line why)) (λ one. omega (arith, at, one)) told ∙ at)));
    kept = λ other. backing.kept (λ says. other (seven (one_stop answer why cause.BackingFault is says)));
  };
  wanting = left_stopped before after status why refuses so_far six seven;
  ends = elim told [
    | inl one ↦ inl one
    | inr line ↦ inr (inl (record { cause = why; why = refuses; so_far = so_far; ended = line.0; told = line.1 }))
  ];
}

-- it ended well, and the line was told or there was no memory for it
no_fault : (status other before after : ℕ) (Failed : Type 0) → CountsFaultsWhere Failed before after → (Failed → ⊥) → status ≢ other → CountsFaultsWhere (status ≡ other) before after
no_fault status other before after Failed counts none differs = record { later = counts.later; failed = λ at. absurd (differs at); kept = λ at. counts.kept none }

pub recover_well : (sink : Lent) (before after : Devices) (status : ℕ) (answer : Result Recovery RecoverStop) (recovery : Recovery) → answer ≡ Ok recovery → HasGone before after
    → CountsFaultsWhere (AnswersLog answer) before.log.faults after.log.faults → CountsFaultsWhere (answer ≡ Err cause.BackingFault) before.backing.faults after.backing.faults
    → status ≢ 6 → status ≢ 7 → EndsWell before after recovery → (status ≡ 1) ⊎ EndsTelling sink status (recovered_line recovery) → RecoverEnds sink before after status
recover_well sink before after status answer recovery is went log backing not_6 not_7 well ends = record {
  went = went;
  log_faults = no_fault status 6 before.log.faults after.log.faults (AnswersLog answer) log (λ says. elim says [
    | inl e ↦ let both : Ok recovery ≡ Err (cause.Super refused.Fault) = sym is ∙ e in cc
    | inr e ↦ let both : Ok recovery ≡ Err cause.LogFault = sym is ∙ e in cc
  ]) not_6;
  backing_faults = no_fault status 7 before.backing.faults after.backing.faults (answer ≡ Err cause.BackingFault) backing
      (λ e. let both : Ok recovery ≡ Err cause.BackingFault = sym is ∙ e in cc) not_7;
  wanting = λ one. inr (inr (recovery, well));
  ends = elim ends [
    | inl one ↦ inl one
    | inr told ↦ inr (inr (record { recovery = recovery; well = well; told = told }))
  ];
}

pub telling_not_7 : (sink : Lent) (status : ℕ) (text : List ℕ) → EndsTelling sink status text → status ≢ 7
telling_not_7 sink status text (inl done) seven = absurd (omega (arith, done.0))
telling_not_7 sink status text (inr cut) seven = absurd (omega (arith, cut.0))
