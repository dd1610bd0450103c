-- How the last stage of a command ends without a session.
use Rattle.std.proofs.Common.{◌≡◌, ◌≢◌, ◌⊎◌, [], ℕ, refl, sym, ap, subst, ◌∙◌, arith, inl, inr, Result, Err, Bool}
use Rattle.wb_geometry.specs.Device.{State, CountsFaultsWhere}
use Rattle.wb_super.specs.Found as super
use Rattle.wb_super.specs.declared.reading.SuperRefused.{SuperRefused}
use Rattle.wb_super.specs.declared.reading.SuperRefused.TheVariants as refused
use Rattle.wb_script.specs.Content.{ScriptContent}
use Rattle.wb_replay.specs.declared.replaying.ReplayStop.{ReplayStop}
use Rattle.wb_replay.specs.declared.replaying.ReplayStop.TheVariants as replay
use Rattle.wb_replay.proofs.Turns.{synced_by_reads}
use Rattle.wb_engine.specs.Opening.{HasStopped, cause_of}
use Rattle.wb_engine.specs.Opening as engine
use Rattle.wb_engine.specs.declared.opening.OpenCause.{OpenCause}
use Rattle.wb_engine.specs.declared.opening.OpenCause.TheVariants as opening
use Rattle.wb_serve.specs.Session.{devices, IsUnserved, SaysLogFault, SaysBackingFault}
use Rattle.wb_serve.specs.declared.serving.Session.{Session}
use Rattle.wb_serve.specs.declared.serving.ServeStop.{ServeStop}
use Rattle.wb_serve.specs.declared.serving.ServeStop.TheVariants as stop
use Rattle.wb_tool.specs.Run.{Lent, Run, run_of, NoSession, Took}
use Rattle.wb_tool.specs.Texts.{super_status, super_line, small_line, spent_record_line, changed_line, stray_line, failed_line}
use Rattle.wb_geometry.specs.declared.which.Which.TheVariants.{Log, Backing}
use Rattle.wb_tool.specs.Ends.{Leaves, IsUnbegun, IsLeftBy, EndsServing}
use Rattle.wb_tool.specs.Stages.{EndsUnserved}
use Rattle.wb_tool.proofs.Sessions.{counts_same}

pub super_not_7 : (cause : SuperRefused) → super_status cause ≢ 7
super_not_7 (refused.Small needs has) seven = absurd (omega arith)
super_not_7 refused.Fault seven = absurd (omega arith)
super_not_7 refused.Magic seven = absurd (omega arith)
super_not_7 (refused.Version found) seven = absurd (omega arith)
super_not_7 (refused.Sum stored computed) seven = absurd (omega arith)
super_not_7 refused.Geometry seven = absurd (omega arith)
super_not_7 (refused.Record found) seven = absurd (omega arith)

pub super_at_7 : (status : ℕ) (cause : SuperRefused) (P : Type 0) → (status ≡ 1) ⊎ ((status ≡ super_status cause) × P) → status ≢ 1 → status ≡ 7 → ⊥
super_at_7 status cause P (inl one) some seven = some one
super_at_7 status cause P (inr (ended, told)) some seven = super_not_7 cause (sym ended ∙ seven)

-- the superblock's cause tells of a fault by its status alone
pub super_at_6 : (cause : SuperRefused) → super_status cause ≡ 6 → cause ≡ refused.Fault
super_at_6 (refused.Small needs has) six = absurd (omega arith)
super_at_6 refused.Fault six = refl
super_at_6 refused.Magic six = absurd (omega arith)
super_at_6 (refused.Version found) six = absurd (omega arith)
super_at_6 (refused.Sum stored computed) six = absurd (omega arith)
super_at_6 refused.Geometry six = absurd (omega arith)
super_at_6 (refused.Record found) six = absurd (omega arith)

-- A cause that has a status of its own. The faults are counted of the log where this is 6, and of the backing device where
-- it is 7.
told_leaves : (Ends Wants : Run → Type 0) (run : Run) (known : ℕ) (LogFailed BackingFailed P : Type 0)
    → CountsFaultsWhere LogFailed run.before.log.faults run.after.log.faults → CountsFaultsWhere BackingFailed run.before.backing.faults run.after.backing.faults
    → (LogFailed → known ≡ 6) → (known ≡ 6 → LogFailed) → (BackingFailed → known ≡ 7) → (known ≡ 7 → BackingFailed)
    → (run.status ≡ 1 → Wants run) → (run.status ≡ 1) ⊎ ((run.status ≡ known) × P) → (run.status ≡ known → P → Ends run) → Leaves Ends Wants run
told_leaves Ends Wants run known LogFailed BackingFailed P log backing to_6 from_6 to_7 from_7 wants (inl one) ends =
    record { log_faults = λ some. absurd (some one); backing_faults = λ some. absurd (some one); wanting = wants; ends = inl one }
told_leaves Ends Wants run known LogFailed BackingFailed P log backing to_6 from_6 to_7 from_7 wants (inr (ended, told)) ends = record {
  log_faults = λ some. counts_same LogFailed (run.status ≡ 6) run.before.log.faults run.after.log.faults (λ failed. ended ∙ to_6 failed) (λ six. from_6 (sym ended ∙ six)) log;
  backing_faults = λ some other. counts_same BackingFailed (run.status ≡ 7) run.before.backing.faults run.after.backing.faults (λ failed. ended ∙ to_7 failed) (λ seven. from_7 (sym ended ∙ seven)) backing;
  wanting = wants;
  ends = inr (ends ended told);
}

-- the faults are counted as the cause says, where it isn't want of memory
record CountsStop (log_before log_after backing_before backing_after : State) (why : ServeStop) : Type 0 where
  log : why ≢ stop.Open opening.Memory → CountsFaultsWhere (SaysLogFault (Err why)) log_before.faults log_after.faults
  backing : why ≢ stop.Open opening.Memory → CountsFaultsWhere (SaysBackingFault (Err why)) backing_before.faults backing_after.faults

-- a run that ended so
abbrev Unserved : (in_turn : Bool) (source sink : Lent) (log_before log_after backing_before backing_after : State) (status : ℕ) → Run
Unserved in_turn source sink log_before log_after backing_before backing_after status = run_of in_turn source sink log_before log_after backing_before backing_after status [] 0

no_log_fault : (why : ServeStop) → why ≢ stop.Open (opening.Super refused.Fault) → why ≢ stop.Open opening.LogFault → SaysLogFault (Err why) → ⊥
no_log_fault why not_super not_log (inl is) = not_super is
no_log_fault why not_super not_log (inr is) = not_log is

-- a cause that is neither of the two faults
quiet_stop : (Ends : Run → Type 0) (in_turn : Bool) (source : Lent) (script : ScriptContent) (sink : Lent) (log_before log_after backing_before backing_after : State) (status known : ℕ) (why : ServeStop) (P : Type 0)
    → CountsStop log_before log_after backing_before backing_after why → why ≢ stop.Open opening.Memory → why ≢ stop.Open (opening.Super refused.Fault) → why ≢ stop.Open opening.LogFault → why ≢ stop.Open opening.BackingFault → known ≢ 6 → known ≢ 7
    → (status ≡ 1 → IsLeftBy script (Unserved in_turn source sink log_before log_after backing_before backing_after status))
    → (status ≡ 1) ⊎ ((status ≡ known) × P) → (status ≡ known → P → EndsServing Ends script.sectors (Unserved in_turn source sink log_before log_after backing_before backing_after status))
    → Leaves (EndsServing Ends script.sectors) (IsLeftBy script) (Unserved in_turn source sink log_before log_after backing_before backing_after status)
quiet_stop Ends in_turn source script sink log_before log_after backing_before backing_after status known why P counts other not_super not_log not_backing not_6 not_7 left told ends =
    told_leaves (EndsServing Ends script.sectors) (IsLeftBy script) (Unserved in_turn source sink log_before log_after backing_before backing_after status) known (SaysLogFault (Err why)) (SaysBackingFault (Err why)) P
    (counts.log other) (counts.backing other) (λ failed. absurd (no_log_fault why not_super not_log failed)) (λ six. absurd (not_6 six)) (λ failed. absurd (not_backing failed)) (λ seven. absurd (not_7 seven)) left told ends

-- ---- recovery that wasn't begun

unbegun_run : (in_turn : Bool) (source sink : Lent) (log_before log_after backing_before backing_after : State) (status : ℕ) → engine.IsUnbegun log_before log_after backing_before backing_after
    → IsUnbegun (Unserved in_turn source sink log_before log_after backing_before backing_after status)
unbegun_run in_turn source sink log_before log_after backing_before backing_after status unbegun =
    record { no_session = record { transcripts = refl; places = refl }; backing = unbegun.uncalled; log = unbegun.only_read }

left_unbegun : (in_turn : Bool) (source : Lent) (script : ScriptContent) (sink : Lent) (log_before log_after backing_before backing_after : State) (status : ℕ) → engine.IsUnbegun log_before log_after backing_before backing_after
    → IsLeftBy script (Unserved in_turn source sink log_before log_after backing_before backing_after status)
left_unbegun in_turn source script sink log_before log_after backing_before backing_after status unbegun = inl (synced_by_reads unbegun.only_read, synced_by_reads unbegun.uncalled.only_read)

-- ---- recovery that stopped

-- the cause is one of recovery
abbrev ComesLate : OpenCause → Type 0
ComesLate (opening.Super refused) = ⊥
ComesLate (opening.IdsSpent recorded) = ⊥
ComesLate (opening.Backing needs has) = ⊥
ComesLate opening.Memory = ⊥
ComesLate opening.LogFault = Unit {0}
ComesLate opening.BackingFault = Unit {0}
ComesLate (opening.Stray slot id) = Unit {0}

late_of : (stopped : ReplayStop) → ComesLate (cause_of stopped)
late_of (replay.Stray slot id) = tt
late_of replay.LogFault = tt
late_of replay.BackingFault = tt

comes_late : (why : OpenCause) (stopped : ReplayStop) → why ≡ cause_of stopped → ComesLate why
comes_late why stopped is = subst ComesLate (sym is) (late_of stopped)

is_log : (stopped : ReplayStop) → opening.LogFault ≡ cause_of stopped → stopped ≡ replay.LogFault
is_log (replay.Stray slot id) is = absurd (cc)
is_log replay.LogFault is = refl
is_log replay.BackingFault is = absurd (cc)

is_backing : (stopped : ReplayStop) → opening.BackingFault ≡ cause_of stopped → stopped ≡ replay.BackingFault
is_backing (replay.Stray slot id) is = absurd (cc)
is_backing replay.LogFault is = absurd (cc)
is_backing replay.BackingFault is = refl

is_stray : (stopped : ReplayStop) (slot id : ℕ) → opening.Stray slot id ≡ cause_of stopped → stopped ≡ replay.Stray slot id
is_stray (replay.Stray other number) slot id is = cc
is_stray replay.LogFault slot id is = absurd (cc)
is_stray replay.BackingFault slot id is = absurd (cc)

no_session : (in_turn : Bool) (source sink : Lent) (log_before log_after backing_before backing_after : State) (status : ℕ) → NoSession (Unserved in_turn source sink log_before log_after backing_before backing_after status)
no_session in_turn source sink log_before log_after backing_before backing_after status = record { transcripts = refl; places = refl }

-- the superblock is refused at the second reading
super_leaves : (Ends : Run → Type 0) (in_turn : Bool) (source : Lent) (script : ScriptContent) (sink : Lent) (log_before log_after backing_before backing_after : State) (status : ℕ) (cause : SuperRefused)
    → CountsStop log_before log_after backing_before backing_after (stop.Open (opening.Super cause)) → super.Refuses log_before cause
    → IsUnbegun (Unserved in_turn source sink log_before log_after backing_before backing_after status)
    → (status ≡ 1 → IsLeftBy script (Unserved in_turn source sink log_before log_after backing_before backing_after status))
    → (status ≡ 1) ⊎ ((status ≡ super_status cause) × Took sink (super_line cause))
    → Leaves (EndsServing Ends script.sectors) (IsLeftBy script) (Unserved in_turn source sink log_before log_after backing_before backing_after status)
super_leaves Ends in_turn source script sink log_before log_after backing_before backing_after status cause counts why unbegun left told =
    let LogFailed : Type 0 = SaysLogFault (Err (stop.Open (opening.Super cause))) in
    let BackingFailed : Type 0 = SaysBackingFault (Err (stop.Open (opening.Super cause))) in
    told_leaves (EndsServing Ends script.sectors) (IsLeftBy script) (Unserved in_turn source sink log_before log_after backing_before backing_after status) (super_status cause) LogFailed BackingFailed (Took sink (super_line cause)) (counts.log (λ e. cc)) (counts.backing (λ e. cc))
    (λ failed. elim failed [
      | inl e ↦ let fault : cause ≡ refused.Fault = cc in ap super_status fault
      | inr e ↦ cc
    ])
    (λ six. inl (ap (λ c. stop.Open (opening.Super c)) (super_at_6 cause six)))
    (λ e. cc)
    (λ seven. absurd (super_not_7 cause seven))
    left told (λ ended took. inl (unbegun, inl (record { cause = cause; why = why; ended = ended; told = took })))

stopped_leaves : (Ends : Run → Type 0) (in_turn : Bool) (source : Lent) (script : ScriptContent) (sink : Lent) (log_before log_after backing_before backing_after : State) (status : ℕ) (why : ServeStop)
    → CountsStop log_before log_after backing_before backing_after why → IsUnserved script (devices log_before backing_before) (devices log_after backing_after) why → EndsUnserved why sink status
    → Leaves (EndsServing Ends script.sectors) (IsLeftBy script) (Unserved in_turn source sink log_before log_after backing_before backing_after status)
stopped_leaves Ends in_turn source script sink log_before log_after backing_before backing_after status (stop.Open (opening.Super cause)) counts (inl memory) told = cc
stopped_leaves Ends in_turn source script sink log_before log_after backing_before backing_after status (stop.Open (opening.Super cause)) counts (inr (inr (stopped, is, has))) told = absurd (comes_late (opening.Super cause) stopped is)
stopped_leaves Ends in_turn source script sink log_before log_after backing_before backing_after status (stop.Open (opening.Super cause)) counts (inr (inl (why, unbegun))) told =
    super_leaves Ends in_turn source script sink log_before log_after backing_before backing_after status cause counts why (unbegun_run in_turn source sink log_before log_after backing_before backing_after status unbegun) (λ one. left_unbegun in_turn source script sink log_before log_after backing_before backing_after status unbegun) told.0
stopped_leaves Ends in_turn source script sink log_before log_after backing_before backing_after status (stop.Open (opening.IdsSpent recorded)) counts (inl memory) told = cc
stopped_leaves Ends in_turn source script sink log_before log_after backing_before backing_after status (stop.Open (opening.IdsSpent recorded)) counts (inr (inr (stopped, is, has))) told = absurd (comes_late (opening.IdsSpent recorded) stopped is)
stopped_leaves Ends in_turn source script sink log_before log_after backing_before backing_after status (stop.Open (opening.IdsSpent recorded)) counts (inr (inl ((found, super, same, spent), unbegun))) told =
    quiet_stop Ends in_turn source script sink log_before log_after backing_before backing_after status 10 (stop.Open (opening.IdsSpent recorded)) (Took sink (spent_record_line recorded))
    counts (λ e. cc) (λ e. cc) (λ e. cc) (λ e. cc) (λ e. omega arith) (λ e. omega arith) (λ one. left_unbegun in_turn source script sink log_before log_after backing_before backing_after status unbegun) told
    (λ ended took. inl (
      unbegun_run in_turn source sink log_before log_after backing_before backing_after status unbegun,
      inr (inl (
        found,
        super,
        record {
          spent = omega (arith, same, spent);
          ended = ended;
          told = subst (λ (n : ℕ). Took sink (spent_record_line n)) (sym same) took;
        },
      )),
    ))
stopped_leaves Ends in_turn source script sink log_before log_after backing_before backing_after status (stop.Open (opening.Backing needs has)) counts (inl memory) told = cc
stopped_leaves Ends in_turn source script sink log_before log_after backing_before backing_after status (stop.Open (opening.Backing needs has)) counts (inr (inr (stopped, is, late))) told = absurd (comes_late (opening.Backing needs has) stopped is)
stopped_leaves Ends in_turn source script sink log_before log_after backing_before backing_after status (stop.Open (opening.Backing needs has)) counts (inr (inl ((found, super, ids, needs_are, has_is, few), unbegun))) told =
    quiet_stop Ends in_turn source script sink log_before log_after backing_before backing_after status 9 (stop.Open (opening.Backing needs has)) (Took sink (small_line Backing has needs))
    counts (λ e. cc) (λ e. cc) (λ e. cc) (λ e. cc) (λ e. omega arith) (λ e. omega arith) (λ one. left_unbegun in_turn source script sink log_before log_after backing_before backing_after status unbegun) told
    (λ ended took. inl (
      unbegun_run in_turn source sink log_before log_after backing_before backing_after status unbegun,
      inr (inr (
        found,
        super,
        ids,
        record {
          few = omega (arith, needs_are, few);
          ended = ended;
          told = subst (λ (n : ℕ). Took sink (small_line Backing backing_before.sectors n)) needs_are (subst (λ (n : ℕ). Took sink (small_line Backing n needs)) has_is took);
        },
      )),
    ))
stopped_leaves Ends in_turn source script sink log_before log_after backing_before backing_after status (stop.Open opening.Memory) counts unserved told = record {
  log_faults = λ some. absurd (some told);
  backing_faults = λ some. absurd (some told);
  wanting = λ is. elim unserved [
    | inl cut ↦ inr (inr (inl cut.1))
    | inr rest ↦ elim rest [
      | inl early ↦ left_unbegun in_turn source script sink log_before log_after backing_before backing_after status early.1
      | inr late ↦ absurd (comes_late opening.Memory late.0 late.1)
    ]
  ];
  ends = inl told;
}
stopped_leaves Ends in_turn source script sink log_before log_after backing_before backing_after status (stop.Open opening.LogFault) counts (inl memory) told = cc
stopped_leaves Ends in_turn source script sink log_before log_after backing_before backing_after status (stop.Open opening.LogFault) counts (inr (inl (none, unbegun))) told = absurd none
stopped_leaves Ends in_turn source script sink log_before log_after backing_before backing_after status (stop.Open opening.LogFault) counts (inr (inr (stopped, is, has))) told =
    told_leaves (EndsServing Ends script.sectors) (IsLeftBy script) (Unserved in_turn source sink log_before log_after backing_before backing_after status) 6
    (SaysLogFault (Err (stop.Open opening.LogFault))) (SaysBackingFault (Err (stop.Open opening.LogFault))) (Took sink (failed_line Log))
    (counts.log (λ e. cc)) (counts.backing (λ e. cc)) (λ e. refl) (λ e. inr refl) (λ e. cc) (λ e. absurd (omega arith)) (λ one. absurd (omega (arith, one, told.0))) (inr told)
    (λ ended took. inr (inl (
      no_session in_turn source sink log_before log_after backing_before backing_after status,
      inr (inl (record {
        stopped = subst (λ (why : ReplayStop). HasStopped why log_before log_after backing_before backing_after) (is_log stopped is) has;
        ended = ended;
        told = took;
      })),
    )))
stopped_leaves Ends in_turn source script sink log_before log_after backing_before backing_after status (stop.Open opening.BackingFault) counts (inl memory) told = cc
stopped_leaves Ends in_turn source script sink log_before log_after backing_before backing_after status (stop.Open opening.BackingFault) counts (inr (inl (none, unbegun))) told = absurd none
stopped_leaves Ends in_turn source script sink log_before log_after backing_before backing_after status (stop.Open opening.BackingFault) counts (inr (inr (stopped, is, has))) told =
    told_leaves (EndsServing Ends script.sectors) (IsLeftBy script) (Unserved in_turn source sink log_before log_after backing_before backing_after status) 7
    (SaysLogFault (Err (stop.Open opening.BackingFault))) (SaysBackingFault (Err (stop.Open opening.BackingFault))) (Took sink (failed_line Backing))
    (counts.log (λ e. cc)) (counts.backing (λ e. cc)) (λ e. absurd (no_log_fault (stop.Open opening.BackingFault) (λ e. cc) (λ e. cc) e)) (λ e. absurd (omega arith)) (λ e. refl) (λ e. refl) (λ one. absurd (omega (arith, one, told.0))) (inr told)
    (λ ended took. inr (inl (
      no_session in_turn source sink log_before log_after backing_before backing_after status,
      inr (inr (inl (record {
        stopped = subst (λ (why : ReplayStop). HasStopped why log_before log_after backing_before backing_after) (is_backing stopped is) has;
        ended = ended;
        told = took;
      }))),
    )))
stopped_leaves Ends in_turn source script sink log_before log_after backing_before backing_after status (stop.Open (opening.Stray slot id)) counts (inl memory) told = cc
stopped_leaves Ends in_turn source script sink log_before log_after backing_before backing_after status (stop.Open (opening.Stray slot id)) counts (inr (inl (none, unbegun))) told = absurd none
stopped_leaves Ends in_turn source script sink log_before log_after backing_before backing_after status (stop.Open (opening.Stray slot id)) counts (inr (inr (stopped, is, has))) told =
    let stray = subst (λ (why : ReplayStop). HasStopped why log_before log_after backing_before backing_after) (is_stray stopped slot id is) has in
    quiet_stop Ends in_turn source script sink log_before log_after backing_before backing_after status 8 (stop.Open (opening.Stray slot id)) (Took sink (stray_line slot id))
    counts (λ e. cc) (λ e. cc) (λ e. cc) (λ e. cc) (λ e. omega arith) (λ e. omega arith) (λ one. inl (stray.so_far.0, stray.so_far.2)) told
    (λ ended took. inr (inl (
      no_session in_turn source sink log_before log_after backing_before backing_after status,
      inl (record { slot = slot; id = id; stopped = stray; ended = ended; told = took }),
    )))
stopped_leaves Ends in_turn source script sink log_before log_after backing_before backing_after status (stop.Changed parsed found) counts (parsed_is, fewer, (sup, recovered, found_is)) told =
    quiet_stop Ends in_turn source script sink log_before log_after backing_before backing_after status 8 (stop.Changed parsed found) (Took sink (changed_line parsed found))
    counts (λ e. cc) (λ e. cc) (λ e. cc) (λ e. cc) (λ e. omega arith) (λ e. omega arith) (λ one. inr (inl (sup, recovered))) told
    (λ ended took. inr (inl (
      no_session in_turn source sink log_before log_after backing_before backing_after status,
      inr (inr (inr (record {
        found = sup;
        recovered = recovered;
        fewer = omega (arith, parsed_is, found_is, fewer);
        ended = ended;
        told = subst (λ (n : ℕ). Took sink (changed_line n sup.geometry.backing_sectors)) parsed_is (subst (λ (n : ℕ). Took sink (changed_line parsed n)) found_is took);
      }))),
    )))

not_memory : (answer : Result Session ServeStop) (why : ServeStop) → answer ≡ Err why → why ≢ stop.Open opening.Memory → answer ≢ Err (stop.Open opening.Memory)
not_memory answer why is other e = other (let same : Err why ≡ Err (stop.Open opening.Memory) = sym is ∙ e in cc)

pub unserved_leaves : (Ends : Run → Type 0) (in_turn : Bool) (source : Lent) (script : ScriptContent) (sink : Lent) (log_before log_after backing_before backing_after : State) (status : ℕ) (why : ServeStop) (answer : Result Session ServeStop)
    → answer ≡ Err why → IsUnserved script (devices log_before backing_before) (devices log_after backing_after) why → EndsUnserved why sink status
    → (answer ≢ Err (stop.Open opening.Memory) → CountsFaultsWhere (SaysLogFault answer) log_before.faults log_after.faults)
    → (answer ≢ Err (stop.Open opening.Memory) → CountsFaultsWhere (SaysBackingFault answer) backing_before.faults backing_after.faults)
    → Leaves (EndsServing Ends script.sectors) (IsLeftBy script) (Unserved in_turn source sink log_before log_after backing_before backing_after status)
unserved_leaves Ends in_turn source script sink log_before log_after backing_before backing_after status why answer is unserved told log backing =
    stopped_leaves Ends in_turn source script sink log_before log_after backing_before backing_after status why (record {
      log = λ other. subst (λ (a : Result Session ServeStop). CountsFaultsWhere (SaysLogFault a) log_before.faults log_after.faults) is (log (not_memory answer why is other));
      backing = λ other. subst (λ (a : Result Session ServeStop). CountsFaultsWhere (SaysBackingFault a) backing_before.faults backing_after.faults) is (backing (not_memory answer why is other));
    }) unserved told
