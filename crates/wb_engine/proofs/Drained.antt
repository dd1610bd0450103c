-- Turns, one after another, until there is nothing to do or a device fails.
use Rattle.std.specs.Option.{is_some}
use Rattle.std.proofs.Common.{ℕ, ◌≡◌, ◌+◌, ◌<◌, ◌≤◌, Option, Some, None, true, false, Result, Ok, Err, inl, inr, refl, ap, sym, ◌∙◌, subst, arith}
use Rattle.std.proofs.lemmas.Bool.{cases_lt}
use Rattle.std.proofs.lemmas.List.Elements.{All-contains_itself}
use Rattle.wb_geometry.specs.Device.{State, Rose, CountsFaultsWhere}
use Rattle.wb_geometry.specs.declared.geometry.Geometry.{Geometry}
use Rattle.wb_geometry.specs.declared.which.Which.{Which}
use Rattle.wb_geometry.specs.declared.which.Which.TheVariants.{Log, Backing}
use Rattle.wb_geometry.proofs.Histories.{puts_then}
use Rattle.wb_geometry.proofs.Moments.{passes_same, joined, content_same, content_joined, same_device, same_device_trans}
use Rattle.wb_crash.specs.Images.{IsOrdered}
use Rattle.wb_crash.specs.Numbers.{written, synced, put_up_to, recording}
use Rattle.wb_crash.specs.declared.numbers.Numbers.{Numbers}
use Rattle.wb_engine.specs.Content.{EngineContent}
use Rattle.wb_engine.specs.Stepping.{MayLog, MaySync, MayBack, MayRecord, LogsNext, SyncsLog, WritesBack, PutsRecord, Moves, IsTurn, Says, turns_left, batch_end}
use Rattle.wb_engine.specs.Closing.{IsDrained}
use Rattle.wb_engine.specs.declared.turning.Turn.{Turn}
use Rattle.wb_engine.specs.declared.turning.Turn.TheVariants as turn
use Rattle.wb_engine.proofs.Among.{puts_same}
use Rattle.wb_engine.proofs.Batches.{batch_ends}

-- ---- steps one after another

module _ {L B : Type 0} {of_log : L → State} {of_backing : B → State} where
  pub moves_none : (e : EngineContent L B) → Moves of_log of_backing e e
  moves_none e = record {
    stands = λ base h stands. stands;
    changed = λ base h stands. content_same (λ x told. puts_same h x) refl;
    left = λ base h stands. passes_same (λ x left. puts_same h x);
    synced = λ is. is;
    geometry = refl;
    absorbed = refl;
    first = refl;
    sealed = refl;
    stable = omega arith;
    same_log = same_device (of_log e.log);
    same_backing = same_device (of_backing e.backing);
  }

  pub moves_joined : {old mid new : EngineContent L B} → Moves of_log of_backing old mid → Moves of_log of_backing mid new → Moves of_log of_backing old new
  moves_joined first second = record {
    stands = λ base h stands. second.stands base h (first.stands base h stands);
    changed = λ base h stands.
        content_joined (λ x y z told one other. puts_then h h x y z (All-contains_itself h) one other) (first.changed base h stands) (second.changed base h (first.stands base h stands));
    left = λ base h stands.
        joined (λ x y left one. one) (λ x y z left one other. puts_then h h x y z (All-contains_itself h) one other) (first.left base h stands) (second.left base h (first.stands base h stands));
    synced = λ is. second.synced (first.synced is);
    geometry = second.geometry ∙ first.geometry;
    absorbed = second.absorbed ∙ first.absorbed;
    first = second.first ∙ first.first;
    sealed = second.sealed ∙ first.sealed;
    stable = omega (arith, first.stable, second.stable);
    same_log = same_device_trans first.same_log second.same_log;
    same_backing = same_device_trans first.same_backing second.same_backing;
  }

-- ---- how many turns are left

-- one more while the engine is up: a turn in which a device fails is the last
abbrev pub up_turns : Option Which → ℕ
up_turns None = 1
up_turns (Some which) = 0

abbrev pub turns_of : {L B : Type 0} → EngineContent L B → ℕ
turns_of e = turns_left e.numbers + up_turns e.down

-- the same numbers, and down
failed_less : (n m : Numbers) (was now : Option Which) (which : Which) → was ≡ None → now ≡ Some which → turns_left m ≡ turns_left n → turns_left m + up_turns now < turns_left n + up_turns was
failed_less n m was now which up down same = omega (arith, ap up_turns up, ap up_turns down, same)

-- the numbers that the step leaves, of which fewer are left, and it is up
done_less : (n m k : Numbers) (was now : Option Which) → was ≡ None → now ≡ None → m ≡ k → turns_left k < turns_left n → turns_left m + up_turns now < turns_left n + up_turns was
done_less n m k was now up still moved less = omega (arith, ap up_turns up, ap up_turns still, ap turns_left moved, less)

-- a batch takes a segment at least, and none above the last that is stable
batch_less : (n : Numbers) → MayBack n → turns_left (put_up_to (batch_end n) n) < turns_left n
batch_less n may = let ends = batch_ends n may in omega (arith, ends.0, ends.1)

module _ {L B T : Type 0} {of_log : L → State} {of_backing : B → State} where
  logs_less : (old new : EngineContent L B) (r : Result T Which) → old.down ≡ None → MayLog old.geometry old.numbers → LogsNext of_log of_backing old new r → turns_of new < turns_of old
  logs_less old new (Ok x) up may does =
      done_less old.numbers new.numbers (written old.numbers) old.down new.down up does.ok.1 does.ok.0 (omega (arith, may.0))
  logs_less old new (Err which) up may does =
      failed_less old.numbers new.numbers old.down new.down Log up does.failed.2 (ap turns_left does.failed.1)

  syncs_less : (old new : EngineContent L B) (r : Result T Which) → old.down ≡ None → MaySync old.numbers → SyncsLog of_log of_backing old new r → turns_of new < turns_of old
  syncs_less old new (Ok x) up may does =
      done_less old.numbers new.numbers (synced old.numbers) old.down new.down up does.ok.1 does.ok.0 (omega (arith, may))
  syncs_less old new (Err which) up may does =
      failed_less old.numbers new.numbers old.down new.down Log up does.failed.2 (ap turns_left does.failed.1)

  backs_less : (old new : EngineContent L B) (r : Result T Which) → old.down ≡ None → MayBack old.numbers
      → WritesBack of_log of_backing old new r → turns_of new < turns_of old
  backs_less old new (Ok x) up may does =
      done_less old.numbers new.numbers (put_up_to (batch_end old.numbers) old.numbers) old.down new.down up does.ok.1 does.ok.0 (batch_less old.numbers may)
  backs_less old new (Err which) up may does =
      failed_less old.numbers new.numbers old.down new.down which up does.failed.1 (ap turns_left does.failed.0)

  records_less : (old new : EngineContent L B) (r : Result T Which) → old.down ≡ None → MayRecord old.numbers → PutsRecord of_log of_backing old new r → turns_of new < turns_of old
  records_less old new (Ok x) up may does =
      done_less old.numbers new.numbers (recording old.numbers) old.down new.down up does.ok.1 does.ok.0 (omega (arith, may))
  records_less old new (Err which) up may does =
      failed_less old.numbers new.numbers old.down new.down Log up does.failed.2 (ap turns_left does.failed.1)

module _ {L B : Type 0} {of_log : L → State} {of_backing : B → State} where
  pub turn_less : (old new : EngineContent L B) (r : Result Turn Which) → old.down ≡ None → (r ≡ Ok turn.Idle → ⊥)
      → IsTurn of_log of_backing old new r → turns_of new < turns_of old
  turn_less old new r up busy (inl did) = logs_less old new r up did.0 did.1
  turn_less old new r up busy (inr (inl did)) = syncs_less old new r up did.1 did.2
  turn_less old new r up busy (inr (inr (inl did))) = backs_less old new r up did.2 did.3
  turn_less old new r up busy (inr (inr (inr (inl did)))) = records_less old new r up did.3 did.4
  turn_less old new r up busy (inr (inr (inr (inr did)))) = absurd (busy did.4)

-- ---- what failed

module _ {L B : Type 0} {of_log : L → State} {of_backing : B → State} where
  -- a turn that failed leaves the engine down by the device that did
  pub down_by : (old new : EngineContent L B) (r : Result Turn Which) (which : Which) → r ≡ Err which
      → IsTurn of_log of_backing old new r → new.down ≡ Some which
  down_by old new (Ok x) which is did = absurd (cc)
  down_by old new (Err other) which is (inl did) = let same : other ≡ which = cc in did.1.failed.2 ∙ ap (λ (w : Which). Some w) (sym did.1.failed.0 ∙ same)
  down_by old new (Err other) which is (inr (inl did)) = let same : other ≡ which = cc in did.2.failed.2 ∙ ap (λ (w : Which). Some w) (sym did.2.failed.0 ∙ same)
  down_by old new (Err other) which is (inr (inr (inl did))) = let same : other ≡ which = cc in did.3.failed.1 ∙ ap (λ (w : Which). Some w) same
  down_by old new (Err other) which is (inr (inr (inr (inl did)))) = let same : other ≡ which = cc in did.4.failed.2 ∙ ap (λ (w : Which). Some w) (sym did.4.failed.0 ∙ same)
  down_by old new (Err other) which is (inr (inr (inr (inr did)))) = let idle : Err other ≡ Ok turn.Idle = did.4 in absurd (cc)

  -- and one that answered leaves it up
  pub still_up : (old new : EngineContent L B) (r : Result Turn Which) (t : Turn) → old.down ≡ None → r ≡ Ok t
      → IsTurn of_log of_backing old new r → new.down ≡ None
  still_up old new (Err other) t up is did = absurd (cc)
  still_up old new (Ok x) t up is (inl did) = did.1.ok.1
  still_up old new (Ok x) t up is (inr (inl did)) = did.2.ok.1
  still_up old new (Ok x) t up is (inr (inr (inl did))) = did.3.ok.1
  still_up old new (Ok x) t up is (inr (inr (inr (inl did)))) = did.4.ok.1
  still_up old new (Ok x) t up is (inr (inr (inr (inr did)))) = ap (λ (e : EngineContent L B). e.down) did.5 ∙ up

pub none_some : (d : Option Which) (which : Which) → d ≡ None → d ≡ Some which → ⊥
none_some d which none some = let both : None ≡ Some which = sym none ∙ some in cc

module _ {L B : Type 0} (of_log : L → State) (of_backing : B → State) where
  -- which device failed from one engine to the next, if one did
  pub record HasCauses (old new : EngineContent L B) : Type 0 where
    pub log_cause : CountsFaultsWhere (new.down ≡ Some Log) (of_log old.log).faults (of_log new.log).faults
    pub backing_cause : CountsFaultsWhere (new.down ≡ Some Backing) (of_backing old.backing).faults (of_backing new.backing).faults

  pub causes_none : (old new : EngineContent L B) → new.down ≡ None → (of_log new.log).faults ≡ (of_log old.log).faults → (of_backing new.backing).faults ≡ (of_backing old.backing).faults → HasCauses old new
  causes_none old new up log backing = record {
    log_cause = record { later = omega (arith, log); failed = λ down. absurd (none_some new.down Log up down); kept = λ _. log };
    backing_cause = record { later = omega (arith, backing); failed = λ down. absurd (none_some new.down Backing up down); kept = λ _. backing };
  }

  -- the log failed, and the backing device wasn't called
  log_failed : (old new : EngineContent L B) → new.down ≡ Some Log → (of_log old.log).faults ≤ (of_log new.log).faults → Rose (of_log old.log).faults (of_log new.log).faults
      → new.backing ≡ old.backing → HasCauses old new
  log_failed old new down later rose backing =
      let kept : (of_backing new.backing).faults ≡ (of_backing old.backing).faults = ap (λ (b : B). (of_backing b).faults) backing in
      record {
        log_cause = record { later = later; failed = λ _. rose; kept = λ not. absurd (not down) };
        backing_cause = record {
          later = omega (arith, kept);
          failed = λ other. absurd (let both : Some Log ≡ Some Backing = sym down ∙ other in cc);
          kept = λ _. kept;
        };
      }

  logs_causes : {T : Type 0} (old new : EngineContent L B) (r : Result T Which) → LogsNext of_log of_backing old new r → HasCauses old new
  logs_causes old new (Ok x) does = causes_none old new does.ok.1 does.cause.kept (ap (λ (b : B). (of_backing b).faults) does.backing)
  logs_causes old new (Err which) does = log_failed old new does.failed.2 does.cause.later does.cause.failed does.backing

  syncs_causes : {T : Type 0} (old new : EngineContent L B) (r : Result T Which) → SyncsLog of_log of_backing old new r → HasCauses old new
  syncs_causes old new (Ok x) does = causes_none old new does.ok.1 does.cause.kept (ap (λ (b : B). (of_backing b).faults) does.backing)
  syncs_causes old new (Err which) does = log_failed old new does.failed.2 does.cause.later does.cause.failed does.backing

  records_causes : {T : Type 0} (old new : EngineContent L B) (r : Result T Which) → PutsRecord of_log of_backing old new r → HasCauses old new
  records_causes old new (Ok x) does = causes_none old new does.ok.1 does.cause.kept (ap (λ (b : B). (of_backing b).faults) does.backing)
  records_causes old new (Err which) does = log_failed old new does.failed.2 does.cause.later does.cause.failed does.backing

  backs_causes : {T : Type 0} (old new : EngineContent L B) (r : Result T Which) → WritesBack of_log of_backing old new r → HasCauses old new
  backs_causes old new (Ok x) does = causes_none old new does.ok.1 (does.log_cause.kept (λ is. absurd (cc))) (does.backing_cause.kept (λ is. absurd (cc)))
  backs_causes old new (Err which) does = record {
    log_cause = record {
      later = does.log_cause.later;
      failed = λ down. does.log_cause.failed (let both : Some which ≡ Some Log = sym does.failed.1 ∙ down in let same : which ≡ Log = cc in ap (λ (w : Which). Err w) same);
      kept = λ not. does.log_cause.kept (λ is. not (let same : which ≡ Log = cc in does.failed.1 ∙ ap (λ (w : Which). Some w) same));
    };
    backing_cause = record {
      later = does.backing_cause.later;
      failed = λ down. does.backing_cause.failed (let both : Some which ≡ Some Backing = sym does.failed.1 ∙ down in let same : which ≡ Backing = cc in ap (λ (w : Which). Err w) same);
      kept = λ not. does.backing_cause.kept (λ is. not (let same : which ≡ Backing = cc in does.failed.1 ∙ ap (λ (w : Which). Some w) same));
    };
  }

  pub turn_causes : (old new : EngineContent L B) (r : Result Turn Which) → old.down ≡ None → IsTurn of_log of_backing old new r → HasCauses old new
  turn_causes old new r up (inl did) = logs_causes old new r did.1
  turn_causes old new r up (inr (inl did)) = syncs_causes old new r did.2
  turn_causes old new r up (inr (inr (inl did))) = backs_causes old new r did.3
  turn_causes old new r up (inr (inr (inr (inl did)))) = records_causes old new r did.4
  turn_causes old new r up (inr (inr (inr (inr did)))) =
      causes_none old new (ap (λ (e : EngineContent L B). e.down) did.5 ∙ up) (ap (λ (e : EngineContent L B). (of_log e.log).faults) did.5)
      (ap (λ (e : EngineContent L B). (of_backing e.backing).faults) did.5)

  -- one after another, where none failed at first
  pub causes_joined : (old mid new : EngineContent L B) → mid.down ≡ None → HasCauses old mid → HasCauses mid new → HasCauses old new
  causes_joined old mid new up first second =
      let log : (of_log mid.log).faults ≡ (of_log old.log).faults = first.log_cause.kept (λ down. none_some mid.down Log up down) in
      let backing : (of_backing mid.backing).faults ≡ (of_backing old.backing).faults = first.backing_cause.kept (λ down. none_some mid.down Backing up down) in
      record {
        log_cause = subst (λ (n : ℕ). CountsFaultsWhere (new.down ≡ Some Log) n (of_log new.log).faults) log second.log_cause;
        backing_cause = subst (λ (n : ℕ). CountsFaultsWhere (new.down ≡ Some Backing) n (of_backing new.backing).faults) backing second.backing_cause;
      }

  -- ---- all of them

  -- some turns were made, and only the last of them failed
  pub record IsDraining (old mid : EngineContent L B) : Type 0 where
    pub moves : Moves of_log of_backing old mid
    pub causes : HasCauses old mid

  pub draining_none : (e : EngineContent L B) → e.down ≡ None → IsDraining e e
  draining_none e up = record { moves = moves_none e; causes = causes_none e e up refl refl }

  pub draining_more : (old mid new : EngineContent L B) (r : Result Turn Which) → IsDraining old mid → mid.down ≡ None → Moves of_log of_backing mid new → IsTurn of_log of_backing mid new r → IsDraining old new
  draining_more old mid new r so_far up moves turned = record {
    moves = moves_joined so_far.moves moves;
    causes = causes_joined old mid new up so_far.causes (turn_causes mid new r up turned);
  }

  pub drained : (old new : EngineContent L B) → IsDraining old new → (new.down ≡ None → new.numbers.recorded ≡ new.numbers.sealed) → IsDrained of_log of_backing old new
  drained old new so_far done = record { moves = so_far.moves; done = done; log_cause = so_far.causes.log_cause; backing_cause = so_far.causes.backing_cause }

-- where there was nothing to do, all that is sealed is recorded
pub nothing_to_do : (g : Geometry) (e : Numbers) → IsOrdered g e → (MayLog g e → ⊥) → (MaySync e → ⊥) → (MayBack e → ⊥) → (MayRecord e → ⊥) → e.recorded ≡ e.sealed
nothing_to_do g e ordered no_log no_sync no_back no_record = elim (cases_lt e.recorded e.back) [
  | inl record_waits ↦ absurd (no_record record_waits)
  | inr recorded ↦ elim (cases_lt e.back e.stable) [
    | inl back_waits ↦ absurd (no_back back_waits)
    | inr back ↦ elim (cases_lt e.stable e.logged) [
      | inl sync_waits ↦ absurd (no_sync sync_waits)
      | inr stable ↦ elim (cases_lt e.logged e.sealed) [
        | inl log_waits ↦ absurd (no_log (log_waits, omega (arith, recorded, back, stable, g.slots_fit.0)))
        | inr logged ↦ omega (arith, recorded, back, stable, logged, ordered.recorded, ordered.back, ordered.stable, ordered.logged, ordered.tried)
      ]
    ]
  ]
]

-- an idle turn did nothing, and no step could be made
record IsIdle {L B : Type 0} (old new : EngineContent L B) : Type 0 where
  same : new ≡ old
  no_log : MayLog old.geometry old.numbers → ⊥
  no_sync : MaySync old.numbers → ⊥
  no_back : MayBack old.numbers → ⊥
  no_record : MayRecord old.numbers → ⊥

idle_is : {L B : Type 0} {of_log : L → State} {of_backing : B → State} (old new : EngineContent L B) (r : Result Turn Which) → r ≡ Ok turn.Idle → IsTurn of_log of_backing old new r → IsIdle old new
idle_is old new r is (inl did) = absurd (let says : turn.Idle ≡ turn.Logged = subst (Says turn.Logged) is did.2 in cc)
idle_is old new r is (inr (inl did)) = absurd (let says : turn.Idle ≡ turn.Synced = subst (Says turn.Synced) is did.3 in cc)
idle_is old new r is (inr (inr (inl did))) = absurd (let says : turn.Idle ≡ turn.Backed = subst (Says turn.Backed) is did.4 in cc)
idle_is old new r is (inr (inr (inr (inl did)))) = absurd (let says : turn.Idle ≡ turn.Recorded = subst (Says turn.Recorded) is did.5 in cc)
idle_is old new r is (inr (inr (inr (inr did)))) = record { same = did.5; no_log = did.0; no_sync = did.1; no_back = did.2; no_record = did.3 }

pub idle_stays : {L B : Type 0} {of_log : L → State} {of_backing : B → State} (old new : EngineContent L B) (r : Result Turn Which) → r ≡ Ok turn.Idle → IsTurn of_log of_backing old new r → new ≡ old
idle_stays old new r is turned = (idle_is old new r is turned).same

pub idle_recorded : {L B : Type 0} {of_log : L → State} {of_backing : B → State} (old new : EngineContent L B) (r : Result Turn Which) → IsOrdered old.geometry old.numbers → r ≡ Ok turn.Idle
    → IsTurn of_log of_backing old new r → new.numbers.recorded ≡ new.numbers.sealed
idle_recorded {L} {B} {of_log} {of_backing} old new r ordered is turned =
    let none = idle_is old new r is turned in
    subst (λ (e : EngineContent L B). e.numbers.recorded ≡ e.numbers.sealed) (sym none.same)
    (nothing_to_do old.geometry old.numbers ordered none.no_log none.no_sync none.no_back none.no_record)

-- what the loop's test tells
is_up : (d : Option Which) → is_some d ≡ false → d ≡ None
is_up None is = refl
is_up (Some which) is = absurd (cc)

pub up_there : {L B : Type 0} {inside e : EngineContent L B} → inside ≡ e → is_some inside.down ≡ false → e.down ≡ None
up_there {L} {B} {inside} {e} view up = ap (λ (f : EngineContent L B). f.down) (sym view) ∙ is_up inside.down up

pub not_up : {L B : Type 0} {inside e : EngineContent L B} → inside ≡ e → is_some inside.down ≡ true → e.down ≡ None → ⊥
not_up {L} {B} {inside} {e} view down up = let none : is_some {T = Which} None ≡ true = ap (λ (d : Option Which). is_some d) (sym up) ∙ ap (λ (f : EngineContent L B). is_some f.down) (sym view) ∙ down in absurd (cc)
