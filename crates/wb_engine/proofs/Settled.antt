-- Turns, one after another, until the entries below a place are stable.
use Rattle.std.proofs.Common.{ℕ, ◌≡◌, ◌+◌, ◌-◌, ◌*◌, ◌/◌, ◌%◌, ◌<◌, ◌≤◌, List, Some, None, Result, Ok, Err, OnOk, IfErr, inl, inr, refl, ap, sym, ◌∙◌, subst, arith}
use Rattle.std.proofs.Math.Nat.{div-add-mod, div-mul-le_self, mul-add}
use Rattle.std.proofs.lemmas.Bool.{cases_lt}
use Rattle.std.proofs.lemmas.Nat.{le-div, mul-le}
use Rattle.wb_geometry.specs.Image.{Image}
use Rattle.wb_geometry.specs.Device.{State, next_count}
use Rattle.wb_geometry.specs.History.{HistoryEntry}
use Rattle.wb_geometry.specs.Layout.{places}
use Rattle.wb_geometry.specs.Line.{line_of}
use Rattle.wb_geometry.specs.declared.geometry.Geometry.{Geometry}
use Rattle.wb_geometry.specs.declared.which.Which.{Which}
use Rattle.wb_geometry.specs.declared.which.Which.TheVariants.{Log}
use Rattle.wb_geometry.proofs.Geometries.{places_few}
use Rattle.wb_crash.specs.Crash.{CrashNow}
use Rattle.wb_crash.specs.Images.{IsOrdered}
use Rattle.wb_crash.specs.declared.numbers.Numbers.{Numbers}
use Rattle.wb_crash.proofs.Crash.{exit_crash}
use Rattle.wb_engine.specs.Content.{EngineContent, IsEngine}
use Rattle.wb_engine.specs.Standing.{Standing, line}
use Rattle.wb_engine.specs.Stepping.{MayLog, MaySync, LogsNext, SyncsLog, WritesBack, PutsRecord, Moves, IsTurn}
use Rattle.wb_engine.specs.Settling.{stable_places, last_below, HasSlot, IsOneSync, IsSettled}
use Rattle.wb_engine.specs.declared.turning.Turn.{Turn}
use Rattle.wb_engine.specs.declared.turning.Turn.TheVariants as turn
use Rattle.wb_engine.proofs.Drained.{none_some, IsDraining, draining_none, draining_more, idle_recorded, idle_stays, down_by}

-- ---- the last segment below a place

-- That segment is sealed, and isn't stable.
pub record Waits {L B : Type 0} (e : EngineContent L B) (last : ℕ) : Type 0 where
  pub unstable : e.numbers.stable < last
  pub sealed : last ≤ e.numbers.sealed

module _ {L B : Type 0} where
  -- where all places below this one were absorbed
  waits : (e : EngineContent L B) (place : ℕ) → e.numbers.sealed ≡ e.numbers.first + e.absorbed / places e.geometry → place ≤ e.absorbed → e.numbers.stable < last_below e place
      → Waits e (last_below e place)
  waits e place sealed taken unstable =
      let n : ℕ = places e.geometry in
      let fits : place / n ≤ e.absorbed / n = le-div (place / n) e.absorbed n (omega (arith, (places_few e.geometry).0)) (omega (arith, div-mul-le_self place n, taken)) in
      record { unstable = unstable; sealed = omega (arith, fits, sealed) }

  -- where it isn't stable the places below this one aren't all
  uncovered : (e : EngineContent L B) (place : ℕ) → IsOrdered e.geometry e.numbers → e.numbers.stable < last_below e place → place ≤ stable_places e → ⊥
  uncovered e place ordered unstable covered =
      let n : ℕ = places e.geometry in
      let s : ℕ = e.numbers.stable - e.numbers.first in
      let more : n * (s + 1) ≤ n * (place / n) = mul-le n (s + 1) n (place / n) (omega arith) (omega (arith, unstable, ordered.start, ordered.recorded, ordered.back)) in
      omega (arith, more, mul-add n s 1, covered, (places_few e.geometry).0, div-add-mod place n)

  -- and where it is, they are
  covers : (e : EngineContent L B) (place : ℕ) → place % places e.geometry ≡ 0 → last_below e place ≤ e.numbers.stable → place ≤ stable_places e
  covers e place whole stable =
      let n : ℕ = places e.geometry in
      let s : ℕ = e.numbers.stable - e.numbers.first in
      let up : n * (place / n) ≤ n * s = mul-le n (place / n) n s (omega arith) (omega (arith, stable)) in
      omega (arith, div-add-mod place n, whole, up)

  -- where no segment can be logged that one is
  is_logged : (last : ℕ) (e : EngineContent L B) → Waits e last → last ≤ e.numbers.recorded + e.geometry.slots → (MayLog e.geometry e.numbers → ⊥) → last ≤ e.numbers.logged
  is_logged last e waiting slot no_log = elim (cases_lt e.numbers.logged last) [
    | inl less ↦ absurd (no_log (omega (arith, less, waiting.sealed), omega (arith, less, slot)))
    | inr more ↦ more
  ]

  -- and then it can be synced
  no_other : (last : ℕ) (e : EngineContent L B) → Waits e last → last ≤ e.numbers.recorded + e.geometry.slots → (MayLog e.geometry e.numbers → ⊥) → (MaySync e.numbers → ⊥) → ⊥
  no_other last e waiting slot no_log no_sync = no_sync (omega (arith, is_logged last e waiting slot no_log, waiting.unstable))

-- ---- as the code says it

module _ {L B : Type 0} where
  last_is : (inside old : EngineContent L B) (place each : ℕ) → inside ≡ old → each ≡ places inside.geometry → inside.numbers.first + place / each ≡ last_below old place
  last_is inside old place each view is = ap (λ (n : ℕ). inside.numbers.first + place / n) is ∙ ap (λ (e : EngineContent L B). last_below e place) view

  pub still_unstable : (inside old there mid : EngineContent L B) (place each : ℕ) → inside ≡ old → there ≡ mid → each ≡ places inside.geometry
      → there.numbers.stable < inside.numbers.first + place / each → mid.numbers.stable < last_below old place
  still_unstable inside old there mid place each view same is less = omega (arith, less, last_is inside old place each view is, ap (λ (e : EngineContent L B). e.numbers.stable) same)

  pub stable_now : (inside old there mid : EngineContent L B) (place each : ℕ) → inside ≡ old → there ≡ mid → each ≡ places inside.geometry
      → inside.numbers.first + place / each ≤ there.numbers.stable → last_below old place ≤ mid.numbers.stable
  stable_now inside old there mid place each view same is more = omega (arith, more, last_is inside old place each view is, ap (λ (e : EngineContent L B). e.numbers.stable) same)

-- ---- a segment that needn't wait for a slot

module _ {L B : Type 0} (of_log : L → State) where
  -- No segment is written back or recorded before that one is stable, and at most one sync comes, by which it is.
  pub record IsShort (last : ℕ) (old new : EngineContent L B) : Type 0 where
    pub backing : new.backing ≡ old.backing
    pub recorded : new.numbers.recorded ≡ old.numbers.recorded
    pub syncs : (of_log new.log).syncs ≤ next_count (of_log old.log).syncs
    pub not_yet : new.down ≡ None → new.numbers.stable < last → (of_log new.log).syncs ≡ (of_log old.log).syncs

  short_none : (last : ℕ) (e : EngineContent L B) → IsShort last e e
  short_none last e = record { backing = refl; recorded = refl; syncs = omega arith; not_yet = λ _ _. refl }

  short_joined : (last : ℕ) (old mid new : EngineContent L B) → mid.down ≡ None → mid.numbers.stable < last → IsShort last old mid → IsShort last mid new → IsShort last old new
  short_joined last old mid new up unstable first second =
      let same : (of_log mid.log).syncs ≡ (of_log old.log).syncs = first.not_yet up unstable in
      record {
        backing = second.backing ∙ first.backing;
        recorded = second.recorded ∙ first.recorded;
        syncs = subst (λ (n : ℕ). (of_log new.log).syncs ≤ next_count n) same second.syncs;
        not_yet = λ still waiting. second.not_yet still waiting ∙ same;
      }

  module _ {T : Type 0} {of_backing : B → State} where
    logs_short : (last : ℕ) (old new : EngineContent L B) (r : Result T Which) → LogsNext of_log of_backing old new r → IsShort last old new
    logs_short last old new (Ok x) does =
        record { backing = does.backing; recorded = ap (λ (n : Numbers). n.recorded) does.ok.0; syncs = omega (arith, does.syncs); not_yet = λ _ _. does.syncs }
    logs_short last old new (Err which) does =
        record { backing = does.backing; recorded = ap (λ (n : Numbers). n.recorded) does.failed.1; syncs = omega (arith, does.syncs); not_yet = λ _ _. does.syncs }

    syncs_short : (last : ℕ) (old new : EngineContent L B) (r : Result T Which) → last ≤ old.numbers.logged → SyncsLog of_log of_backing old new r → IsShort last old new
    syncs_short last old new (Ok x) logged does = record {
      backing = does.backing;
      recorded = ap (λ (n : Numbers). n.recorded) does.ok.0;
      syncs = omega (arith, does.syncs);
      not_yet = λ _ waiting. absurd (omega (arith, waiting, logged, ap (λ (n : Numbers). n.stable) does.ok.0));
    }
    syncs_short last old new (Err which) logged does = record {
      backing = does.backing;
      recorded = ap (λ (n : Numbers). n.recorded) does.failed.1;
      syncs = does.not_synced.1;
      not_yet = λ up _. absurd (none_some new.down Log up does.failed.2);
    }

  -- a turn before it is stable
  module _ {of_backing : B → State} where
    turn_short : (last : ℕ) (old new : EngineContent L B) (r : Result Turn Which) → Waits old last → last ≤ old.numbers.recorded + old.geometry.slots
        → IsTurn of_log of_backing old new r → IsShort last old new
    turn_short last old new r waiting slot (inl did) = logs_short last old new r did.1
    turn_short last old new r waiting slot (inr (inl did)) = syncs_short last old new r (is_logged last old waiting slot did.0) did.2
    turn_short last old new r waiting slot (inr (inr (inl did))) = absurd (no_other last old waiting slot did.0 did.1)
    turn_short last old new r waiting slot (inr (inr (inr (inl did)))) = absurd (no_other last old waiting slot did.0 did.1)
    turn_short last old new r waiting slot (inr (inr (inr (inr did)))) = absurd (no_other last old waiting slot did.0 did.1)

-- ---- what is logged stays so

module _ {L B T : Type 0} {of_log : L → State} {of_backing : B → State} where
  logs_logged : (old new : EngineContent L B) (r : Result T Which) → LogsNext of_log of_backing old new r → old.numbers.logged ≤ new.numbers.logged
  logs_logged old new (Ok x) does = omega (arith, ap (λ (n : Numbers). n.logged) does.ok.0)
  logs_logged old new (Err which) does = omega (arith, ap (λ (n : Numbers). n.logged) does.failed.1)

  syncs_logged : (old new : EngineContent L B) (r : Result T Which) → SyncsLog of_log of_backing old new r → old.numbers.logged ≤ new.numbers.logged
  syncs_logged old new (Ok x) does = omega (arith, ap (λ (n : Numbers). n.logged) does.ok.0)
  syncs_logged old new (Err which) does = omega (arith, ap (λ (n : Numbers). n.logged) does.failed.1)

  backs_logged : (old new : EngineContent L B) (r : Result T Which) → WritesBack of_log of_backing old new r → old.numbers.logged ≤ new.numbers.logged
  backs_logged old new (Ok x) does = omega (arith, ap (λ (n : Numbers). n.logged) does.ok.0)
  backs_logged old new (Err which) does = omega (arith, ap (λ (n : Numbers). n.logged) does.failed.0)

  records_logged : (old new : EngineContent L B) (r : Result T Which) → PutsRecord of_log of_backing old new r → old.numbers.logged ≤ new.numbers.logged
  records_logged old new (Ok x) does = omega (arith, ap (λ (n : Numbers). n.logged) does.ok.0)
  records_logged old new (Err which) does = omega (arith, ap (λ (n : Numbers). n.logged) does.failed.1)

module _ {L B : Type 0} {of_log : L → State} {of_backing : B → State} where
  turn_logged : (old new : EngineContent L B) (r : Result Turn Which) → IsTurn of_log of_backing old new r → old.numbers.logged ≤ new.numbers.logged
  turn_logged old new r (inl did) = logs_logged old new r did.1
  turn_logged old new r (inr (inl did)) = syncs_logged old new r did.2
  turn_logged old new r (inr (inr (inl did))) = backs_logged old new r did.3
  turn_logged old new r (inr (inr (inr (inl did)))) = records_logged old new r did.4
  turn_logged old new r (inr (inr (inr (inr did)))) = omega (arith, ap (λ (e : EngineContent L B). e.numbers.logged) did.5)

-- ---- all of them

module _ {L B : Type 0} (of_log : L → State) (of_backing : B → State) where
  -- some turns were made before that segment was stable, and only the last of them failed
  pub record IsSettling (place : ℕ) (old mid : EngineContent L B) : Type 0 where
    pub draining : IsDraining of_log of_backing old mid
    pub logged : old.numbers.logged ≤ mid.numbers.logged
    -- where it was stable none was made
    pub kept : last_below old place ≤ old.numbers.stable → mid ≡ old
    pub short : HasSlot old place → IsShort of_log (last_below old place) old mid

  pub settling_none : (place : ℕ) (e : EngineContent L B) → e.down ≡ None → IsSettling place e e
  settling_none place e up =
      record { draining = draining_none of_log of_backing e up; logged = omega arith; kept = λ _. refl; short = λ _. short_none of_log (last_below e place) e }

  last_same : (place : ℕ) (old mid : EngineContent L B) → IsSettling place old mid → last_below mid place ≡ last_below old place
  last_same place old mid so_far = cc (so_far.draining.moves.first, so_far.draining.moves.geometry)

  -- where such a turn is made that segment wasn't stable at first
  pub settling_kept : (place : ℕ) (old mid : EngineContent L B) → IsSettling place old mid → mid.numbers.stable < last_below old place → last_below old place ≤ old.numbers.stable → ⊥
  settling_kept place old mid so_far unstable stable = omega (arith, stable, unstable, ap (λ (e : EngineContent L B). e.numbers.stable) (so_far.kept stable))

  -- a turn that is made where it isn't stable
  module _ (place : ℕ) (old mid new : EngineContent L B) (r : Result Turn Which) (taken : place ≤ old.absorbed) (so_far : IsSettling place old mid)
      (engine : IsEngine of_log of_backing mid) (unstable : mid.numbers.stable < last_below old place) (did : IsTurn of_log of_backing mid new r) where
    settling_waits : Waits mid (last_below old place)
    settling_waits =
        let same : last_below mid place ≡ last_below old place = last_same place old mid so_far in
        subst (λ (s : ℕ). Waits mid s) same (waits mid place engine.filled.sealed (omega (arith, taken, so_far.draining.moves.absorbed)) (omega (arith, unstable, same)))

    pub settling_busy : r ≡ Ok turn.Idle → ⊥
    settling_busy is =
        let all : mid.numbers.recorded ≡ mid.numbers.sealed =
        subst (λ (e : EngineContent L B). e.numbers.recorded ≡ e.numbers.sealed) (idle_stays mid new r is did) (idle_recorded mid new r engine.ordered is did) in
        let waiting = settling_waits in
        omega (arith, all, waiting.unstable, waiting.sealed, engine.ordered.recorded, engine.ordered.back)

    pub settling_more : mid.down ≡ None → Moves of_log of_backing mid new → IsSettling place old new
    settling_more up moves =
        let waiting = settling_waits in
        record {
          draining = draining_more of_log of_backing old mid new r so_far.draining up moves did;
          logged = omega (arith, so_far.logged, turn_logged mid new r did);
          kept = λ stable. absurd (settling_kept place old mid so_far unstable stable);
          short = λ slot.
              let until = so_far.short slot in
              short_joined of_log (last_below old place) old mid new up waiting.unstable until
              (turn_short of_log (last_below old place) mid new r waiting (omega (arith, slot, until.recorded, ap (λ (g : Geometry). g.slots) so_far.draining.moves.geometry)) did);
        }

  settled_crash : (old new : EngineContent L B) → Moves of_log of_backing old new → (base : Image) (h : List HistoryEntry) → Standing of_log of_backing old base h
      → CrashNow old.geometry (line old base h) old.numbers.stable new.numbers.tried (of_log new.log) (of_backing new.backing)
  settled_crash old new moves base h stands =
      let crash = exit_crash old.numbers.stable new.numbers.tried (moves.stands base h stands).safe moves.stable (omega arith) in
      subst (λ (g : Geometry). CrashNow g (line_of (places g) old.numbers.first base h) old.numbers.stable new.numbers.tried (of_log new.log) (of_backing new.backing)) moves.geometry
      (subst (λ (k : ℕ). CrashNow new.geometry (line_of (places new.geometry) k base h) old.numbers.stable new.numbers.tried (of_log new.log) (of_backing new.backing)) moves.first crash)

  module _ {T : Type 0} (place : ℕ) (old new : EngineContent L B) (r : Result T Which) (so_far : IsSettling place old new) where
    pub settled : OnOk r (new.down ≡ None) → IfErr r (λ which. new.down ≡ Some which) → IsSettled of_log of_backing old new r
    settled up down = record {
      moves = so_far.draining.moves;
      logged = so_far.logged;
      crash = settled_crash old new so_far.draining.moves;
      ok = up;
      failed = down;
      log_cause = so_far.draining.causes.log_cause;
      backing_cause = so_far.draining.causes.backing_cause;
    }

  -- the answer of the turn that failed, passed on
  pub settled_failed : {T : Type 0} (place : ℕ) (old mid new : EngineContent L B) (r : Result Turn Which) (out : Result T Which) (which other : Which) → r ≡ Err which → out ≡ Err other → other ≡ which
      → IsTurn of_log of_backing mid new r → IsSettling place old new → IsSettled of_log of_backing old new out
  settled_failed {T} place old mid new r out which other failed is same did so_far =
      let failure : Result T Which = Err which in
      subst (λ (o : Result T Which). IsSettled of_log of_backing old new o) (sym (is ∙ ap (λ (w : Which). Err w) same))
      (settled place old new failure so_far tt (down_by mid new r which failed did))

  module _ (place : ℕ) (old new : EngineContent L B) (so_far : IsSettling place old new) where
    pub one_sync : HasSlot old place → IsOneSync of_log old new
    one_sync slot = let short = so_far.short slot in record { backing = short.backing; syncs = short.syncs }

    -- where that segment is stable in the end
    pub settled_covers : place % places old.geometry ≡ 0 → last_below old place ≤ new.numbers.stable → place ≤ stable_places new
    settled_covers whole stable =
        covers new place (subst (λ (g : Geometry). place % places g ≡ 0) (sym so_far.draining.moves.geometry) whole) (omega (arith, stable, last_same place old new so_far))

  -- where all places below this one were stable
  pub was_stable : (place : ℕ) (e : EngineContent L B) → IsEngine of_log of_backing e → place ≤ stable_places e → last_below e place ≤ e.numbers.stable
  was_stable place e engine covered = elim (cases_lt e.numbers.stable (last_below e place)) [
    | inl unstable ↦ absurd (uncovered e place engine.ordered unstable covered)
    | inr stable ↦ stable
  ]
