-- What a step did, with the answer of the turn that made it.
use Rattle.std.proofs.Common.{ℕ, ◌≡◌, List, None, Result, Ok, Err, Bool, false, IsTrue, refl, ap, sym, ◌∙◌, subst}
use Rattle.wb_geometry.specs.Device.{State, CountsFaults, CountsFaultsWhere, IsDevice}
use Rattle.wb_geometry.specs.declared.which.Which.{Which}
use Rattle.wb_geometry.specs.declared.which.Which.TheVariants.{Log, Backing}
use Rattle.wb_geometry.proofs.Moments.{only_read}
use Rattle.wb_log.specs.Writing.{WritesSegment}
use Rattle.wb_header.specs.Text.{TextBlock}
use Rattle.wb_geometry.specs.declared.geometry.Geometry.{Geometry}
use Rattle.wb_engine.specs.Content.{EngineContent}
use Rattle.wb_engine.specs.Stepping.{LogsNext, WritesBack, PutsRecord, IsStep, Says}
use Rattle.wb_engine.specs.declared.turning.Turn.{Turn}
use Rattle.wb_engine.proofs.Backed.{unbacked}

-- ---- results of other types

-- an answer of either kind, with another value at `Ok`
pub data IsAlike {T U : Type 0} : Result T Which → Result U Which → Type 0 where
  BothOk : (x : T) (y : U) → IsAlike (Ok x) (Ok y)
  BothErr : (which : Which) → IsAlike (Err which) (Err which)

counts_alike : {T U : Type 0} {before now : ℕ} {r : Result T Which} {s : Result U Which} → IsAlike r s → CountsFaults before now r → CountsFaults before now s
counts_alike (BothOk x y) counts = record { later = counts.later; failed = tt; kept = counts.kept }
counts_alike (BothErr which) counts = record { later = counts.later; failed = counts.failed; kept = tt }

segment_alike : {T U : Type 0} {g : Geometry} {id : ℕ} {blocks : List TextBlock} {old new : State} {r : Result T Which} {s : Result U Which} → IsAlike r s → WritesSegment g id blocks old new r
    → WritesSegment g id blocks old new s
segment_alike (BothOk x y) is = record { text = is.text; is = is.is; ok = is.ok; partly = is.partly; crash = is.crash }
segment_alike (BothErr which) is = record { text = is.text; is = is.is; ok = tt; partly = is.partly; crash = is.crash }

counts_where : {P Q : Type 0} {before now : ℕ} → (Q → P) → (P → Q) → CountsFaultsWhere P before now → CountsFaultsWhere Q before now
counts_where back there counts = record { later = counts.later; failed = λ q. counts.failed (back q); kept = λ not. counts.kept (λ p. not (there p)) }

-- such answers are the same `Err`
err_alike : {T U : Type 0} {r : Result T Which} {s : Result U Which} (which : Which) → IsAlike r s → r ≡ Err which → s ≡ Err which
err_alike which (BothOk x y) is = absurd (cc)
err_alike which (BothErr other) is = let same : other ≡ which = cc in ap (λ (w : Which). Err w) same

flipped : {T U : Type 0} {r : Result T Which} {s : Result U Which} → IsAlike r s → IsAlike s r
flipped (BothOk x y) = BothOk y x
flipped (BothErr which) = BothErr which

module _ {L B T U : Type 0} {of_log : L → State} {of_backing : B → State} {old new : EngineContent L B} where
  pub logs_alike : {r : Result T Which} {s : Result U Which} → IsAlike r s → LogsNext of_log of_backing old new r → LogsNext of_log of_backing old new s
  logs_alike (BothOk x y) does = record {
    writes = λ front rest is. segment_alike (BothOk x y) (does.writes front rest is);
    ok = does.ok;
    failed = tt;
    cause = counts_alike (BothOk x y) does.cause;
    syncs = does.syncs;
    reads = does.reads;
    backing = does.backing;
  }
  logs_alike (BothErr which) does = record {
    writes = λ front rest is. segment_alike (BothErr which) (does.writes front rest is);
    ok = tt;
    failed = does.failed;
    cause = counts_alike (BothErr which) does.cause;
    syncs = does.syncs;
    reads = does.reads;
    backing = does.backing;
  }

  pub backs_alike : {r : Result T Which} {s : Result U Which} → IsAlike r s → WritesBack of_log of_backing old new r
      → WritesBack of_log of_backing old new s
  backs_alike (BothOk x y) does = record {
    planned = does.planned;
    untouched = λ is. absurd (cc);
    plan = λ not. does.plan (λ is. absurd (cc));
    partly = λ is. absurd (cc);
    content = does.content;
    durable = does.durable;
    syncs = does.syncs;
    not_synced = tt;
    only_read = does.only_read;
    log_reads = does.log_reads;
    reads = does.reads;
    memory = does.memory;
    ok = does.ok;
    failed = tt;
    log_cause = counts_where (err_alike Log (BothOk y x)) (err_alike Log (BothOk x y)) does.log_cause;
    backing_cause = counts_where (err_alike Backing (BothOk y x)) (err_alike Backing (BothOk x y)) does.backing_cause;
  }
  backs_alike (BothErr which) does = record {
    planned = does.planned;
    untouched = λ is. does.untouched (err_alike Log (BothErr which) is);
    plan = λ not. does.plan (λ is. not (err_alike Log (BothErr which) is));
    partly = λ is. does.partly (err_alike Backing (BothErr which) is);
    content = tt;
    durable = tt;
    syncs = tt;
    not_synced = does.not_synced;
    only_read = does.only_read;
    log_reads = does.log_reads;
    reads = does.reads;
    memory = does.memory;
    ok = tt;
    failed = does.failed;
    log_cause = counts_where (err_alike Log (BothErr which)) (err_alike Log (BothErr which)) does.log_cause;
    backing_cause = counts_where (err_alike Backing (BothErr which)) (err_alike Backing (BothErr which)) does.backing_cause;
  }

  pub records_alike : {r : Result T Which} {s : Result U Which} → IsAlike r s → PutsRecord of_log of_backing old new r → PutsRecord of_log of_backing old new s
  records_alike (BothOk x y) does = record {
    content = does.content;
    left = does.left;
    durable = does.durable;
    ok = does.ok;
    failed = tt;
    cause = counts_alike (BothOk x y) does.cause;
    syncs = does.syncs;
    not_synced = tt;
    reads = does.reads;
    backing = does.backing;
  }
  records_alike (BothErr which) does = record {
    content = tt;
    left = does.left;
    durable = tt;
    ok = tt;
    failed = does.failed;
    cause = counts_alike (BothErr which) does.cause;
    syncs = tt;
    not_synced = does.not_synced;
    reads = does.reads;
    backing = does.backing;
  }

-- the answers of a step and of the turn that passes its `Err` on
pub passed_on : {T U : Type 0} (r : Result T Which) (s : Result U Which) (which other : Which) → r ≡ Err which → s ≡ Err other → other ≡ which → IsAlike r s
passed_on {T} {U} r s which other first second same =
    subst (λ (t : Result T Which). IsAlike t s) (sym first)
    (subst (λ (t : Result U Which). IsAlike {T = T} (Err which) t) (sym (second ∙ ap (λ (w : Which). Err w) same)) (BothErr which))

pub answered : {T U : Type 0} (r : Result T Which) (x : T) (y : U) → r ≡ Ok x → IsAlike r (Ok y)
answered {T} {U} r x y is = subst (λ (t : Result T Which). IsAlike t (Ok y)) (sym is) (BothOk x y)

-- at an `Err` nothing is said of the turn
pub says_nothing : (is : Turn) (r : Result Turn Which) (which : Which) → r ≡ Err which → Says is r
says_nothing is r which failed = subst (Says is) (sym failed) tt

-- ---- tests

pub not_true : {P : Type 0} {b : Bool} → (P → IsTrue b) → b ≡ false → P → ⊥
not_true tests unset holds = let yes = tests holds in absurd (cc)

-- ---- a turn in which there was nothing to do
pub idle : {L B : Type 0} {of_log : L → State} {of_backing : B → State} (e : EngineContent L B) → IsDevice (of_log e.log) → IsDevice (of_backing e.backing) → e.down ≡ None → IsStep of_log of_backing e e
idle {of_log = of_log} e log_device device up = unbacked e e log_device device up (only_read (of_log e.log)) (record { geometry = refl; numbers = refl; absorbed = refl; memory = refl }) refl
