-- How an engine goes on, from one step to the next.
use Rattle.std.proofs.Common.{ℕ, ◌≡◌, ◌⊎◌, ◌+◌, ◌≤◌, List, [], ◌∷◌, ◌++◌, Option, Some, None, IfSome, Result, Ok, Err, inl, inr, refl, ap, sym, ◌∙◌, subst, arith, append-nil, append_assoc, length-append}
use Rattle.std.proofs.lemmas.Option.{same_Some, none-some}
use Rattle.std.proofs.lemmas.List.Elements.{All-contains_itself, Contains-append_left}
use Rattle.wb_geometry.specs.Image.{Image}
use Rattle.wb_geometry.specs.History.{HistoryEntry, Void, PutsPartly}
use Rattle.wb_geometry.specs.Device.{State, ContentPasses, CountsFaultsWhere, IsSameDevice, OnlyRead}
use Rattle.wb_geometry.specs.declared.which.Which.{Which}
use Rattle.wb_geometry.specs.declared.which.Which.TheVariants.{Log, Backing}
use Rattle.wb_geometry.proofs.Histories.{puts_then}
use Rattle.wb_geometry.proofs.Moments.{content_same, content_joined, same_device, same_device_trans}
use Rattle.wb_script.specs.Transcripts.{is_failure}
use Rattle.wb_script.specs.declared.transcript.Line.TheVariants.{Failed}
use Rattle.wb_crash.specs.declared.numbers.Numbers.{Numbers}
use Rattle.wb_engine.specs.Content.{EngineContent}
use Rattle.wb_engine.specs.Standing.{Standing, Told, IsSynced, IsSameEngine}
use Rattle.wb_engine.specs.Stepping.{Moves}
use Rattle.wb_engine.specs.Opening.{IsOnly}
use Rattle.wb_engine.proofs.Among.{puts_among}
use Rattle.wb_engine.proofs.Filling.{IsFilling}
use Rattle.std.proofs.lemmas.List.{length-replicate}
use Rattle.wb_serve.specs.Session.{RoseBy}
use Rattle.wb_serve.specs.Playing.{IsSameCache, FaultsWent, HasMoved, HasCome, voids}

-- ---- a base image

only_one : (content : Option Image) → (base : Image) × ((y : Image) → content ≡ Some y → y ≡ base)
only_one (Some x) = (x, λ y is. same_Some y x (sym is))
only_one None = ([], λ y is. absurd (cc))

-- an image that is the only one that a device tells, if it tells any
pub a_base : (s : State) → (base : Image) × IsOnly base (Told s)
a_base s = let by = only_one s.content in (by.0, record { only = by.1 })

-- the one that it tells
pub told_base : (s : State) (x : Image) → s.content ≡ Some x → IsOnly x (Told s)
told_base s x is = record { only = λ y told. same_Some y x (sym told ∙ is) }

-- ---- entries that are put

pub puts_none : (es : List HistoryEntry) (x : Image) → PutsPartly es x x
puts_none es x = record { size = refl; each = λ i. inl refl }

puts_longer : (es more : List HistoryEntry) (x y : Image) → PutsPartly es x y → PutsPartly (es ++ more) x y
puts_longer es more x y put = puts_among es (es ++ more) x y (λ entry i t has is. Contains-append_left es more entry has) put

puts_on : (es more : List HistoryEntry) (x y z : Image) → PutsPartly es x y → PutsPartly (es ++ more) y z → PutsPartly (es ++ more) x z
puts_on es more x y z first second = puts_then (es ++ more) (es ++ more) x y z (All-contains_itself (es ++ more)) (puts_longer es more x y first) second

-- ---- the device that is down

stays : (a b c : Option Which) → IfSome a (λ which. b ≡ Some which) → IfSome b (λ which. c ≡ Some which) → IfSome a (λ which. c ≡ Some which)
stays None b c first second = tt
stays (Some which) b c first second = subst (λ (o : Option Which). IfSome o (λ w. c ≡ Some w)) first second

still_down : (a b : Option Which) → b ≡ a → IfSome a (λ which. b ≡ Some which)
still_down None b is = tt
still_down (Some which) b is = is

was_up : (a b : Option Which) → a ≡ None → IfSome a (λ which. b ≡ Some which)
was_up a b up = subst (λ (o : Option Which). IfSome o (λ which. b ≡ Some which)) (sym up) tt

-- the one by which it is down stays that
pub down_stays : {a b : Option Which} (device : Which) → IfSome a (λ which. b ≡ Some which) → a ≡ Some device → b ≡ Some device
down_stays {a} {b} device kept down = subst (λ (o : Option Which). IfSome o (λ which. b ≡ Some which)) down kept

-- a device is the one, or isn't
is_by : (o : Option Which) (device : Which) → (o ≡ Some device) ⊎ (o ≡ Some device → ⊥)
is_by None device = inr (λ is. absurd (cc))
is_by (Some Log) Log = inl refl
is_by (Some Log) Backing = inr (λ is. absurd (cc))
is_by (Some Backing) Log = inr (λ is. absurd (cc))
is_by (Some Backing) Backing = inl refl

-- ---- the faults of a device

rose_by_both : (before mid now m n : ℕ) → RoseBy m before mid → RoseBy n mid now → RoseBy (m + n) before now
rose_by_both before mid now m n first second = omega arith

faults_then : {device : Which} {m n : ℕ} {a b c : Option Which} {before mid now : ℕ} → IfSome b (λ which. c ≡ Some which) → FaultsWent device m a b before mid → FaultsWent device n b c mid now
    → FaultsWent device (m + n) a c before now
faults_then {device} {m} {n} {a} {b} {c} {before} {mid} {now} kept first second = record {
  later = omega (arith, first.later, second.later);
  failed = rose_by_both before mid now m n first.failed second.failed;
  fine = λ none up. second.fine (omega (arith, none)) up ∙ first.fine (omega (arith, none)) (λ down. up (down_stays device kept down));
  goes_down = λ up down. elim (is_by b device) [
    | inl by ↦ let went = first.goes_down up by in let more = second.failed in omega (arith, went, more)
    | inr not ↦ let failed = first.failed in let went = second.goes_down not down in omega (arith, failed, went)
  ];
}

-- where the engine doesn't go down, only reads fail
faults_read : {device : Which} {fails : ℕ} {a b : Option Which} {before now : ℕ} → b ≡ a → before ≤ now → RoseBy fails before now → (fails ≡ 0 → now ≡ before) → FaultsWent device fails a b before now
faults_read same later failed fine = record {
  later = later;
  failed = failed;
  fine = λ none up. fine none;
  goes_down = λ up down. absurd (up (sym same ∙ down));
}

-- nothing failed
faults_none : {device : Which} {a b : Option Which} {before now : ℕ} → b ≡ a → now ≡ before → FaultsWent device 0 a b before now
faults_none same kept = faults_read same (omega (arith, kept)) (omega (arith, kept)) (λ none. kept)

-- a read answered so

pub faults_fine : {T : Type 0} {a b : Option Which} {before now : ℕ} (device : Which) (r : Result T Which) (x : T) → r ≡ Ok x → b ≡ a → CountsFaultsWhere (r ≡ Err device) before now → FaultsWent device 0 a b before now
faults_fine device r x is same counts = faults_none same (counts.kept (λ failed. let both : Ok x ≡ Err device = sym is ∙ failed in cc))

pub faults_failed : {T : Type 0} {a b : Option Which} {before now : ℕ} (device failed : Which) (r : Result T Which) → r ≡ Err failed → b ≡ a → CountsFaultsWhere (r ≡ Err device) before now
    → FaultsWent device (is_failure device (Failed failed)) a b before now
faults_failed Log Log r is same counts = faults_read same counts.later (counts.failed is) (λ none. absurd (cc))
faults_failed Log Backing r is same counts = faults_none same (counts.kept (λ failed. let both : Err Backing ≡ Err Log = sym is ∙ failed in cc))
faults_failed Backing Log r is same counts = faults_none same (counts.kept (λ failed. let both : Err Log ≡ Err Backing = sym is ∙ failed in cc))
faults_failed Backing Backing r is same counts = faults_read same counts.later (counts.failed is) (λ none. absurd (cc))

-- no read failed, and the engine may have gone down
faults_turn : {device : Which} {a b : Option Which} {before now : ℕ} → CountsFaultsWhere (b ≡ Some device) before now → FaultsWent device 0 a b before now
faults_turn counts = record {
  later = counts.later;
  failed = let later = counts.later in omega (arith, later);
  fine = λ none up. counts.kept up;
  goes_down = λ up down. counts.failed down;
}

module _ {L B : Type 0} where
  same_cache_trans : {e f g : EngineContent L B} → IsSameCache e f → IsSameCache f g → IsSameCache e g
  same_cache_trans first second = record { geometry = second.geometry ∙ first.geometry; first = second.first ∙ first.first }

module _ {L B : Type 0} {of_log : L → State} {of_backing : B → State} where
  -- ---- one step after others

  pub moved_then : {e f g : EngineContent L B} {xs ys : List HistoryEntry} {k l m n : ℕ}
      → HasMoved of_log of_backing e f xs k m → HasMoved of_log of_backing f g ys l n
      → HasMoved of_log of_backing e g (xs ++ ys) (k + l) (m + n)
  moved_then {e} {f} {g} {xs} {ys} first second = record {
    stands = λ base h is.
        subst (λ (es : List HistoryEntry). Standing of_log of_backing g base es) (append_assoc h xs ys) (second.stands base (h ++ xs) (first.stands base h is));
    changed = λ base h is.
        subst (λ (es : List HistoryEntry). ContentPasses (PutsPartly es) (of_backing e.backing) (of_backing g.backing)) (append_assoc h xs ys)
        (content_joined (λ x y z told one two. puts_on (h ++ xs) ys x y z one two) (first.changed base h is) (second.changed base (h ++ xs) (first.stands base h is)));
    synced = λ is. second.synced (first.synced is);
    same_log = same_device_trans first.same_log second.same_log;
    same_backing = same_device_trans first.same_backing second.same_backing;
    kept = same_cache_trans first.kept second.kept;
    absorbed = omega (arith, first.absorbed, second.absorbed, length-append xs ys);
    stable = omega (arith, first.stable, second.stable);
    log_faults = faults_then second.stays_down first.log_faults second.log_faults;
    backing_faults = faults_then second.stays_down first.backing_faults second.backing_faults;
    stays_down = stays e.down f.down g.down first.stays_down second.stays_down;
    still = λ device down. second.still device (down_stays device first.stays_down down) ∙ first.still device down;
  }

  pub come_more : {start e f : EngineContent L B} {h xs : List HistoryEntry} {k l m n : ℕ}
      → HasCome of_log of_backing start e h k m → HasMoved of_log of_backing e f xs l n
      → HasCome of_log of_backing start f (h ++ xs) (k + l) (m + n)
  come_more {start} {e} {f} {h} {xs} come moved = record {
    places = omega (arith, come.places, moved.absorbed, length-append h xs);
    stands = λ base only tells. moved.stands base h (come.stands base only tells);
    changed = λ tells.
        let base = a_base (of_backing start.backing) in
        content_joined (λ x y z told one two. puts_on h xs x y z one two) (come.changed tells) (moved.changed base.0 h (come.stands base.0 base.1 tells));
    synced = moved.synced come.synced;
    same_log = same_device_trans come.same_log moved.same_log;
    same_backing = same_device_trans come.same_backing moved.same_backing;
    kept = same_cache_trans come.kept moved.kept;
    log_faults = faults_then moved.stays_down come.log_faults moved.log_faults;
    backing_faults = faults_then moved.stays_down come.backing_faults moved.backing_faults;
  }

  -- ---- the steps

  -- none
  pub moved_none : (e : EngineContent L B) → HasMoved of_log of_backing e e [] 0 0
  moved_none e = record {
    stands = λ base h is. subst (λ (es : List HistoryEntry). Standing of_log of_backing e base es) (sym (append-nil h)) is;
    changed = λ base h is. content_same (λ x told. puts_none (h ++ []) x) refl;
    synced = λ is. is;
    same_log = same_device (of_log e.log);
    same_backing = same_device (of_backing e.backing);
    kept = record { geometry = refl; first = refl };
    absorbed = omega arith;
    stable = omega arith;
    log_faults = faults_none refl refl;
    backing_faults = faults_none refl refl;
    stays_down = still_down e.down e.down refl;
    still = λ device down. refl;
  }

  -- a turn
  pub moved_turn : {e f : EngineContent L B} → e.down ≡ None → Moves of_log of_backing e f
      → CountsFaultsWhere (f.down ≡ Some Log) (of_log e.log).faults (of_log f.log).faults → CountsFaultsWhere (f.down ≡ Some Backing) (of_backing e.backing).faults (of_backing f.backing).faults
      → HasMoved of_log of_backing e f [] 0 0
  moved_turn {e} {f} up moves log_faults backing_faults = record {
    stands = λ base h is. subst (λ (es : List HistoryEntry). Standing of_log of_backing f base es) (sym (append-nil h)) (moves.stands base h is);
    changed = λ base h is. subst (λ (es : List HistoryEntry). ContentPasses (PutsPartly es) (of_backing e.backing) (of_backing f.backing)) (sym (append-nil h)) (moves.changed base h is);
    synced = moves.synced;
    same_log = moves.same_log;
    same_backing = moves.same_backing;
    kept = record { geometry = moves.geometry; first = moves.first };
    absorbed = let kept = moves.absorbed in omega (arith, kept);
    stable = moves.stable;
    log_faults = faults_turn log_faults;
    backing_faults = faults_turn backing_faults;
    stays_down = was_up e.down f.down up;
    still = λ device down. absurd (none-some device (sym up ∙ down));
  }

  -- an entry that comes, for which neither device is called
  pub moved_entry : {e f : EngineContent L B} (entry : HistoryEntry)
      → ((base : Image) (history : List HistoryEntry) → Standing of_log of_backing e base history → Standing of_log of_backing f base (history ++ entry ∷ []))
      → (IsSynced of_log of_backing e → IsSynced of_log of_backing f) → f.log ≡ e.log → f.backing ≡ e.backing → IsSameCache e f → f.absorbed ≡ e.absorbed + 1
      → f.numbers.stable ≡ e.numbers.stable → f.down ≡ e.down → HasMoved of_log of_backing e f (entry ∷ []) 0 0
  moved_entry {e} {f} entry stands synced same_log same_backing kept absorbed same_stable down = record {
    stands = stands;
    changed = λ base h is. content_same (λ x told. puts_none (h ++ entry ∷ []) x) (ap (λ (b : B). (of_backing b).content) same_backing);
    synced = synced;
    same_log = subst (λ (l : L). IsSameDevice (of_log e.log) (of_log l)) (sym same_log) (same_device (of_log e.log));
    same_backing = subst (λ (b : B). IsSameDevice (of_backing e.backing) (of_backing b)) (sym same_backing) (same_device (of_backing e.backing));
    kept = kept;
    absorbed = omega (arith, absorbed);
    stable = omega (arith, same_stable);
    log_faults = faults_none down (ap (λ (l : L). (of_log l).faults) same_log);
    backing_faults = faults_none down (ap (λ (b : B). (of_backing b).faults) same_backing);
    stays_down = still_down e.down f.down down;
    still = λ device by. same_stable;
  }

  -- a read, which may have failed
  pub moved_read : {e f : EngineContent L B} {log_fails backing_fails : ℕ}
      → ((base : Image) (history : List HistoryEntry) → Standing of_log of_backing e base history → Standing of_log of_backing f base history)
      → (IsSynced of_log of_backing e → IsSynced of_log of_backing f) → IsSameEngine e f → OnlyRead (of_log e.log) (of_log f.log) → OnlyRead (of_backing e.backing) (of_backing f.backing)
      → FaultsWent Log log_fails e.down f.down (of_log e.log).faults (of_log f.log).faults
      → FaultsWent Backing backing_fails e.down f.down (of_backing e.backing).faults (of_backing f.backing).faults
      → HasMoved of_log of_backing e f [] log_fails backing_fails
  moved_read {e} {f} stands synced same log_read backing_read log_faults backing_faults = record {
    stands = λ base h is. subst (λ (es : List HistoryEntry). Standing of_log of_backing f base es) (sym (append-nil h)) (stands base h is);
    changed = λ base h is. content_same (λ x told. puts_none (h ++ []) x) backing_read.content;
    synced = synced;
    same_log = log_read.same;
    same_backing = backing_read.same;
    kept = record { geometry = same.geometry; first = ap (λ (n : Numbers). n.first) same.numbers };
    absorbed = let kept = same.absorbed in omega (arith, kept);
    stable = let still = ap (λ (n : Numbers). n.stable) same.numbers in omega (arith, still);
    log_faults = log_faults;
    backing_faults = backing_faults;
    stays_down = still_down e.down f.down same.down;
    still = λ device down. ap (λ (n : Numbers). n.stable) same.numbers;
  }

  -- places that a client fills, for which neither device is called
  pub moved_filling : {e f : EngineContent L B} (client count : ℕ) → IsFilling of_log of_backing client e f count → HasMoved of_log of_backing e f (voids client count) 0 0
  moved_filling {e} {f} client count fill = record {
    stands = fill.stands;
    changed = λ base h is. content_same (λ x told. puts_none (h ++ voids client count) x) (ap (λ (b : B). (of_backing b).content) fill.kept.backing);
    synced = fill.synced;
    same_log = subst (λ (l : L). IsSameDevice (of_log e.log) (of_log l)) (sym fill.kept.log) (same_device (of_log e.log));
    same_backing = subst (λ (b : B). IsSameDevice (of_backing e.backing) (of_backing b)) (sym fill.kept.backing) (same_device (of_backing e.backing));
    kept = record { geometry = fill.kept.geometry; first = fill.first };
    absorbed = omega (arith, fill.absorbed, length-replicate count (Void client));
    stable = let same = fill.stable in omega (arith, same);
    log_faults = faults_none fill.kept.down (ap (λ (l : L). (of_log l).faults) fill.kept.log);
    backing_faults = faults_none fill.kept.down (ap (λ (b : B). (of_backing b).faults) fill.kept.backing);
    stays_down = still_down e.down f.down fill.kept.down;
    still = λ device down. fill.stable;
  }
