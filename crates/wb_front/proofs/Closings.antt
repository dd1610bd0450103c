-- What a front leaves whose engine is closed.
use Rattle.std.proofs.Common.{◌≡◌, ◌≢◌, ◌⊎◌, inl, inr, ℕ, ◌+◌, ◌-◌, ◌*◌, ◌/◌, ◌^◌, ◌<◌, ◌≤◌, min, List, [], ◌∷◌, ◌++◌, length, length-append, take, drop, set, slice_index_or, Bool, true, refl, sym, ap, ◌∙◌, subst, arith, zero, suc, Option, Some, None}
use Rattle.std.specs.Prelude.{IfSome, slice_get, ◌↔◌}
use Rattle.std.specs.List.{All}
use Rattle.std.proofs.Math.Nat.{div-lt_iff_lt-mul, eq-or-lt_of_le}
use Rattle.std.proofs.Math.Seq.{take-append_seam}
use Rattle.std.proofs.lemmas.List.Elements.{All-nil, All-cons, All-append, All-head, All-tail, All-contains_itself}
use Rattle.wb_geometry.specs.Image.{Image}
use Rattle.wb_geometry.specs.Device.{State, CountsFaultsWhere, ContentPasses, NothingPending}
use Rattle.wb_geometry.specs.History.{HistoryEntry, client_of, after, PutsPartly}
use Rattle.wb_geometry.specs.Layout.{places}
use Rattle.wb_geometry.specs.Line.{Line, line_of}
use Rattle.wb_geometry.specs.declared.geometry.Geometry.{Geometry}
use Rattle.wb_geometry.specs.declared.which.Which.{Which}
use Rattle.wb_geometry.specs.declared.which.Which.TheVariants.{Log, Backing}
use Rattle.wb_geometry.proofs.Histories.{puts_then}
use Rattle.wb_geometry.proofs.Geometries.{places_few}
use Rattle.wb_super.specs.Superblock.{SuperText, record_of}
use Rattle.wb_crash.specs.Chain.{IsChain}
use Rattle.wb_crash.specs.Crash.{RecoversBetween, CrashNow}
use Rattle.wb_crash.proofs.Crash.{sums_between}
use Rattle.wb_steps.specs.Faults.{IsPartwiseAtMost}
use Rattle.wb_steps.specs.Views.{IsPrefix, placed}
use Rattle.wb_steps.specs.declared.view.Faults.{Faults}
use Rattle.wb_steps.specs.declared.view.View.{View}
use Rattle.atomic_table.specs.Seated.{TableId}
use Rattle.wb_intake.specs.Belongs.{Saw}
use Rattle.wb_intake.specs.Carried.{Carried}
use Rattle.wb_intake.specs.Passes.{pass_name, view_of, drain_view}
use Rattle.wb_intake.specs.Sights.{IsBehind, AreAlike}
use Rattle.wb_intake.specs.declared.pass.Pass.{Pass}
use Rattle.wb_engine.specs.Closing.{last_id}
use Rattle.wb_engine.specs.Content.{EngineContent, IsEngine}
use Rattle.wb_engine.specs.Settling.{stable_places}
use Rattle.wb_engine.specs.Standing.{Standing, Told, IsSynced, line}
use Rattle.wb_front.specs.Words.{faults_of, down_part, reads_part, HasFailed, TellsFaults}
use Rattle.wb_front.specs.Joined.{CoreContent, drained, IsJoined}
use Rattle.wb_front.specs.Moving.{HasRead}
use Rattle.wb_front.specs.Closing.{last_segment, IsLegalFor, IsFinished, IsReached, IsShown, HasLooked}
use Rattle.wb_front.specs.declared.closing.Finished.{Finished}
use Rattle.wb_steps.proofs.Fitting.{parts_trans}
use Rattle.wb_front.proofs.Words.{log_down_is, backing_down_is, is_log_down, is_backing_down}

-- what closing an engine leaves
pub record Closes {L B : Type 0} (of_log : L → State) (of_backing : B → State) (e : EngineContent L B) (f : Finished L B) : Type 0 where
  pub content : f.fault ≡ None → (base : Image) (history : List HistoryEntry) → Standing of_log of_backing e base history → (image : Image) → Told (of_backing f.backing) image → image ≡ after base history
  pub empty : f.fault ≡ None → (base : Image) (history : List HistoryEntry) → Standing of_log of_backing e base history → (image : Image) → Told (of_log f.log) image → IsChain e.geometry image []
  pub recorded : f.fault ≡ None → (base : Image) (history : List HistoryEntry) → Standing of_log of_backing e base history → (image : Image) → Told (of_log f.log) image → (record_of image ≡ last_id e) × SuperText image e.geometry 1
  pub crash : (base : Image) (history : List HistoryEntry) → Standing of_log of_backing e base history → CrashNow e.geometry (line e base history) e.numbers.stable (last_id e) (of_log f.log) (of_backing f.backing)
  pub changed : (base : Image) (history : List HistoryEntry) → Standing of_log of_backing e base history → ContentPasses (PutsPartly history) (of_backing e.backing) (of_backing f.backing)
  pub durable : f.fault ≡ None → IsSynced of_log of_backing e → NothingPending (of_log f.log) × NothingPending (of_backing f.backing)
  pub was_down : IfSome e.down (λ which. (f.fault ≡ Some which) × (f.log ≡ e.log) × (f.backing ≡ e.backing))
  pub log_cause : e.down ≡ None → CountsFaultsWhere (f.fault ≡ Some Log) (of_log e.log).faults (of_log f.log).faults
  pub backing_cause : e.down ≡ None → CountsFaultsWhere (f.fault ≡ Some Backing) (of_backing e.backing).faults (of_backing f.backing).faults

some-ne-none : (w : Which) → None ≡ Some w → ⊥
some-ne-none w is = let e : 0 ≡ 1 = ap (λ (x : Option Which). count x) is in absurd (omega (arith, e))
  where
    count : Option Which → ℕ
    count None = 0
    count (Some x) = 1

none_there : (p : Pass) → None ≡ Some p → ⊥
none_there p is = let e : 0 ≡ 1 = ap (λ (x : Option Pass). count x) is in absurd (omega (arith, e))
  where
    count : Option Pass → ℕ
    count None = 0
    count (Some x) = 1

-- A device's flag says whether its faults rose since the opening: the engine was down by it, reads of it failed, or it failed while
-- the engine was closed.
module _ (which : Which) (g : Faults) (flag : Bool) (opening before now : ℕ) (Fresh : Type 0)
    (tells : TellsFaults which g opening before) (counts : CountsFaultsWhere Fresh before now)
    (raised : flag ≡ true → Fresh ⊎ HasFailed which g) (fresh : Fresh → flag ≡ true) (failed : HasFailed which g → flag ≡ true) where
  pub flag_counts : CountsFaultsWhere (flag ≡ true) opening now
  flag_counts = record {
    later = let a = tells.cause.later in let b = counts.later in omega (arith, a, b);
    failed = λ h. elim (raised h) [
      | inl new ↦ let rose = counts.failed new in let a = tells.cause.later in omega (arith, rose, a)
      | inr had ↦ let rose = tells.cause.failed had in let b = counts.later in omega (arith, rose, b)
    ];
    kept = λ none. counts.kept (λ x. none (fresh x)) ∙ tells.cause.kept (λ x. none (failed x));
  }

  -- what a pass has seen of the device is no more than that
  pub seen_failed : (s : Faults) → down_part which s ≤ down_part which g → reads_part which s ≤ reads_part which g → HasFailed which s → flag ≡ true
  seen_failed s downs reads h = elim h [
    | inl d ↦ failed (inl (omega (arith, d, downs)))
    | inr r ↦ failed (inr (omega (arith, r, reads)))
  ]

  pub seen_reads : (s : Faults) → reads_part which s ≤ reads_part which g → min (opening + reads_part which s) (2 ^ 64 - 1) ≤ now
  seen_reads s reads = let a = tells.reads in let b = counts.later in omega (arith, a, b, reads)

-- ---- the parts of either device

down_part_is : (which : Which) (d : Option Which) (a b : ℕ) → 1 ≤ down_part which (faults_of d a b) → d ≡ Some which
down_part_is Log d a b some = log_down_is d a b some
down_part_is Backing d a b some = backing_down_is d a b some

is_down_part : (which : Which) (d : Option Which) (a b : ℕ) → d ≡ Some which → down_part which (faults_of d a b) ≡ 1
is_down_part Log d a b is = is_log_down d a b is
is_down_part Backing d a b is = is_backing_down d a b is

-- The device failed while the engine, which was up, was closed.
abbrev IsFresh : (was now : Option Which) → Which → Type 0
IsFresh was now which = (was ≡ None) × (now ≡ Some which)

-- the engine is still down by the device by which it was down
abbrev StaysDown : (was now : Option Which) → Type 0
StaysDown was now = IfSome was (λ which. now ≡ Some which)

module _ (which : Which) (was now : Option Which) (g : Faults) (flag : Bool) (stays : StaysDown was now) (is : g ≡ faults_of was g.log_reads g.backing_reads)
    (says : flag ≡ true → (1 ≤ reads_part which g) ⊎ (now ≡ Some which)) (by_reads : 1 ≤ reads_part which g → flag ≡ true) (by_fault : now ≡ Some which → flag ≡ true) where
  raised_if : (d : Option Which) → was ≡ d → now ≡ Some which → IsFresh was now which ⊎ HasFailed which g
  raised_if None up down = inl (up, down)
  raised_if (Some w) had down =
      let still : now ≡ Some w = subst (λ (x : Option Which). IfSome x (λ y. now ≡ Some y)) had stays in
      let one : down_part which g ≡ 1 = ap (down_part which) is ∙ is_down_part which was g.log_reads g.backing_reads (had ∙ sym still ∙ down) in
      inr (inl (omega (arith, one)))

  pub flag_raised : flag ≡ true → IsFresh was now which ⊎ HasFailed which g
  flag_raised h = elim (says h) [ inl reads ↦ inr (inr reads) | inr down ↦ raised_if was refl down ]

  pub flag_failed : HasFailed which g → flag ≡ true
  flag_failed h = elim h [
    | inl d ↦
        let had : was ≡ Some which = down_part_is which was g.log_reads g.backing_reads (subst (λ (f : Faults). 1 ≤ down_part which f) is d) in
        by_fault (subst (λ (x : Option Which). IfSome x (λ y. now ≡ Some y)) had stays)
    | inr r ↦ by_reads r
  ]

-- what a closed device counts, which wasn't called where the engine was down
fresh_counts : {D : Type 0} (count : D → ℕ) (which : Which) (was now : Option Which) (old new : D) (d : Option Which) → was ≡ d
    → (was ≡ None → CountsFaultsWhere (now ≡ Some which) (count old) (count new)) → IfSome was (λ w. new ≡ old) → CountsFaultsWhere (IsFresh was now which) (count old) (count new)
fresh_counts count which was now old new None is up down = let k = up is in record {
  later = k.later;
  failed = λ h. k.failed h.1;
  kept = λ none. k.kept (λ h. none (is, h));
}
fresh_counts {D} count which was now old new (Some w) is up down =
    let same : new ≡ old = subst (λ (x : Option Which). IfSome x (λ y. new ≡ old)) is down in
    let one : count new ≡ count old = ap count same in record {
      later = omega (arith, one);
      failed = λ h. absurd (some-ne-none w (sym h.0 ∙ is));
      kept = λ none. one;
    }

-- a fact of what is there, without the rest of it
weaker_if : (d : Option Which) (P Q : Which → Type 0) → ((w : Which) → P w → Q w) → IfSome d P → IfSome d Q
weaker_if None P Q f h = tt
weaker_if (Some w) P Q f h = f w h

-- places in so many segments are in no more
covered_few : (n covers segments : ℕ) → 1 ≤ n → covers ≤ n * segments → (covers + n - 1) / n ≤ segments
covered_few n covers segments some low =
    let few = (div-lt_iff_lt-mul {k = n} {x = covers + n - 1} {y = segments + 1} some).1 (omega (arith, low, some)) in
    omega (arith, few)

recovers_around : {g : Geometry} {l : Line} {x y : Image} {low high : ℕ} (from until : ℕ) → from ≤ low → high ≤ until → RecoversBetween g l low high x y → RecoversBetween g l from until x y
recovers_around from until below above between = record {
  super = between.super;
  tidy = between.tidy;
  makes = λ sums.
      let made = between.makes (sums_between sums below above) in
      (made.0, omega (arith, below, made.1), omega (arith, above, made.2), made.3);
}

crash_around : {g : Geometry} {l : Line} {log backing : State} {low high : ℕ} (from until : ℕ) → from ≤ low → high ≤ until → CrashNow g l low high log backing → CrashNow g l from until log backing
crash_around from until below above now = record {
  each = λ x y log_left backing_left. recovers_around from until below above (now.each x y log_left backing_left);
}

-- what is said of all is said of the one at this place
at_get : (P : Pass → Type 0) (xs : List Pass) (i : ℕ) (p : Pass) → All P xs → slice_get xs i ≡ Some p → P p
at_get P [] zero p all is = absurd (none_there p is)
at_get P [] (suc i) p all is = absurd (none_there p is)
at_get P (x ∷ xs) zero p all is = subst (λ (y : Option Pass). IfSome y P) is (All-head P x xs all)
at_get P (x ∷ xs) (suc i) p all is = at_get P xs i p (All-tail P x xs all) is

parts_down : (which : Which) (a b : Faults) → IsPartwiseAtMost a b → down_part which a ≤ down_part which b
parts_down Log a b most = most.log_down
parts_down Backing a b most = most.backing_down

parts_reads : (which : Which) (a b : Faults) → IsPartwiseAtMost a b → reads_part which a ≤ reads_part which b
parts_reads Log a b most = most.log_reads
parts_reads Backing a b most = most.backing_reads

-- a flag says what a count says that is the same
pub flag_by : {flag : Bool} {Q : Type 0} (seen counted : ℕ) → seen ≡ counted → ((flag ≡ true) ↔ ((1 ≤ counted) ⊎ Q)) → ((flag ≡ true) ↔ ((1 ≤ seen) ⊎ Q))
flag_by {flag} {Q} seen counted same says = subst (λ (n : ℕ). (flag ≡ true) ↔ ((1 ≤ n) ⊎ Q)) (sym same) says

-- ---- all of it

module _ {L B : Type 0} (of_log : L → State) (of_backing : B → State) (t : Carried) (c : CoreContent L B) (f : Finished L B)
    (j : IsJoined of_log of_backing t c) (sound : IsEngine of_log of_backing c.engine) (closes : Closes of_log of_backing c.engine f)
    (taken : f.places ≡ c.engine.absorbed) (first : f.first ≡ c.engine.numbers.first)
    (log_says : f.log_failed ≡ true → (1 ≤ (drain_view c.drain).seen.fault.log_reads) ⊎ (f.fault ≡ Some Log))
    (log_by_reads : 1 ≤ (drain_view c.drain).seen.fault.log_reads → f.log_failed ≡ true) (log_by_fault : f.fault ≡ Some Log → f.log_failed ≡ true)
    (backing_says : f.backing_failed ≡ true → (1 ≤ (drain_view c.drain).seen.fault.backing_reads) ⊎ (f.fault ≡ Some Backing))
    (backing_by_reads : 1 ≤ (drain_view c.drain).seen.fault.backing_reads → f.backing_failed ≡ true) (backing_by_fault : f.fault ≡ Some Backing → f.backing_failed ≡ true) where
  abbrev g : Faults
  g = (drain_view c.drain).seen.fault

  abbrev pub h : List HistoryEntry
  h = drained c

  stays : StaysDown c.engine.down f.fault
  stays = weaker_if c.engine.down _ (λ w. f.fault ≡ Some w) (λ w x. x.0) closes.was_down

  log_raised : f.log_failed ≡ true → IsFresh c.engine.down f.fault Log ⊎ HasFailed Log g
  log_raised = flag_raised Log c.engine.down f.fault g f.log_failed stays j.fault log_says log_by_reads log_by_fault

  log_fails : HasFailed Log g → f.log_failed ≡ true
  log_fails = flag_failed Log c.engine.down f.fault g f.log_failed stays j.fault log_says log_by_reads log_by_fault

  log_counts : CountsFaultsWhere (IsFresh c.engine.down f.fault Log) (of_log c.engine.log).faults (of_log f.log).faults
  log_counts = fresh_counts (λ (x : L). (of_log x).faults) Log c.engine.down f.fault c.engine.log f.log c.engine.down refl closes.log_cause (weaker_if c.engine.down _ (λ w. f.log ≡ c.engine.log) (λ w x. x.1) closes.was_down)

  backing_raised : f.backing_failed ≡ true → IsFresh c.engine.down f.fault Backing ⊎ HasFailed Backing g
  backing_raised = flag_raised Backing c.engine.down f.fault g f.backing_failed stays j.fault backing_says backing_by_reads backing_by_fault

  backing_fails : HasFailed Backing g → f.backing_failed ≡ true
  backing_fails = flag_failed Backing c.engine.down f.fault g f.backing_failed stays j.fault backing_says backing_by_reads backing_by_fault

  backing_counts : CountsFaultsWhere (IsFresh c.engine.down f.fault Backing) (of_backing c.engine.backing).faults (of_backing f.backing).faults
  backing_counts = fresh_counts (λ (x : B). (of_backing x).faults) Backing c.engine.down f.fault c.engine.backing f.backing c.engine.down refl closes.backing_cause (weaker_if c.engine.down _ (λ w. f.backing ≡ c.engine.backing) (λ w x. x.2) closes.was_down)

  legal : (v : View) → IsShown (drain_view c.drain) v → IsLegalFor of_log of_backing t h (stable_places c.engine) f v
  legal v s = record {
    known = s.known;
    mine = s.mine;
    cursor = s.cursor;
    stable = let low = s.stable in let e = j.stable in omega (arith, low, e);
    log_failed = λ x. seen_failed Log g f.log_failed t.log_faults (of_log c.engine.log).faults (of_log f.log).faults (IsFresh c.engine.down f.fault Log) j.log_faults log_counts log_raised (λ y. log_by_fault y.1) log_fails
        v.seen.fault (parts_down Log v.seen.fault g s.fault) (parts_reads Log v.seen.fault g s.fault) x;
    backing_failed = λ x. seen_failed Backing g f.backing_failed t.backing_faults (of_backing c.engine.backing).faults (of_backing f.backing).faults (IsFresh c.engine.down f.fault Backing) j.backing_faults backing_counts backing_raised (λ y. backing_by_fault y.1) backing_fails
        v.seen.fault (parts_down Backing v.seen.fault g s.fault) (parts_reads Backing v.seen.fault g s.fault) x;
    log_reads = seen_reads Log g f.log_failed t.log_faults (of_log c.engine.log).faults (of_log f.log).faults (IsFresh c.engine.down f.fault Log) j.log_faults log_counts log_raised (λ y. log_by_fault y.1) log_fails
        v.seen.fault (parts_reads Log v.seen.fault g s.fault);
    backing_reads = seen_reads Backing g f.backing_failed t.backing_faults (of_backing c.engine.backing).faults (of_backing f.backing).faults (IsFresh c.engine.down f.fault Backing) j.backing_faults backing_counts backing_raised (λ y. backing_by_fault y.1) backing_fails
        v.seen.fault (parts_reads Backing v.seen.fault g s.fault);
    alike = s.alike;
  }

  -- what is said of the engine's numbers is said of those that the name carries
  named : (P : Geometry × ℕ × ℕ → Type 0) → P (c.engine.geometry, c.engine.numbers.first, c.engine.absorbed) → P (t.geometry, t.first, f.places)
  named P holds = let same : (c.engine.geometry, c.engine.numbers.first, c.engine.absorbed) ≡ (t.geometry, t.first, f.places) = cc (j.geometry, j.first, taken) in subst P same holds

  put_partly : t.log_told ≡ true → t.backing_told ≡ true → (image : Image) × Told (of_backing f.backing) image × PutsPartly h t.base image
  put_partly log_told backing_told =
      let had = j.changed log_told backing_told in let next = (closes.changed t.base h (j.stands log_told)).told had.0 had.1 in
      (next.0, next.1, puts_then h h t.base had.0 next.0 (All-contains_itself h) had.2 next.2)

  crash : t.log_told ≡ true → (through : ℕ) → through ≤ stable_places c.engine
      → CrashNow t.geometry (line_of (places t.geometry) t.first t.base h) (last_segment t through) (last_segment t f.places) (of_log f.log) (of_backing f.backing)
  crash told through low =
      let stands = j.stands told in
      let ordered = stands.safe.ordered in
      let n : ℕ = places c.engine.geometry in
      let segments : (through + n - 1) / n ≤ c.engine.numbers.stable - c.engine.numbers.first = covered_few n through (c.engine.numbers.stable - c.engine.numbers.first) (places_few c.engine.geometry).0 low in
      named (λ x. CrashNow x.0 (line_of (places x.0) x.1 t.base h) (x.1 + (through + places x.0 - 1) / places x.0) (x.1 + (x.2 + places x.0 - 1) / places x.0) (of_log f.log) (of_backing f.backing))
      (crash_around (c.engine.numbers.first + (through + n - 1) / n) (last_id c.engine) (omega (arith, ordered.start, ordered.recorded, ordered.back, segments)) (omega arith) (closes.crash t.base h stands))

  empty : f.fault ≡ None → t.log_told ≡ true → (x : Image) → Told (of_log f.log) x → IsChain t.geometry x [] × (record_of x ≡ last_segment t f.places) × SuperText x t.geometry 1
  empty none told x is =
      let stands = j.stands told in
      let last = closes.recorded none t.base h stands x is in
      named (λ y. IsChain y.0 x [] × (record_of x ≡ y.1 + (y.2 + places y.0 - 1) / places y.0) × SuperText x y.0 1) (closes.empty none t.base h stands x is, last.0, last.1)

  pub finished : (passes : List Pass) → All (λ p. IsShown (drain_view c.drain) (view_of p)) passes → All (λ e. client_of e < t.clients) h → IsFinished of_log of_backing t passes f
  finished passes shown clients = record {
    history = h;
    stable = stable_places c.engine;
    taken = taken ∙ sym j.absorbed;
    first = first ∙ j.first;
    clients = clients;
    ids = named (λ x. x.2 ≤ places x.0 * (2 ^ 48 - x.1)) sound.filled.ids;
    legal = λ i p is. legal (view_of p) (at_get (λ q. IsShown (drain_view c.drain) (view_of q)) passes i p shown is);
    changed = put_partly;
    crash = crash;
    content = λ none log_told backing_told.
        let put = put_partly log_told backing_told in
        put.1 ∙ ap (λ (x : Image). Some x) (closes.content none t.base h (j.stands log_told) put.0 put.1);
    empty = empty;
    durable = λ none. closes.durable none j.synced;
    word = g;
    seen = λ i p is. (at_get (λ q. IsShown (drain_view c.drain) (view_of q)) passes i p shown is).fault;
    fault = record {
      down = c.engine.down;
      log_before = (of_log c.engine.log).faults;
      backing_before = (of_backing c.engine.backing).faults;
      says = j.fault;
      log = j.log_faults;
      backing = j.backing_faults;
      stays = weaker_if c.engine.down _ (λ w. (f.fault ≡ Some w) × ((of_log f.log).faults ≡ (of_log c.engine.log).faults) × ((of_backing f.backing).faults ≡ (of_backing c.engine.backing).faults))
          (λ w x. (x.0, ap (λ (y : L). (of_log y).faults) x.1, ap (λ (y : B). (of_backing y).faults) x.2)) closes.was_down;
      log_fails = closes.log_cause;
      backing_fails = closes.backing_cause;
    };
    log_down = log_by_fault;
    backing_down = backing_by_fault;
    log_cause = flag_counts Log g f.log_failed t.log_faults (of_log c.engine.log).faults (of_log f.log).faults (IsFresh c.engine.down f.fault Log) j.log_faults log_counts log_raised (λ y. log_by_fault y.1) log_fails;
    backing_cause = flag_counts Backing g f.backing_failed t.backing_faults (of_backing c.engine.backing).faults (of_backing f.backing).faults (IsFresh c.engine.down f.fault Backing) j.backing_faults backing_counts backing_raised (λ y. backing_by_fault y.1) backing_fails;
  }

-- ---- passes that looked

shown_before : (d v w : View) → Saw v w → IsShown d w → IsShown d v
shown_before d v w saw s = record {
  known = subst (λ (known : List HistoryEntry). IsPrefix known d.known) saw.known s.known;
  mine = sym saw.mine ∙ s.mine ∙ ap (λ (n : ℕ). placed n 0 d.known) saw.client;
  cursor = omega (arith, saw.cursor, s.cursor);
  stable = omega (arith, saw.stable, s.stable);
  fault = parts_trans v.seen.fault w.seen.fault d.seen.fault saw.fault s.fault;
  alike = subst (λ (heard : List (ℕ × List ℕ)). AreAlike heard) saw.heard s.alike;
}

module _ (reached : ℕ) where
  -- each of them is the name's, and has seen no more than was drained
  pub reached_ready : (name : TableId) (ps qs : List Pass) → length qs ≡ length ps → ((i : ℕ) (p q : Pass) → slice_get ps i ≡ Some p → slice_get qs i ≡ Some q → IsReached reached p q)
      → ((i : ℕ) (p : Pass) → slice_get ps i ≡ Some p → pass_name p ≡ name) → All (λ q. (pass_name q ≡ name) × ((view_of q).seen.cursor ≤ reached)) qs
  reached_ready name [] [] same each own = All-nil (λ q. (pass_name q ≡ name) × ((view_of q).seen.cursor ≤ reached))
  reached_ready name [] (q ∷ qs) same each own = absurd (omega (arith, same))
  reached_ready name (p ∷ ps) [] same each own = absurd (omega (arith, same))
  reached_ready name (p ∷ ps) (q ∷ qs) same each own =
      let first = each 0 p q refl refl in
      All-cons (λ q. (pass_name q ≡ name) × ((view_of q).seen.cursor ≤ reached)) q qs (first.own ∙ own 0 p refl, first.below)
      (reached_ready name ps qs (omega (arith, same)) (λ i a b x y. each (suc i) a b x y) (λ i a x. own (suc i) a x))

  -- and what is shown of them then is shown of them as they were
  pub shown_back : (d : View) (ps qs : List Pass) → length qs ≡ length ps → ((i : ℕ) (p q : Pass) → slice_get ps i ≡ Some p → slice_get qs i ≡ Some q → IsReached reached p q)
      → All (λ q. IsShown d (view_of q)) qs → All (λ p. IsShown d (view_of p)) ps
  shown_back d [] qs same each all = All-nil (λ p. IsShown d (view_of p))
  shown_back d (p ∷ ps) [] same each all = absurd (omega (arith, same))
  shown_back d (p ∷ ps) (q ∷ qs) same each all =
      let first = each 0 p q refl refl in
      All-cons (λ p. IsShown d (view_of p)) p ps (shown_before d (view_of p) (view_of q) first.saw (All-head (λ q. IsShown d (view_of q)) q qs all))
      (shown_back d ps qs (omega (arith, same)) (λ i a b x y. each (suc i) a b x y) (All-tail (λ q. IsShown d (view_of q)) q qs all))

-- what stands at a place once another stands at this one
pub get_set : (xs : List Pass) (k i : ℕ) (x q : Pass) → slice_get (set xs k x) i ≡ Some q → ((i ≡ k) × (x ≡ q)) ⊎ ((i ≢ k) × (slice_get xs i ≡ Some q))
get_set [] k i x q is = inr ((λ e. absurd (nothing i is)), is)
  where
    nothing : (i : ℕ) → slice_get [] i ≡ Some q → ⊥
    nothing zero h = none_there q h
    nothing (suc i) h = none_there q h
get_set (y ∷ xs) zero zero x q is = inl (refl, just is)
  where
    just : Some x ≡ Some q → x ≡ q
    just h = subst (λ (o : Option Pass). IfSome o (λ z. x ≡ z)) h refl
get_set (y ∷ xs) zero (suc i) x q is = inr ((λ e. omega (arith, e)), is)
get_set (y ∷ xs) (suc k) zero x q is = inr ((λ e. omega (arith, e)), is)
get_set (y ∷ xs) (suc k) (suc i) x q is = elim (get_set xs k i x q is) [
  | inl here ↦ inl (omega (arith, here.0), here.1)
  | inr there ↦ inr ((λ e. there.0 (omega (arith, e))), there.1)
]

pub reached_more : (n m : ℕ) (p q : Pass) → n ≤ m → IsReached n p q → IsReached m p q
reached_more n m p q up r = record { own = r.own; saw = r.saw; below = omega (arith, r.below, up) }

-- what stands behind this place stays
pub get_behind_set : (xs : List Pass) (k i : ℕ) (x : Pass) → k < i → slice_get (set xs k x) i ≡ slice_get xs i
get_behind_set [] k i x low = refl
get_behind_set (y ∷ xs) k zero x low = absurd (omega (arith, low))
get_behind_set (y ∷ xs) zero (suc i) x low = refl
get_behind_set (y ∷ xs) (suc k) (suc i) x low = get_behind_set xs k i x (omega (arith, low))

pub longer_since : (xs ys : List HistoryEntry) → IsPrefix xs ys → length xs ≤ length ys
longer_since xs ys more = let long = ap length more.1 in omega (arith, long, length-append xs more.0)

-- the pass at this place looked, and as many places were drained as it has seen then
pub reached_next : (ps xs : List Pass) (k : ℕ) (x next : Pass) (was now : ℕ) → was ≤ now → slice_get xs k ≡ Some x → slice_get xs k ≡ slice_get ps k → IsReached now x next
    → ((i : ℕ) (p q : Pass) → i < k → slice_get ps i ≡ Some p → slice_get xs i ≡ Some q → IsReached was p q)
    → (i : ℕ) (p q : Pass) → i < k + 1 → slice_get ps i ≡ Some p → slice_get (set xs k next) i ≡ Some q → IsReached now p q
reached_next ps xs k x next was now up at same here each i p q low before is = elim (get_set xs k i next q is) [
  | inl this ↦
      let as_it_was : Some x ≡ Some p = sym at ∙ same ∙ ap (slice_get ps) (sym this.0) ∙ before in
      let old : x ≡ p = subst (λ (o : Option Pass). IfSome o (λ z. x ≡ z)) as_it_was refl in
      subst (λ (z : Pass). IsReached now p z) this.1 (subst (λ (z : Pass). IsReached now z next) old here)
  | inr other ↦ elim (eq-or-lt_of_le {n = i} {m = k} (omega (arith, low))) [
    | inl this ↦ absurd (other.0 this)
    | inr lower ↦ reached_more was now p q up (each i p q lower before other.1)
  ]
]

-- ---- passes that are shown

-- what is shown stays shown while the drain looks
pub shown_after : (d e v : View) → HasLooked d e → IsShown d v → IsShown e v
shown_after d e v looked s = let size = ap length looked.known in record {
  known = subst (λ (known : List HistoryEntry). IsPrefix v.known known) (sym looked.known) s.known;
  mine = s.mine ∙ ap (placed v.client 0) (sym looked.known);
  cursor = omega (arith, s.cursor, size);
  stable = omega (arith, s.stable, looked.stable);
  fault = subst (IsPartwiseAtMost v.seen.fault) (sym looked.fault) s.fault;
  alike = s.alike;
}

-- a pass that met the drain, read and looked is shown as it was
pub shown_read : (d v w : View) → IsBehind d v → HasRead v w d.known → v.seen.cursor ≤ length d.known → AreAlike w.heard → IsShown d v
shown_read d v w behind read drained alike = record {
  known = behind.known;
  mine = sym read.mine ∙ read.stands ∙ ap (λ (n : ℕ). placed n 0 w.known) read.client ∙ ap (placed v.client 0) read.known;
  cursor = drained;
  stable = behind.stable;
  fault = behind.fault;
  alike = subst (λ (heard : List (ℕ × List ℕ)). AreAlike heard) read.heard alike;
}

-- one pass more is shown
pub shown_next : (d e : View) (ps : List Pass) (p : Pass) → HasLooked d e → All (λ q. IsShown d (view_of q)) ps → IsShown e (view_of p) → All (λ q. IsShown e (view_of q)) (ps ++ p ∷ [])
shown_next d e ps p looked all here =
    All-append (λ q. IsShown e (view_of q)) ps (p ∷ []) (λ k other below. shown_after d e (view_of (slice_index_or ps k other)) looked (all k other below))
    (All-cons (λ q. IsShown e (view_of q)) p [] here (All-nil (λ q. IsShown e (view_of q))))

pub looked_then : (d e f : View) → HasLooked d e → HasLooked e f → HasLooked d f
looked_then d e f one two = record { known = two.known ∙ one.known; stable = two.stable ∙ one.stable; fault = two.fault ∙ one.fault }

-- the list behind a slice of all of it, once the slice is written
pub written_back : (items next : List Pass) (len : ℕ) → len ≡ length next → take len (next ++ drop (length next) items) ≡ next
written_back items next len whole = ap (λ (n : ℕ). take n (next ++ drop (length next) items)) whole ∙ take-append_seam next (drop (length next) items)
