-- Lines of a kind, and what is told of them.
use Rattle.std.proofs.Common.{ℕ, ◌≡◌, ◌+◌, ◌≤◌, Bool, true, false, ◌||◌, ◌==◌, List, [], ◌∷◌, ◌++◌, ◌⊎◌, inl, inr, refl, sym, subst, arith}
use Rattle.std.specs.List.{Any}
use Rattle.std.proofs.lemmas.List.Elements.{Contains-push_cases, Contains-append_left}
use Rattle.std.proofs.lemmas.List.Quantifiers.{Any-push}
use Rattle.std.proofs.lemmas.Bool.{cases_lt, eqb-true, eqb-false}
use Rattle.wb_geometry.specs.declared.which.Which.{Which}
use Rattle.wb_geometry.specs.declared.which.Which.TheVariants.{Log, Backing}
use Rattle.wb_script.specs.Transcripts.{is_failure, failures, HasStop}
use Rattle.wb_script.proofs.Sessions.{failures_push}
use Rattle.wb_script.specs.declared.transcript.Line.{Line}
use Rattle.wb_script.specs.declared.transcript.Line.TheVariants.{Wrote, Forced, Got, Summed, Failed, Flushed, Deferred, Told, Heard}
use Rattle.wb_script.specs.declared.transcript.Stop.{Stop}
use Rattle.wb_script.specs.declared.transcript.Stop.TheVariants.{Whole, Down, Ids}
use Rattle.wb_serve.specs.Playing.{Tells, is_out_of_ids, is_stopped_line}

pub none_of : {X : Type 0} {P : X → Type 0} → Any P [] → ⊥
none_of (k, x, lt, is, holds) = omega (arith, lt)

pub any-before : {X : Type 0} (P : X → Type 0) (xs : List X) (y : X) → Any P xs → Any P (xs ++ y ∷ [])
any-before P xs y (k, x, lt, is, holds) =
    let there = Contains-append_left xs (y ∷ []) x (k, lt, is) in
    (there.0, x, there.1, there.2, holds)

pub any-push_cases : {X : Type 0} (P : X → Type 0) (xs : List X) (y : X) → Any P (xs ++ y ∷ []) → Any P xs ⊎ P y
any-push_cases P xs y (k, x, lt, is, holds) = elim (Contains-push_cases xs y x (k, lt, is)) [
  | inl before ↦ inl (before.0, x, before.1, before.2, holds)
  | inr last ↦ inr (subst P (sym last) holds)
]

pub any-or : {X : Type 0} (P : X → Type 0) (Q : Type 0) (xs : List X) → Any (λ x. P x ⊎ Q) xs → Any P xs ⊎ Q
any-or P Q xs (k, x, lt, is, inl holds) = inl (k, x, lt, is, holds)
any-or P Q xs (k, x, lt, is, inr other) = inr other

-- ---- two flags joined

either_set : (a b : Bool) → (a || b) ≡ true → (a ≡ true) ⊎ (b ≡ true)
either_set true b is = inl refl
either_set false b is = inr is

set_first : (a b : Bool) → a ≡ true → (a || b) ≡ true
set_first true b is = refl
set_first false b is = absurd (cc)

set_second : (a b : Bool) → b ≡ true → (a || b) ≡ true
set_second true b is = refl
set_second false b is = is

neither : (a b : Bool) → (a || b) ≡ false → (a ≡ false) × (b ≡ false)
neither true b is = absurd (cc)
neither false b is = (refl, is)

rose : (a b : Bool) (m n : ℕ) → (a ≡ true → 1 ≤ m) → (b ≡ true → 1 ≤ n) → (a || b) ≡ true → 1 ≤ m + n
rose a b m n first second is = elim (either_set a b is) [
  | inl one ↦ omega (arith, first one)
  | inr two ↦ omega (arith, second two)
]

none_rose : (a b : Bool) (m n : ℕ) → (a ≡ false → m ≡ 0) → (b ≡ false → n ≡ 0) → (a || b) ≡ false → m + n ≡ 0
none_rose a b m n first second is = let both = neither a b is in omega (arith, first both.0, second both.1)

-- what is told of two parts is told of both
pub tells_join : {P Q : Type 0} {m n k l : ℕ} {a b c d e f : Bool} (R : Type 0) → (P → R) → (Q → R) → (R → P ⊎ Q) → Tells m n P a b c → Tells k l Q d e f → Tells (m + k) (n + l) R (a || d) (b || e) (c || f)
tells_join {m = m} {n = n} {k = k} {l = l} {a = a} {b = b} {c = c} {d = d} {e = e} {f = f} R left right cases first second = record {
  log_fails = rose b e m k first.log_fails second.log_fails;
  log_fine = none_rose b e m k first.log_fine second.log_fine;
  backing_fails = rose c f n l first.backing_fails second.backing_fails;
  backing_fine = none_rose c f n l first.backing_fine second.backing_fine;
  stopped = λ r. elim (cases r) [ inl p ↦ set_first a d (first.stopped p) | inr q ↦ set_second a d (second.stopped q) ];
  told = λ is. elim (either_set a d is) [ inl one ↦ left (first.told one) | inr two ↦ right (second.told two) ];
}

pub tells_none : {P : Type 0} → (P → ⊥) → Tells 0 0 P false false false
tells_none never = record {
  log_fails = λ is. absurd (cc);
  log_fine = λ is. refl;
  backing_fails = λ is. absurd (cc);
  backing_fine = λ is. refl;
  stopped = λ some. absurd (never some);
  told = λ is. absurd (cc);
}

-- ---- a line

failure_few : (which : Which) (line : Line) → is_failure which line ≤ 1
failure_few Log (Failed Log) = omega arith
failure_few Log (Failed Backing) = omega arith
failure_few Backing (Failed Log) = omega arith
failure_few Backing (Failed Backing) = omega arith
failure_few which (Wrote places stop) = omega arith
failure_few which (Forced places flush stop) = omega arith
failure_few which (Got point shown) = omega arith
failure_few which (Summed point sum) = omega arith
failure_few which (Flushed ended) = omega arith
failure_few which (Deferred ended) = omega arith
failure_few which Told = omega arith
failure_few which Heard = omega arith

out_of_ids : (stop : Stop) → is_out_of_ids stop ≡ true → stop ≡ Ids
out_of_ids Whole is = absurd (cc)
out_of_ids (Down device) is = absurd (cc)
out_of_ids Ids is = refl

pub stopped_line : (line : Line) → is_stopped_line line ≡ true → HasStop Ids line
stopped_line (Wrote places stop) is = out_of_ids stop is
stopped_line (Forced places flush stop) is = out_of_ids stop is
stopped_line (Got point shown) is = absurd (cc)
stopped_line (Summed point sum) is = absurd (cc)
stopped_line (Failed device) is = absurd (cc)
stopped_line (Flushed ended) is = absurd (cc)
stopped_line (Deferred ended) is = absurd (cc)
stopped_line Told is = absurd (cc)
stopped_line Heard is = absurd (cc)

pub line_stopped : (line : Line) → HasStop Ids line → is_stopped_line line ≡ true
line_stopped (Wrote places stop) is = subst (λ (s : Stop). is_out_of_ids s ≡ true) (sym is) refl
line_stopped (Forced places flush stop) is = subst (λ (s : Stop). is_out_of_ids s ≡ true) (sym is) refl
line_stopped (Got point shown) is = absurd is
line_stopped (Summed point sum) is = absurd is
line_stopped (Failed device) is = absurd is
line_stopped (Flushed ended) is = absurd is
line_stopped (Deferred ended) is = absurd is
line_stopped Told is = absurd is
line_stopped Heard is = absurd is

one_of : (n : ℕ) → (n == 1) ≡ true → 1 ≤ n
one_of n is = let one : n ≡ 1 = eqb-true n 1 is in omega (arith, one)

none_few : (n : ℕ) → n ≤ 1 → (n == 1) ≡ false → n ≡ 0
none_few n few not = elim (cases_lt n 1) [
  | inl none ↦ omega (arith, none)
  | inr some ↦ absurd (eqb-false n 1 not (omega (arith, few, some)))
]

tells_line : (line : Line) → Tells (is_failure Log line) (is_failure Backing line) (HasStop Ids line) (is_stopped_line line) (is_failure Log line == 1) (is_failure Backing line == 1)
tells_line line = record {
  log_fails = one_of (is_failure Log line);
  log_fine = none_few (is_failure Log line) (failure_few Log line);
  backing_fails = one_of (is_failure Backing line);
  backing_fine = none_few (is_failure Backing line) (failure_few Backing line);
  stopped = line_stopped line;
  told = stopped_line line;
}

-- one more line
pub tells_push : (lines : List Line) (line : Line) (ids log_failed backing_failed : Bool) → Tells (failures Log lines) (failures Backing lines) (Any (HasStop Ids) lines) ids log_failed backing_failed
    → Tells (failures Log (lines ++ line ∷ [])) (failures Backing (lines ++ line ∷ [])) (Any (HasStop Ids) (lines ++ line ∷ []))
    (ids || is_stopped_line line) (log_failed || (is_failure Log line == 1)) (backing_failed || (is_failure Backing line == 1))
tells_push lines line ids log_failed backing_failed was =
    rw (failures_push Log lines line, failures_push Backing lines line)
    (tells_join (Any (HasStop Ids) (lines ++ line ∷ [])) (any-before (HasStop Ids) lines line) (Any-push (HasStop Ids) lines line) (any-push_cases (HasStop Ids) lines line) was (tells_line line))
