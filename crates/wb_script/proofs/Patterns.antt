-- Repeated fronts: bytes repeat their first n if they are the same n further on.
use Rattle.std.proofs.Common.{◌≡◌, ℕ, zero, suc, ◌+◌, ◌-◌, ◌*◌, ◌/◌, ◌%◌, ◌<◌, ◌≤◌, Bool, true, false, true≢false, cond, List, ◌++◌, length, take, drop, replicate, Some, sym, refl, ap, ◌∙◌, arith, append_assoc, length-append, inl, inr}
use Rattle.std.proofs.lemmas.List.{append-nil, take-take, take_at, drop_at, take_all, take-append-drop, length-take-le, drop_all}
use Rattle.std.proofs.lemmas.Nat.{le-div}
use Rattle.std.proofs.Math.Nat.{mod_self}
use Rattle.std.proofs.lemmas.Bool.{cases_eq, and_left, ne_eqb}
use Rattle.std.proofs.Math.Seq.{take-append-add}
use Rattle.std.specs.List.{find, range_with_len}
use Rattle.std.specs.List as lists
use Rattle.std.specs.Bool.{Decides}
use Rattle.std.proofs.lemmas.Bool.Decides.{Decides-eqb, Decides-and, Decides-like, same_from_decides}
use Rattle.std.proofs.lemmas.Slice.Eq.{slice_eq-Decides}
use Rattle.wb_script.specs.Patterns.{repeated, repeats, shortest_pattern}

-- ---- the first number of a range that passes

pub first_passes : (test : ℕ → Bool) (n a k : ℕ) → a ≤ k → k < a + n → ((j : ℕ) → a ≤ j → j < k → test j ≡ false) → test k ≡ true → find test (range_with_len a n) ≡ Some k
first_passes test zero a k low high before here = absurd (omega arith)
first_passes test (suc n) a k low high before here =
    elim (cases_eq a k) [
      | inl same ↦ rw (ap test same ∙ here) (ap Some same)
      | inr other ↦
          rw (before a (omega arith) (omega arith))
          (first_passes test n (a + 1) k (omega arith) (omega arith) (λ j l h. before j (omega arith) h) here)
    ]

-- where one passes, the first that does is found
pub some_passes : (test : ℕ → Bool) (n a k : ℕ) → a ≤ k → k < a + n → test k ≡ true → (m : ℕ) × (find test (range_with_len a n) ≡ Some m) × (test m ≡ true) × (a ≤ m) × (m < a + n)
some_passes test zero a k low high here = absurd (omega arith)
some_passes test (suc n) a k low high here =
    elim (test a) as (λ b. test a ≡ b → (m : ℕ) × (cond b (Some a) (find test (range_with_len (a + 1) n)) ≡ Some m) × (test m ≡ true) × (a ≤ m) × (m < a + suc n)) [
      | true ↦ λ yes. (a, refl, yes, omega arith, omega arith)
      | false ↦ λ no.
          let other : (a ≡ k → ⊥) = λ same. true≢false (sym here ∙ ap test (sym same) ∙ no) in
          let rest = some_passes test n (a + 1) k (omega arith) (omega arith) here in (rest.0, rest.1, rest.2, omega (arith, rest.3), omega (arith, rest.4))
    ] refl

-- ---- periods

-- bytes that are p, and then the same bytes, begin with p as often as they have room for it
pub whole_repeats : (p bytes : List ℕ) (m : ℕ) → bytes ≡ p ++ take m bytes → (k : ℕ) → k * length p ≤ m + length p → take (k * length p) bytes ≡ lists.concat (replicate k p)
whole_repeats p bytes m e zero h = let z : zero * length p ≡ 0 = omega arith in rw z refl
whole_repeats p bytes m e (suc k) h =
    let one : suc k * length p ≡ length p + k * length p = omega arith in
    let room : k * length p ≤ m = omega arith in
    rw one (ap (take (length p + k * length p)) e ∙ take-append-add p (take m bytes) (k * length p) ∙ ap (λ t. p ++ t) (take-take (k * length p) m bytes room ∙ whole_repeats p bytes m e k (omega arith)))

pub repeats_commute : (k : ℕ) (p : List ℕ) → lists.concat (replicate k p) ++ p ≡ p ++ lists.concat (replicate k p)
repeats_commute zero p = sym (append-nil p)
repeats_commute (suc k) p = append_assoc p (lists.concat (replicate k p)) p ∙ ap (λ t. p ++ t) (repeats_commute k p)

pub period_of_repeats : (p bytes : List ℕ) (j : ℕ) → lists.concat (replicate (suc j) p) ≡ bytes → drop (length p) bytes ≡ take (length bytes - length p) bytes
period_of_repeats p bytes j e =
    let rest : List ℕ = lists.concat (replicate j p) in
    let back : rest ++ p ≡ bytes = repeats_commute j p ∙ e in
    let size : length bytes ≡ length rest + length p = ap length (sym back) ∙ length-append rest p in
    ap (drop (length p)) (sym e) ∙ drop_at p rest (length p) refl
    ∙ sym (ap (take (length bytes - length p)) (sym back) ∙ take_at rest p (length bytes - length p) (omega arith))

pub repeated_from_period : (bytes : List ℕ) (n : ℕ) → 0 < n → n ≤ length bytes → length bytes % n ≡ 0 → drop n bytes ≡ take (length bytes - n) bytes → repeated (take n bytes) (length bytes) ≡ bytes
unfolding repeated
repeated_from_period bytes n some within whole period =
    let p : List ℕ = take n bytes in
    let size : length p ≡ n = length-take-le n bytes within in
    let again : bytes ≡ p ++ take (length bytes - n) bytes = sym (take-append-drop n bytes) ∙ ap (λ t. p ++ t) period in
    let all : length bytes / length p * length p ≡ length bytes = rw size (omega arith) in
    sym (whole_repeats p bytes (length bytes - n) again (length bytes / length p) (omega arith)) ∙ take_all (length bytes / length p * length p) bytes (omega arith)

pub period_from_repeated : (bytes : List ℕ) (n : ℕ) → 0 < n → n ≤ length bytes → repeated (take n bytes) (length bytes) ≡ bytes → drop n bytes ≡ take (length bytes - n) bytes
unfolding repeated
period_from_repeated bytes n some within e =
    let size : length (take n bytes) ≡ n = length-take-le n bytes within in
    let times : length bytes / length (take n bytes) ≡ suc (length bytes / length (take n bytes) - 1) = rw size (omega (arith, le-div 1 (length bytes) n some (omega arith))) in
    let period : drop (length (take n bytes)) bytes ≡ take (length bytes - length (take n bytes)) bytes = period_of_repeats (take n bytes) bytes (length bytes / length (take n bytes) - 1) (ap (λ k. lists.concat (replicate k (take n bytes))) (sym times) ∙ e) in
    rw size at period

-- ---- the tests

pub repeats_Decides : (bytes : List ℕ) (n : ℕ) → Decides (repeats bytes n) ((length bytes % n ≡ 0) × (repeated (take n bytes) (length bytes) ≡ bytes))
unfolding repeats
repeats_Decides bytes n = Decides-and _ _ (Decides-eqb (length bytes % n) 0) (slice_eq-Decides Decides-eqb _ _ _ refl)

-- what the comparison with the bytes n further on says, where n divides the number of bytes
pub repeats-whole : (bytes : List ℕ) (n : ℕ) (same : Bool) → 0 < n → n ≤ length bytes → length bytes % n ≡ 0 → Decides same (drop n bytes ≡ take (length bytes - n) bytes) → same ≡ repeats bytes n
repeats-whole bytes n same some within whole decides =
    same_from_decides same (repeats bytes n)
    (Decides-like same (λ period. (whole, repeated_from_period bytes n some within whole period)) (λ repeat. period_from_repeated bytes n some within repeat.1) decides)
    (repeats_Decides bytes n)

pub repeats-not_whole : (bytes : List ℕ) (n : ℕ) → (length bytes % n ≡ 0 → ⊥) → false ≡ repeats bytes n
unfolding repeats
repeats-not_whole bytes n broken = sym (and_left _ _ (ne_eqb (length bytes % n) 0 broken))

-- bytes are themselves, once
pub repeats_all : (bytes : List ℕ) → 0 < length bytes → repeats bytes (length bytes) ≡ true
repeats_all bytes some =
    let whole : length bytes % length bytes ≡ 0 = mod_self (length bytes) in
    let none : length bytes - length bytes ≡ 0 = omega arith in
    let period : drop (length bytes) bytes ≡ take (length bytes - length bytes) bytes = rw none (drop_all (length bytes) bytes (omega arith)) in
    (repeats_Decides bytes (length bytes)).1 (whole, repeated_from_period bytes (length bytes) some (omega arith) whole period)

-- ---- the shortest pattern

pub shortest_pattern-first : (bytes : List ℕ) (n : ℕ) → 1 ≤ n → n ≤ length bytes → ((k : ℕ) → 1 ≤ k → k < n → repeats bytes k ≡ false) → repeats bytes n ≡ true → take n bytes ≡ shortest_pattern bytes
unfolding shortest_pattern
shortest_pattern-first bytes n some within before here =
    rw (first_passes (repeats bytes) (length bytes) 1 n some (omega arith) before here) refl

pub repeated-shortest_pattern : (bytes : List ℕ) → 0 < length bytes → repeated (shortest_pattern bytes) (length bytes) ≡ bytes
unfolding shortest_pattern
repeated-shortest_pattern bytes some =
    let found = some_passes (repeats bytes) (length bytes) 1 (length bytes) (omega arith) (omega arith) (repeats_all bytes some) in
    rw found.1 (((repeats_Decides bytes found.0).0 found.2).1)
