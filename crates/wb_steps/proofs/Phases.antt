-- How phases change.
use Rattle.std.proofs.Common.{◌≡◌, ◌≢◌, ◌⊎◌, ℕ, suc, ◌<◌, ◌≤◌, eqb, Bool, true, false, cond, sym, ap, refl, ◌∙◌, inl, inr, arith}
use Rattle.std.specs.Prelude.{Option, Some, None}
use Rattle.std.proofs.lemmas.Bool.{cases_eq, cases_lt, eq-eqb, ne_eqb}
use Rattle.wb_steps.specs.Views.{released}
use Rattle.wb_steps.specs.Rule.{Phase, free, claimed, filling, filled, taken, holder, unfilled_phase}

-- the place q is now so far
abbrev pub put : (ℕ → Phase) → ℕ → Phase → ℕ → Phase
put f q x p = cond (eqb p q) x (f p)

pub put_here : (f : ℕ → Phase) (q : ℕ) (x : Phase) (p : ℕ) → p ≡ q → put f q x p ≡ x
put_here f q x p e = ap (λ (b : Bool). cond b x (f p)) (eq-eqb p q e)

pub put_else : (f : ℕ → Phase) (q : ℕ) (x : Phase) (p : ℕ) → p ≢ q → put f q x p ≡ f p
put_else f q x p n = ap (λ (b : Bool). cond b x (f p)) (ne_eqb p q n)

pub holder_unfilled : (held : Option ℕ) (j p : ℕ) → holder (unfilled_phase held j p) ≡ suc j
holder_unfilled None j p = refl
holder_unfilled (Some q) j p = either (eqb q p)
  where
    either : (b : Bool) → holder (cond b (filling j) (claimed j)) ≡ suc j
    either true = refl
    either false = refl

-- one of two phases, by which of two facts is so
abbrev pub choose : {A B : Type 0} → A ⊎ B → Phase → Phase → Phase
choose (inl a) x y = x
choose (inr b) x y = y

choose_left : {A B : Type 0} (z : A ⊎ B) (x y : Phase) → (B → ⊥) → choose z x y ≡ x
choose_left (inl a) x y n = refl
choose_left (inr b) x y n = absurd (n b)

choose_right : {A B : Type 0} (z : A ⊎ B) (x y : Phase) → (A → ⊥) → choose z x y ≡ y
choose_right (inl a) x y n = absurd (n a)
choose_right (inr b) x y n = refl

-- the places from a to b are now claimed by a seat
abbrev pub named : (a b id : ℕ) → (ℕ → Phase) → ℕ → Phase
named a b id f p = choose (cases_lt p a) (f p) (choose (cases_lt p b) (claimed id) (f p))

pub named_below : (a b id : ℕ) (f : ℕ → Phase) (p : ℕ) → p < a → named a b id f p ≡ f p
named_below a b id f p h = choose_left (cases_lt p a) (f p) _ (λ n. omega arith)

pub named_here : (a b id : ℕ) (f : ℕ → Phase) (p : ℕ) → a ≤ p → p < b → named a b id f p ≡ claimed id
named_here a b id f p h h' = choose_right (cases_lt p a) (f p) _ (λ n. omega arith) ∙ choose_left (cases_lt p b) (claimed id) (f p) (λ n. omega arith)

pub named_above : (a b id : ℕ) (f : ℕ → Phase) (p : ℕ) → a ≤ p → b ≤ p → named a b id f p ≡ f p
named_above a b id f p h h' = choose_right (cases_lt p a) (f p) _ (λ n. omega arith) ∙ choose_right (cases_lt p b) (claimed id) (f p) (λ n. omega arith)

abbrev rank : Phase → ℕ
rank free = 0
rank (claimed j) = 1
rank (filling j) = 2
rank filled = 3
rank taken = 4

pub filled-ne-taken : filled ≡ taken → ⊥
filled-ne-taken e = let h : rank filled ≡ rank taken = ap rank e in omega arith

pub free-ne-taken : free ≡ taken → ⊥
free-ne-taken e = let h : rank free ≡ rank taken = ap rank e in omega arith

abbrev size : Option ℕ → ℕ
size None = 0
size (Some q) = 1

abbrev number : Option ℕ → ℕ
number None = 0
number (Some q) = q

pub held-ne-none : (p : ℕ) → Some p ≡ None → ⊥
held-ne-none p e = let h : size (Some p) ≡ size None = ap size e in omega arith

pub held_is : (p q : ℕ) → Some p ≡ Some q → p ≡ q
held_is p q e = ap number e

pub released_some : (p q : ℕ) (held : Option ℕ) → released p held ≡ Some q → (held ≡ Some q) × (q ≢ p)
released_some p q None e = absurd (held-ne-none q (sym e))
released_some p q (Some r) e = elim (cases_eq r p) [
  | inl is ↦ absurd (held-ne-none q (sym (ap (λ (b : Bool). cond b None (Some r)) (sym (eq-eqb r p is)) ∙ e)))
  | inr other ↦ let same : Some r ≡ Some q = ap (λ (b : Bool). cond b None (Some r)) (sym (ne_eqb r p other)) ∙ e in (same, λ is. other (held_is r q same ∙ is))
]

pub unfilled_released : (p j q : ℕ) (held : Option ℕ) → q ≢ p → unfilled_phase (released p held) j q ≡ unfilled_phase held j q
unfilled_released p j q None n = refl
unfilled_released p j q (Some r) n = elim (cases_eq r p) [
  | inl is ↦ ap (λ (b : Bool). unfilled_phase (cond b None (Some r)) j q) (eq-eqb r p is) ∙ ap (λ (b : Bool). cond b (filling j) (claimed j)) (sym (ne_eqb r q (λ e. n (sym e ∙ is))))
  | inr other ↦ ap (λ (b : Bool). unfilled_phase (cond b None (Some r)) j q) (ne_eqb r p other)
]
