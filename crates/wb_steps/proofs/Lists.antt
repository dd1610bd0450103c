-- Beginnings of lists, the entries of a client, and the places that are left.
use Rattle.std.proofs.Common.{◌≡◌, ◌≢◌, ◌⊎◌, ℕ, zero, suc, ◌+◌, ◌≤◌, eqb, List, [], ◌∷◌, ◌++◌, length, drop, Bool, true, false, cond, sym, ap, refl, ◌∙◌, subst, inl, inr, append_assoc, arith}
use Rattle.std.specs.List.{All, Contains, enumerate_from}
use Rattle.std.specs.Prelude.{not}
use Rattle.std.proofs.lemmas.List.{append-nil, length-append}
use Rattle.std.proofs.lemmas.List.Elements.{Contains-append_left, Contains-append_right, Contains-append_cases, Contains-push}
use Rattle.std.proofs.lemmas.Bool.{cases_eq, eq-eqb, ne_eqb}
use Rattle.std.proofs.Math.Seq.{drop-append_seam}
use mathlib.Core.Option.{some}
use lib.ListN.{get_elem?}
use Rattle.atomic_table.proofs.Lists.{at_longer}
use Rattle.wb_geometry.specs.History.{HistoryEntry, client_of}
use Rattle.wb_steps.specs.Views.{IsPrefix, placed, without, longer}

module _ {X : Type 0} where
  pub prefix_same : (xs : List X) → IsPrefix xs xs
  prefix_same xs = ([], sym (append-nil xs))

  pub prefix_trans : (xs ys zs : List X) → IsPrefix xs ys → IsPrefix ys zs → IsPrefix xs zs
  prefix_trans xs ys zs a b = (a.0 ++ b.0, b.1 ∙ ap (λ (l : List X). l ++ b.0) a.1 ∙ append_assoc xs a.0 b.0)

  pub prefix_more : (xs ys : List X) → IsPrefix xs (xs ++ ys)
  prefix_more xs ys = (ys, refl)

  pub prefix_length : (xs ys : List X) → IsPrefix xs ys → length xs ≤ length ys
  prefix_length xs ys a = let e : length ys ≡ length xs + length a.0 = ap length a.1 ∙ length-append xs a.0 in omega (arith, e)

  pub prefix_at : (xs ys : List X) (i : ℕ) (x : X) → IsPrefix xs ys → get_elem? xs i ≡ some x → get_elem? ys i ≡ some x
  prefix_at xs ys i x a h = ap (λ (l : List X). get_elem? l i) a.1 ∙ at_longer xs a.0 i x h

  drop_all : (xs : List X) (n : ℕ) → length xs ≤ n → drop n xs ≡ []
  drop_all [] zero h = refl
  drop_all [] (suc n) h = refl
  drop_all (x ∷ xs) zero h = absurd (omega arith)
  drop_all (x ∷ xs) (suc n) h = drop_all xs n (omega arith)

  -- the longer of a list and a beginning of it, and of a beginning and the list
  pub prefix_longer : (xs ys : List X) → IsPrefix ys xs → longer xs ys ≡ xs
  prefix_longer xs ys a = ap (λ (l : List X). xs ++ l) (drop_all ys (length xs) (prefix_length ys xs a)) ∙ append-nil xs

  pub longer_other : (xs ys : List X) → IsPrefix xs ys → longer xs ys ≡ ys
  longer_other xs ys a = ap (λ (l : List X). xs ++ drop (length xs) l) a.1 ∙ ap (λ (l : List X). xs ++ l) (drop-append_seam xs a.0) ∙ sym a.1

  -- what is known only grows
  pub longer_more : (xs ys : List X) → IsPrefix xs (longer xs ys)
  longer_more xs ys = (drop (length xs) ys, refl)

  -- of two beginnings of a list the shorter one is a beginning of the other
  pub prefix_both : (xs ys zs : List X) → IsPrefix xs zs → IsPrefix ys zs → length ys ≤ length xs → IsPrefix ys xs
  prefix_both xs [] zs a b h = (xs, refl)
  prefix_both [] (y ∷ ys) zs a b h = absurd (omega arith)
  prefix_both (x ∷ xs) (y ∷ ys) [] a b h = absurd (omega (arith, prefix_length (x ∷ xs) [] a))
  prefix_both (x ∷ xs) (y ∷ ys) (z ∷ zs) a b h =
      let same : y ≡ x = ap (λ (l : List X). first l z) (sym b.1 ∙ a.1) in
      let more = prefix_both xs ys zs (a.0, ap (drop 1) a.1) (b.0, ap (drop 1) b.1) (omega arith) in
      (more.0, ap (λ (l : List X). x ∷ l) more.1 ∙ ap (λ (w : X). w ∷ (ys ++ more.0)) (sym same))
    where
      first : List X → X → X
      first [] d = d
      first (w ∷ ws) d = w

  pub Contains-first : (x : X) (xs : List X) → Contains (x ∷ xs) x
  Contains-first x xs = Contains-append_left (x ∷ []) xs x (Contains-push [] x)

  pub Contains-more : (x : X) (xs : List X) (y : X) → Contains xs y → Contains (x ∷ xs) y
  Contains-more x xs y h = Contains-append_right (x ∷ []) xs y h

  pub Contains-none : (y : X) → Contains [] y → ⊥
  Contains-none y h = omega (arith, h.1)

  pub Contains-cases : (x : X) (xs : List X) (y : X) → Contains (x ∷ xs) y → (x ≡ y) ⊎ Contains xs y
  Contains-cases x xs y h = elim (Contains-append_cases (x ∷ []) xs y h) [
    | inl a ↦ elim (Contains-append_cases [] (x ∷ []) y a) [
      | inl n ↦ absurd (Contains-none y n)
      | inr o ↦ inl (single x y o)
    ]
    | inr b ↦ inr b
  ]
    where
      single : (x y : X) → Contains (x ∷ []) y → x ≡ y
      single x y (zero, h, e) = e
      single x y (suc n, h, e) = absurd (omega (arith, h))

pub without_less : (p q : ℕ) (places : List ℕ) → Contains (without p places) q → Contains places q × (q ≢ p)
without_less p q [] h = absurd (Contains-none q h)
without_less p q (x ∷ xs) h = elim (cases_eq x p) [
  | inl is ↦ let rest = without_less p q xs (subst (λ (b : Bool). Contains (cond (not b) (x ∷ without p xs) (without p xs)) q) (eq-eqb x p is) h) in (Contains-more x xs q rest.0, rest.1)
  | inr other ↦ elim (Contains-cases x (without p xs) q (subst (λ (b : Bool). Contains (cond (not b) (x ∷ without p xs) (without p xs)) q) (ne_eqb x p other) h)) [
    | inl same ↦ (subst (λ (y : ℕ). Contains (x ∷ xs) y) same (Contains-first x xs), λ e. other (same ∙ e))
    | inr more ↦ let rest = without_less p q xs more in (Contains-more x xs q rest.0, rest.1)
  ]
]

pub without_other : (p q : ℕ) (places : List ℕ) → Contains places q → q ≢ p → Contains (without p places) q
without_other p q [] h n = absurd (Contains-none q h)
without_other p q (x ∷ xs) h n = elim (cases_eq x p) [
  | inl is ↦ subst (λ (b : Bool). Contains (cond (not b) (x ∷ without p xs) (without p xs)) q) (sym (eq-eqb x p is)) (elim (Contains-cases x xs q h) [
    | inl same ↦ absurd (n (sym same ∙ is))
    | inr more ↦ without_other p q xs more n
  ])
  | inr other ↦ subst (λ (b : Bool). Contains (cond (not b) (x ∷ without p xs) (without p xs)) q) (sym (ne_eqb x p other)) (elim (Contains-cases x xs q h) [
    | inl same ↦ subst (λ (y : ℕ). Contains (x ∷ without p xs) y) same (Contains-first x (without p xs))
    | inr more ↦ Contains-more x (without p xs) q (without_other p q xs more n)
  ])
]

-- the entries of a client
pub placed-append : (c p : ℕ) (xs ys : List HistoryEntry) → placed c p (xs ++ ys) ≡ placed c p xs ++ placed c (p + length xs) ys
placed-append c p [] ys = ap (λ (n : ℕ). placed c n ys) (let e : p ≡ p + 0 = omega arith in e)
placed-append c p (x ∷ xs) ys = placed_head (eqb (client_of x) c) (placed c (p + 1) xs) (placed c (p + length (x ∷ xs)) ys) (placed c (p + 1) (xs ++ ys))
    (placed-append c (p + 1) xs ys ∙ ap (λ (n : ℕ). placed c (p + 1) xs ++ placed c n ys) (let e : p + 1 + length xs ≡ p + suc (length xs) = omega arith in e))
  where
    placed_head : (b : Bool) (less beyond more : List (ℕ × HistoryEntry)) → more ≡ less ++ beyond → cond b ((p, x) ∷ more) more ≡ cond b ((p, x) ∷ less) less ++ beyond
    placed_head true less beyond more e = ap (λ (l : List (ℕ × HistoryEntry)). (p, x) ∷ l) e
    placed_head false less beyond more e = e

pub placed-own : (c p : ℕ) (xs : List HistoryEntry) → All (λ e. client_of e ≡ c) xs → placed c p xs ≡ enumerate_from p xs
placed-own c p [] own = refl
placed-own c p (x ∷ xs) own =
    ap (λ (b : Bool). cond b ((p, x) ∷ placed c (p + 1) xs) (placed c (p + 1) xs)) (eq-eqb (client_of x) c (own 0 x (omega arith)))
    ∙ ap (λ (l : List (ℕ × HistoryEntry)). (p, x) ∷ l) (placed-own c (p + 1) xs (λ i d h. own (suc i) d (omega arith)))

pub placed-others : (c p : ℕ) (xs : List HistoryEntry) → All (λ e. client_of e ≢ c) xs → placed c p xs ≡ []
placed-others c p [] own = refl
placed-others c p (x ∷ xs) own =
    ap (λ (b : Bool). cond b ((p, x) ∷ placed c (p + 1) xs) (placed c (p + 1) xs)) (ne_eqb (client_of x) c (own 0 x (omega arith)))
    ∙ placed-others c (p + 1) xs (λ i d h. own (suc i) d (omega arith))
