-- Jobs that are taken apart.
use Rattle.std.proofs.Common.{◌≡◌, ℕ, ◌+◌, ◌<◌, ◌≤◌, List, [], ◌∷◌, ◌++◌, length, map, Bool, true, false, refl, sym, ap, ◌∙◌, subst, arith, Option, Some, None}
use Rattle.std.specs.Prelude.{IfSome}
use Rattle.std.specs.Bool.{then_some}
use Rattle.std.specs.List.{filter_map, cons_option}
use Rattle.std.proofs.lemmas.List.Elements.{filter_map-append}
use Rattle.std.proofs.lemmas.List.{append-nil}

module _ {X Y : Type 0} (f : X → Option Y) where
  pub given_some : (done : List X) (x : X) (y : Y) → f x ≡ Some y → filter_map f (done ++ x ∷ []) ≡ filter_map f done ++ y ∷ []
  given_some done x y is = filter_map-append f done (x ∷ []) ∙ ap (λ (o : Option Y). filter_map f done ++ cons_option o []) is

  nothing_of : (o : Option Y) → ((y : Y) → o ≡ Some y → ⊥) → cons_option o [] ≡ []
  nothing_of None not = refl
  nothing_of (Some y) not = absurd (not y refl)

  pub given_none : (done : List X) (x : X) → ((y : Y) → f x ≡ Some y → ⊥) → filter_map f (done ++ x ∷ []) ≡ filter_map f done
  given_none done x not = filter_map-append f done (x ∷ []) ∙ ap (λ (ys : List Y). filter_map f done ++ ys) (nothing_of (f x) not) ∙ append-nil (filter_map f done)

  one_more : (o : Option Y) (ys : List Y) (n : ℕ) → length ys ≤ n → length (cons_option o ys) ≤ n + 1
  one_more None ys n few = omega (arith, few)
  one_more (Some y) ys n few = omega (arith, few)

  pub given_few : (xs : List X) → length (filter_map f xs) ≤ length xs
  given_few [] = omega arith
  given_few (x ∷ xs) = let few = one_more (f x) (filter_map f xs) (length xs) (given_few xs) in omega (arith, few)

  given_next : (x : X) (xs : List X) → length (filter_map f (x ∷ xs)) ≡ length (x ∷ xs) → (length (filter_map f xs) ≡ length xs → map (λ (y : Y). Some y) (filter_map f xs) ≡ map f xs)
      → (o : Option Y) → f x ≡ o → map (λ (y : Y). Some y) (filter_map f (x ∷ xs)) ≡ map f (x ∷ xs)
  given_next x xs all rest None is =
      let same : length (filter_map f (x ∷ xs)) ≡ length (filter_map f xs) = ap (λ (p : Option Y). length (cons_option p (filter_map f xs))) is in
      absurd (omega (arith, all, same, given_few xs))
  given_next x xs all rest (Some y) is =
      let same : filter_map f (x ∷ xs) ≡ y ∷ filter_map f xs = ap (λ (p : Option Y). cons_option p (filter_map f xs)) is in
      let size : length (filter_map f (x ∷ xs)) ≡ length (y ∷ filter_map f xs) = ap length same in
      ap (λ (ys : List Y). map (λ (z : Y). Some z) ys) same ∙ ap (λ (o : Option Y). o ∷ map (λ (z : Y). Some z) (filter_map f xs)) (sym is)
      ∙ ap (λ (os : List (Option Y)). f x ∷ os) (rest (omega (arith, all, size)))

  pub given_all : (xs : List X) → length (filter_map f xs) ≡ length xs → map (λ (y : Y). Some y) (filter_map f xs) ≡ map f xs
  given_all [] all = refl
  given_all (x ∷ xs) all = given_next x xs all (given_all xs) (f x) refl

-- where they are as many as is wanted
pub if_all : {X : Type 0} (P : X → Type 0) (b : Bool) (x : X) (r : Option X) → r ≡ then_some b x → (b ≡ true → P x) → IfSome r P
if_all {X} P true x r is all = subst (λ (o : Option X). IfSome o P) (sym is) (all refl)
if_all {X} P false x r is all = subst (λ (o : Option X). IfSome o P) (sym is) tt
