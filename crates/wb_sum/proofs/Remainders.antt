-- The long division leaves the remainder, and there is no other.
use Rattle.std.proofs.Common.{◌≡◌, ℕ, ◌+◌, ◌-◌, ◌≤◌, List, [], ◌∷◌, ◌++◌, length, refl, ap, sym, ◌∙◌, zero, suc, arith}
use Rattle.std.specs.Prelude.{Bool, true, false, not, replicate}
use Rattle.wb_sum.specs.Crc32c.{bits, plus, divisor, divide, remainder, times, IsRemainder}
use Rattle.wb_sum.proofs.Division.{length-plus, length-divide}

-- sums

pub plus_swap : (p q r : List Bool) → plus (plus p q) r ≡ plus (plus p r) q
unfolding plus
plus_swap [] [] [] = refl
plus_swap [] [] (c ∷ r) = refl
plus_swap [] (b ∷ q) [] = refl
plus_swap [] (b ∷ q) (c ∷ r) = refl
plus_swap (a ∷ p) [] [] = refl
plus_swap (a ∷ p) [] (c ∷ r) = refl
plus_swap (a ∷ p) (b ∷ q) [] = refl
plus_swap (a ∷ p) (true ∷ q) (true ∷ r) = ap (λ x. not (not a) ∷ x) (plus_swap p q r)
plus_swap (a ∷ p) (true ∷ q) (false ∷ r) = ap (λ x. not a ∷ x) (plus_swap p q r)
plus_swap (a ∷ p) (false ∷ q) (true ∷ r) = ap (λ x. not a ∷ x) (plus_swap p q r)
plus_swap (a ∷ p) (false ∷ q) (false ∷ r) = ap (λ x. a ∷ x) (plus_swap p q r)

pub plus_twice : (p q : List Bool) → plus (plus p q) q ≡ p
unfolding plus
plus_twice [] [] = refl
plus_twice [] (b ∷ q) = refl
plus_twice (a ∷ p) [] = refl
plus_twice (true ∷ p) (true ∷ q) = ap (λ x. true ∷ x) (plus_twice p q)
plus_twice (false ∷ p) (true ∷ q) = ap (λ x. false ∷ x) (plus_twice p q)
plus_twice (a ∷ p) (false ∷ q) = ap (λ x. a ∷ x) (plus_twice p q)

zeros_plus : (k : ℕ) (r : List Bool) → length r ≡ k → plus (replicate k false) r ≡ r
unfolding plus
zeros_plus zero [] h = refl
zeros_plus zero (a ∷ r) h = absurd (omega arith)
zeros_plus (suc k) [] h = absurd (omega arith)
zeros_plus (suc k) (true ∷ r) h = ap (λ x. true ∷ x) (zeros_plus k r (omega arith))
zeros_plus (suc k) (false ∷ r) h = ap (λ x. false ∷ x) (zeros_plus k r (omega arith))

-- what a quotient and a rest give together
whole_of : List Bool → List Bool → List Bool
whole_of q r = plus (times q (true ∷ divisor)) (replicate (length q) false ++ r)

whole_none : (r : List Bool) → length r ≡ 32 → whole_of [] r ≡ r
unfolding whole_of times bits
whole_none r h = zeros_plus 32 r h

whole_false : (q r : List Bool) → whole_of (false ∷ q) r ≡ false ∷ whole_of q r
unfolding whole_of times plus
whole_false q r = refl

whole_true : (q r : List Bool) → whole_of (true ∷ q) r ≡ true ∷ plus (whole_of q r) divisor
unfolding whole_of times plus
whole_true q r = ap (λ x. true ∷ x) (plus_swap (times q (true ∷ divisor)) divisor (replicate (length q) false ++ r))

length-whole : (q r : List Bool) → length r ≡ 32 → length (whole_of q r) ≡ length q + 32
length-whole [] r h = ap length (whole_none r h) ∙ omega arith
length-whole (true ∷ q) r h = ap length (whole_true q r) ∙ omega (arith, length-plus (whole_of q r) divisor, length-whole q r h)
length-whole (false ∷ q) r h = ap length (whole_false q r) ∙ omega (arith, length-whole q r h)

-- there is a quotient

quotient_of : (k : ℕ) (p : List Bool) → length p ≡ k + 32
    → (q : List Bool) × (length q ≡ k) × (p ≡ whole_of q (divide k p))
unfolding divide
quotient_of zero p h = ([], refl, sym (whole_none p (omega arith)))
quotient_of (suc k) [] h = absurd (omega arith)
quotient_of (suc k) (true ∷ p) h =
    let rest = divide k (plus p divisor) in
    let from = quotient_of k (plus p divisor) (omega (arith, length-plus p divisor)) in (
      true ∷ from.0,
      ap suc from.1,
      sym (whole_true from.0 rest ∙ ap (λ x. true ∷ plus x divisor) (sym from.2) ∙ ap (λ x. true ∷ x) (plus_twice p divisor)),
    )
quotient_of (suc k) (false ∷ p) h =
    let from = quotient_of k p (omega arith) in
    (false ∷ from.0, ap suc from.1, sym (whole_false from.0 (divide k p) ∙ ap (λ x. false ∷ x) (sym from.2)))

pub divides_whole : (p : List Bool) → 32 ≤ length p → IsRemainder p (remainder p)
unfolding remainder whole_of
divides_whole p h =
    let from = quotient_of (length p - 32) p (omega arith) in
    record {
      below = omega (arith, length-divide (length p - 32) p);
      quotient = from.0;
      whole = from.2;
    }

-- there is one rest

minus_divisor : (p q : List Bool) → plus p divisor ≡ plus q divisor → p ≡ q
minus_divisor p q e = sym (plus_twice p divisor) ∙ ap (λ x. plus x divisor) e ∙ plus_twice q divisor

tail_of : List Bool → List Bool
tail_of [] = []
tail_of (a ∷ p) = p

same_tail : (a b : Bool) (p q : List Bool) → a ∷ p ≡ b ∷ q → p ≡ q
unfolding tail_of
same_tail a b p q e = ap tail_of e

heads_differ : (p q : List Bool) → true ∷ p ≡ false ∷ q → ⊥
heads_differ p q e = cc

same_rest : (q t r s : List Bool) → length q ≡ length t → length r ≡ 32 → length s ≡ 32 → whole_of q r ≡ whole_of t s → r ≡ s
same_rest [] [] r s h hr hs e = sym (whole_none r hr) ∙ e ∙ whole_none s hs
same_rest [] (b ∷ t) r s h hr hs e = absurd (omega arith)
same_rest (a ∷ q) [] r s h hr hs e = absurd (omega arith)
same_rest (true ∷ q) (true ∷ t) r s h hr hs e =
    let both = sym (whole_true q r) ∙ e ∙ whole_true t s in
    same_rest q t r s (omega arith) hr hs
    (minus_divisor (whole_of q r) (whole_of t s) (same_tail true true (plus (whole_of q r) divisor) (plus (whole_of t s) divisor) both))
same_rest (false ∷ q) (false ∷ t) r s h hr hs e =
    let both = sym (whole_false q r) ∙ e ∙ whole_false t s in
    same_rest q t r s (omega arith) hr hs (same_tail false false (whole_of q r) (whole_of t s) both)
same_rest (true ∷ q) (false ∷ t) r s h hr hs e =
    absurd (heads_differ (plus (whole_of q r) divisor) (whole_of t s) (sym (whole_true q r) ∙ e ∙ whole_false t s))
same_rest (false ∷ q) (true ∷ t) r s h hr hs e =
    absurd (heads_differ (plus (whole_of t s) divisor) (whole_of q r) (sym (sym (whole_false q r) ∙ e ∙ whole_true t s)))

pub one_remainder : (p r s : List Bool) → IsRemainder p r → IsRemainder p s → r ≡ s
unfolding whole_of
one_remainder p r s first second =
    let e : whole_of first.quotient r ≡ whole_of second.quotient s = sym first.whole ∙ second.whole in
    let size = length-whole first.quotient r first.below in
    let sizes : length first.quotient ≡ length second.quotient =
    omega (arith, length-whole first.quotient r first.below, length-whole second.quotient s second.below, ap length e) in
    same_rest first.quotient second.quotient r s sizes first.below second.below e
