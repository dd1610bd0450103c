-- Words of the command line, and the numbers that they spell.
use Rattle.std.proofs.Common.{◌≡◌, ◌⊎◌, inl, inr, ◌<◌, ◌≤◌, ◌^◌, ℕ, List, [], ◌∷◌, length, map, get_or, None, Result, Ok, Err, IfErr, MatchOption, refl, sym, ap, ◌∙◌, subst, arith}
use Rattle.std.specs.Fmt.{decimal}
use Rattle.std.specs.Result.{OkIff, result_ok}
use Rattle.std.proofs.lemmas.Fmt.{decimal_injective}
use Rattle.wb_geometry.specs.Geometry.{Refuses}
use Rattle.wb_geometry.specs.declared.geometry.Geometry.{Geometry}
use Rattle.wb_geometry.specs.declared.geometry.GeometryRefused.{GeometryRefused}
use Rattle.wb_geometry.specs.declared.geometry.GeometryRefused.TheVariants.{Order, Slots, Ram, Backing}
use Rattle.wb_tool.specs.declared.command.Numbers.{Numbers}
use Rattle.wb_tool.specs.declared.command.WorkloadNumbers.{WorkloadNumbers}
use Rattle.wb_tool.specs.Commands.{SpellNumbers, SpellWorkload}

-- a number that a word spells, and whether it is below 2 ^ 32
pub fits_32 : {E : Type 0} (word : List ℕ) (n : ℕ) (r : Result ℕ E) → (n < 2 ^ 64) × (word ≡ decimal n) → OkIff r (n < 2 ^ 32) n
    → MatchOption (result_ok r) ((m : ℕ) → m < 2 ^ 32 → word ≡ decimal m → ⊥) (λ m. (m < 2 ^ 32) × (word ≡ decimal m))
fits_32 word n (Ok m) spelled fits = (omega (arith, fits.0, fits.1), spelled.1 ∙ ap decimal (sym fits.1))
fits_32 word n (Err e) spelled fits = λ m small same.
    fits (subst (λ (k : ℕ). k < 2 ^ 32) (decimal_injective m n (omega arith) spelled.0 (sym same ∙ spelled.1)) small)

-- numbers that are refused are none of those that are in their ranges
none_refused : (o s r : ℕ) (refused : GeometryRefused) → Refuses o s r 8 refused → (numbers : Numbers) → numbers.order ≡ o → numbers.slots ≡ s → numbers.ram ≡ r
    → (4 ≤ numbers.order) × (numbers.order ≤ 10) → (2 ≤ numbers.slots) × (numbers.slots ≤ 16384) → (2 ≤ numbers.ram) × (numbers.ram ≤ 64) → ⊥
none_refused o s r (Order found) why numbers a b c order slots ram = why.1 (subst (λ (k : ℕ). (4 ≤ k) × (k ≤ 10)) a order)
none_refused o s r (Slots found) why numbers a b c order slots ram = why.2 (subst (λ (k : ℕ). (2 ≤ k) × (k ≤ 16384)) b slots)
none_refused o s r (Ram found) why numbers a b c order slots ram = why.3 (subst (λ (k : ℕ). (2 ≤ k) × (k ≤ 64)) c ram)
none_refused o s r (Backing found) why numbers a b c order slots ram = why.4 (omega arith, omega arith, refl)

pub no_numbers : (order slots ram : List ℕ) (o s r : ℕ) (made : Result Geometry GeometryRefused)
    → (o < 2 ^ 32) × (order ≡ decimal o) → (s < 2 ^ 32) × (slots ≡ decimal s) → (r < 2 ^ 32) × (ram ≡ decimal r)
    → result_ok made ≡ None → IfErr made (Refuses o s r 8) → (numbers : Numbers) → SpellNumbers order slots ram numbers → ⊥
no_numbers order slots ram o s r (Ok g) spelled_o spelled_s spelled_r none refuses numbers spell = cc
no_numbers order slots ram o s r (Err refused) spelled_o spelled_s spelled_r none refuses numbers spell =
    none_refused o s r refused refuses numbers
    (decimal_injective numbers.order o (omega (arith, spell.order_fits.1)) (omega (arith, spelled_o.0)) (sym spell.order_is ∙ spelled_o.1))
    (decimal_injective numbers.slots s (omega (arith, spell.slots_fit.1)) (omega (arith, spelled_s.0)) (sym spell.slots_are ∙ spelled_s.1))
    (decimal_injective numbers.ram r (omega (arith, spell.ram_fits.1)) (omega (arith, spelled_r.0)) (sym spell.ram_is ∙ spelled_r.1))
    spell.order_fits spell.slots_fit spell.ram_fits

-- a word of a workload that spells none of its counts
pub no_workload : (seed count : List ℕ) (c : ℕ) → (c < 2 ^ 64) × (count ≡ decimal c) → (c ≡ 0) ⊎ (25000 < c) → (numbers : WorkloadNumbers) → SpellWorkload seed count numbers → ⊥
no_workload seed count c spelled out numbers spell =
    let same : numbers.count ≡ c = decimal_injective numbers.count c (omega (arith, spell.few)) spelled.0 (sym spell.count_is ∙ spelled.1) in
    elim out [
      | inl none ↦ omega (arith, same, none, spell.some)
      | inr many ↦ omega (arith, same, many, spell.few)
    ]

-- three words, five and six
pub record AreThree (words : List (List ℕ)) (name : List ℕ) : Type 0 where
  pub second : List ℕ
  pub third : List ℕ
  pub are : words ≡ name ∷ second ∷ third ∷ []

pub three_words : {X : Type 0} (text : X → List ℕ) (ws : List X) (first : X) (name : List ℕ) → length ws ≡ 3 → first ≡ get_or ws 0 first
    → text first ≡ name → AreThree (map text ws) name
three_words text [] first name three is named = absurd (omega arith)
three_words text (x ∷ []) first name three is named = absurd (omega arith)
three_words text (x ∷ y ∷ []) first name three is named = absurd (omega arith)
three_words text (x ∷ y ∷ z ∷ []) first name three is named =
    record { second = text y; third = text z; are = ap (λ w. w ∷ text y ∷ text z ∷ []) (sym (ap text is) ∙ named) }
three_words text (x ∷ y ∷ z ∷ w ∷ ws) first name three is named = absurd (omega arith)

pub record AreFive (words : List (List ℕ)) (name fourth fifth : List ℕ) : Type 0 where
  pub second : List ℕ
  pub third : List ℕ
  pub are : words ≡ name ∷ second ∷ third ∷ fourth ∷ fifth ∷ []

pub five_words : {X : Type 0} (text : X → List ℕ) (ws : List X) (a d e : X) (name : List ℕ) → length ws ≡ 5
    → a ≡ get_or ws 0 a → d ≡ get_or ws 3 d → e ≡ get_or ws 4 e
    → text a ≡ name → AreFive (map text ws) name (text d) (text e)
five_words text [] a d e name five is_a is_d is_e named = absurd (omega arith)
five_words text (p ∷ []) a d e name five is_a is_d is_e named = absurd (omega arith)
five_words text (p ∷ q ∷ []) a d e name five is_a is_d is_e named = absurd (omega arith)
five_words text (p ∷ q ∷ r ∷ []) a d e name five is_a is_d is_e named = absurd (omega arith)
five_words text (p ∷ q ∷ r ∷ s ∷ []) a d e name five is_a is_d is_e named = absurd (omega arith)
five_words text (p ∷ q ∷ r ∷ s ∷ t ∷ []) a d e name five is_a is_d is_e named =
    let whole : map text (p ∷ q ∷ r ∷ s ∷ t ∷ []) ≡ text a ∷ text q ∷ text r ∷ text d ∷ text e ∷ [] =
    rw (← is_a, ← is_d, ← is_e) refl in
    record { second = text q; third = text r; are = whole ∙ ap (λ w. w ∷ text q ∷ text r ∷ text d ∷ text e ∷ []) named }
five_words text (p ∷ q ∷ r ∷ s ∷ t ∷ u ∷ ws) a d e name five is_a is_d is_e named = absurd (omega arith)

pub record AreSix (words : List (List ℕ)) (name fourth fifth sixth : List ℕ) : Type 0 where
  pub second : List ℕ
  pub third : List ℕ
  pub are : words ≡ name ∷ second ∷ third ∷ fourth ∷ fifth ∷ sixth ∷ []

pub six_words : {X : Type 0} (text : X → List ℕ) (ws : List X) (a d e f : X) (name : List ℕ) → length ws ≡ 6
    → a ≡ get_or ws 0 a → d ≡ get_or ws 3 d → e ≡ get_or ws 4 e → f ≡ get_or ws 5 f
    → text a ≡ name → AreSix (map text ws) name (text d) (text e) (text f)
six_words text [] a d e f name six is_a is_d is_e is_f named = absurd (omega arith)
six_words text (p ∷ []) a d e f name six is_a is_d is_e is_f named = absurd (omega arith)
six_words text (p ∷ q ∷ []) a d e f name six is_a is_d is_e is_f named = absurd (omega arith)
six_words text (p ∷ q ∷ r ∷ []) a d e f name six is_a is_d is_e is_f named = absurd (omega arith)
six_words text (p ∷ q ∷ r ∷ s ∷ []) a d e f name six is_a is_d is_e is_f named = absurd (omega arith)
six_words text (p ∷ q ∷ r ∷ s ∷ t ∷ []) a d e f name six is_a is_d is_e is_f named = absurd (omega arith)
six_words text (p ∷ q ∷ r ∷ s ∷ t ∷ u ∷ []) a d e f name six is_a is_d is_e is_f named =
    let whole : map text (p ∷ q ∷ r ∷ s ∷ t ∷ u ∷ []) ≡ text a ∷ text q ∷ text r ∷ text d ∷ text e ∷ text f ∷ [] =
    rw (← is_a, ← is_d, ← is_e, ← is_f) refl in
    record { second = text q; third = text r; are = whole ∙ ap (λ w. w ∷ text q ∷ text r ∷ text d ∷ text e ∷ text f ∷ []) named }
six_words text (p ∷ q ∷ r ∷ s ∷ t ∷ u ∷ v ∷ ws) a d e f name six is_a is_d is_e is_f named = absurd (omega arith)
