-- The runs of set bits of a byte, as its trailing zeros and ones tell them.
use Rattle.std.proofs.Common.{ℕ, ◌≡◌, ◌≢◌, ◌+◌, ◌-◌, ◌/◌, ◌%◌, ◌^◌, ◌<◌, ◌≤◌, ap, sym, ◌∙◌, subst, inl, inr, arith}
use Rattle.std.specs.Int.{w16, bit_at, trailing_zeros, trailing_ones}
use Rattle.std.proofs.Math.Nat.{div-div-eq-div-mul, div-le_self}
use Rattle.std.proofs.lemmas.Bool.{cases_lt}
use Rattle.std.proofs.lemmas.Nat.{pow-add}
use Rattle.std.proofs.lemmas.Nat.Bits.{bit_at-zero, bit_at_above, bit_at-trailing_zeros, bit_at-trailing_ones}
use Rattle.wb_runs.specs.Runs.{IsFirstRun}

-- a bit of a shifted number
bit_at-shr : (n s i : ℕ) → bit_at (n / 2 ^ s) i ≡ bit_at n (s + i)
bit_at-shr n s i = ap (λ (m : ℕ). m % 2) (div-div-eq-div-mul n (2 ^ s) (2 ^ i) ∙ ap (λ (m : ℕ). n / m) (sym (pow-add 2 s i)))

shifted_bit : (n s i : ℕ) → s ≤ i → bit_at n i ≡ bit_at (n / 2 ^ s) (i - s)
shifted_bit n s i from =
    let back : s + (i - s) ≡ i = omega arith in
    sym (bit_at-shr n s (i - s) ∙ ap (bit_at n) back)

-- where nothing is left behind the shift, no bit from there on is set
pub none_left : (bits from : ℕ) → bits / 2 ^ from ≡ 0 → (i : ℕ) → from ≤ i → i < 8 → bit_at bits i ≡ 0
none_left bits from none i start below = shifted_bit bits from i start ∙ ap (λ (n : ℕ). bit_at n (i - from)) none ∙ bit_at-zero (i - from)

set_below : (bits i : ℕ) → bits < 256 → bit_at bits i ≡ 1 → i < 8
set_below bits i byte set = elim (cases_lt i 8) [
  | inl below ↦ below
  | inr above ↦ let clear : bit_at bits i ≡ 0 = bit_at_above bits 8 i byte above in absurd (omega (arith, set, clear))
]

one_is_not_zero : (n : ℕ) → n ≡ 1 → n ≡ 0 → ⊥
one_is_not_zero n one zero = omega arith

-- a run, by its bits behind the shifts
run_from_bits : (bits from first count zeros : ℕ) → bits < 256 → first ≡ from + zeros
    → bit_at (bits / 2 ^ from) zeros ≡ 1 → ((i : ℕ) → i < zeros → bit_at (bits / 2 ^ from) i ≡ 0)
    → bit_at (bits / 2 ^ first) count ≡ 0 → ((i : ℕ) → i < count → bit_at (bits / 2 ^ first) i ≡ 1)
    → IsFirstRun bits from first count
run_from_bits bits from first count zeros byte place one clear stop ones = record {
  start = omega arith;
  some = some;
  inside = elim (cases_lt 0 count) [
    | inl more ↦
        let last : first + count - 1 < 8 = set_below bits (first + count - 1) byte (set (first + count - 1) (omega arith) (omega arith)) in
        omega arith
    | inr none ↦ absurd (omega (arith, some, none))
  ];
  set = set;
  before = λ i start below. shifted_bit bits from i start ∙ clear (i - from) (omega arith);
  behind = λ below. sym (bit_at-shr bits first count) ∙ stop;
}
  where
    set : (i : ℕ) → first ≤ i → i < first + count → bit_at bits i ≡ 1
    set i start below = shifted_bit bits first i start ∙ ones (i - first) (omega arith)

    set_first : bit_at bits first ≡ 1
    set_first = ap (bit_at bits) place ∙ sym (bit_at-shr bits from zeros) ∙ one

    zero_plus : first + 0 ≡ first
    zero_plus = omega arith

    first_is_set : bit_at (bits / 2 ^ first) 0 ≡ 1
    first_is_set = bit_at-shr bits first 0 ∙ ap (bit_at bits) zero_plus ∙ set_first

    some : 1 ≤ count
    some = elim (cases_lt 0 count) [
      | inl more ↦ more
      | inr none ↦
          let is : count ≡ 0 = omega arith in
          let clear_first : bit_at (bits / 2 ^ first) 0 ≡ 0 = ap (bit_at (bits / 2 ^ first)) (sym is) ∙ stop in
          absurd (one_is_not_zero (bit_at (bits / 2 ^ first) 0) first_is_set clear_first)
    ]

shifted_small : (bits s : ℕ) → bits < 256 → bits / 2 ^ s + 1 < 2 ^ 16
shifted_small bits s byte = let less : bits / 2 ^ s ≤ bits = div-le_self bits (2 ^ s) in omega (arith, less, byte)

positive : (n : ℕ) → n ≢ 0 → 0 < n
positive n other = omega arith

less_one : (n m : ℕ) → n + 1 < m → n < m
less_one n m below = omega arith

lowest : (bits from : ℕ) → bits < 256 → bits / 2 ^ from ≢ 0
    → (trailing_zeros w16 (bits / 2 ^ from) < 16) × (bit_at (bits / 2 ^ from) (trailing_zeros w16 (bits / 2 ^ from)) ≡ 1) × ((i : ℕ) → i < trailing_zeros w16 (bits / 2 ^ from) → bit_at (bits / 2 ^ from) i ≡ 0)
lowest bits from byte some =
    bit_at-trailing_zeros w16 (bits / 2 ^ from) (positive (bits / 2 ^ from) some) (less_one (bits / 2 ^ from) (2 ^ 16) (shifted_small bits from byte))

-- its first bit
pub first_below : (bits from : ℕ) → bits < 256 → bits / 2 ^ from ≢ 0 → from + trailing_zeros w16 (bits / 2 ^ from) < 8
first_below bits from byte some =
    set_below bits (from + trailing_zeros w16 (bits / 2 ^ from)) byte (sym (bit_at-shr bits from (trailing_zeros w16 (bits / 2 ^ from))) ∙ (lowest bits from byte some).1)

-- the first run
pub run_left : (bits from first count : ℕ) → bits < 256 → bits / 2 ^ from ≢ 0
    → first ≡ from + trailing_zeros w16 (bits / 2 ^ from) → count ≡ trailing_ones w16 (bits / 2 ^ first) → IsFirstRun bits from first count
run_left bits from first count byte some is_first is_count =
    let low = lowest bits from byte some in
    let high = bit_at-trailing_ones w16 (bits / 2 ^ first) (shifted_small bits first byte) in
    run_from_bits bits from first count (trailing_zeros w16 (bits / 2 ^ from)) byte is_first low.1 low.2
    (ap (bit_at (bits / 2 ^ first)) is_count ∙ high.1) (λ i below. high.2 i (subst (λ (n : ℕ). i < n) is_count below))
