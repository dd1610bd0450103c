-- Words that are the decimal text of a number.
use Rattle.std.proofs.Common.{ℕ, ◌≡◌, ◌≢◌, ◌<◌, ◌^◌, List, length, get_or, Result, Ok, Err, Some, None, subst, inl, inr, refl, arith}
use Rattle.std.specs.Fmt.{decimal}
use Rattle.std.specs.Option.{MatchOption}
use Rattle.std.specs.Result.{MatchResult, result_ok}
use Rattle.std.specs.Str.Parse.{ParsesUnsigned, AllDigits, digits_value}
use Rattle.std.proofs.lemmas.Bool.{cases_eq}
use Rattle.std.proofs.lemmas.Fmt.{decimal_digit, first_decimal, parse-decimal, decimal-digits_value}
use Rattle.std.proofs.lemmas.Str.Parse.{IsNumeralModel, numerals_by_value, tells_digits, parse_plain}

-- a word that begins with no plus, and with a zero only where that is all
abbrev pub IsPlain : List ℕ → Type 0
IsPlain word = (get_or word 0 0 ≢ 43) × (get_or word 0 0 ≡ 48 → length word ≡ 1)

pub IsPlain-decimal : (n : ℕ) → n < 2 ^ 64 → IsPlain (decimal n)
IsPlain-decimal n small =
    elim (cases_eq n 0) [
      | inl none ↦ rw (none, decimal_digit 0 (omega arith)) ((λ e. omega arith), λ e. refl)
      | inr some ↦
          let first = first_decimal n (omega arith) small in
          ((λ e. omega arith), λ e. absurd (omega arith))
    ]

numerals : IsNumeralModel (AllDigits 10) (digits_value 10)
numerals = numerals_by_value (AllDigits 10) tells_digits

-- what a result says of its value, or of its error
pub value_of : {T E : Type 0} (P : T → Type 0) (Q : E → Type 0) (r : Result T E) (x : T) → result_ok r ≡ Some x → MatchResult r P Q → P x
value_of P Q (Ok y) x some h = let e : y ≡ x = cc in subst P e h
value_of P Q (Err e) x some h = cc some

pub error_of : {T E : Type 0} (P : T → Type 0) (Q : E → Type 0) (r : Result T E) → result_ok r ≡ None → MatchResult r P Q → (e : E) × Q e
error_of P Q (Ok x) none h = cc none
error_of P Q (Err e) none h = (e, h)

-- what a plain word is read as: the number whose text it is, or none where there is no such number
pub read_as : {E : Type 0} (word : List ℕ) (r : Result ℕ E) → ParsesUnsigned 64 10 word r → IsPlain word
    → MatchOption (result_ok r) ((n : ℕ) → n < 2 ^ 64 → word ≡ decimal n → ⊥) (λ n. (n < 2 ^ 64) × (word ≡ decimal n))
read_as {E} word (Ok n) reads plain =
    let found = parse_plain numerals {E = E} 64 word (Ok n) reads plain.0 in
    let small = found.0.2 in
    let own = decimal-digits_value numerals word found.0.0 found.0.1 plain.1 small in
    (rw found.1 small, rw (found.1, own) refl)
read_as word (Err e) reads plain = λ n small same. cc (parse-decimal 64 n word (Err e) small small same reads)
