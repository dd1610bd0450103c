-- The letters of the commands, and the words of a line that are numbers.
use Rattle.std.proofs.Common.{ℕ, ◌≡◌, ◌<◌, cond, eqb, zero, suc, inl, inr, ◌⊎◌, List, [], ◌∷◌, length, get_or, map, refl, sym, ap, subst, ◌∙◌, arith}
use Rattle.std.specs.List.{range_with_len, Contains}
use Rattle.std.proofs.lemmas.Fmt.{decimal_injective}
use Rattle.std.proofs.lemmas.List.FromFn.{fill_by_all}
use Rattle.wb_script.specs.Commands.{letter, numbers, word, IsNumber, IsRanged}
use Rattle.wb_script.specs.Grammar.{Names}
use Rattle.wb_script.specs.Reading.{HasNumber}
use Rattle.wb_script.specs.declared.request.Command.{Command}
use Rattle.wb_script.specs.declared.request.Command.TheVariants.{Write, ForcedWrite, Read, ReadSum, Flush, Defer, Tell, Hear}

-- ---- letters

-- the command whose letter has this code
abbrev named_by : ℕ → Command
named_by code =
    cond (eqb code 119) Write (cond (eqb code 117) ForcedWrite (cond (eqb code 114) Read (cond (eqb code 120) ReadSum
    (cond (eqb code 102) Flush (cond (eqb code 113) Defer (cond (eqb code 116) Tell Hear))))))

named_by-letter : (named : Command) → named_by (get_or (letter named) 0 0) ≡ named
named_by-letter Write = refl
named_by-letter ForcedWrite = refl
named_by-letter Read = refl
named_by-letter ReadSum = refl
named_by-letter Flush = refl
named_by-letter Defer = refl
named_by-letter Tell = refl
named_by-letter Hear = refl

-- two commands have two letters
pub one_letter : (a b : Command) → letter a ≡ letter b → a ≡ b
one_letter a b same = sym (named_by-letter a) ∙ ap (λ text. named_by (get_or text 0 0)) same ∙ named_by-letter b

pub one_name : (parts : List (List ℕ)) (a b : Command) → Names parts a → Names parts b → b ≡ a
one_name parts a b x y = one_letter b a (sym y ∙ x)

-- ---- numbers

pub one_number : (text : List ℕ) (a b : ℕ) → IsNumber text a → IsNumber text b → b ≡ a
one_number text a b x y = decimal_injective b a y.small x.small (sym y.spelled ∙ x.spelled)

-- the words of a line of so many
pub spelled_by : (parts : List (List ℕ)) (n : ℕ) → length parts ≡ n → parts ≡ map (word parts) (range_with_len 0 n)
spelled_by parts n e = fill_by_all (word parts) parts n [] e (λ k below. refl)

two_at : (a b at k : ℕ) → k < 2 → get_or (a ∷ b ∷ []) k at ≡ at → (at ≡ a) ⊎ (at ≡ b)
two_at a b at zero below same = inl (sym same)
two_at a b at (suc zero) below same = inr (sym same)
two_at a b at (suc (suc k)) below same = absurd (omega arith)

pub two_places : (a b at : ℕ) → Contains (a ∷ b ∷ []) at → (at ≡ a) ⊎ (at ≡ b)
two_places a b at has = two_at a b at has.0 has.1 has.2

one_at : (a at k : ℕ) → k < 1 → get_or (a ∷ []) k at ≡ at → at ≡ a
one_at a at zero below same = sym same
one_at a at (suc k) below same = absurd (omega arith)

pub one_place : (a at : ℕ) → Contains (a ∷ []) at → at ≡ a
one_place a at has = one_at a at has.0 has.1 has.2

pub no_place : (at : ℕ) → Contains {X = ℕ} [] at → ⊥
no_place at has = omega (arith, has.1)

-- a command with a sector and a count
pub numbers-ranged : (named : Command) → IsRanged named → numbers named ≡ 2 ∷ 3 ∷ []
numbers-ranged named (inl (inl write)) = ap numbers write
numbers-ranged named (inl (inr write)) = ap numbers write
numbers-ranged named (inr (inl read)) = ap numbers read
numbers-ranged named (inr (inr sum)) = ap numbers sum

pub ranged-numbers : (parts : List (List ℕ)) (named : Command) → IsRanged named → HasNumber (word parts 2) → HasNumber (word parts 3)
    → (at : ℕ) → Contains (numbers named) at → HasNumber (word parts at)
ranged-numbers parts named ranged second third at has =
    elim (two_places 2 3 at (subst (λ all. Contains all at) (numbers-ranged named ranged) has)) [
      | inl two ↦ subst (λ k. HasNumber (word parts k)) (sym two) second
      | inr three ↦ subst (λ k. HasNumber (word parts k)) (sym three) third
    ]
