-- The lines of a script, next to the parts that `split` gives.
use Rattle.std.proofs.Common.{ℕ, ◌≡◌, ◌+◌, ◌-◌, ◌<◌, suc, Bor, Bool, true, false, cond, eqb, List, [], ◌∷◌, length, get_or, take, drop, Option, Some, None, unwrap_or, ne_eqb, eq-eqb, zero, inl, inr, ◌≢◌, refl, sym, ap, ◌∙◌, arith}
use mir.Val.{bool_byte}
use Rattle.std.specs.Prelude.{IsTrue, ◌↔◌}
use Rattle.std.specs.List.{slice_split, onto_first, count_by, enumerate_from}
use Rattle.std.proofs.lemmas.Bool.{cases_eq}
use Rattle.std.proofs.lemmas.Iterator.{YieldsList}
use Rattle.std.proofs.lemmas.Iterator.Consumers.{YieldsList-turn, YieldsList-end}
use Rattle.std.proofs.lemmas.List.{get_or_default, get_or-drop, get_or-take, length-drop, length-take}
use Rattle.std.proofs.lemmas.List.FromFn.{length-enumerate_from, get_or-enumerate_from}
use Rattle.std.proofs.lemmas.List.Sums.{sum_by-cons}
use Rattle.std.proofs.lemmas.List.Splits.{length-slice_split}
use Rattle.wb_script.specs.Grammar.{but_empty_last, lines, request_lines}

-- the parts between the newlines
abbrev pub is_newline : ℕ → Bool
is_newline byte = eqb byte 10

abbrev pub parts : List ℕ → List (List ℕ)
parts bytes = slice_split is_newline bytes

-- ---- but for an empty last part

some_last : (byte : ℕ) (bytes : List ℕ) → but_empty_last ((byte ∷ bytes) ∷ []) ≡ (byte ∷ bytes) ∷ []
some_last byte bytes = ap (λ t. cond t [] ((byte ∷ bytes) ∷ [])) (ne_eqb (length (byte ∷ bytes)) 0 (λ e. omega arith))

but_empty_last-take : (ps : List (List ℕ)) → take (length (but_empty_last ps)) ps ≡ but_empty_last ps
but_empty_last-take [] = refl
but_empty_last-take ([] ∷ []) = refl
but_empty_last-take ((x ∷ xs) ∷ []) = rw (some_last x xs) refl
but_empty_last-take (part ∷ next ∷ more) = ap (λ ps. part ∷ ps) (but_empty_last-take (next ∷ more))

but_empty_last-first : (ps : List (List ℕ)) → get_or (but_empty_last ps) 0 [] ≡ get_or ps 0 []
but_empty_last-first [] = refl
but_empty_last-first ([] ∷ []) = refl
but_empty_last-first ((x ∷ xs) ∷ []) = rw (some_last x xs) refl
but_empty_last-first (part ∷ next ∷ more) = refl

pub take-lines : (bytes : List ℕ) → take (length (lines bytes)) (parts bytes) ≡ lines bytes
unfolding lines
take-lines bytes = but_empty_last-take (parts bytes)

pub first-lines : (bytes : List ℕ) → get_or (lines bytes) 0 [] ≡ get_or (parts bytes) 0 []
unfolding lines
first-lines bytes = but_empty_last-first (parts bytes)

-- ---- how many

-- 1 where there is a last byte that is no newline
abbrev pub open_end : List ℕ → ℕ
open_end [] = 0
open_end (byte ∷ []) = cond (is_newline byte) 0 1
open_end (byte ∷ next ∷ more) = open_end (next ∷ more)

open_end_last : (bytes : List ℕ) (n : ℕ) → length bytes ≡ suc n → open_end bytes ≡ cond (is_newline (get_or bytes n 0)) 0 1
open_end_last [] n e = absurd (omega arith)
open_end_last (byte ∷ []) n e = let z : n ≡ 0 = omega arith in rw z refl
open_end_last (byte ∷ next ∷ more) zero e = absurd (omega arith)
open_end_last (byte ∷ next ∷ more) (suc n) e = open_end_last (next ∷ more) n (omega arith)

-- by the test whether it is open
pub open_end-from_test : (bytes : List ℕ) (open_last : Bool)
    → IsTrue open_last ↔ ((0 < length bytes) × (get_or bytes (length bytes - 1) 0 ≢ 10)) → open_end bytes ≡ bool_byte open_last
open_end-from_test [] true h = absurd (omega (arith, (h.0 refl).0))
open_end-from_test [] false h = refl
open_end-from_test (byte ∷ bytes) true h =
    open_end_last (byte ∷ bytes) (length (byte ∷ bytes) - 1) (omega arith)
    ∙ ap (λ t. cond t 0 1) (ne_eqb _ 10 (h.0 refl).1)
open_end-from_test (byte ∷ bytes) false h =
    let last = get_or (byte ∷ bytes) (length (byte ∷ bytes) - 1) 0 in
    elim (cases_eq last 10) [
      | inl closed ↦ open_end_last (byte ∷ bytes) (length (byte ∷ bytes) - 1) (omega arith) ∙ ap (λ t. cond t 0 1) (eq-eqb last 10 closed)
      | inr is_open ↦ cc (h.1 (omega arith, is_open))
    ]

-- a first part that is ended, or a byte more in the first part
ended_more : (ps : List (List ℕ)) → 0 < length ps → length (but_empty_last ([] ∷ ps)) ≡ 1 + length (but_empty_last ps)
ended_more [] some = absurd (omega arith)
ended_more (part ∷ ps) some = omega arith

longer_first : (byte : ℕ) (ps : List (List ℕ)) → 0 < length (but_empty_last ps) → length (but_empty_last (onto_first byte ps)) ≡ length (but_empty_last ps)
longer_first byte [] some = absurd (omega arith)
longer_first byte ([] ∷ []) some = absurd (omega arith)
longer_first byte ((x ∷ xs) ∷ []) some = rw (some_last x xs, some_last byte (x ∷ xs)) refl
longer_first byte (part ∷ next ∷ more) some = refl

some_more : (byte : ℕ) (ps : List (List ℕ)) (ends : Bool) → 0 < length ps → 0 < length (but_empty_last (cond ends ([] ∷ ps) (onto_first byte ps)))
some_more byte [] ends some = absurd (omega arith)
some_more byte (part ∷ ps) true some = omega arith
some_more byte (part ∷ []) false some = rw (some_last byte part) (omega arith)
some_more byte (part ∷ next ∷ more) false some = omega arith

pub some_parts : (bytes : List ℕ) → 0 < length (parts bytes)
some_parts bytes = omega (arith, length-slice_split is_newline bytes)

more_lines : (byte : ℕ) (ps : List (List ℕ)) (ends : Bool) → 0 < length ps → 0 < length (but_empty_last ps)
    → length (but_empty_last (cond ends ([] ∷ ps) (onto_first byte ps))) ≡ cond ends 1 0 + length (but_empty_last ps)
more_lines byte ps true some more = ended_more ps some
more_lines byte ps false some more = omega (arith, longer_first byte ps more)

one_line : (byte : ℕ) (ends : Bool) → length (but_empty_last (cond ends ([] ∷ [] ∷ []) (onto_first byte ([] ∷ [])))) ≡ 0 + cond ends 1 0 + cond ends 0 1
one_line byte true = refl
one_line byte false = ap length (some_last byte [])

-- the lines of a byte and what follows it
abbrev Counted : ℕ → List ℕ → Type 0
Counted byte bytes = length (but_empty_last (parts (byte ∷ bytes))) ≡ count_by is_newline (byte ∷ bytes) + open_end (byte ∷ bytes)

counted : (byte : ℕ) (bytes : List ℕ) → Counted byte bytes
counted byte [] = one_line byte (is_newline byte)
counted byte (next ∷ more) =
    let rest = next ∷ more in
    let begins = some_more next (parts more) (is_newline next) (some_parts more) in
    let here = more_lines byte (parts rest) (is_newline byte) (some_parts rest) begins in
    let counts = sum_by-cons (λ y. cond (is_newline y) 1 0) byte rest in
    omega (arith, here, counts, counted next more)

pub length-lines : (bytes : List ℕ) → length (lines bytes) ≡ count_by is_newline bytes + open_end bytes
unfolding lines
length-lines [] = refl
length-lines (byte ∷ bytes) = counted byte bytes

-- ---- the first part

-- what the first call of `next` gave, or another where it gave none
pub first_given : {S : Type 0} {steps : S → Option (Bor (List ℕ)) → S → Type 0} {s : S} {all : List (List ℕ)} (u : S) (r : Option (Bor (List ℕ))) (other : Bor (List ℕ))
    → YieldsList steps (λ part. part.now) s all → 0 < length all → steps s r u → (unwrap_or r other).now ≡ get_or all 0 []
first_given {s = s} u (Some part) other e some given =
    let turn = YieldsList-turn e [] s refl (Some part) u part refl given in
    turn.1 ∙ get_or_default _ 0 part.now [] turn.0
first_given {s = s} u None other e some given =
    let end = YieldsList-end e [] s refl None u refl given in
    absurd (omega (arith, end.1))

-- ---- the lines behind the first

-- which line it is
pub request_line : (bytes : List ℕ) (k : ℕ) (line : List ℕ) → k < length (drop 1 (take (length (lines bytes)) (parts bytes)))
    → line ≡ get_or (drop 1 (take (length (lines bytes)) (parts bytes))) k line → (k < length (request_lines bytes)) × (line ≡ get_or (request_lines bytes) k [])
request_line bytes k line below same =
    let every : drop 1 (take (length (lines bytes)) (parts bytes)) ≡ request_lines bytes = ap (drop 1) (take-lines bytes) in
    let inside : k < length (request_lines bytes) = omega (arith, ap length every) in
    (inside, same ∙ ap (λ all. get_or all k line) every ∙ get_or_default (request_lines bytes) k line [] inside)

-- ---- each with its place

abbrev pub placed_lines : List ℕ → List (ℕ × List ℕ)
placed_lines bytes = drop 1 (take (length (lines bytes)) (enumerate_from 0 (parts bytes)))

pub length-placed_lines : (bytes : List ℕ) → length (placed_lines bytes) ≡ length (drop 1 (lines bytes))
length-placed_lines bytes =
    let n : ℕ = length (lines bytes) in
    let every = enumerate_from 0 (parts bytes) in
    omega (
      arith,
      length-drop 1 (take n every),
      length-take n every,
      length-enumerate_from 0 (parts bytes),
      length-drop 1 (lines bytes),
      length-take n (parts bytes),
      ap length (take-lines bytes),
    )

-- which line it is
pub placed_line : (bytes : List ℕ) (k : ℕ) (x : ℕ × List ℕ) → k < length (placed_lines bytes) → x ≡ get_or (placed_lines bytes) k x
    → (x.0 ≡ k + 1) × (x.1 ≡ get_or (drop 1 (lines bytes)) k []) × (k + 1 < length (lines bytes))
placed_line bytes k x below same =
    let n : ℕ = length (lines bytes) in
    let every = enumerate_from 0 (parts bytes) in
    let few = length-placed_lines bytes in
    let behind = length-drop 1 (lines bytes) in
    let inside : 1 + k < n = omega arith in
    let all = length-take n (parts bytes) in
    let fits : 1 + k < length (parts bytes) = omega (arith, ap length (take-lines bytes)) in
    let found : x ≡ (0 + (1 + k), get_or (parts bytes) (1 + k) x.1) =
    same ∙ get_or-drop 1 (take n every) k x ∙ get_or-take n every (1 + k) x inside ∙ get_or-enumerate_from 0 (parts bytes) (1 + k) x fits in
    let line : get_or (parts bytes) (1 + k) x.1 ≡ get_or (drop 1 (lines bytes)) k [] =
    get_or_default (parts bytes) (1 + k) x.1 [] fits ∙ sym (get_or-take n (parts bytes) (1 + k) [] inside) ∙ ap (λ all. get_or all (1 + k) []) (take-lines bytes)
    ∙ sym (get_or-drop 1 (lines bytes) k []) in
    let place : x.0 ≡ 0 + (1 + k) = ap (λ (y : ℕ × List ℕ). y.0) found in
    (omega (arith, place), ap (λ (y : ℕ × List ℕ). y.1) found ∙ line, omega arith)
