-- A pattern, put again and again.
use Rattle.std.proofs.Common.{ℕ, zero, suc, ◌≡◌, ◌+◌, ◌-◌, ◌*◌, ◌/◌, ◌%◌, ◌≤◌, List, [], ◌∷◌, ◌++◌, length, take, replicate, get_or, cond, refl, ap, sym, ◌∙◌, append-nil, append_assoc, length-append, arith}
use Rattle.std.specs.List.{concat}
use Rattle.std.specs.Result.{is_ok}
use Rattle.std.specs.Prelude.{Result, Ok, Err, OnOk}
use Rattle.std.proofs.Math.Seq.{take-nil}
use Rattle.std.proofs.Math.Nat.{mod-eq-sub-div-mul, div-mul-le_self, suc-mul}
use Rattle.wb_script.specs.Patterns.{repeated}

pub repeated_is : (pattern : List ℕ) (size : ℕ) → repeated pattern size ≡ concat (replicate (size / length pattern) pattern)
unfolding repeated
repeated_is pattern size = refl

-- it fills so many bytes, a multiple of its own
pub length-repeated : (pattern : List ℕ) (size : ℕ) → 1 ≤ length pattern → size % length pattern ≡ 0 → length (repeated pattern size) ≡ size
length-repeated pattern size some whole =
    ap length (repeated_is pattern size) ∙ times (size / length pattern) pattern
    ∙ (let fills : size / length pattern * length pattern ≡ size = omega (arith, mod-eq-sub-div-mul size (length pattern), div-mul-le_self size (length pattern), whole) in fills)
  where
    times : (k : ℕ) (pattern : List ℕ) → length (concat (replicate k pattern)) ≡ k * length pattern
    times zero pattern = let none : 0 ≡ 0 * length pattern = omega arith in none
    times (suc k) pattern = length-append pattern (concat (replicate k pattern)) ∙ (let rest = times k pattern in let more : length pattern + length (concat (replicate k pattern)) ≡ suc k * length pattern = omega (arith, rest, suc-mul k (length pattern)) in more)

-- once more
pub repeated-push : (k : ℕ) (pattern : List ℕ) → concat (replicate (k + 1) pattern) ≡ concat (replicate k pattern) ++ pattern
repeated-push zero pattern = append-nil pattern
repeated-push (suc k) pattern =
    ap (λ (n : ℕ). concat (replicate n pattern)) (let more : suc k + 1 ≡ suc (k + 1) = omega arith in more)
    ∙ ap (λ (bytes : List ℕ). pattern ++ bytes) (repeated-push k pattern) ∙ sym (append_assoc pattern (concat (replicate k pattern)) pattern)

concat_single : (n byte : ℕ) → concat (replicate n (byte ∷ [])) ≡ replicate n byte
concat_single zero byte = refl
concat_single (suc n) byte = ap (λ (bytes : List ℕ). byte ∷ bytes) (concat_single n byte)

pub repeated-one : (pattern : List ℕ) (size : ℕ) → length pattern ≡ 1 → repeated pattern size ≡ replicate size (get_or pattern 0 0)
unfolding repeated
repeated-one [] size one = absurd (omega arith)
repeated-one (byte ∷ []) size one = ap (λ (n : ℕ). concat (replicate n (byte ∷ []))) (let e : size / 1 ≡ size = omega arith in e) ∙ concat_single size byte
repeated-one (byte ∷ next ∷ more) size one = absurd (omega arith)

-- a list that was emptied, and then grew to so many of a byte
pub resized : {T E : Type 0} (r : Result T E) (emptied grown : List ℕ) (size n byte : ℕ) → emptied ≡ [] → n ≡ 0 → grown ≡ cond (is_ok r) (take size emptied ++ replicate (size - n) byte) emptied
    → OnOk r (grown ≡ replicate size byte)
resized (Ok t) emptied grown size n byte none zero_is is =
    is ∙ ap (λ (xs : List ℕ). take size xs ++ replicate (size - n) byte) none ∙ ap (λ (xs : List ℕ). xs ++ replicate (size - n) byte) (take-nil size)
    ∙ ap (λ (m : ℕ). replicate m byte) (let all : size - n ≡ size = omega (arith, zero_is) in all)
resized (Err why) emptied grown size n byte none zero_is is = tt
