-- What a table says, and a word by its bytes.
use Rattle.std.proofs.Common.{◌≡◌, ℕ, ◌+◌, ◌*◌, ◌/◌, ◌%◌, ◌^◌, ◌<◌, List, [], ◌∷◌, length, get_or, ap, sym, ◌∙◌, zero, suc, arith, true}
use Rattle.std.specs.Prelude.{◌==◌, ◌&&◌, IsTrue}
use Rattle.std.specs.Int.Bits.{bit_xor, xor_zero_r, xor_assoc}
use Rattle.std.proofs.lemmas.Nat.{shr-shr}
use Rattle.std.proofs.lemmas.Bool.{and_parts, eqb-true}
use Rattle.wb_sum.specs.Register.{reduce, are_remainders, are_tables}
use Rattle.wb_sum.proofs.Registers.{reduce_xor, reduce_shifted, reduce_add, reduce_zero}
use Rattle.wb_sum.proofs.Division.{low_xor_high}

remainder_at : (steps i : ℕ) (rs : List ℕ) (from : ℕ) → are_remainders steps from rs ≡ true → i < length rs → get_or rs i 0 ≡ reduce steps (from + i)
unfolding are_remainders
remainder_at steps i [] from h below = absurd (omega arith)
remainder_at steps zero (r ∷ rs) from h below =
    let parts = and_parts (reduce steps from == r) (are_remainders steps (from + 1) rs) h in
    let e : from ≡ from + 0 = omega arith in
    sym (eqb-true (reduce steps from) r parts.0) ∙ ap (reduce steps) e
remainder_at steps (suc i) (r ∷ rs) from h below =
    let parts = and_parts (reduce steps from == r) (are_remainders steps (from + 1) rs) h in
    let e : from + 1 + i ≡ from + suc i = omega arith in
    remainder_at steps i rs (from + 1) parts.1 (omega arith) ∙ ap (reduce steps) e

row_at : (byte row : ℕ) (ts : List (List ℕ)) (behind : ℕ) → are_tables behind ts ≡ true → row < length ts → byte < 256
    → get_or (get_or ts row []) byte 0 ≡ reduce (8 * (behind + row + 1)) byte
unfolding are_tables
row_at byte row [] behind h inside small = absurd (omega arith)
row_at byte zero (t ∷ ts) behind h inside small =
    let parts = and_parts ((length t == 256) && are_remainders (8 * (behind + 1)) 0 t) (are_tables (behind + 1) ts) h in
    let more = and_parts (length t == 256) (are_remainders (8 * (behind + 1)) 0 t) parts.0 in
    let size = eqb-true (length t) 256 more.0 in
    let steps : 8 * (behind + 1) ≡ 8 * (behind + 0 + 1) = omega arith in
    let same : 0 + byte ≡ byte = omega arith in
    remainder_at (8 * (behind + 1)) byte t 0 more.1 (omega arith) ∙ ap (reduce (8 * (behind + 1))) same ∙ ap (λ k. reduce k byte) steps
row_at byte (suc row) (t ∷ ts) behind h inside small =
    let parts = and_parts ((length t == 256) && are_remainders (8 * (behind + 1)) 0 t) (are_tables (behind + 1) ts) h in
    let more = and_parts (length t == 256) (are_remainders (8 * (behind + 1)) 0 t) parts.0 in
    let steps : 8 * (behind + 1 + row + 1) ≡ 8 * (behind + suc row + 1) = omega arith in
    row_at byte row ts (behind + 1) parts.1 (omega arith) small ∙ ap (λ k. reduce k byte) steps

pub look : (byte row : ℕ) (ts : List (List ℕ)) (behind : ℕ) → length ts ≡ 8 → IsTrue (are_tables behind ts) → row < 8 → byte < 256
    → get_or (get_or ts row []) byte 0 ≡ reduce (8 * (behind + row + 1)) byte
look byte row ts behind size h inside small = row_at byte row ts behind h (omega arith) small

-- a number by its lowest byte and the rest

pub byte_off : (behind row n : ℕ) → reduce (8 * (behind + (row + 1))) n ≡ bit_xor (reduce (8 * (behind + row + 1)) (n % 256)) (reduce (8 * (behind + row)) (n / 256))
byte_off behind row n =
    let low = n % 256 in
    let high = n / 256 in
    let k = 8 * (behind + (row + 1)) in
    let e : n ≡ low + high * 256 = omega arith in
    let steps : k ≡ 8 + 8 * (behind + row) = omega arith in
    let same : k ≡ 8 * (behind + row + 1) = omega arith in
    ap (reduce k) (e ∙ low_xor_high low high (omega arith))
    ∙ reduce_xor k low (high * 256)
    ∙ ap (λ j. bit_xor (reduce j low) (reduce k (high * 256))) same
    ∙ ap (bit_xor (reduce (8 * (behind + row + 1)) low))
    (ap (λ j. reduce j (high * 256)) steps
    ∙ reduce_add 8 (8 * (behind + row)) (high * 256)
    ∙ ap (reduce (8 * (behind + row))) (reduce_shifted 8 high))

-- one byte of a register
pub register_byte : (n : ℕ) → bit_xor (reduce (8 * (0 + 0 + 1)) (n % 256)) (n / 256) ≡ reduce 8 n
unfolding reduce
register_byte n = sym (byte_off 0 0 n)

-- the next byte of a word, on what the bytes before it gave
next_byte : (behind row n sum rest : ℕ) → n / 256 ≡ rest
    → bit_xor sum (reduce (8 * (behind + (row + 1))) n) ≡ bit_xor (bit_xor sum (reduce (8 * (behind + row + 1)) (n % 256))) (reduce (8 * (behind + row)) rest)
next_byte behind row n sum rest e =
    ap (bit_xor sum) (byte_off behind row n ∙ ap (λ x. bit_xor (reduce (8 * (behind + row + 1)) (n % 256)) (reduce (8 * (behind + row)) x)) e)
    ∙ sym (xor_assoc sum (reduce (8 * (behind + row + 1)) (n % 256)) (reduce (8 * (behind + row)) rest))

last_byte : (behind n sum : ℕ) → n % 256 ≡ n
    → bit_xor (bit_xor sum (reduce (8 * (behind + 0 + 1)) (n % 256))) (reduce (8 * (behind + 0)) 0) ≡ bit_xor sum (reduce (8 * (behind + 0 + 1)) n)
last_byte behind n sum small =
    ap (bit_xor (bit_xor sum (reduce (8 * (behind + 0 + 1)) (n % 256)))) (reduce_zero (8 * (behind + 0)))
    ∙ xor_zero_r (bit_xor sum (reduce (8 * (behind + 0 + 1)) (n % 256)))
    ∙ ap (λ x. bit_xor sum (reduce (8 * (behind + 0 + 1)) x)) small

-- eight bytes of a word, each by its row
pub word_bytes : (behind w : ℕ) → w < 2 ^ 64
    → reduce (8 * (behind + 8)) w
    ≡ bit_xor (bit_xor (bit_xor (bit_xor (bit_xor (bit_xor (bit_xor
    (reduce (8 * (behind + 7 + 1)) (w % 256))
    (reduce (8 * (behind + 6 + 1)) (w / 2 ^ 8 % 256)))
    (reduce (8 * (behind + 5 + 1)) (w / 2 ^ 16 % 256)))
    (reduce (8 * (behind + 4 + 1)) (w / 2 ^ 24 % 256)))
    (reduce (8 * (behind + 3 + 1)) (w / 2 ^ 32 % 256)))
    (reduce (8 * (behind + 2 + 1)) (w / 2 ^ 40 % 256)))
    (reduce (8 * (behind + 1 + 1)) (w / 2 ^ 48 % 256)))
    (reduce (8 * (behind + 0 + 1)) (w / 2 ^ 56))
word_bytes behind w h =
    let r = λ (k n : ℕ). reduce (8 * (behind + k + 1)) n in
    let none : w / 2 ^ 56 / 256 ≡ 0 = omega arith in
    let small : w / 2 ^ 56 % 256 ≡ w / 2 ^ 56 = omega arith in
    let h1 = next_byte behind 6 (w / 2 ^ 8) (r 7 (w % 256)) (w / 2 ^ 16) (shr-shr w 8 8) in
    let h2 = next_byte behind 5 (w / 2 ^ 16) (bit_xor (r 7 (w % 256)) (r 6 (w / 2 ^ 8 % 256))) (w / 2 ^ 24) (shr-shr w 16 8) in
    let h3 = next_byte behind 4 (w / 2 ^ 24) (bit_xor (bit_xor (r 7 (w % 256)) (r 6 (w / 2 ^ 8 % 256))) (r 5 (w / 2 ^ 16 % 256))) (w / 2 ^ 32) (shr-shr w 24 8) in
    byte_off behind 7 w
    ∙ h1
    ∙ h2
    ∙ h3
    ∙ next_byte behind 3 (w / 2 ^ 32) _ (w / 2 ^ 40) (shr-shr w 32 8)
    ∙ next_byte behind 2 (w / 2 ^ 40) _ (w / 2 ^ 48) (shr-shr w 40 8)
    ∙ next_byte behind 1 (w / 2 ^ 48) _ (w / 2 ^ 56) (shr-shr w 48 8)
    ∙ next_byte behind 0 (w / 2 ^ 56) _ 0 none
    ∙ last_byte behind (w / 2 ^ 56) _ small
