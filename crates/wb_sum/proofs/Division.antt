-- The checksum by a register: the long division of a list of bits is the division of the number that it spells.
use Rattle.std.proofs.Common.{◌≡◌, ℕ, ◌+◌, ◌-◌, ◌*◌, ◌/◌, ◌%◌, ◌^◌, ◌<◌, ◌≤◌, List, [], ◌∷◌, ◌++◌, length, map, take, drop, refl, ap, sym, ◌∙◌, zero, suc, arith, add-one}
use Rattle.std.specs.Prelude.{Bool, true, false, not, if◌then◌else◌, replicate, ◌==◌}
use Rattle.std.specs.List.{flat_map}
use Rattle.std.proofs.Math.Nat.{pow-suc}
use Rattle.std.specs.Int.{w32, bit_not}
use Rattle.std.specs.Int.Bits.{bit_xor, xor_zero_r, xor_zero_l, xor_assoc}
use Rattle.std.proofs.lemmas.Nat.{xor_block, mod-pow-add, xor_comm}
use Rattle.std.proofs.lemmas.List.{length-append}
use Rattle.std.proofs.lemmas.Grind.{flat_map-append}
use Rattle.std.proofs.lemmas.Bool.Decides.{nat_tests}
use Rattle.wb_sum.specs.Crc32c.{bits, number, plus, divisor, divide, remainder, message, inverted_front, sum_of}
use Rattle.wb_sum.specs.Register.{reduced, reduce, run}
use Rattle.wb_sum.proofs.Registers.{reduce_xor, reduce_shifted, reduce_add, run_append, run_lt}

-- lengths

pub length-plus : (p q : List Bool) → length (plus p q) ≡ length p
unfolding plus
length-plus [] [] = refl
length-plus [] (b ∷ q) = refl
length-plus (a ∷ p) [] = refl
length-plus (a ∷ p) (b ∷ q) = ap suc (length-plus p q)

pub length-bits : (k n : ℕ) → length (bits k n) ≡ k
unfolding bits
length-bits zero n = refl
length-bits (suc k) n = ap suc (length-bits k (n / 2))

pub length-divide : (k : ℕ) (p : List Bool) → length (divide k p) ≡ length p - k
unfolding divide
length-divide zero p = omega arith
length-divide (suc k) [] = omega arith
length-divide (suc k) (true ∷ p) = omega (arith, length-divide k (plus p divisor), length-plus p divisor)
length-divide (suc k) (false ∷ p) = omega (arith, length-divide k p)

-- numbers

xor_bits : (a b m n : ℕ) → a < 2 → b < 2 → bit_xor (a + 2 * m) (b + 2 * n) ≡ bit_xor a b + 2 * bit_xor m n
xor_bits a b m n p q =
    let ea : a + 2 * m ≡ m * 2 ^ 1 + a = omega arith in
    let eb : b + 2 * n ≡ n * 2 ^ 1 + b = omega arith in
    let e = xor_block 1 m n a b p q in
    rw (ea, eb) (omega (arith, e))

number_plus : (p q : List Bool) → length q ≤ length p → number (plus p q) ≡ bit_xor (number p) (number q)
unfolding plus number
number_plus [] [] h = refl
number_plus [] (b ∷ q) h = absurd (omega arith)
number_plus (a ∷ p) [] h = sym (xor_zero_r _)
number_plus (true ∷ p) (true ∷ q) h =
    let more = number_plus p q (omega arith) in
    ap (λ n. 0 + 2 * n) more ∙ sym (xor_bits 1 1 (number p) (number q) (omega arith) (omega arith))
number_plus (true ∷ p) (false ∷ q) h =
    let more = number_plus p q (omega arith) in
    ap (λ n. 1 + 2 * n) more ∙ sym (xor_bits 1 0 (number p) (number q) (omega arith) (omega arith))
number_plus (false ∷ p) (true ∷ q) h =
    let more = number_plus p q (omega arith) in
    ap (λ n. 1 + 2 * n) more ∙ sym (xor_bits 0 1 (number p) (number q) (omega arith) (omega arith))
number_plus (false ∷ p) (false ∷ q) h =
    let more = number_plus p q (omega arith) in
    ap (λ n. 0 + 2 * n) more ∙ sym (xor_bits 0 0 (number p) (number q) (omega arith) (omega arith))

number_divisor : number divisor ≡ 0x82F63B78
unfolding bits number
number_divisor = refl

pub length_divisor : length divisor ≡ 32
unfolding bits
length_divisor = refl

reduced_odd : (m : ℕ) → reduced (1 + 2 * m) ≡ bit_xor m 0x82F63B78
reduced_odd m =
    let half : (1 + 2 * m) / 2 ≡ m = omega arith in
    let low : (1 + 2 * m) % 2 ≡ 1 = omega arith in
    rw (half, low) refl

reduced_even : (m : ℕ) → reduced (0 + 2 * m) ≡ m
reduced_even m =
    let half : (0 + 2 * m) / 2 ≡ m = omega arith in
    let low : (0 + 2 * m) % 2 ≡ 0 = omega arith in
    rw (half, low) (xor_zero_r m)

number_divide : (k : ℕ) (p : List Bool) → k + 32 ≤ length p → number (divide k p) ≡ reduce k (number p)
unfolding divide reduce number
number_divide zero p h = refl
number_divide (suc k) [] h = absurd (omega arith)
number_divide (suc k) (true ∷ p) h =
    number_divide k (plus p divisor) (omega (arith, length-plus p divisor))
    ∙ ap (reduce k) (number_plus p divisor (omega (arith, length_divisor)) ∙ ap (bit_xor (number p)) number_divisor ∙ sym (reduced_odd (number p)))
number_divide (suc k) (false ∷ p) h =
    number_divide k p (omega arith) ∙ ap (reduce k) (sym (reduced_even (number p)))

-- 2 ^ k - 1 by recursion
ones : ℕ → ℕ
ones zero = 0
ones (suc k) = 1 + 2 * ones k

ones_is : (k : ℕ) → ones k + 1 ≡ 2 ^ k
unfolding ones
ones_is zero = refl
ones_is (suc k) = rw (pow-suc 2 k) (omega (arith, ones_is k))

number_not : (p : List Bool) → number (map not p) + number p + 1 ≡ 2 ^ length p
unfolding number
number_not [] = refl
number_not (true ∷ p) = rw (pow-suc 2 (length p)) (omega (arith, number_not p))
number_not (false ∷ p) = rw (pow-suc 2 (length p)) (omega (arith, number_not p))

number_front : (k : ℕ) (p : List Bool) → k ≤ length p → number (map not (take k p) ++ drop k p) ≡ bit_xor (number p) (ones k)
unfolding number ones
number_front zero p h = sym (xor_zero_r (number p))
number_front (suc k) [] h = absurd (omega arith)
number_front (suc k) (true ∷ p) h =
    let more = number_front k p (omega arith) in
    ap (λ n. 0 + 2 * n) more ∙ sym (xor_bits 1 1 (number p) (ones k) (omega arith) (omega arith))
number_front (suc k) (false ∷ p) h =
    let more = number_front k p (omega arith) in
    ap (λ n. 1 + 2 * n) more ∙ sym (xor_bits 0 1 (number p) (ones k) (omega arith) (omega arith))

number_zeros : (k : ℕ) → number (replicate k false) ≡ 0
unfolding number
number_zeros zero = refl
number_zeros (suc k) = omega (arith, number_zeros k)

number_then_zeros : (p : List Bool) (k : ℕ) → number (p ++ replicate k false) ≡ number p
unfolding number
number_then_zeros [] k = number_zeros k
number_then_zeros (a ∷ p) k = ap (λ n. (if a then 1 else 0) + 2 * n) (number_then_zeros p k)

number-append : (p q : List Bool) → number (p ++ q) ≡ number p + number q * 2 ^ length p
unfolding number
number-append [] q = omega arith
number-append (a ∷ p) q = rw (pow-suc 2 (length p)) (omega (arith, number-append p q))

-- one byte

bit_of : (n : ℕ) → (if n % 2 == 1 then 1 else 0) ≡ n % 2
bit_of n = grind (arith, nat_tests)

number_bits : (k n : ℕ) → number (bits k n) ≡ n % 2 ^ k
unfolding bits number
number_bits zero n = omega arith
number_bits (suc k) n =
    let low = bit_of n in
    let more = number_bits k (n / 2) in
    let e = mod-pow-add n k 1 in
    let same : n % 2 ^ suc k ≡ n % 2 ^ (k + 1) = ap (λ j. n % 2 ^ j) (sym (add-one k)) in
    omega (arith, low, more, e, same)

pub number_message : (byte : ℕ) (bytes : List ℕ) → number (message (byte ∷ bytes)) ≡ byte % 256 + number (message bytes) * 256
unfolding message
number_message byte bytes =
    number-append (bits 8 byte) (flat_map (bits 8) bytes)
    ∙ ap (λ k. number (bits 8 byte) + number (flat_map (bits 8) bytes) * 2 ^ k) (length-bits 8 byte)
    ∙ ap (λ n. n + number (flat_map (bits 8) bytes) * 256) (number_bits 8 byte)

pub length-message : (bytes : List ℕ) → length (message bytes) ≡ 8 * length bytes
unfolding message
length-message [] = refl
length-message (byte ∷ bytes) =
    length-append (bits 8 byte) (flat_map (bits 8) bytes) ∙ omega (arith, length-bits 8 byte, length-message bytes)

run_none : (start : ℕ) → start ≡ reduce (8 * length {A = ℕ} []) (bit_xor start (number (message [])))
unfolding reduce message number
run_none start = sym (xor_zero_r start)

front_size : (k : ℕ) (p : List Bool) → k ≤ length p → length (map not (take k p) ++ drop k p) ≡ length p
front_size zero p h = refl
front_size (suc k) [] h = absurd (omega arith)
front_size (suc k) (a ∷ p) h = ap suc (front_size k p (omega arith))

-- a register after bytes is the division of the bytes with the register before them

pub low_xor_high : (low high : ℕ) → low < 256 → low + high * 256 ≡ bit_xor low (high * 256)
low_xor_high low high h =
    let e = xor_block 8 0 high low 0 h (omega arith) in
    let zero_high : bit_xor 0 high ≡ high = xor_zero_l high in
    let zero_low : bit_xor low 0 ≡ low = xor_zero_r low in
    let ea : 0 * 2 ^ 8 + low ≡ low = omega arith in
    let eb : high * 2 ^ 8 + 0 ≡ high * 256 = omega arith in
    omega (arith, ap (λ x. bit_xor x (high * 2 ^ 8 + 0)) ea, ap (bit_xor low) eb, e, zero_high, zero_low)

pub run_is : (start : ℕ) (bytes : List ℕ) → run start bytes ≡ reduce (8 * length bytes) (bit_xor start (number (message bytes)))
unfolding run
run_is start [] = run_none start
run_is start (byte ∷ bytes) =
    let total = number (message bytes) in
    let low = byte % 256 in
    let steps : 8 * length (byte ∷ bytes) ≡ 8 + 8 * length bytes = omega arith in
    run_is (reduce 8 (bit_xor start low)) bytes
    ∙ ap (reduce (8 * length bytes))
    (ap (bit_xor (reduce 8 (bit_xor start low))) (sym (reduce_shifted 8 total))
    ∙ sym (reduce_xor 8 (bit_xor start low) (total * 256))
    ∙ ap (reduce 8) (xor_assoc start low (total * 256)
    ∙ ap (bit_xor start) (sym (low_xor_high low total (omega arith)) ∙ sym (number_message byte bytes))))
    ∙ sym (reduce_add 8 (8 * length bytes) (bit_xor start (number (message (byte ∷ bytes)))))
    ∙ sym (ap (λ k. reduce k (bit_xor start (number (message (byte ∷ bytes))))) steps)

-- the checksum

pub sum_is : (bytes : List ℕ) → sum_of bytes ≡ bit_not w32 (run (2 ^ 32 - 1) bytes)
unfolding sum_of remainder inverted_front ones
sum_is bytes =
    let p = message bytes ++ replicate 32 false in
    let q = map not (take 32 p) ++ drop 32 p in
    let r = divide (length q - 32) q in
    let size_p : length p ≡ 8 * length bytes + 32 = omega (arith, length-append (message bytes) (replicate 32 false), length-message bytes) in
    let size_q : length q ≡ length p = front_size 32 p (omega arith) in
    let size_r : length r ≡ 32 = omega (arith, length-divide (length q - 32) q) in
    let front : number q ≡ bit_xor (number (message bytes)) (2 ^ 32 - 1) =
    number_front 32 p (omega arith) ∙ ap (λ n. bit_xor n (2 ^ 32 - 1)) (number_then_zeros (message bytes) 32) in
    let steps : length q - 32 ≡ 8 * length bytes = omega arith in
    let left : number r ≡ run (2 ^ 32 - 1) bytes =
    number_divide (length q - 32) q (omega arith)
    ∙ ap (λ k. reduce k (number q)) steps
    ∙ ap (reduce (8 * length bytes)) (front ∙ xor_comm (number (message bytes)) (2 ^ 32 - 1))
    ∙ sym (run_is (2 ^ 32 - 1) bytes) in
    let whole : 2 ^ length r ≡ 2 ^ 32 = ap (λ k. 2 ^ k) size_r in
    omega (arith, number_not r, left, whole)

-- what `update` says of the register
pub sum_more : (register : ℕ) (bytes seen : List ℕ) → register < 2 ^ 32 → bit_not w32 register ≡ sum_of seen
    → bit_not w32 (run register bytes) ≡ sum_of (seen ++ bytes)
sum_more register bytes seen h before =
    let same : register ≡ run (2 ^ 32 - 1) seen = omega (arith, before, sum_is seen, run_lt (2 ^ 32 - 1) seen (omega arith)) in
    ap (λ r. bit_not w32 (run r bytes)) same
    ∙ ap (bit_not w32) (sym (run_append (2 ^ 32 - 1) seen bytes))
    ∙ sym (sum_is (seen ++ bytes))

pub sum_none : sum_of [] ≡ 0
unfolding sum_of remainder inverted_front divide message bits plus number
sum_none = refl

pub number_none : number (message []) ≡ 0
unfolding number message
number_none = refl

pub number_message_append : (first second : List ℕ) → number (message (first ++ second)) ≡ number (message first) + number (message second) * 2 ^ (8 * length first)
unfolding message
number_message_append first second =
    ap number (flat_map-append (bits 8) first second)
    ∙ number-append (flat_map (bits 8) first) (flat_map (bits 8) second)
    ∙ ap (λ k. number (flat_map (bits 8) first) + number (flat_map (bits 8) second) * 2 ^ k) (length-message first)

pub number_lt : (p : List Bool) → number p < 2 ^ length p
number_lt p = omega (arith, number_not p)
