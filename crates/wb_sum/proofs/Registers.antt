-- The division on numbers: it goes bit by bit, so what it leaves of a sum is the sum of what it leaves.
use Rattle.std.proofs.Common.{◌≡◌, ℕ, ◌+◌, ◌*◌, ◌/◌, ◌%◌, ◌^◌, ◌<◌, ◌≤◌, List, [], ◌∷◌, ◌++◌, length, drop, get_or, drop-cons, refl, ap, sym, ◌∙◌, zero, suc, arith, add-one}
use Rattle.std.proofs.Math.ListN.{drop_of_length-le}
use Rattle.std.proofs.Math.Nat.{pow-suc}
use Rattle.std.specs.Int.Bits.{bit_xor, xor_zero_r, xor_zero_l, xor_assoc, xor_self}
use Rattle.std.proofs.lemmas.Nat.{xor_shr, xor_mod, xor_comm, xor_lt}
use Rattle.wb_sum.specs.Register.{reduced, reduce, run}

-- a bit times a number
bit_times_xor : (a b n : ℕ) → a < 2 → b < 2 → bit_xor a b * n ≡ bit_xor (a * n) (b * n)
bit_times_xor zero b n p q =
    let none : 0 * n ≡ 0 = omega arith in
    ap (λ x. x * n) (xor_zero_l b) ∙ sym (xor_zero_l (b * n)) ∙ ap (λ x. bit_xor x (b * n)) (sym none)
bit_times_xor (suc zero) zero n p q =
    let none : 0 * n ≡ 0 = omega arith in
    sym (xor_zero_r (1 * n)) ∙ ap (bit_xor (1 * n)) (sym none)
bit_times_xor (suc zero) (suc zero) n p q =
    let none : 0 * n ≡ 0 = omega arith in
    none ∙ sym (xor_self (1 * n))
bit_times_xor (suc zero) (suc (suc b)) n p q = absurd (omega arith)
bit_times_xor (suc (suc a)) b n p q = absurd (omega arith)

pub xor_swap : (a b c d : ℕ) → bit_xor (bit_xor a b) (bit_xor c d) ≡ bit_xor (bit_xor a c) (bit_xor b d)
xor_swap a b c d =
    xor_assoc a b (bit_xor c d)
    ∙ ap (bit_xor a) (sym (xor_assoc b c d) ∙ ap (λ x. bit_xor x d) (xor_comm b c) ∙ xor_assoc c b d)
    ∙ sym (xor_assoc a c (bit_xor b d))

half_xor : (a b : ℕ) → bit_xor a b / 2 ≡ bit_xor (a / 2) (b / 2)
half_xor a b = xor_shr a b 1

low_xor : (a b : ℕ) → bit_xor a b % 2 ≡ bit_xor (a % 2) (b % 2)
low_xor a b = xor_mod a b 1

pub reduced_xor : (a b : ℕ) → reduced (bit_xor a b) ≡ bit_xor (reduced a) (reduced b)
reduced_xor a b =
    rw (half_xor a b, low_xor a b, bit_times_xor (a % 2) (b % 2) 0x82F63B78 (omega arith) (omega arith))
    (xor_swap (a / 2) (b / 2) (a % 2 * 0x82F63B78) (b % 2 * 0x82F63B78))

pub reduce_xor : (k a b : ℕ) → reduce k (bit_xor a b) ≡ bit_xor (reduce k a) (reduce k b)
unfolding reduce
reduce_xor zero a b = refl
reduce_xor (suc k) a b = ap (reduce k) (reduced_xor a b) ∙ reduce_xor k (reduced a) (reduced b)

reduced_double : (n : ℕ) → reduced (n * 2) ≡ n
reduced_double n =
    let half : n * 2 / 2 ≡ n = omega arith in
    let low : n * 2 % 2 ≡ 0 = omega arith in
    rw (half, low) (xor_zero_r n)

pub reduce_shifted : (k n : ℕ) → reduce k (n * 2 ^ k) ≡ n
unfolding reduce
reduce_shifted zero n = omega arith
reduce_shifted (suc k) n =
    let e : n * 2 ^ suc k ≡ n * 2 ^ k * 2 = rw (pow-suc 2 k) (omega arith) in
    ap (λ x. reduce k (reduced x)) e ∙ ap (reduce k) (reduced_double (n * 2 ^ k)) ∙ reduce_shifted k n

pub reduce_add : (j k n : ℕ) → reduce (j + k) n ≡ reduce k (reduce j n)
unfolding reduce
reduce_add zero k n = let e : 0 + k ≡ k = omega arith in ap (λ i. reduce i n) e
reduce_add (suc j) k n = let e : suc j + k ≡ suc (j + k) = omega arith in ap (λ i. reduce i n) e ∙ reduce_add j k (reduced n)

reduced_lt : (n : ℕ) → n < 2 ^ 32 → reduced n < 2 ^ 32
reduced_lt n h = xor_lt 32 (n / 2) (n % 2 * 0x82F63B78) (omega arith) (omega arith)

pub reduce_lt : (k n : ℕ) → n < 2 ^ 32 → reduce k n < 2 ^ 32
unfolding reduce
reduce_lt zero n h = h
reduce_lt (suc k) n h = reduce_lt k (reduced n) (reduced_lt n h)

pub run_lt : (start : ℕ) (bytes : List ℕ) → start < 2 ^ 32 → run start bytes < 2 ^ 32
unfolding run
run_lt start [] h = h
run_lt start (byte ∷ bytes) h = run_lt (reduce 8 (bit_xor start (byte % 256))) bytes (reduce_lt 8 (bit_xor start (byte % 256)) (xor_lt 32 start (byte % 256) h (omega arith)))

pub run_append : (start : ℕ) (first second : List ℕ) → run start (first ++ second) ≡ run (run start first) second
unfolding run
run_append start [] second = refl
run_append start (byte ∷ first) second = run_append (reduce 8 (bit_xor start (byte % 256))) first second

pub reduce_more : (k n : ℕ) → reduce 1 (reduce k n) ≡ reduce (k + 1) n
reduce_more k n = sym (reduce_add k 1 n)

pub run_next : (r i total : ℕ) (bytes : List ℕ) → i < length bytes → get_or bytes i 0 < 256
    → run r (drop i bytes) ≡ total → run (reduce 8 (bit_xor r (get_or bytes i 0))) (drop (i + 1) bytes) ≡ total
unfolding run
run_next r i total bytes h small before =
    let whole : get_or bytes i 0 % 256 ≡ get_or bytes i 0 = omega arith in
    let rest : drop (i + 1) bytes ≡ drop (suc i) bytes = rw add-one refl in
    ap (run (reduce 8 (bit_xor r (get_or bytes i 0)))) rest
    ∙ ap (λ x. run (reduce 8 (bit_xor r x)) (drop (suc i) bytes)) (sym whole)
    ∙ sym (ap (run r) (drop-cons bytes i 0 h))
    ∙ before

pub run_end : (r i total : ℕ) (bytes : List ℕ) → length bytes ≤ i → run r (drop i bytes) ≡ total → r ≡ total
unfolding run
run_end r i total bytes h before = sym (ap (run r) (drop_of_length-le bytes h)) ∙ before

pub reduce_zero : (k : ℕ) → reduce k 0 ≡ 0
unfolding reduce
reduce_zero zero = refl
reduce_zero (suc k) = reduce_zero k
