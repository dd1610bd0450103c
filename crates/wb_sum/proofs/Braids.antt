-- Four words side by side: what a turn and the end make of them.
use Rattle.std.proofs.Common.{◌≡◌, ℕ, ◌+◌, ◌*◌, ◌^◌, ◌<◌, ◌≤◌, List, [], ◌∷◌, ◌++◌, length, map, take, drop, ap, sym, ◌∙◌, arith}
use Rattle.std.specs.Int.Bits.{bit_xor, xor_zero_r, xor_zero_l, xor_assoc, xor_shifted}
use Rattle.std.proofs.lemmas.Nat.{xor_block, xor_comm, pow_pos, pow-add}
use Rattle.std.proofs.lemmas.List.{take-append-drop, length-take}
use Rattle.wb_sum.specs.Crc32c.{number, message}
use Rattle.wb_sum.specs.Register.{reduce, run, state}
use Rattle.wb_sum.proofs.Registers.{reduce_xor, reduce_shifted, reduce_add, reduce_zero, xor_swap}
use Rattle.wb_sum.proofs.Division.{run_is, length-message, number_message_append, number_lt}

xor_times : (a b k : ℕ) → bit_xor (a * 2 ^ k) (b * 2 ^ k) ≡ bit_xor a b * 2 ^ k
xor_times a b k =
    let pos = pow_pos k in
    let ea : a * 2 ^ k + 0 ≡ a * 2 ^ k = omega arith in
    let eb : b * 2 ^ k + 0 ≡ b * 2 ^ k = omega arith in
    let e = xor_block k a b 0 0 pos pos in
    let none : bit_xor a b * 2 ^ k + bit_xor 0 0 ≡ bit_xor a b * 2 ^ k = ap (λ x. bit_xor a b * 2 ^ k + x) (xor_zero_r 0) ∙ omega arith in
    ap (bit_xor (a * 2 ^ k)) (sym eb) ∙ ap (λ x. bit_xor x (b * 2 ^ k + 0)) (sym ea) ∙ e ∙ none

-- a word with a number behind it, and a step over the word
over_word : (m w s : ℕ) → reduce (64 + m) (bit_xor w (s * 2 ^ 64)) ≡ reduce m (bit_xor (reduce 64 w) s)
over_word m w s =
    reduce_add 64 m (bit_xor w (s * 2 ^ 64))
    ∙ ap (reduce m) (reduce_xor 64 w (s * 2 ^ 64) ∙ ap (bit_xor (reduce 64 w)) (reduce_shifted 64 s))

-- the number above the words apart from them
state_apart : (ws : List ℕ) (above : ℕ) → state ws above ≡ bit_xor (state ws 0) (above * 2 ^ (64 * length ws))
unfolding state
state_apart [] above =
    let one : above ≡ above * 2 ^ (64 * length {A = ℕ} []) = omega arith in
    one ∙ sym (xor_zero_l (above * 2 ^ (64 * length {A = ℕ} [])))
state_apart (w ∷ ws) above =
    let k = 64 * length ws in
    let size : k + 64 ≡ 64 * length (w ∷ ws) = omega arith in
    let assoc : above * 2 ^ k * 2 ^ 64 ≡ above * (2 ^ k * 2 ^ 64) = omega arith in
    let split : above * 2 ^ k * 2 ^ 64 ≡ above * 2 ^ (k + 64) = assoc ∙ ap (λ x. above * x) (sym (pow-add 2 k 64)) in
    ap (λ s. bit_xor w (s * 2 ^ 64)) (state_apart ws above)
    ∙ ap (bit_xor w) (sym (xor_times (state ws 0) (above * 2 ^ k) 64))
    ∙ sym (xor_assoc w (state ws 0 * 2 ^ 64) (above * 2 ^ k * 2 ^ 64))
    ∙ ap (bit_xor (bit_xor w (state ws 0 * 2 ^ 64))) (split ∙ ap (λ j. above * 2 ^ j) size)

-- a turn on each word alone, where enough bits come after
each_turn : (ws : List ℕ) (m : ℕ) → reduce (256 + (64 * length ws + m)) (state ws 0) ≡ reduce (64 * length ws + m) (state (map (reduce 256) ws) 0)
unfolding state
each_turn [] m = reduce_zero (256 + (64 * length {A = ℕ} [] + m)) ∙ sym (reduce_zero (64 * length {A = ℕ} [] + m))
each_turn (w ∷ ws) m =
    let k = 64 * length ws + m in
    let size : 64 * length (w ∷ ws) + m ≡ 64 + k = omega arith in
    let all : 256 + (64 + k) ≡ 64 + (256 + k) = omega arith in
    let s = state ws 0 in
    let t = state (map (reduce 256) ws) 0 in
    ap (λ j. reduce (256 + j) (bit_xor w (s * 2 ^ 64))) size
    ∙ reduce_xor (256 + (64 + k)) w (s * 2 ^ 64)
    ∙ ap (λ x. bit_xor x (reduce (256 + (64 + k)) (s * 2 ^ 64))) (reduce_add 256 (64 + k) w)
    ∙ ap (bit_xor (reduce (64 + k) (reduce 256 w)))
    (ap (λ j. reduce j (s * 2 ^ 64)) all
    ∙ reduce_add 64 (256 + k) (s * 2 ^ 64)
    ∙ ap (reduce (256 + k)) (reduce_shifted 64 s)
    ∙ each_turn ws m
    ∙ sym (reduce_add 64 k (t * 2 ^ 64) ∙ ap (reduce k) (reduce_shifted 64 t)))
    ∙ sym (reduce_xor (64 + k) (reduce 256 w) (t * 2 ^ 64))
    ∙ sym (ap (λ j. reduce j (bit_xor (reduce 256 w) (t * 2 ^ 64))) size)

-- the sum of two states of as many words
state_xor_next : (a b s t : ℕ) → bit_xor (bit_xor a (s * 2 ^ 64)) (bit_xor b (t * 2 ^ 64)) ≡ bit_xor (bit_xor a b) (bit_xor s t * 2 ^ 64)
state_xor_next a b s t = xor_swap a (s * 2 ^ 64) b (t * 2 ^ 64) ∙ ap (bit_xor (bit_xor a b)) (xor_times s t 64)

state_xor : (a b c d e f g h above : ℕ)
    → bit_xor (state (a ∷ b ∷ c ∷ d ∷ []) 0) (state (e ∷ f ∷ g ∷ h ∷ []) above) ≡ state (bit_xor e a ∷ bit_xor f b ∷ bit_xor g c ∷ bit_xor h d ∷ []) above
unfolding state
state_xor a b c d e f g h above =
    let next = λ (x y s t r : ℕ) (more : bit_xor s t ≡ r). state_xor_next x y s t ∙ ap (λ z. bit_xor z (bit_xor s t * 2 ^ 64)) (xor_comm x y) ∙ ap (λ z. bit_xor (bit_xor y x) (z * 2 ^ 64)) more in
    next a e _ _ _ (next b f _ _ _ (next c g _ _ _ (next d h 0 above above (xor_zero_l above))))

-- a turn: each word as the division leaves it, on the word that comes 32 bytes later
pub turn : (m a b c d e f g h above : ℕ)
    → reduce (256 + (256 + m)) (state (a ∷ b ∷ c ∷ d ∷ []) (state (e ∷ f ∷ g ∷ h ∷ []) above))
    ≡ reduce (256 + m) (state (bit_xor e (reduce 256 a) ∷ bit_xor f (reduce 256 b) ∷ bit_xor g (reduce 256 c) ∷ bit_xor h (reduce 256 d) ∷ []) above)
turn m a b c d e f g h above =
    let ws = a ∷ b ∷ c ∷ d ∷ [] in
    let next = state (e ∷ f ∷ g ∷ h ∷ []) above in
    let k = 256 + m in
    ap (reduce (256 + k)) (state_apart ws next)
    ∙ reduce_xor (256 + k) (state ws 0) (next * 2 ^ 256)
    ∙ ap (bit_xor (reduce (256 + k) (state ws 0))) (reduce_add 256 k (next * 2 ^ 256) ∙ ap (reduce k) (reduce_shifted 256 next))
    ∙ ap (λ x. bit_xor x (reduce k next)) (each_turn ws m)
    ∙ sym (reduce_xor k (state (reduce 256 a ∷ reduce 256 b ∷ reduce 256 c ∷ reduce 256 d ∷ []) 0) next)
    ∙ ap (reduce k) (state_xor (reduce 256 a) (reduce 256 b) (reduce 256 c) (reduce 256 d) e f g h above)

turned : (r w s : ℕ) → bit_xor r (bit_xor w s) ≡ bit_xor (bit_xor w r) s
turned r w s = sym (xor_assoc r w s) ∙ ap (λ x. bit_xor x s) (xor_comm r w)

-- the end: the words one after another
pub four_words : (a b c d : ℕ)
    → reduce 64 (bit_xor d (reduce 64 (bit_xor c (reduce 64 (bit_xor b (reduce 64 a)))))) ≡ reduce 256 (state (a ∷ b ∷ c ∷ d ∷ []) 0)
unfolding state
four_words a b c d =
    let z = 0 * 2 ^ 64 in
    let S3 = bit_xor d z in
    let S2 = bit_xor c (S3 * 2 ^ 64) in
    let S1 = bit_xor b (S2 * 2 ^ 64) in
    let ra = reduce 64 a in
    let rb = reduce 64 (bit_xor b ra) in
    let rc = reduce 64 (bit_xor c rb) in
    let none : d ≡ bit_xor d z = sym (xor_zero_r d) in
    sym
    (over_word 192 a S1
    ∙ ap (reduce 192) (turned ra b (S2 * 2 ^ 64))
    ∙ over_word 128 (bit_xor b ra) S2
    ∙ ap (reduce 128) (turned rb c (S3 * 2 ^ 64))
    ∙ over_word 64 (bit_xor c rb) S3
    ∙ ap (λ x. reduce 64 (bit_xor rc x)) (sym none)
    ∙ ap (reduce 64) (xor_comm rc d))

pub last : (register : ℕ) (ws : List ℕ) (bytes : List ℕ) → register ≡ reduce 256 (state ws 0) → length ws ≡ 4
    → run register bytes ≡ reduce (256 + 8 * length bytes) (state ws (number (message bytes)))
last register ws bytes e size =
    let above = number (message bytes) in
    let m = 8 * length bytes in
    let k : 64 * length ws ≡ 256 = omega arith in
    run_is register bytes
    ∙ ap (λ r. reduce m (bit_xor r above)) e
    ∙ ap (λ x. reduce m (bit_xor (reduce 256 (state ws 0)) x)) (sym (reduce_shifted 256 above))
    ∙ ap (reduce m) (sym (reduce_xor 256 (state ws 0) (above * 2 ^ 256)))
    ∙ sym (reduce_add 256 m (bit_xor (state ws 0) (above * 2 ^ 256)))
    ∙ ap (reduce (256 + m)) (ap (λ j. bit_xor (state ws 0) (above * 2 ^ j)) (sym k) ∙ sym (state_apart ws above))

-- the beginning: the register goes onto the first word
pub first : (start a b c d above : ℕ) (bytes rest : List ℕ)
    → number (message bytes) ≡ state (a ∷ b ∷ c ∷ d ∷ []) above → length rest + 32 ≡ length bytes
    → reduce (256 + 8 * length rest) (state (bit_xor a start ∷ b ∷ c ∷ d ∷ []) above) ≡ run start bytes
unfolding state
first start a b c d above bytes rest e size =
    let tail = state (b ∷ c ∷ d ∷ []) above * 2 ^ 64 in
    let steps : 256 + 8 * length rest ≡ 8 * length bytes = omega arith in
    ap (λ k. reduce k (bit_xor (bit_xor a start) tail)) steps
    ∙ ap (reduce (8 * length bytes)) (ap (λ x. bit_xor x tail) (xor_comm a start) ∙ xor_assoc start a tail ∙ ap (bit_xor start) (sym e))
    ∙ sym (run_is start bytes)

-- one word and then more
pub words_more : (a b c d : ℕ) (n1 n2 n3 n4 n5 : ℕ)
    → n1 ≡ state (a ∷ []) n2 → n2 ≡ state (b ∷ []) n3 → n3 ≡ state (c ∷ []) n4 → n4 ≡ state (d ∷ []) n5
    → n1 ≡ state (a ∷ b ∷ c ∷ d ∷ []) n5
unfolding state
words_more a b c d n1 n2 n3 n4 n5 e1 e2 e3 e4 =
    e1 ∙ ap (λ x. bit_xor a (x * 2 ^ 64)) (e2 ∙ ap (λ x. bit_xor b (x * 2 ^ 64)) (e3 ∙ ap (λ x. bit_xor c (x * 2 ^ 64)) e4))

-- the first word of a text
pub word_apart : (word : ℕ) (bytes front rest : List ℕ) → word ≡ number (message front) → front ≡ take 8 bytes → rest ≡ drop 8 bytes → 8 ≤ length bytes
    → number (message bytes) ≡ state (word ∷ []) (number (message rest))
unfolding state
word_apart word bytes front rest e ef er h =
    let above = number (message rest) in
    let size : length front ≡ 8 = ap length ef ∙ length-take 8 bytes ∙ omega arith in
    let bits_size : length (message front) ≡ 64 = length-message front ∙ omega arith in
    let small : word < 2 ^ 64 = omega (arith, e, number_lt (message front), ap (λ k. 2 ^ k) bits_size) in
    let whole : bytes ≡ front ++ rest = sym (take-append-drop 8 bytes) ∙ ap (λ x. x ++ drop 8 bytes) (sym ef) ∙ ap (λ x. front ++ x) (sym er) in
    let width : 8 * length front ≡ 64 = omega arith in
    let both : number (message bytes) ≡ word + above * 2 ^ 64 =
    ap (λ x. number (message x)) whole ∙ number_message_append front rest
    ∙ ap (λ k. number (message front) + above * 2 ^ k) width ∙ ap (λ n. n + above * 2 ^ 64) (sym e) in
    let joined = xor_shifted above 64 word small in
    let turned_round : word + above * 2 ^ 64 ≡ above * 2 ^ 64 + word = omega arith in
    both ∙ turned_round ∙ sym joined ∙ xor_comm (above * 2 ^ 64) word

-- a turn of the loop
pub next_turn : (total a b c d e f g h ta tb tc td : ℕ) (rest next : List ℕ)
    → number (message rest) ≡ state (e ∷ f ∷ g ∷ h ∷ []) (number (message next)) → length next + 32 ≡ length rest
    → ta ≡ reduce 256 a → tb ≡ reduce 256 b → tc ≡ reduce 256 c → td ≡ reduce 256 d
    → reduce (256 + 8 * length rest) (state (a ∷ b ∷ c ∷ d ∷ []) (number (message rest))) ≡ total
    → reduce (256 + 8 * length next) (state (bit_xor e ta ∷ bit_xor f tb ∷ bit_xor g tc ∷ bit_xor h td ∷ []) (number (message next))) ≡ total
next_turn total a b c d e f g h ta tb tc td rest next words size ea eb ec ed before =
    let above = number (message next) in
    let steps : 256 + (256 + 8 * length next) ≡ 256 + 8 * length rest = omega arith in
    rw (ea, eb, ec, ed)
    (sym (turn (8 * length next) a b c d e f g h above)
    ∙ ap (λ k. reduce k (state (a ∷ b ∷ c ∷ d ∷ []) (state (e ∷ f ∷ g ∷ h ∷ []) above))) steps
    ∙ ap (λ x. reduce (256 + 8 * length rest) (state (a ∷ b ∷ c ∷ d ∷ []) x)) (sym words)
    ∙ before)
