-- What judging a text finds, and why it is one.
use Rattle.std.proofs.Common.{ℕ, ◌≡◌, ◌≢◌, ◌+◌, ◌-◌, ◌*◌, ◌/◌, ◌^◌, ◌<◌, ◌≤◌, ◌==◌, not, ltb, Bool, true, false, cond, List, length, take, drop, get_or, Option, Some, None, refl, sym, ap, subst, ◌∙◌, inl, inr, zero-add, bit_and, arith}
use Rattle.std.specs.List.{position, position_or_len}
use Rattle.std.specs.Int.{w32, w64, from_le_bytes, bit_at}
use Rattle.std.proofs.lemmas.Bool.{cases_lt}
use Rattle.std.proofs.lemmas.Bool.Decides.{nat_tests}
use Rattle.std.proofs.lemmas.Nat.{and_mask}
use Rattle.std.proofs.lemmas.List.{get_or-take, get_or-drop, take-take, drop-take, length-take-le, length-drop, get_or_default}
use Rattle.std.proofs.lemmas.List.FromFn.{get_or-map-range_with_len, length-map-range_with_len}
use Rattle.std.proofs.lemmas.List.Quantifiers.{position-Some}
use Rattle.std.proofs.lemmas.List.Sums.{fails_before_first}
use Rattle.wb_sum.specs.Crc32c.{sum_of}
use Rattle.wb_header.specs.Text.{TextBlock, IsText, IsZeroPlace, no_block, id_in, sum_in, length_in, number_in, bits_in, block_in, blocks_in, blanked}
use Rattle.wb_header.specs.Refused.{HasLength, HasZeros, HasEntries, HasBlocks, IsRepeated, front_of}
use Rattle.wb_header.specs.Firsts.{HasNone, IsLeast, Finds, IsSet, IsStray, IsUnfit}

-- ---- the first of a kind

pub none_more : (P : ℕ → Type 0) (n : ℕ) → HasNone P 0 n → (P n → ⊥) → HasNone P 0 (n + 1)
none_more P n none here = λ k start below has. elim (cases_lt k n) [
  | inl before ↦ none k start before has
  | inr from ↦ let is : k ≡ n = omega arith in here (subst P is has)
]

-- ---- bytes that aren't zero

abbrev is_set : ℕ → Bool
is_set byte = not (byte == 0)

set_true : (n : ℕ) → is_set n ≡ true → n ≢ 0
set_true n is zero = let e : is_set n ≡ is_set 0 = ap is_set zero in cc

set_false : (n : ℕ) → is_set n ≡ false → n ≡ 0
set_false n is = grind (arith, nat_tests)

-- the bytes of a range
piece : (bytes : List ℕ) (from to k : ℕ) → from ≤ k → k < to → get_or (take (to - from) (drop from bytes)) (k - from) 0 ≡ get_or bytes k 0
piece bytes from to k start below =
    let back : from + (k - from) ≡ k = omega arith in
    get_or-take (to - from) (drop from bytes) (k - from) 0 (omega arith) ∙ get_or-drop from bytes (k - from) 0 ∙ ap (λ (n : ℕ). get_or bytes n 0) back

piece_length : (bytes : List ℕ) (from to : ℕ) → to ≤ length bytes → length (take (to - from) (drop from bytes)) ≡ to - from
piece_length bytes from to size = length-take-le (to - from) (drop from bytes) (omega (arith, length-drop from bytes))

pub set_least : (bytes : List ℕ) (from to index : ℕ) → from ≤ to → to ≤ length bytes → position is_set (take (to - from) (drop from bytes)) ≡ Some index → IsLeast (IsSet bytes) from to (from + index)
set_least bytes from to index order size found =
    let part : List ℕ = take (to - from) (drop from bytes) in
    let first = position-Some is_set part index 0 found in
    let inside : index < to - from = omega (arith, first.0, piece_length bytes from to size) in
    let less : from + index - from ≡ index = omega arith in
    record {
      start = omega arith;
      inside = omega (arith, inside);
      here = λ zero. set_true (get_or part index 0) first.1 (sym (ap (λ (n : ℕ). get_or part n 0) less) ∙ piece bytes from to (from + index) (omega arith) (omega (arith, inside)) ∙ zero);
      least = λ k start below set. set (sym (piece bytes from to k start (omega (arith, inside))) ∙ set_false (get_or part (k - from) 0) (first.2 (k - from) (omega arith)));
    }

none_at : (n : ℕ) (b : Bool) → cond b (Some n) None ≡ None → b ≡ false
none_at n true is = cc
none_at n false is = refl

not_below : (a b : ℕ) → ltb a b ≡ false → b ≤ a
not_below a b past = grind (arith, nat_tests)

pub set_none : (bytes : List ℕ) (from to : ℕ) → from ≤ to → to ≤ length bytes → position is_set (take (to - from) (drop from bytes)) ≡ None → HasNone (IsSet bytes) from to
set_none bytes from to order size found =
    let part : List ℕ = take (to - from) (drop from bytes) in
    let past : ltb (position_or_len is_set part) (length part) ≡ false = none_at (position_or_len is_set part) (ltb (position_or_len is_set part) (length part)) found in
    let all : length part ≤ position_or_len is_set part = not_below (position_or_len is_set part) (length part) past in
    λ k start below set.
    let inside : k - from < position_or_len is_set part = omega (arith, all, piece_length bytes from to size) in
    set (sym (piece bytes from to k start below) ∙ set_false (get_or part (k - from) 0) (fails_before_first is_set part (k - from) 0 inside))

-- ---- a sector whose bit isn't set

pub strays_of_sector : (bytes : List ℕ) (j sector : ℕ) (answer : Option ℕ) → j < length_in bytes → sector < 8 → bit_and (bits_in bytes j / 2 ^ sector) 1 ≢ 1
    → Finds (IsSet bytes) (4096 * (j + 1) + 512 * sector) (4096 * (j + 1) + 512 * sector + 512) answer
    → Finds (IsStray bytes) (4096 * (j + 1) + 512 * sector) (4096 * (j + 1) + 512 * sector + 512) answer
strays_of_sector bytes j sector None inside eight unset none = λ k start below stray. none k start below stray.1
strays_of_sector bytes j sector (Some at) inside eight unset found =
    let start : 4096 * (j + 1) + 512 * sector ≤ at = found.start in
    let end : at < 4096 * (j + 1) + 512 * sector + 512 = found.inside in
    let here : (at - 4096 * (j + 1)) / 512 ≡ sector = omega arith in
    record {
      start = start;
      inside = end;
      here = (
        inr (inr (inr (
          j,
          inside,
          omega arith,
          omega arith,
          λ set. unset (and_mask (bits_in bytes j / 2 ^ sector) 1 ∙ sym (ap (λ (i : ℕ). bit_at (bits_in bytes j) i) here) ∙ set),
        ))),
        found.here,
      );
      least = λ k from below stray. found.least k from below stray.1;
    }

-- ---- each question, answered well

zeros_from : (room id : ℕ) (bytes : List ℕ) → HasLength room id bytes → HasNone (IsStray bytes) 0 (4096 * (1 + length_in bytes)) → HasZeros room id bytes
zeros_from room id bytes before none = (
  before,
  λ at place.
      let inside : at < 4096 * (1 + length_in bytes) = elim place [
        | inl front ↦ omega arith
        | inr rest ↦ elim rest [
          | inl entry ↦ omega (arith, entry.1, entry.2, entry.3)
          | inr more ↦ elim more [ inl tail ↦ omega arith | inr block ↦ omega (arith, block.1, block.2, block.3) ]
        ]
      ] in
      elim (cases_lt 0 (get_or bytes at 0)) [
        | inl set ↦ absurd (none at (omega arith) inside (place, λ zero. omega arith))
        | inr zero ↦ omega arith
      ],
)

not_both : (a b : ℕ) → b ≤ a → a < b → ⊥
not_both a b above below = omega arith

entries_from : (room limit id : ℕ) (bytes : List ℕ) → HasZeros room id bytes → HasNone (IsUnfit limit bytes) 0 (length_in bytes) → HasEntries room limit id bytes
entries_from room limit id bytes before none = (
  before,
  λ j inside. (
    λ zero. none j (omega arith) inside (λ entry. entry.0 zero),
    elim (cases_lt (number_in bytes j) limit) [
      | inl below ↦ below
      | inr above ↦ absurd (none j (omega arith) inside (λ entry. absurd (not_both (number_in bytes j) limit above entry.1)))
    ],
  ),
)

pub blocks_from : (room limit id : ℕ) (bytes : List ℕ) → HasEntries room limit id bytes → HasNone (IsRepeated bytes) 0 (length_in bytes) → HasBlocks room limit id bytes
blocks_from room limit id bytes before none = (before, λ j inside repeated. none j (omega arith) inside repeated)

-- ---- the front says what the bytes say

pub piece_of_front : (at count size : ℕ) (bytes : List ℕ) → at + count ≤ size → take count (drop at (take size bytes)) ≡ take count (drop at bytes)
piece_of_front at count size bytes inside =
    let is : size ≡ at + (size - at) = omega arith in
    ap (λ (n : ℕ). take count (drop at (take n bytes))) is
    ∙ ap (λ (xs : List ℕ). take count xs) (drop-take at (size - at) bytes)
    ∙ take-take count (size - at) (drop at bytes) (omega arith)

pub number_of_front : (size j : ℕ) (bytes : List ℕ) → 528 + 16 * j ≤ size → number_in (take size bytes) j ≡ number_in bytes j
number_of_front size j bytes inside = ap (λ (xs : List ℕ). from_le_bytes w64 xs) (piece_of_front (512 + 16 * j) 8 size bytes (omega arith))

pub bits_of_front : (size j : ℕ) (bytes : List ℕ) → 528 + 16 * j ≤ size → bits_in (take size bytes) j ≡ bits_in bytes j
bits_of_front size j bytes inside = get_or-take size bytes (520 + 16 * j) 0 (omega arith)

-- where bytes have zeros, others of the same bits have them
pub place_kept : (size count at : ℕ) (bytes others : List ℕ) → 4096 * (1 + count) ≤ size → ((j : ℕ) → j < count → bits_in others j ≡ bits_in bytes j)
    → IsZeroPlace count bytes at → IsZeroPlace count others at × (at < size)
place_kept size count at bytes others room same place = elim place [
  | inl front ↦ (inl front, omega (arith, front))
  | inr rest ↦ elim rest [
    | inl entry ↦ (inr (inl entry), omega (arith, entry.1, entry.3))
    | inr more ↦ elim more [
      | inl tail ↦ (inr (inr (inl tail)), omega (arith, tail))
      | inr block ↦ (
        inr (inr (inr (
          block.0,
          block.1,
          block.2,
          block.3,
          λ set. block.4 (ap (λ (n : ℕ). bit_at n ((at - 4096 * (block.0 + 1)) / 512)) (sym (same block.0 block.1)) ∙ set),
        ))),
        omega (arith, block.1, block.3),
      )
    ]
  ]
]

pub block_at : (count : ℕ) (bytes : List ℕ) (k : ℕ) (d : TextBlock) → k < count → get_or (blocks_in count bytes) k d ≡ block_in bytes k
block_at count bytes k d inside = get_or-map-range_with_len (block_in bytes) 0 count k k d inside (zero-add k)

-- ---- a text

pub text_from : (room limit id size : ℕ) (bytes : List ℕ) → size ≡ 4096 * (1 + length_in bytes) → size ≤ length bytes → ((k : ℕ) → get_or bytes k 0 < 256)
    → HasBlocks room limit id bytes → sum_in (take size bytes) ≡ sum_of (blanked (take size bytes))
    → IsText room limit (take size bytes) id (blocks_in (length_in (take size bytes)) (take size bytes))
text_from room limit id size bytes is fits are good summed =
    let front : List ℕ = take size bytes in
    let count : ℕ = length_in front in
    let same : length_in front ≡ length_in bytes = get_or-take size bytes 12 0 (omega arith) in
    let counted : length (blocks_in (length_in front) front) ≡ length_in front = length-map-range_with_len (block_in front) 0 (length_in front) in
    let long : length front ≡ size = length-take-le size bytes fits in
    let at_number : (k : ℕ) → k < length_in front → number_in front k ≡ number_in bytes k = λ k inside. number_of_front size k bytes (omega (arith, same, is)) in
    let at_bits : (k : ℕ) → k < length_in front → bits_in front k ≡ bits_in bytes k = λ k inside. bits_of_front size k bytes (omega (arith, same, is)) in
    record {
      some = omega (arith, counted, same, good.0.0.0.1);
      few = omega (arith, counted, same, good.0.0.0.2);
      size = omega (arith, counted, same, long);
      bounded = λ k d inside. omega (arith, are k, get_or_default front k d 0 inside, get_or-take size bytes k 0 (omega (arith, long)));
      named = ap (λ (xs : List ℕ). from_le_bytes w64 xs) (take-take 8 size bytes (omega arith)) ∙ good.0.0.0.0;
      summed = summed;
      counted = sym counted;
      listed = ap (λ (n : ℕ). blocks_in n front) (sym counted);
      inside = λ k d inside.
          let below : k < length_in front = omega (arith, counted) in
          let number : number_in bytes k < limit = (good.0.1 k (omega (arith, same))).1 in
          let P : TextBlock → Type 0 = λ block. block.number < limit in
          subst P (sym (block_at (length_in front) front k d below)) (subst (λ (n : ℕ). n < limit) (sym (at_number k below)) number);
      dirty = λ k d inside.
          let below : k < length_in front = omega (arith, counted) in
          let bits : bits_in bytes k ≢ 0 = (good.0.1 k (omega (arith, same))).0 in
          let P : TextBlock → Type 0 = λ block. block.bits ≢ 0 in
          subst P (sym (block_at (length_in front) front k d below)) (subst (λ (n : ℕ). n ≢ 0) (sym (at_bits k below)) bits);
      distinct = λ i j before inside e.
          let last : j < length_in front = omega (arith, counted) in
          let first : i < length_in front = omega arith in
          let numbers : number_in bytes i ≡ number_in bytes j =
          sym (at_number i first)
          ∙ sym (ap (λ (block : TextBlock). block.number) (block_at (length_in front) front i no_block first))
          ∙ e
          ∙ ap (λ (block : TextBlock). block.number) (block_at (length_in front) front j no_block last)
          ∙ at_number j last in
          good.1 j (omega (arith, same)) (i, before, numbers);
      zeros = λ at place.
          let count : length (blocks_in (length_in front) front) ≡ length_in bytes = counted ∙ same in
          let there = place_kept size (length_in bytes) at front bytes (omega (arith, is)) (λ j below. sym (bits_of_front size j bytes (omega (arith, is, below)))) (subst (λ (n : ℕ). IsZeroPlace n front at) count place) in
          get_or-take size bytes at 0 there.1 ∙ good.0.0.1 at there.0;
    }

-- ---- what stands once the questions up to the entries are answered, and the checksums

positive : (n : ℕ) → n ≢ 0 → 1 ≤ n
positive n some = omega arith

pub judged : (room limit id stored : ℕ) (bytes : List ℕ) → stored ≡ id_in bytes → stored ≡ id → (length_in bytes ≢ 0) → length_in bytes ≤ room
    → HasNone (IsStray bytes) 0 (4096 * (1 + length_in bytes)) → HasNone (IsUnfit limit bytes) 0 (length_in bytes) → HasEntries room limit id bytes
judged room limit id stored bytes is same some few no_stray no_unfit =
    let fields : HasLength room id bytes = (sym is ∙ same, positive (length_in bytes) some, few) in
    entries_from room limit id bytes (zeros_from room id bytes fields no_stray) no_unfit

-- the checksums of the front
pub sums_of_front : (size stored computed : ℕ) (bytes : List ℕ) → size ≡ 4096 * (1 + length_in bytes) → stored ≡ sum_in (take size bytes) → computed ≡ sum_of (blanked (take size bytes))
    → (stored ≡ sum_in bytes) × (computed ≡ sum_of (blanked (front_of bytes)))
sums_of_front size stored computed bytes is there here = (
  there ∙ ap (λ (xs : List ℕ). from_le_bytes w32 xs) (piece_of_front 8 4 size bytes (omega arith)),
  here ∙ ap (λ (n : ℕ). sum_of (blanked (take n bytes))) is,
)
