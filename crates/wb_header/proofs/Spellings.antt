-- Bytes are the text of one segment, a text has no cause to be refused, and a segment has one spelling.
use Rattle.std.proofs.Common.{ℕ, ◌≡◌, ◌≢◌, ◌+◌, ◌-◌, ◌*◌, ◌/◌, ◌<◌, ◌≤◌, List, ◌++◌, length, get_or, take, drop, replicate, refl, sym, ap, subst, ◌∙◌, inl, inr, arith, length-drop}
use Rattle.std.specs.Int.{w32, w64, from_le_bytes}
use Rattle.std.proofs.lemmas.Bool.{cases_lt}
use Rattle.std.proofs.lemmas.List.{ext_get_or, get_or-take, get_or-drop, take-take, length-take-le, get_or_past}
use Rattle.std.proofs.lemmas.Nat.{le_bytes_4, le_bytes_8}
use Rattle.wb_sum.specs.Crc32c.{sum_of}
use Rattle.wb_header.specs.Text.{TextBlock, IsText, IsZeroPlace, no_block, id_in, sum_in, length_in, number_in, bits_in, block_in, blocks_in, blanked}
use Rattle.wb_header.specs.Refused.{Refuses, front_of}
use Rattle.wb_header.specs.declared.checking.Refused.{Refused}
use Rattle.wb_header.specs.declared.checking.Refused.TheVariants as refused
use Rattle.wb_header.proofs.Checkings.{piece_of_front, number_of_front, bits_of_front, place_kept, block_at}

-- ---- one segment

pub one_segment : (room limit other_room other_limit id other : ℕ) (bytes : List ℕ) (blocks others : List TextBlock)
    → IsText room limit bytes id blocks → IsText other_room other_limit bytes other others → (id ≡ other) × (blocks ≡ others)
one_segment room limit other_room other_limit id other bytes blocks others text again =
    let same : length blocks ≡ length others = sym text.counted ∙ again.counted in
    (sym text.named ∙ again.named, text.listed ∙ ap (λ (n : ℕ). blocks_in n bytes) same ∙ sym again.listed)

-- ---- one front

-- the size of a text that begins these bytes is known from them
size_of_front : (room limit id : ℕ) (bytes front : List ℕ) (blocks : List TextBlock) → IsText room limit front id blocks → front ≡ take (length front) bytes
    → length front ≡ 4096 * (1 + length_in bytes)
size_of_front room limit id bytes front blocks text is =
    let counted : length_in front ≡ length blocks = text.counted in
    let size : length front ≡ 4096 * (1 + length blocks) = text.size in
    let same : length_in front ≡ length_in bytes = ap (λ (xs : List ℕ). get_or xs 12 0) is ∙ get_or-take (length front) bytes 12 0 (omega arith) in
    omega arith

pub one_front : (room limit other_room other_limit id other : ℕ) (bytes first second : List ℕ) (blocks others : List TextBlock)
    → IsText room limit first id blocks → IsText other_room other_limit second other others
    → first ≡ take (length first) bytes → second ≡ take (length second) bytes → first ≡ second
one_front room limit other_room other_limit id other bytes first second blocks others text again is is_too =
    let size : length first ≡ length second = size_of_front room limit id bytes first blocks text is ∙ sym (size_of_front other_room other_limit other bytes second others again is_too) in
    is ∙ ap (λ (n : ℕ). take n bytes) size ∙ sym is_too

-- ---- a text isn't refused

-- a block of a text, by its place
block_of_text : (room limit id : ℕ) (bytes : List ℕ) (blocks : List TextBlock) → IsText room limit bytes id blocks → (k : ℕ) → k < length blocks → get_or blocks k no_block ≡ block_in bytes k
block_of_text room limit id bytes blocks text k below =
    ap (λ (xs : List TextBlock). get_or xs k no_block) text.listed ∙ block_at (length blocks) bytes k no_block below

pub accepted : (room limit id : ℕ) (bytes : List ℕ) (blocks : List TextBlock) (refused : Refused)
    → IsText room limit (front_of bytes) id blocks → Refuses room limit id bytes refused → ⊥
accepted room limit id bytes blocks why text refuses = by_cause why refuses
  where
    same_count : length_in bytes ≡ length blocks
    same_count = sym (get_or-take (4096 * (1 + length_in bytes)) bytes 12 0 (omega arith)) ∙ text.counted

    same_id : id_in bytes ≡ id
    same_id = ap (λ (xs : List ℕ). from_le_bytes w64 xs) (sym (take-take 8 (4096 * (1 + length_in bytes)) bytes (omega arith))) ∙ text.named

    number : (k : ℕ) → k < length_in bytes → (get_or blocks k no_block).number ≡ number_in bytes k
    number k below =
        ap (λ (block : TextBlock). block.number) (block_of_text room limit id (front_of bytes) blocks text k (omega (arith, same_count)))
        ∙ number_of_front (4096 * (1 + length_in bytes)) k bytes (omega arith)

    bits : (k : ℕ) → k < length_in bytes → (get_or blocks k no_block).bits ≡ bits_in bytes k
    bits k below =
        ap (λ (block : TextBlock). block.bits) (block_of_text room limit id (front_of bytes) blocks text k (omega (arith, same_count)))
        ∙ bits_of_front (4096 * (1 + length_in bytes)) k bytes (omega arith)

    by_cause : (why : Refused) → Refuses room limit id bytes why → ⊥
    by_cause (refused.Id found) told = told.1 (told.0 ∙ same_id)
    by_cause (refused.Length found) told =
        let is : found ≡ length blocks = told.1 ∙ same_count in
        elim told.2 [
          | inl none ↦ omega (arith, is, text.some)
          | inr many ↦ omega (arith, is, text.few)
        ]
    by_cause (refused.Zeros at) told =
        let there = place_kept (4096 * (1 + length_in bytes)) (length_in bytes) at bytes (front_of bytes) (omega arith) (λ j below. bits_of_front (4096 * (1 + length_in bytes)) j bytes (omega (arith, below))) told.1 in
        let zero : get_or (front_of bytes) at 0 ≡ 0 = text.zeros at (subst (λ (n : ℕ). IsZeroPlace n (front_of bytes) at) same_count there.0) in
        told.2 (sym (get_or-take (4096 * (1 + length_in bytes)) bytes at 0 there.1) ∙ zero)
    by_cause (refused.Entry index) told =
        let below : index < length blocks = omega (arith, told.1, same_count) in
        let dirty : (get_or blocks index no_block).bits ≢ 0 = text.dirty index no_block below in
        let inside : (get_or blocks index no_block).number < limit = text.inside index no_block below in
        told.2 (λ zero. dirty (bits index told.1 ∙ zero), subst (λ (n : ℕ). n < limit) (number index told.1) inside)
    by_cause (refused.Repeated index) told =
        let earlier : ℕ = told.2.0 in
        text.distinct earlier index told.2.1 (omega (arith, told.1, same_count))
        (number earlier (omega (arith, told.1, told.2.1)) ∙ told.2.2 ∙ sym (number index told.1))
    by_cause (refused.Sum stored computed) told =
        let there : sum_in (front_of bytes) ≡ sum_in bytes = ap (λ (xs : List ℕ). from_le_bytes w32 xs) (piece_of_front 8 4 (4096 * (1 + length_in bytes)) bytes (omega arith)) in
        told.3 (told.1 ∙ sym there ∙ text.summed ∙ sym told.2)

-- ---- one spelling

byte_at : (bytes : List ℕ) → ((k d : ℕ) → k < length bytes → get_or bytes k d < 256) → (k : ℕ) → get_or bytes k 0 < 256
byte_at bytes are k = elim (cases_lt k (length bytes)) [
  | inl inside ↦ are k 0 inside
  | inr past ↦ omega (arith, get_or_past bytes k 0 past)
]

-- the bytes of a part are bytes
part_bytes : (at count : ℕ) (bytes : List ℕ) → length (take count (drop at bytes)) ≡ count → ((k : ℕ) → get_or bytes k 0 < 256) → (k : ℕ) → get_or (take count (drop at bytes)) k 0 < 256
part_bytes at count bytes size are k = elim (cases_lt k count) [
  | inl inside ↦ omega (arith, are (at + k), get_or-take count (drop at bytes) k 0 inside, get_or-drop at bytes k 0)
  | inr past ↦ omega (arith, get_or_past (take count (drop at bytes)) k 0 (omega arith))
]

-- parts that spell one number are one
part_4 : (at : ℕ) (xs ys : List ℕ) → at + 4 ≤ length xs → at + 4 ≤ length ys → ((k : ℕ) → get_or xs k 0 < 256) → ((k : ℕ) → get_or ys k 0 < 256)
    → from_le_bytes w32 (take 4 (drop at xs)) ≡ from_le_bytes w32 (take 4 (drop at ys)) → take 4 (drop at xs) ≡ take 4 (drop at ys)
part_4 at xs ys room other are too same =
    let first : length (take 4 (drop at xs)) ≡ 4 = length-take-le 4 (drop at xs) (omega (arith, length-drop at xs)) in
    let second : length (take 4 (drop at ys)) ≡ 4 = length-take-le 4 (drop at ys) (omega (arith, length-drop at ys)) in
    let n : ℕ = from_le_bytes w32 (take 4 (drop at xs)) in
    sym (le_bytes_4 (take 4 (drop at xs)) n first (part_bytes at 4 xs first are) refl) ∙ le_bytes_4 (take 4 (drop at ys)) n second (part_bytes at 4 ys second too) same

part_8 : (at : ℕ) (xs ys : List ℕ) → at + 8 ≤ length xs → at + 8 ≤ length ys → ((k : ℕ) → get_or xs k 0 < 256) → ((k : ℕ) → get_or ys k 0 < 256)
    → from_le_bytes w64 (take 8 (drop at xs)) ≡ from_le_bytes w64 (take 8 (drop at ys)) → take 8 (drop at xs) ≡ take 8 (drop at ys)
part_8 at xs ys room other are too same =
    let first : length (take 8 (drop at xs)) ≡ 8 = length-take-le 8 (drop at xs) (omega (arith, length-drop at xs)) in
    let second : length (take 8 (drop at ys)) ≡ 8 = length-take-le 8 (drop at ys) (omega (arith, length-drop at ys)) in
    let n : ℕ = from_le_bytes w64 (take 8 (drop at xs)) in
    sym (le_bytes_8 (take 8 (drop at xs)) n first (part_bytes at 8 xs first are) refl) ∙ le_bytes_8 (take 8 (drop at ys)) n second (part_bytes at 8 ys second too) same

-- a byte of parts that are one
byte_of_part : (at count k : ℕ) (xs ys : List ℕ) → take count (drop at xs) ≡ take count (drop at ys) → at ≤ k → k < at + count → get_or xs k 0 ≡ get_or ys k 0
byte_of_part at count k xs ys same from until =
    let back : at + (k - at) ≡ k = omega arith in
    let first : get_or (take count (drop at xs)) (k - at) 0 ≡ get_or xs k 0 = get_or-take count (drop at xs) (k - at) 0 (omega arith) ∙ get_or-drop at xs (k - at) 0 ∙ ap (λ (n : ℕ). get_or xs n 0) back in
    let second : get_or (take count (drop at ys)) (k - at) 0 ≡ get_or ys k 0 = get_or-take count (drop at ys) (k - at) 0 (omega arith) ∙ get_or-drop at ys (k - at) 0 ∙ ap (λ (n : ℕ). get_or ys n 0) back in
    sym first ∙ ap (λ (zs : List ℕ). get_or zs (k - at) 0) same ∙ second

pub one_spelling : (room limit other_room other_limit id : ℕ) (bytes others : List ℕ) (blocks : List TextBlock)
    → IsText room limit bytes id blocks → IsText other_room other_limit others id blocks → bytes ≡ others
one_spelling room limit other_room other_limit id bytes others blocks text again =
    ext_get_or 0 bytes others same_size (λ k below. every k below)
  where
    long : length bytes ≡ 4096 * (1 + length blocks)
    long = text.size

    other_long : length others ≡ 4096 * (1 + length blocks)
    other_long = again.size

    same_size : length bytes ≡ length others
    same_size = long ∙ sym other_long

    are : (k : ℕ) → get_or bytes k 0 < 256
    are = byte_at bytes text.bounded

    too : (k : ℕ) → get_or others k 0 < 256
    too = byte_at others again.bounded

    same_block : (j : ℕ) → j < length blocks → block_in bytes j ≡ block_in others j
    same_block j below = sym (block_of_text room limit id bytes blocks text j below) ∙ block_of_text other_room other_limit id others blocks again j below

    in_id : (k : ℕ) → k < 8 → get_or bytes k 0 ≡ get_or others k 0
    in_id k before =
        byte_of_part 0 8 k bytes others (part_8 0 bytes others (omega (arith, long)) (omega (arith, other_long)) are too (text.named ∙ sym again.named)) (omega arith) (omega arith)

    in_entry : (j k : ℕ) → j < length blocks → 512 + 16 * j ≤ k → k < 528 + 16 * j → get_or bytes k 0 ≡ get_or others k 0
    in_entry j k below from until = elim (cases_lt k (520 + 16 * j)) [
      | inl number ↦
          byte_of_part (512 + 16 * j) 8 k bytes others
          (part_8 (512 + 16 * j) bytes others (omega (arith, long)) (omega (arith, other_long)) are too (ap (λ (block : TextBlock). block.number) (same_block j below)))
          from (omega arith)
      | inr behind ↦ elim (cases_lt k (521 + 16 * j)) [
        | inl at_bits ↦
            let here : 520 + 16 * j ≡ k = omega arith in
            let same : bits_in bytes j ≡ bits_in others j = ap (λ (block : TextBlock). block.bits) (same_block j below) in
            subst (λ (n : ℕ). get_or bytes n 0 ≡ get_or others n 0) here same
        | inr in_zeros ↦ text.zeros k (inr (inl (j, below, in_zeros, until))) ∙ sym (again.zeros k (inr (inl (j, below, in_zeros, until))))
      ]
    ]

    in_payload : (j k : ℕ) → j < length blocks → 4096 * (j + 1) ≤ k → k < 4096 * (j + 2) → get_or bytes k 0 ≡ get_or others k 0
    in_payload j k below from until = byte_of_part (4096 * (j + 1)) 4096 k bytes others (ap (λ (block : TextBlock). block.payload) (same_block j below)) from (omega arith)

    behind_sum : (k : ℕ) → k < length bytes → 12 ≤ k → get_or bytes k 0 ≡ get_or others k 0
    behind_sum k inside from = elim (cases_lt k 13) [
      | inl length_place ↦
          let here : 12 ≡ k = omega arith in
          let same : get_or bytes 12 0 ≡ get_or others 12 0 = text.counted ∙ sym again.counted in
          subst (λ (n : ℕ). get_or bytes n 0 ≡ get_or others n 0) here same
      | inr behind_length ↦ elim (cases_lt k 512) [
        | inl head ↦ text.zeros k (inl (behind_length, head)) ∙ sym (again.zeros k (inl (behind_length, head)))
        | inr behind_head ↦ elim (cases_lt k (512 + 16 * length blocks)) [
          | inl entries ↦ in_entry ((k - 512) / 16) k (omega arith) (omega arith) (omega arith)
          | inr behind_entries ↦ elim (cases_lt k 4096) [
            | inl tail ↦ text.zeros k (inr (inr (inl (behind_entries, tail)))) ∙ sym (again.zeros k (inr (inr (inl (behind_entries, tail)))))
            | inr payload ↦ in_payload ((k - 4096) / 4096) k (omega (arith, long)) (omega arith) (omega arith)
          ]
        ]
      ]
    ]

    same_rest : drop 12 bytes ≡ drop 12 others
    same_rest =
        ext_get_or 0 (drop 12 bytes) (drop 12 others) (length-drop 12 bytes ∙ ap (λ (n : ℕ). n - 12) same_size ∙ sym (length-drop 12 others))
        (λ k below. get_or-drop 12 bytes k 0 ∙ behind_sum (12 + k) (omega (arith, length-drop 12 bytes)) (omega arith) ∙ sym (get_or-drop 12 others k 0))

    same_blanked : blanked bytes ≡ blanked others
    same_blanked =
        let front : take 8 bytes ≡ take 8 others = part_8 0 bytes others (omega (arith, long)) (omega (arith, other_long)) are too (text.named ∙ sym again.named) in
        ap (λ (xs : List ℕ). xs ++ replicate 4 0 ++ drop 12 bytes) front ∙ ap (λ (xs : List ℕ). take 8 others ++ replicate 4 0 ++ xs) same_rest

    in_sum : (k : ℕ) → 8 ≤ k → k < 12 → get_or bytes k 0 ≡ get_or others k 0
    in_sum k from until =
        byte_of_part 8 4 k bytes others
        (part_4 8 bytes others (omega (arith, long)) (omega (arith, other_long)) are too (text.summed ∙ ap sum_of same_blanked ∙ sym again.summed))
        from (omega arith)

    every : (k : ℕ) → k < length bytes → get_or bytes k 0 ≡ get_or others k 0
    every k below = elim (cases_lt k 8) [
      | inl front ↦ in_id k front
      | inr behind ↦ elim (cases_lt k 12) [
        | inl sum ↦ in_sum k behind sum
        | inr rest ↦ behind_sum k below rest
      ]
    ]
