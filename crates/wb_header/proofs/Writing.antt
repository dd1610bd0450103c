-- What the steps of writing a text leave, and that together they make the text.
use Rattle.std.proofs.Common.{ℕ, ◌≡◌, ◌≢◌, ◌⊎◌, ◌+◌, ◌-◌, ◌*◌, ◌/◌, ◌^◌, ◌<◌, ◌≤◌, List, ◌++◌, length, get_or, set, take, drop, replicate, All, refl, sym, ◌∙◌, ap, inl, inr, arith, length-append, length-drop}
use borrow.Rule.Slice.PartMut.{put_mid}
use Rattle.std.specs.Int.{w64, from_le_bytes, to_le_bytes, bit_at}
use Rattle.std.proofs.lemmas.List.{append_assoc, drop-drop, ext_get_or, get_or-take, get_or-drop, get_or_append_left, get_or-append_right, length-set, length-take-le, get_or-set_other, take_at, drop_at}
use Rattle.std.proofs.lemmas.List.FromFn.{length-map-range_with_len, get_or-map-range_with_len}
use Rattle.std.proofs.lemmas.Grind.{get_or-set_at}
use Rattle.std.proofs.lemmas.Nat.{from_le_bytes-to_le_bytes_8}
use Rattle.wb_geometry.specs.Block.{IsClean}
use Rattle.wb_sum.specs.Crc32c.{sum_of}
use Rattle.wb_header.specs.Text.{TextBlock, IsText, IsZeroPlace, no_block, sum_in, bits_in, payload_in, block_in, blocks_in, blanked}
use Rattle.wb_header.specs.Segments.{IsSegment}
use Rattle.wb_header.specs.Writing.{IsSameOutside, HoldsFront, HoldsEntry, HoldsPayload}

-- parts of a list that agree at each place

same_part : (at count : ℕ) (xs ys : List ℕ) → length xs ≡ length ys → at + count ≤ length xs → ((k : ℕ) → at ≤ k → k < at + count → get_or xs k 0 ≡ get_or ys k 0)
    → take count (drop at xs) ≡ take count (drop at ys)
same_part at count xs ys size inside each =
    let first : length (take count (drop at xs)) ≡ count = length-take-le count (drop at xs) (omega (arith, length-drop at xs)) in
    let second : length (take count (drop at ys)) ≡ count = length-take-le count (drop at ys) (omega (arith, length-drop at ys)) in
    ext_get_or 0 (take count (drop at xs)) (take count (drop at ys)) (first ∙ sym second)
    (λ k below.
    get_or-take count (drop at xs) k 0 (omega (arith, first)) ∙ get_or-drop at xs k 0
    ∙ each (at + k) (omega arith) (omega (arith, first))
    ∙ sym (get_or-take count (drop at ys) k 0 (omega (arith, first)) ∙ get_or-drop at ys k 0))

pub kept_part : {from until : ℕ} {old new : List ℕ} → IsSameOutside from until old new → (at count : ℕ) → (at + count ≤ from) ⊎ (until ≤ at) → at + count ≤ length old
    → take count (drop at new) ≡ take count (drop at old)
kept_part {from} {until} {old} {new} same at count outside inside =
    same_part at count new old same.size (omega (arith, same.size)) (λ k first last. elim outside [
      | inl before ↦ same.each k (inl (omega arith))
      | inr behind ↦ same.each k (inr (omega arith))
    ])

pub kept_rest : {from until : ℕ} {old new : List ℕ} → IsSameOutside from until old new → (at : ℕ) → until ≤ at → drop at new ≡ drop at old
kept_rest {from} {until} {old} {new} same at behind =
    ext_get_or 0 (drop at new) (drop at old) (length-drop at new ∙ ap (λ (n : ℕ). n - at) same.size ∙ sym (length-drop at old))
    (λ k below. get_or-drop at new k 0 ∙ same.each (at + k) (inr (omega arith)) ∙ sym (get_or-drop at old k 0))

-- a change of fewer places, and one change after another

pub same_outside : (text : List ℕ) (from until : ℕ) → IsSameOutside from until text text
same_outside text from until = record { size = refl; each = λ at outside. refl }

pub wider : {from until : ℕ} {old new : List ℕ} (first last : ℕ) → IsSameOutside from until old new → first ≤ from → until ≤ last → IsSameOutside first last old new
wider {from} {until} first last same less more = record {
  size = same.size;
  each = λ at outside. elim outside [
    | inl before ↦ same.each at (inl (omega arith))
    | inr behind ↦ same.each at (inr (omega arith))
  ];
}

pub then : {from until : ℕ} {old middle new : List ℕ} → IsSameOutside from until old middle → IsSameOutside from until middle new → IsSameOutside from until old new
then first second = record {
  size = second.size ∙ first.size;
  each = λ at outside. second.each at outside ∙ first.each at outside;
}

-- a part written over, and one byte

pub IsSameOutside-put_mid : (from until at count : ℕ) (xs ys : List ℕ) → from ≤ at → at + count ≤ until → at + count ≤ length xs → length ys ≡ count
    → IsSameOutside from until xs (put_mid at count xs ys)
IsSameOutside-put_mid from until at count xs ys first last inside size =
    let front : length (take at xs) ≡ at = length-take-le at xs (omega arith) in
    let joined : put_mid at count xs ys ≡ (take at xs ++ ys) ++ drop (at + count) xs =
    ap (λ (zs : List ℕ). take at xs ++ (ys ++ zs)) (drop-drop count at xs) ∙ sym (append_assoc (take at xs) ys (drop (at + count) xs)) in
    let both : length (take at xs ++ ys) ≡ at + count = length-append (take at xs) ys ∙ omega (arith, front) in
    rw joined (record {
      size = length-append (take at xs ++ ys) (drop (at + count) xs) ∙ omega (arith, both, length-drop (at + count) xs);
      each = λ k outside. elim outside [
        | inl before ↦
            get_or_append_left (take at xs ++ ys) (drop (at + count) xs) 0 k (omega (arith, both))
            ∙ get_or_append_left (take at xs) ys 0 k (omega (arith, front))
            ∙ get_or-take at xs k 0 (omega arith)
        | inr behind ↦
            let back : at + count + (k - (at + count)) ≡ k = omega arith in
            get_or-append_right (take at xs ++ ys) (drop (at + count) xs) (at + count) k 0 both (omega arith)
            ∙ get_or-drop (at + count) xs (k - (at + count)) 0 ∙ ap (λ (i : ℕ). get_or xs i 0) back
      ];
    })

pub IsSameOutside-set : {from until : ℕ} {xs ys : List ℕ} (at byte : ℕ) → IsSameOutside from until xs ys → from ≤ at → at < until → IsSameOutside from until xs (set ys at byte)
IsSameOutside-set {from} {until} {xs} {ys} at byte same first last = record {
  size = length-set ys at byte ∙ same.size;
  each = λ k outside. elim outside [
    | inl before ↦ get_or-set_other ys at k byte 0 (λ e. absurd (omega arith)) ∙ same.each k (inl before)
    | inr behind ↦ get_or-set_other ys at k byte 0 (λ e. absurd (omega arith)) ∙ same.each k (inr behind)
  ];
}

pub part_put : (at count many : ℕ) (xs ys : List ℕ) → at ≤ length xs → length ys ≡ count → take count (drop at (put_mid at many xs ys)) ≡ ys
part_put at count many xs ys inside size =
    ap (take count) (drop_at (take at xs) (ys ++ drop many (drop at xs)) at (length-take-le at xs inside)) ∙ take_at ys (drop many (drop at xs)) count size

pub HoldsFront-of : {text : List ℕ} (id count id' count' : ℕ) → id ≡ id' → count ≡ count' → HoldsFront id count text → HoldsFront id' count' text
HoldsFront-of id count id' count' is_id is_count holds = rw (← is_id, ← is_count) holds

-- an entry

pub HoldsEntry-written : (text bytes : List ℕ) (j number bits many : ℕ) → 4096 ≤ length text → j < 127 → number < 2 ^ 64 → many ≡ 8 → bytes ≡ to_le_bytes w64 number
    → ((at : ℕ) → 512 + 16 * j ≤ at → at < 528 + 16 * j → get_or text at 0 ≡ 0)
    → HoldsEntry number bits (set (put_mid (512 + 16 * j) many text bytes) (512 + 16 * j + 8) bits) j
HoldsEntry-written text bytes j number bits many size few fits eight is zeros =
    let at = 512 + 16 * j in
    let sized : length bytes ≡ 8 = ap length is in
    let put : IsSameOutside at (at + 9) text (put_mid at many text bytes) = IsSameOutside-put_mid at (at + 9) at many text bytes (omega arith) (omega arith) (omega arith) (omega arith) in
    let changed : IsSameOutside at (at + 9) text (set (put_mid at many text bytes) (at + 8) bits) = IsSameOutside-set (at + 8) bits put (omega arith) (omega arith) in
    let byte : IsSameOutside (at + 8) (at + 9) (put_mid at many text bytes) (set (put_mid at many text bytes) (at + 8) bits) =
    IsSameOutside-set (at + 8) bits (same_outside (put_mid at many text bytes) (at + 8) (at + 9)) (omega arith) (omega arith) in
    record {
      named = ap (from_le_bytes w64) (kept_part byte at 8 (inl (omega arith)) (omega (arith, put.size)) ∙ part_put at 8 many text bytes (omega arith) sized ∙ is) ∙ from_le_bytes-to_le_bytes_8 number fits;
      marked = get_or-set_at (put_mid at many text bytes) (at + 8) (520 + 16 * j) bits 0 (omega arith) (omega (arith, put.size));
      zeros = λ k first last. changed.each k (inr (omega arith)) ∙ zeros k (omega arith) last;
    }

pub IsSameOutside-entry : (text bytes : List ℕ) (j bits many number : ℕ) → 4096 ≤ length text → j < 127 → many ≡ 8 → bytes ≡ to_le_bytes w64 number
    → IsSameOutside (512 + 16 * j) (528 + 16 * j) text (set (put_mid (512 + 16 * j) many text bytes) (512 + 16 * j + 8) bits)
IsSameOutside-entry text bytes j bits many number size few eight is =
    let at = 512 + 16 * j in
    let sized : length bytes ≡ 8 = ap length is in
    IsSameOutside-set (at + 8) bits (IsSameOutside-put_mid at (528 + 16 * j) at many text bytes (omega arith) (omega arith) (omega arith) (omega arith)) (omega arith) (omega arith)

pub HoldsEntry-kept : {from until : ℕ} {old new : List ℕ} (number bits j : ℕ) → IsSameOutside from until old new → HoldsEntry number bits old j
    → (528 + 16 * j ≤ from) ⊎ (until ≤ 512 + 16 * j) → 528 + 16 * j ≤ length old → HoldsEntry number bits new j
HoldsEntry-kept {from} {until} {old} {new} number bits j same holds outside inside = elim outside [
  | inl before ↦ record {
    named = ap (from_le_bytes w64) (kept_part same (512 + 16 * j) 8 (inl (omega arith)) (omega arith)) ∙ holds.named;
    marked = same.each (520 + 16 * j) (inl (omega arith)) ∙ holds.marked;
    zeros = λ at first last. same.each at (inl (omega arith)) ∙ holds.zeros at first last;
  }
  | inr behind ↦ record {
    named = ap (from_le_bytes w64) (kept_part same (512 + 16 * j) 8 (inr (omega arith)) (omega arith)) ∙ holds.named;
    marked = same.each (520 + 16 * j) (inr (omega arith)) ∙ holds.marked;
    zeros = λ at first last. same.each at (inr (omega arith)) ∙ holds.zeros at first last;
  }
]

pub HoldsEntry-of : {text : List ℕ} {j : ℕ} (number bits number' bits' : ℕ) → number ≡ number' → bits ≡ bits' → HoldsEntry number bits text j → HoldsEntry number' bits' text j
HoldsEntry-of number bits number' bits' is_number is_bits holds = rw (← is_number, ← is_bits) holds

-- the bytes of a block

pub HoldsPayload-kept : {from until : ℕ} {old new : List ℕ} (bits : ℕ) (payload : List ℕ) (j : ℕ) → IsSameOutside from until old new → HoldsPayload bits payload old j
    → (4096 * (j + 2) ≤ from) ⊎ (until ≤ 4096 * (j + 1)) → 4096 * (j + 2) ≤ length old → HoldsPayload bits payload new j
HoldsPayload-kept {from} {until} {old} {new} bits payload j same holds outside inside = record {
  part = kept_part same (4096 * (j + 1)) 4096 (elim outside [ inl before ↦ inl (omega arith) | inr behind ↦ inr (omega arith) ]) (omega arith) ∙ holds.part;
  size = holds.size;
  clean = holds.clean;
}

pub HoldsPayload-of : {text : List ℕ} {j bits : ℕ} (found payload : List ℕ) → found ≡ payload → payload_in text j ≡ found → length found ≡ 4096 → IsClean bits found → HoldsPayload bits payload text j
HoldsPayload-of found payload is part size clean = rw (← is) (record { part = part; size = size; clean = clean })

-- the whole text

pub IsText-written : (room limit id : ℕ) (blocks : List TextBlock) (first second third last : List ℕ) → length first ≡ 4096 * (1 + length blocks)
    → HoldsFront id (length blocks) first
    → ((j : ℕ) → j < length blocks → HoldsEntry (get_or blocks j no_block).number (get_or blocks j no_block).bits second j)
    → IsSameOutside 512 (512 + 16 * length blocks) first second
    → ((j : ℕ) → j < length blocks → HoldsPayload (get_or blocks j no_block).bits (get_or blocks j no_block).payload third j)
    → IsSameOutside 4096 (4096 * (1 + length blocks)) second third
    → sum_in last ≡ sum_of (blanked third) → IsSameOutside 8 12 third last
    → IsSegment id blocks → All (λ byte. byte < 256) last
    → length blocks ≤ room → All (λ block. block.number < limit) blocks → IsText room limit last id blocks
IsText-written room limit id blocks first second third last size front entries listed payloads filled summed sealed segment bounded few inside =
    let count = length blocks in
    let few_blocks : count ≤ 127 = segment.few in
    let some_blocks : 1 ≤ count = segment.some in
    let second_size : length second ≡ 4096 * (1 + count) = listed.size ∙ size in
    let third_size : length third ≡ 4096 * (1 + count) = filled.size ∙ second_size in
    let last_size : length last ≡ 4096 * (1 + count) = sealed.size ∙ third_size in
    record {
      some = some_blocks;
      few = few;
      size = last_size;
      bounded = bounded;
      named = ap (from_le_bytes w64) (kept_part sealed 0 8 (inl (omega arith)) (omega arith) ∙ kept_part filled 0 8 (inl (omega arith)) (omega arith) ∙ kept_part listed 0 8 (inl (omega arith)) (omega arith)) ∙ front.named;
      summed = summed ∙ ap sum_of (sym same_blanked);
      counted = sealed.each 12 (inr (omega arith)) ∙ filled.each 12 (inl (omega arith)) ∙ listed.each 12 (inl (omega arith)) ∙ front.counted;
      listed = ext_get_or no_block blocks (blocks_in count last) (sym (length-map-range_with_len (block_in last) 0 count)) same_block;
      inside = inside;
      dirty = segment.dirty;
      distinct = segment.distinct;
      zeros = λ at place. zero_at at place;
    }
  where
    second_is : length second ≡ 4096 * (1 + length blocks)
    second_is = listed.size ∙ size

    third_is : length third ≡ 4096 * (1 + length blocks)
    third_is = filled.size ∙ second_is

    last_is : length last ≡ 4096 * (1 + length blocks)
    last_is = sealed.size ∙ third_is

    few_are : length blocks ≤ 127
    few_are = segment.few

    same_blanked : blanked last ≡ blanked third
    same_blanked =
        let front : take 8 last ≡ take 8 third = kept_part sealed 0 8 (inl (omega arith)) (omega (arith, third_is)) in
        let back : drop 12 last ≡ drop 12 third = kept_rest sealed 12 (omega arith) in
        ap (λ (bytes : List ℕ). bytes ++ replicate 4 0 ++ drop 12 last) front ∙ ap (λ (bytes : List ℕ). take 8 third ++ replicate 4 0 ++ bytes) back

    entry : (j : ℕ) → j < length blocks → HoldsEntry (get_or blocks j no_block).number (get_or blocks j no_block).bits last j
    entry j below =
        HoldsEntry-kept (get_or blocks j no_block).number (get_or blocks j no_block).bits j sealed
        (HoldsEntry-kept (get_or blocks j no_block).number (get_or blocks j no_block).bits j filled (entries j below) (inl (omega (arith, few_are))) (omega (arith, second_is, few_are)))
        (inr (omega arith)) (omega (arith, third_is, few_are))

    payload : (j : ℕ) → j < length blocks → HoldsPayload (get_or blocks j no_block).bits (get_or blocks j no_block).payload last j
    payload j below =
        HoldsPayload-kept (get_or blocks j no_block).bits (get_or blocks j no_block).payload j sealed (payloads j below) (inr (omega arith)) (omega (arith, third_is))

    same_block : (j : ℕ) → j < length blocks → get_or blocks j no_block ≡ get_or (blocks_in (length blocks) last) j no_block
    same_block j below =
        let holds = entry j below in
        let filled_in = payload j below in
        let is : block_in last j ≡ get_or blocks j no_block = rw (holds.named, holds.marked, filled_in.part) refl in
        sym (get_or-map-range_with_len (block_in last) 0 (length blocks) j j no_block below (omega arith) ∙ is)

    zero_in_block : (at j : ℕ) → j < length blocks → 4096 * (j + 1) ≤ at → at < 4096 * (j + 2) → bit_at (bits_in last j) ((at - 4096 * (j + 1)) / 512) ≢ 1 → get_or last at 0 ≡ 0
    zero_in_block at j below from until unset =
        let k : ℕ = at - 4096 * (j + 1) in
        let holds = payload j below in
        let place : 4096 * (j + 1) + k ≡ at = omega arith in
        let read : get_or (payload_in last j) k 0 ≡ get_or last at 0 =
        get_or-take 4096 (drop (4096 * (j + 1)) last) k 0 (omega arith) ∙ get_or-drop (4096 * (j + 1)) last k 0 ∙ ap (λ (n : ℕ). get_or last n 0) place in
        sym read ∙ ap (λ (bytes : List ℕ). get_or bytes k 0) holds.part
        ∙ holds.clean k (omega arith) (λ e. unset (ap (λ (bits : ℕ). bit_at bits (k / 512)) (entry j below).marked ∙ e))

    zero_at : (at : ℕ) → IsZeroPlace (length blocks) last at → get_or last at 0 ≡ 0
    zero_at at place = elim place [
      | inl head ↦ sealed.each at (inr (omega arith)) ∙ filled.each at (inl (omega arith)) ∙ listed.each at (inl (omega arith)) ∙ front.zeros at (omega arith) (omega arith)
      | inr rest ↦ elim rest [
        | inl inside_entry ↦ (entry inside_entry.0 inside_entry.1).zeros at inside_entry.2 inside_entry.3
        | inr other ↦ elim other [
          | inl behind ↦ sealed.each at (inr (omega arith)) ∙ filled.each at (inl (omega arith)) ∙ listed.each at (inr (omega arith)) ∙ front.zeros at (omega arith) (omega arith)
          | inr unset ↦ zero_in_block at unset.0 unset.1 unset.2 unset.3 unset.4
        ]
      ]
    ]
