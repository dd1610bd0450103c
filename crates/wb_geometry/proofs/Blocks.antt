-- The bytes of a block: zeros where no bit is set, also after a part was laid out or a later block was joined.
use Rattle.std.proofs.Common.{ℕ, ◌≡◌, ◌≢◌, ◌⊎◌, ◌+◌, ◌-◌, ◌*◌, ◌/◌, ◌%◌, ◌^◌, ◌<◌, ◌≤◌, List, length, get_or, take, drop, ◌++◌, replicate, max, sym, ◌∙◌, ap, inl, inr, arith, length-append, length-drop, Some}
use borrow.Rule.Slice.PartMut.{put_mid}
use Rattle.std.specs.Int.{bit_at}
use Rattle.std.specs.Prelude.{bit_or}
use Rattle.std.proofs.lemmas.Bool.{cases_lt, cases_eq}
use Rattle.std.proofs.lemmas.Bool.Decides.{nat_tests}
use Rattle.std.proofs.lemmas.List.{append_assoc, drop-drop, take-replicate, drop-replicate, get_or-replicate, get_or_append_left, get_or-append_right, length-replicate, ext_get_or, get_or-take, get_or-drop, length-take-le}
use Rattle.std.proofs.Math.Nat.{pow-le-pow_right, mul-le-mul_left}
use Rattle.std.proofs.lemmas.Nat.{pow-add, pow_pos}
use Rattle.std.proofs.lemmas.Nat.Bits.{ones_shr, bit_at_mask_inside, bit_at_or, bit_at-lt}
use Rattle.wb_geometry.specs.Image.{sector, sectors_of}
use Rattle.wb_geometry.specs.Block.{IsClean, part_payload, joined_sector, joined_byte}
use Rattle.wb_geometry.specs.History.{Write, written, later}
use Rattle.wb_geometry.proofs.Images.{sector-sectors_of}
use Rattle.wb_geometry.proofs.Histories.{written-inside, written-before, written-behind, written-clear}
use Rattle.wb_geometry.specs.declared.request.Part.{Part}

one_less : (k n : ℕ) → k * n ≡ n * (k + 1) - n
one_less k n = omega arith

-- the bits of a part, as a byte's shifts make them
pub ones_shifted : (from count : ℕ) → 1 ≤ count → from + count ≤ 8 → 255 / 2 ^ (8 - count) * 2 ^ from % 256 ≡ 2 ^ (from + count) - 2 ^ from
ones_shifted from count some inside =
    let fewer : 8 - (8 - count) ≡ count = omega arith in
    let ones : 255 / 2 ^ (8 - count) ≡ 2 ^ count - 1 = ones_shr 8 (8 - count) (omega arith) ∙ ap (λ (k : ℕ). 2 ^ k - 1) fewer in
    let product : 2 ^ (from + count) ≡ 2 ^ from * 2 ^ count = pow-add 2 from count in
    let top : 2 ^ (from + count) ≤ 2 ^ 8 = pow-le-pow_right (omega arith) inside in
    let more : 2 ^ count - 1 + 1 ≡ 2 ^ count = omega (arith, pow_pos count) in
    let whole : (2 ^ count - 1) * 2 ^ from ≡ 2 ^ (from + count) - 2 ^ from =
    one_less (2 ^ count - 1) (2 ^ from) ∙ ap (λ (n : ℕ). 2 ^ from * n - 2 ^ from) more ∙ ap (λ (n : ℕ). n - 2 ^ from) (sym product) in
    rw (ones, whole) (omega (arith, top, pow_pos from))

-- a part with a sector has a bit
pub part_is_dirty : (from count : ℕ) → 1 ≤ count → 2 ^ (from + count) - 2 ^ from ≢ 0
part_is_dirty from count some none =
    let product : 2 ^ (from + count) ≡ 2 ^ from * 2 ^ count = pow-add 2 from count in
    let two : 2 ^ 1 ≤ 2 ^ count = pow-le-pow_right (omega arith) some in
    let twice : 2 ^ from * 2 ≤ 2 ^ from * 2 ^ count = mul-le-mul_left (2 ^ from) two in
    omega (arith, product, twice, none, pow_pos from)

-- zeros where the part has no sector
pub get_or-part_payload : (part : Part) (bytes : List ℕ) (at : ℕ) → part.from + part.count ≤ 8 → length bytes ≡ 512 * part.count → at < 4096
    → (at / 512 < part.from) ⊎ (part.from + part.count ≤ at / 512) → get_or (part_payload part bytes) at 0 ≡ 0
get_or-part_payload part bytes at inside size below where_ = elim where_ [
  | inl before ↦ get_or_append_left (replicate (512 * part.from) 0 ++ bytes) (replicate (512 * (8 - (part.from + part.count))) 0) 0 at (omega (arith, length-append (replicate (512 * part.from) 0) bytes, length-replicate {A = ℕ} (512 * part.from) 0))
      ∙ get_or_append_left (replicate (512 * part.from) 0) bytes 0 at (omega (arith, length-replicate {A = ℕ} (512 * part.from) 0))
      ∙ get_or-replicate (512 * part.from) at 0 0 (omega arith)
  | inr behind ↦ get_or-append_right (replicate (512 * part.from) 0 ++ bytes) (replicate (512 * (8 - (part.from + part.count))) 0) (512 * (part.from + part.count)) at 0
      (omega (arith, length-append (replicate (512 * part.from) 0) bytes, length-replicate {A = ℕ} (512 * part.from) 0)) (omega arith)
      ∙ get_or-replicate (512 * (8 - (part.from + part.count))) (at - 512 * (part.from + part.count)) 0 0 (omega arith)
]

pub IsClean-part : (part : Part) (bytes : List ℕ) → part.from + part.count ≤ 8 → length bytes ≡ 512 * part.count
    → IsClean (2 ^ (part.from + part.count) - 2 ^ part.from) (part_payload part bytes)
IsClean-part part bytes inside size at below unset = elim (cases_lt (at / 512) part.from) [
  | inl before ↦ get_or-part_payload part bytes at inside size below (inl before)
  | inr behind ↦ elim (cases_lt (at / 512) (part.from + part.count)) [
    | inl within ↦ absurd (unset (bit_at_mask_inside part.from (part.from + part.count) (at / 512) behind within))
    | inr past ↦ get_or-part_payload part bytes at inside size below (inr past)
  ]
]

pub IsClean-part_at : (part : Part) (bytes : List ℕ) (bits : ℕ) (payload : List ℕ) → part.from + part.count ≤ 8 → length bytes ≡ 512 * part.count
    → bits ≡ 2 ^ (part.from + part.count) - 2 ^ part.from → payload ≡ part_payload part bytes → IsClean bits payload
IsClean-part_at part bytes bits payload inside size is_bits is_payload = rw (is_bits, is_payload) (IsClean-part part bytes inside size)

-- the bytes of a part, copied over zeros
pub laid_over_zeros : (part : Part) (bytes : List ℕ) (start count : ℕ) (zeros copied : List ℕ) → part.from + part.count ≤ 8 → length bytes ≡ 512 * part.count
    → start ≡ part.from * 512 → count ≡ length bytes → zeros ≡ replicate 4096 0 → copied ≡ bytes → put_mid start count zeros copied ≡ part_payload part bytes
laid_over_zeros part bytes start count zeros copied inside size at many blank same =
    let front : take start (replicate {A = ℕ} 4096 0) ≡ replicate {A = ℕ} (512 * part.from) 0 = take-replicate {X = ℕ} start 4096 0 (omega arith) ∙ ap (λ (n : ℕ). replicate {A = ℕ} n 0) (omega arith) in
    let behind : 4096 - (start + count) ≡ 512 * (8 - (part.from + part.count)) = omega arith in
    let back : drop count (drop start (replicate {A = ℕ} 4096 0)) ≡ replicate {A = ℕ} (512 * (8 - (part.from + part.count))) 0 =
    drop-drop count start (replicate {A = ℕ} 4096 0) ∙ drop-replicate {X = ℕ} (start + count) 4096 0 ∙ ap (λ (n : ℕ). replicate {A = ℕ} n 0) behind in
    rw (blank, same, front, back) (sym (append_assoc (replicate {A = ℕ} (512 * part.from) 0) bytes (replicate {A = ℕ} (512 * (8 - (part.from + part.count))) 0)))

-- the byte of a block with a later one over it, where the bit is set and where it isn't
joined_at : (at : ℕ) (old : List ℕ) (later_bits : ℕ) (later : List ℕ) → bit_at later_bits (at / 512) ≡ 1 → joined_byte at old later_bits later ≡ get_or later at 0
joined_at at old later_bits later is = grind (arith, nat_tests)

unjoined : (at : ℕ) (old : List ℕ) (later_bits : ℕ) (later : List ℕ) → bit_at later_bits (at / 512) ≢ 1 → joined_byte at old later_bits later ≡ get_or old at 0
unjoined at old later_bits later unset = grind (arith, nat_tests)

pub IsClean-join : (old_bits later_bits : ℕ) (old later new : List ℕ) → IsClean old_bits old
    → ((at : ℕ) → at < 4096 → get_or new at 0 ≡ joined_byte at old later_bits later)
    → IsClean (bit_or old_bits later_bits) new
IsClean-join old_bits later_bits old later new clean joined at below unset =
    let either : bit_at (bit_or old_bits later_bits) (at / 512) ≡ max (bit_at old_bits (at / 512)) (bit_at later_bits (at / 512)) = bit_at_or old_bits later_bits (at / 512) in
    let first : bit_at old_bits (at / 512) < 2 = bit_at-lt old_bits (at / 512) in
    let second : bit_at later_bits (at / 512) < 2 = bit_at-lt later_bits (at / 512) in
    let old_unset : bit_at old_bits (at / 512) ≢ 1 = λ e. unset (either ∙ omega arith) in
    let later_unset : bit_at later_bits (at / 512) ≢ 1 = λ e. unset (either ∙ omega arith) in
    joined at below ∙ unjoined at old later_bits later later_unset ∙ clean at below old_unset

pub sector-join : (later_bits : ℕ) (old later new : List ℕ) (i : ℕ) → length old ≡ 4096 → length later ≡ 4096 → length new ≡ 4096 → i < 8
    → ((at : ℕ) → at < 4096 → get_or new at 0 ≡ joined_byte at old later_bits later)
    → sector (sectors_of new) i ≡ joined_sector i old later_bits later
sector-join later_bits old later new i old_size later_size new_size below joined = elim (cases_eq (bit_at later_bits i) 1) [
  | inl is ↦ same later later_size (λ at first last. joined at (omega arith) ∙ joined_at at old later_bits later (rw (place at first last) is)) ∙ sym (set_sector is)
  | inr unset ↦ same old old_size (λ at first last. joined at (omega arith) ∙ unjoined at old later_bits later (rw (place at first last) unset)) ∙ sym (unset_sector unset)
]
  where
    place : (at : ℕ) → 512 * i ≤ at → at < 512 * i + 512 → at / 512 ≡ i
    place at first last = omega arith

    set_sector : bit_at later_bits i ≡ 1 → joined_sector i old later_bits later ≡ sector (sectors_of later) i
    set_sector is = grind (arith, nat_tests)

    unset_sector : bit_at later_bits i ≢ 1 → joined_sector i old later_bits later ≡ sector (sectors_of old) i
    unset_sector unset = grind (arith, nat_tests)

    sized : (bytes : List ℕ) → length bytes ≡ 4096 → length (take 512 (drop (512 * i) bytes)) ≡ 512
    sized bytes size = length-take-le 512 (drop (512 * i) bytes) (omega (arith, length-drop (512 * i) bytes))

    read : (bytes : List ℕ) (k : ℕ) → k < 512 → get_or (take 512 (drop (512 * i) bytes)) k 0 ≡ get_or bytes (512 * i + k) 0
    read bytes k less = get_or-take 512 (drop (512 * i) bytes) k 0 less ∙ get_or-drop (512 * i) bytes k 0

    same : (from : List ℕ) → length from ≡ 4096 → ((at : ℕ) → 512 * i ≤ at → at < 512 * i + 512 → get_or new at 0 ≡ get_or from at 0) → sector (sectors_of new) i ≡ sector (sectors_of from) i
    same from size each =
        sector-sectors_of new i (omega arith)
        ∙ ext_get_or 0 (take 512 (drop (512 * i) new)) (take 512 (drop (512 * i) from)) (sized new new_size ∙ sym (sized from size))
        (λ k less. read new k (omega (arith, sized new new_size)) ∙ each (512 * i + k) (omega arith) (omega (arith, sized new new_size)) ∙ sym (read from k (omega (arith, sized new new_size))))
        ∙ sym (sector-sectors_of from i (omega arith))

joined_set : (i : ℕ) (old : List ℕ) (later_bits : ℕ) (over : List ℕ) → bit_at later_bits i ≡ 1 → joined_sector i old later_bits over ≡ sector (sectors_of over) i
joined_set i old later_bits over is = grind (arith, nat_tests)

joined_unset : (i : ℕ) (old : List ℕ) (later_bits : ℕ) (over : List ℕ) → bit_at later_bits i ≢ 1 → joined_sector i old later_bits over ≡ sector (sectors_of old) i
joined_unset i old later_bits over unset = grind (arith, nat_tests)

-- a bit of both
bit_of_both : (old_bits later_bits i : ℕ) → bit_at later_bits i ≡ 1 → bit_at (bit_or old_bits later_bits) i ≡ 1
bit_of_both old_bits later_bits i is = bit_at_or old_bits later_bits i ∙ (omega (arith, is, bit_at-lt old_bits i))

bit_of_old : (old_bits later_bits i : ℕ) → bit_at later_bits i ≢ 1 → bit_at (bit_or old_bits later_bits) i ≡ bit_at old_bits i
bit_of_old old_bits later_bits i unset = bit_at_or old_bits later_bits i ∙ (omega (arith, unset, bit_at-lt later_bits i))

unset_is_zero : (bits i : ℕ) → bit_at bits i ≢ 1 → bit_at bits i ≡ 0
unset_is_zero bits i unset = omega (arith, unset, bit_at-lt bits i)

joined_inside : (k block old_bits later_bits : ℕ) (old new over : List ℕ) → 8 * block ≤ k → k < 8 * block + 8 → sector (sectors_of new) (k - 8 * block) ≡ joined_sector (k - 8 * block) old later_bits over
    → written k (Write 0 block (bit_or old_bits later_bits) new) ≡ later (written k (Write 0 block old_bits old)) (written k (Write 0 block later_bits over))
joined_inside k block old_bits later_bits old new over from inside joined =
    let i : ℕ = k - 8 * block in
    let before = written k (Write 0 block old_bits old) in
    elim (cases_eq (bit_at later_bits i) 1) [
      | inl is ↦
          written-inside 0 block (bit_or old_bits later_bits) new k from inside (bit_of_both old_bits later_bits i is)
          ∙ ap (λ (s : List ℕ). Some s) (joined ∙ joined_set i old later_bits over is)
          ∙ sym (ap (later before) (written-inside 0 block later_bits over k from inside is))
      | inr unset ↦ elim (cases_eq (bit_at old_bits i) 1) [
        | inl was ↦
            written-inside 0 block (bit_or old_bits later_bits) new k from inside (bit_of_old old_bits later_bits i unset ∙ was)
            ∙ ap (λ (s : List ℕ). Some s) (joined ∙ joined_unset i old later_bits over unset)
            ∙ sym (ap (later before) (written-clear 0 block later_bits over k (unset_is_zero later_bits i unset)) ∙ written-inside 0 block old_bits old k from inside was)
        | inr none ↦
            written-clear 0 block (bit_or old_bits later_bits) new k (bit_of_old old_bits later_bits i unset ∙ unset_is_zero old_bits i none)
            ∙ sym (ap (later before) (written-clear 0 block later_bits over k (unset_is_zero later_bits i unset)) ∙ written-clear 0 block old_bits old k (unset_is_zero old_bits i none))
      ]
    ]

-- a block with a later one over it writes what the later one writes, and else what it wrote
pub written-join : (k block old_bits later_bits : ℕ) (old new over : List ℕ) → ((i : ℕ) → i < 8 → sector (sectors_of new) i ≡ joined_sector i old later_bits over)
    → written k (Write 0 block (bit_or old_bits later_bits) new) ≡ later (written k (Write 0 block old_bits old)) (written k (Write 0 block later_bits over))
written-join k block old_bits later_bits old new over joined = elim (cases_lt k (8 * block)) [
  | inl before ↦
      written-before 0 block (bit_or old_bits later_bits) new k before
      ∙ sym (ap (later (written k (Write 0 block old_bits old))) (written-before 0 block later_bits over k before) ∙ written-before 0 block old_bits old k before)
  | inr from ↦ elim (cases_lt k (8 * block + 8)) [
    | inl inside ↦ joined_inside k block old_bits later_bits old new over from inside (joined (k - 8 * block) (omega arith))
    | inr behind ↦
        written-behind 0 block (bit_or old_bits later_bits) new k behind
        ∙ sym (ap (later (written k (Write 0 block old_bits old))) (written-behind 0 block later_bits over k behind) ∙ written-behind 0 block old_bits old k behind)
  ]
]
