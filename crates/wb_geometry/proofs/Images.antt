-- Images made of bytes, and images with some sectors laid over them.
use Rattle.std.proofs.Common.{◌≡◌, ◌⊎◌, ℕ, zero, suc, ◌+◌, ◌-◌, ◌*◌, ◌/◌, ◌%◌, ◌<◌, ◌≤◌, List, [], ◌∷◌, ◌++◌, length, get_or, take, drop, refl, sym, ◌∙◌, ap, inl, inr, arith, rules, length-append, length-take, length-drop}
use Rattle.std.specs.List.{flat_map}
use Rattle.std.specs.Simd.{first_chunks}
use Rattle.std.proofs.Math.Seq.{take-add}
use Rattle.std.proofs.lemmas.Bool.{cases_lt}
use Rattle.std.proofs.lemmas.List.{nil_from_length, take_all, length-take-le, drop-drop, take-append-le, drop-append-le, take-take, drop-take, ext_get_or, places}
use Rattle.wb_geometry.specs.Image.{Image, IsImage, sector, sectors_of, bytes_of, bytes_at, overlay, IsPartlyWritten, Replaces, ReplacesOrNot}

-- chunks of any size

length-first_chunks : {X : Type 0} (n k : ℕ) (xs : List X) → length (first_chunks n k xs) ≡ k
length-first_chunks n zero xs = refl
length-first_chunks n (suc k) xs = ap (λ (j : ℕ). suc j) (length-first_chunks n k (drop n xs))

get_or-first_chunks : {X : Type 0} (n k : ℕ) (xs : List X) (i : ℕ) → i < k → get_or (first_chunks n k xs) i [] ≡ take n (drop (n * i) xs)
get_or-first_chunks n zero xs i below = absurd (omega arith)
get_or-first_chunks n (suc k) xs zero below = let none : n * 0 ≡ 0 = omega arith in rw none
get_or-first_chunks n (suc k) xs (suc i) below =
    let next : n + n * i ≡ n * suc i = omega arith in
    get_or-first_chunks n k (drop n xs) i (omega arith) ∙ ap (take n) (drop-drop (n * i) n xs ∙ ap (λ (m : ℕ). drop m xs) next)

-- joined again, they are a front
flat_map-first_chunks : {X : Type 0} (n k : ℕ) (xs : List X) → flat_map (λ s. s) (first_chunks n k xs) ≡ take (n * k) xs
flat_map-first_chunks n zero xs = let none : n * 0 ≡ 0 = omega arith in rw none
flat_map-first_chunks n (suc k) xs =
    let next : n + n * k ≡ n * suc k = omega arith in
    ap (λ (ys : List _). take n xs ++ ys) (flat_map-first_chunks n k (drop n xs)) ∙ sym (take-add n (n * k) xs) ∙ ap (λ (m : ℕ). take m xs) next

take-first_chunks : {X : Type 0} (n m k : ℕ) (xs : List X) → m ≤ k → take m (first_chunks n k xs) ≡ first_chunks n m xs
take-first_chunks n zero k xs below = refl
take-first_chunks n (suc m) zero xs below = absurd (omega arith)
take-first_chunks n (suc m) (suc k) xs below = ap (λ (rest : List (List _)). take n xs ∷ rest) (take-first_chunks n m k (drop n xs) (omega arith))

drop-first_chunks : {X : Type 0} (n m k : ℕ) (xs : List X) → drop m (first_chunks n k xs) ≡ first_chunks n (k - m) (drop (n * m) xs)
drop-first_chunks n zero k xs =
    let none : n * 0 ≡ 0 = omega arith in
    let all : k - 0 ≡ k = omega arith in
    rw (none, all)
drop-first_chunks n (suc m) zero xs = let none : 0 - suc m ≡ 0 = omega arith in rw none
drop-first_chunks n (suc m) (suc k) xs =
    let next : n + n * m ≡ n * suc m = omega arith in
    let fewer : suc k - suc m ≡ k - m = omega arith in
    drop-first_chunks n m k (drop n xs) ∙ rw (drop-drop (n * m) n xs, next, fewer)

first_chunks-append : {X : Type 0} (n j k : ℕ) (xs ys : List X) → length xs ≡ n * j → first_chunks n (j + k) (xs ++ ys) ≡ first_chunks n j xs ++ first_chunks n k ys
first_chunks-append n zero k xs ys size =
    let none : xs ≡ [] = nil_from_length xs (omega arith) in
    let all : 0 + k ≡ k = omega arith in
    rw (none, all)
first_chunks-append n (suc j) k xs ys size =
    let next : suc j + k ≡ suc (j + k) = omega arith in
    let room : n ≤ length xs = omega arith in
    rw (next, take-append-le n xs ys room, drop-append-le n xs ys room)
    (ap (λ (rest : List (List _)). take n xs ∷ rest) (first_chunks-append n j k (drop n xs) ys (omega (arith, length-drop n xs))))

-- only the front of the list counts
first_chunks-take : {X : Type 0} (n k m : ℕ) (xs : List X) → n * k ≤ m → first_chunks n k (take m xs) ≡ first_chunks n k xs
first_chunks-take n zero m xs room = refl
first_chunks-take n (suc k) m xs room =
    let parts : m ≡ n + (m - n) = omega arith in
    let front : take n (take m xs) ≡ take n xs = take-take n m xs (omega arith) in
    let behind : drop n (take m xs) ≡ take (m - n) (drop n xs) = ap (λ (j : ℕ). drop n (take j xs)) parts ∙ drop-take n (m - n) xs in
    rw (front, behind) (ap (λ (rest : List (List _)). take n xs ∷ rest) (first_chunks-take n k (m - n) (drop n xs) (omega arith)))

-- the sectors of a list of bytes

pub length-sectors_of : (bytes : List ℕ) → length (sectors_of bytes) ≡ length bytes / 512
length-sectors_of bytes = length-first_chunks 512 (length bytes / 512) bytes

pub sector-sectors_of : (bytes : List ℕ) (i : ℕ) → i < length bytes / 512 → sector (sectors_of bytes) i ≡ take 512 (drop (512 * i) bytes)
sector-sectors_of bytes i below = get_or-first_chunks 512 (length bytes / 512) bytes i below

pub IsImage-sectors_of : (bytes : List ℕ) → IsImage (length bytes / 512) (sectors_of bytes)
IsImage-sectors_of bytes = record {
  size = length-sectors_of bytes;
  whole = λ i below. ap length (sector-sectors_of bytes i below) ∙ length-take-le 512 (drop (512 * i) bytes) (omega (arith, length-drop (512 * i) bytes));
}

pub bytes_of-sectors_of : (bytes : List ℕ) → length bytes % 512 ≡ 0 → bytes_of (sectors_of bytes) ≡ bytes
bytes_of-sectors_of bytes whole = flat_map-first_chunks 512 (length bytes / 512) bytes ∙ take_all (512 * (length bytes / 512)) bytes (omega arith)

pub bytes_at-sectors_of : (bytes : List ℕ) (at count : ℕ) → at + count ≤ length bytes / 512 → bytes_at (sectors_of bytes) at count ≡ take (512 * count) (drop (512 * at) bytes)
bytes_at-sectors_of bytes at count inside =
    let sectors = length bytes / 512 in
    ap (λ (x : Image). bytes_of (take count x)) (drop-first_chunks 512 at sectors bytes)
    ∙ ap bytes_of (take-first_chunks 512 count (sectors - at) (drop (512 * at) bytes) (omega arith))
    ∙ flat_map-first_chunks 512 count (drop (512 * at) bytes)

-- 512 bytes are one sector
pub sectors_of-one : (bytes : List ℕ) → length bytes ≡ 512 → sectors_of bytes ≡ bytes ∷ []
sectors_of-one bytes size =
    ap (λ (n : ℕ). first_chunks 512 (n / 512) bytes) size ∙ ap (λ (b : List ℕ). b ∷ []) (take_all 512 bytes (omega arith))

-- the sectors of a part

pub sectors_of-take : (n : ℕ) (bytes : List ℕ) → n ≤ length bytes → sectors_of (take n bytes) ≡ take (n / 512) (sectors_of bytes)
sectors_of-take n bytes room =
    ap (λ (k : ℕ). first_chunks 512 (k / 512) (take n bytes)) (length-take-le n bytes room)
    ∙ first_chunks-take 512 (n / 512) n bytes (omega arith)
    ∙ sym (take-first_chunks 512 (n / 512) (length bytes / 512) bytes (omega arith))

pub sectors_of-drop : (n : ℕ) (bytes : List ℕ) → sectors_of (drop (512 * n) bytes) ≡ drop n (sectors_of bytes)
sectors_of-drop n bytes =
    let fewer : length (drop (512 * n) bytes) / 512 ≡ length bytes / 512 - n = rw (length-drop (512 * n) bytes) (omega arith) in
    ap (λ (k : ℕ). first_chunks 512 k (drop (512 * n) bytes)) fewer ∙ sym (drop-first_chunks 512 n (length bytes / 512) bytes)

-- bytes behind the last whole sector are in none
pub sectors_of-whole : (bytes : List ℕ) → sectors_of (take (length bytes - length bytes % 512) bytes) ≡ sectors_of bytes
sectors_of-whole bytes =
    sectors_of-take (length bytes - length bytes % 512) bytes (omega arith)
    ∙ take_all ((length bytes - length bytes % 512) / 512) (sectors_of bytes) (rw (length-sectors_of bytes) (omega arith))

pub sectors_of-append : (first second : List ℕ) → length first % 512 ≡ 0 → sectors_of (first ++ second) ≡ sectors_of first ++ sectors_of second
sectors_of-append first second whole =
    let parts : length (first ++ second) / 512 ≡ length first / 512 + length second / 512 = rw (length-append first second) (omega arith) in
    ap (λ (k : ℕ). first_chunks 512 k (first ++ second)) parts
    ∙ first_chunks-append 512 (length first / 512) (length second / 512) first second (omega arith)

-- what a write over the bytes leaves is as long as they were
pub length_laid_over : {X : Type 0} (at : ℕ) (new old : List X) → at + length new ≤ length old → length (take at old ++ new ++ drop (at + length new) old) ≡ length old
length_laid_over at new old inside = simp (length-append, length-take, length-drop) (omega arith)

-- the sectors after a write of whole sectors over the bytes
pub sectors_of-overlay : (at : ℕ) (written bytes : List ℕ) → length written % 512 ≡ 0 → 512 * at + length written ≤ length bytes
    → sectors_of (take (512 * at) bytes ++ written ++ drop (512 * at + length written) bytes) ≡ overlay at (sectors_of written) (sectors_of bytes)
sectors_of-overlay at written bytes whole inside =
    let sectors = length bytes / 512 in
    let many = length written / 512 in
    let rest = sectors - (at + many) in
    let front = take (512 * at) bytes in
    let back = drop (512 * at + length written) bytes in
    let front_size : length front ≡ 512 * at = length-take-le (512 * at) bytes (omega arith) in
    let parts : sectors ≡ (at + many) + rest = omega arith in
    let end : 512 * at + length written ≡ 512 * (at + many) = omega arith in
    ap (λ (n : ℕ). first_chunks 512 n (front ++ written ++ back)) (ap (λ (n : ℕ). n / 512) (length_laid_over (512 * at) written bytes inside) ∙ parts)
    ∙ first_chunks-append 512 (at + many) rest (front ++ written) back (omega (arith, length-append front written))
    ∙ ap (λ (x : Image). x ++ first_chunks 512 rest back) (first_chunks-append 512 at many front written front_size)
    ∙ ap (λ (x : Image). x ++ sectors_of written ++ first_chunks 512 rest back) (first_chunks-take 512 at (512 * at) bytes (omega arith) ∙ sym (take-first_chunks 512 at sectors bytes (omega arith)))
    ∙ ap (λ (n : ℕ). take at (sectors_of bytes) ++ sectors_of written ++ first_chunks 512 rest (drop n bytes)) end
    ∙ ap (λ (x : Image). take at (sectors_of bytes) ++ sectors_of written ++ x) (sym (drop-first_chunks 512 (at + many) sectors bytes))
    ∙ ap (λ (n : ℕ). take at (sectors_of bytes) ++ sectors_of written ++ drop (at + n) (sectors_of bytes)) (sym (length-sectors_of written))

-- images with some sectors laid over them

pub length-overlay : (at : ℕ) (written x : Image) → at + length written ≤ length x → length (overlay at written x) ≡ length x
length-overlay at written x inside = length_laid_over at written x inside

pub sector-overlay_before : (at : ℕ) (written x : Image) (i : ℕ) → at ≤ length x → i < at → sector (overlay at written x) i ≡ sector x i
sector-overlay_before at written x i inside before = search (rules, places)

pub sector-overlay_inside : (at : ℕ) (written x : Image) (i : ℕ) → at ≤ length x → at ≤ i → i < at + length written → sector (overlay at written x) i ≡ sector written (i - at)
sector-overlay_inside at written x i inside from below = search (rules, places)

pub sector-overlay_behind : (at : ℕ) (written x : Image) (i : ℕ) → at ≤ length x → at + length written ≤ i → sector (overlay at written x) i ≡ sector x i
sector-overlay_behind at written x i inside behind = search (rules, places)

-- all of the written sectors, or none, are some of them

pub IsPartlyWritten-overlay : (at : ℕ) (written x : Image) → at + length written ≤ length x → IsPartlyWritten at written x (overlay at written x)
IsPartlyWritten-overlay at written x inside = record {
  size = length-overlay at written x inside;
  each = λ i. elim (cases_lt i at) [
    | inl before ↦ inl (sector-overlay_before at written x i (omega arith) before)
    | inr from ↦ elim (cases_lt i (at + length written)) [
      | inl below ↦ inr (from, below, sector-overlay_inside at written x i (omega arith) from below)
      | inr behind ↦ inl (sector-overlay_behind at written x i (omega arith) behind)
    ]
  ];
}

pub IsPartlyWritten-same : (at : ℕ) (written x : Image) → IsPartlyWritten at written x x
IsPartlyWritten-same at written x = record { size = refl; each = λ i. inl refl }

-- what has some of the written sectors is an image too
pub IsImage-partly_written : (count many at : ℕ) (written x y : Image) → IsPartlyWritten at written x y → IsImage many written → IsImage count x → IsImage count y
IsImage-partly_written count many at written x y some new old = record {
  size = some.size ∙ old.size;
  whole = λ i below. elim (some.each i) [
    | inl kept ↦ ap length kept ∙ old.whole i below
    | inr put ↦ ap length put.2 ∙ new.whole (i - at) (omega (arith, put.0, put.1, new.size))
  ];
}

pub IsImage-overlay : (count many at : ℕ) (written x : Image) → at + many ≤ count → IsImage many written → IsImage count x → IsImage count (overlay at written x)
IsImage-overlay count many at written x inside new old =
    IsImage-partly_written count many at written x (overlay at written x) (IsPartlyWritten-overlay at written x (omega arith)) new old

-- a write of one sector

written_one : (at : ℕ) (new : List ℕ) (i : ℕ) → length new ≡ 512 → at ≤ i → i < at + length (sectors_of new) → (i ≡ at) × (sector (sectors_of new) (i - at) ≡ new)
written_one at new i size from below =
    let one : sectors_of new ≡ new ∷ [] = sectors_of-one new size in
    let here : i ≡ at = omega (arith, ap length one) in
    let first : i - at ≡ 0 = omega arith in
    (here, ap (sector (sectors_of new)) first ∙ ap (λ (x : Image). sector x 0) one)

replaced_or_not : (at : ℕ) (new : List ℕ) (x y : Image) → length y ≡ length x → ((i : ℕ) → (sector y i ≡ sector x i) ⊎ ((i ≡ at) × (sector y i ≡ new))) → ReplacesOrNot at new x y
replaced_or_not at new x y size each = elim (each at) [
  | inl same ↦ inl (ext_get_or [] y x size (λ i below. elim (each i) [
    | inl kept ↦ kept
    | inr put ↦ ap (sector y) put.0 ∙ same ∙ ap (sector x) (sym put.0)
  ]))
  | inr there ↦ inr (record {
    others = record {
      size = size;
      others = λ i other. elim (each i) [
        | inl kept ↦ kept
        | inr put ↦ absurd (other put.0)
      ];
    };
    there = there.1;
  })
]

-- It is there, or the image is what it was.
pub ReplacesOrNot-partly_written : (at : ℕ) (new : List ℕ) (x y : Image) → length new ≡ 512 → IsPartlyWritten at (sectors_of new) x y → ReplacesOrNot at new x y
ReplacesOrNot-partly_written at new x y size some = replaced_or_not at new x y some.size (λ i. elim (some.each i) [
  | inl kept ↦ inl kept
  | inr put ↦
      let one = written_one at new i size put.0 put.1 in
      inr (one.0, put.2 ∙ one.1)
])

-- where the write is whole, it is there
pub Replaces-overlay : (at : ℕ) (new : List ℕ) (x : Image) → length new ≡ 512 → at < length x → Replaces at new x (overlay at (sectors_of new) x)
Replaces-overlay at new x size inside =
    let count : length (sectors_of new) ≡ 1 = ap length (sectors_of-one new size) in
    record {
      others = record {
        size = length-overlay at (sectors_of new) x (omega arith);
        others = λ i other. elim (cases_lt i at) [
          | inl before ↦ sector-overlay_before at (sectors_of new) x i (omega arith) before
          | inr from ↦ elim (cases_lt i (at + length (sectors_of new))) [
            | inl below ↦ absurd (other (written_one at new i size from below).0)
            | inr behind ↦ sector-overlay_behind at (sectors_of new) x i (omega arith) behind
          ]
        ];
      };
      there =
          sector-overlay_inside at (sectors_of new) x at (omega arith) (omega arith) (omega arith)
          ∙ (written_one at new at size (omega arith) (omega arith)).1;
    }
