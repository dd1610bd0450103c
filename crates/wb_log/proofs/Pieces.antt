-- Images as bytes, and pieces of images that are alike.
use Rattle.std.proofs.Common.{ℕ, suc, ◌≡◌, ◌+◌, ◌*◌, ◌/◌, ◌<◌, ◌≤◌, List, [], ◌∷◌, ◌++◌, length, take, drop, refl, sym, ap, ◌∙◌, inl, inr, arith, length-append}
use Rattle.std.specs.Simd.{first_chunks}
use Rattle.std.proofs.lemmas.Bool.{cases_lt}
use Rattle.std.proofs.lemmas.List.{take-append-le, drop-append-le, take_all, drop_all, length-take-le, length-drop, get_or-take, get_or-drop, get_or_past, ext_get_or}
use Rattle.wb_geometry.specs.Image.{Image, IsImage, sector, sectors_of, bytes_of, bytes_at}

-- ---- sectors and their bytes

abbrev pub AreWhole : Image → Type 0
AreWhole x = (i : ℕ) → i < length x → length (sector x i) ≡ 512

AreWhole-rest : (s : List ℕ) (x : Image) → AreWhole (s ∷ x) → AreWhole x
AreWhole-rest s x whole i below = whole (suc i) (omega arith)

pub length-bytes_of : (x : Image) → AreWhole x → length (bytes_of x) ≡ 512 * length x
length-bytes_of [] whole = refl
length-bytes_of (s ∷ x) whole = omega (arith, length-append s (bytes_of x), whole 0 (omega arith), length-bytes_of x (AreWhole-rest s x whole))

chunks_of_bytes : (x : Image) → AreWhole x → first_chunks 512 (length x) (bytes_of x) ≡ x
chunks_of_bytes [] whole = refl
chunks_of_bytes (s ∷ x) whole =
    let size : length s ≡ 512 = whole 0 (omega arith) in
    let first : take 512 (s ++ bytes_of x) ≡ s = take-append-le 512 s (bytes_of x) (omega (arith, size)) ∙ take_all 512 s (omega (arith, size)) in
    let rest : drop 512 (s ++ bytes_of x) ≡ bytes_of x =
    drop-append-le 512 s (bytes_of x) (omega (arith, size)) ∙ ap (λ (bytes : List ℕ). bytes ++ bytes_of x) (drop_all 512 s (omega (arith, size))) in
    rw (first, rest) (ap (λ (more : Image). s ∷ more) (chunks_of_bytes x (AreWhole-rest s x whole)))

-- an image is the sectors of its bytes
pub sectors_of-bytes_of : (count : ℕ) (x : Image) → IsImage count x → sectors_of (bytes_of x) ≡ x
sectors_of-bytes_of count x is =
    let whole : AreWhole x = λ i below. is.whole i (omega (arith, is.size)) in
    ap (λ (n : ℕ). first_chunks 512 n (bytes_of x)) (let many : length (bytes_of x) / 512 ≡ length x = omega (arith, length-bytes_of x whole) in many)
    ∙ chunks_of_bytes x whole

-- ---- pieces that are alike

-- a sector that has bytes is there
pub sector_there : (x : Image) (i : ℕ) → length (sector x i) ≡ 512 → i < length x
sector_there x i size = elim (cases_lt i (length x)) [
  | inl below ↦ below
  | inr past ↦ absurd (omega (arith, size, ap length (get_or_past x i [] past)))
]

pub bytes_at-same : (x y : Image) (from at count : ℕ) → from + count ≤ length x → at + count ≤ length y
    → ((i : ℕ) → i < count → sector x (from + i) ≡ sector y (at + i)) → bytes_at x from count ≡ bytes_at y at count
bytes_at-same x y from at count inside fits each =
    let first : length (take count (drop from x)) ≡ count = length-take-le count (drop from x) (omega (arith, length-drop from x)) in
    let second : length (take count (drop at y)) ≡ count = length-take-le count (drop at y) (omega (arith, length-drop at y)) in
    ap bytes_of (ext_get_or [] (take count (drop from x)) (take count (drop at y)) (first ∙ sym second)
    (λ k below.
    get_or-take count (drop from x) k [] (omega (arith, first)) ∙ get_or-drop from x k []
    ∙ each k (omega (arith, first))
    ∙ sym (get_or-take count (drop at y) k [] (omega (arith, first)) ∙ get_or-drop at y k [])))
