-- Images: what a device holds, as the list of its sectors.
use Rattle.std.specs.Prelude.{ℕ, ◌≡◌, ◌⊎◌, ◌+◌, ◌-◌, ◌/◌, ◌<◌, ◌≤◌, List, [], ◌++◌, length, take, drop, slice_index_or}
use Rattle.std.specs.List.{flat_map}
use Rattle.std.specs.Simd.{first_chunks}

-- the sectors in order, each a list of 512 bytes
abbrev pub Image : Type 0
Image = List (List ℕ)

-- so many sectors, each of 512 bytes
pub record IsImage (count : ℕ) (x : Image) : Type 0 where
  pub size : length x ≡ count
  pub whole : (i : ℕ) → i < count → length (slice_index_or x i []) ≡ 512

abbrev pub sector : Image → ℕ → List ℕ
sector x i = slice_index_or x i []

-- the whole sectors of a list of bytes
abbrev pub sectors_of : List ℕ → Image
sectors_of bytes = first_chunks 512 (length bytes / 512) bytes

abbrev pub bytes_of : Image → List ℕ
bytes_of x = flat_map (λ s. s) x

-- the bytes of so many sectors from `at` on
abbrev pub bytes_at : Image → ℕ → ℕ → List ℕ
bytes_at x at count = bytes_of (take count (drop at x))

-- the image with these sectors from `at` on
abbrev pub overlay : ℕ → Image → Image → Image
overlay at written x = take at x ++ written ++ drop (at + length written) x

-- y is x with some of the written sectors, which stand from `at` on, replaced whole
pub record IsPartlyWritten (at : ℕ) (written x y : Image) : Type 0 where
  pub size : length y ≡ length x
  pub each : (i : ℕ) → (sector y i ≡ sector x i) ⊎ ((at ≤ i) × (i < at + length written) × (sector y i ≡ sector written (i - at)))

-- y is x but for the named sectors
pub record IsSameBut (Named : ℕ → Type 0) (x y : Image) : Type 0 where
  pub size : length y ≡ length x
  pub others : (i : ℕ) → (Named i → ⊥) → sector y i ≡ sector x i

-- y is x with this content in one sector
pub record Replaces (at : ℕ) (new : List ℕ) (x y : Image) : Type 0 where
  pub others : IsSameBut (λ i. i ≡ at) x y
  pub there : sector y at ≡ new

-- y is x, or x with this content in one sector
abbrev pub ReplacesOrNot : (at : ℕ) (new : List ℕ) → Image → Image → Type 0
ReplacesOrNot at new x y = (y ≡ x) ⊎ Replaces at new x y
