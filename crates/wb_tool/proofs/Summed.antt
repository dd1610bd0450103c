-- The checksum of the first sectors of a device, piece by piece.
use Rattle.std.proofs.Common.{◌≡◌, ◌+◌, ℕ, List, [], ◌++◌, drop, take, min, Some, refl, sym, ap, subst, ◌∙◌, length}
use Rattle.std.proofs.Math.Seq.{take-add}
use Rattle.std.proofs.lemmas.List.{take_min}
use Rattle.std.proofs.lemmas.Grind.{flat_map-append}
use Rattle.wb_geometry.specs.Image.{Image, bytes_at, bytes_of}
use Rattle.wb_geometry.specs.Device.{State, OnlyRead, IsDevice}
use Rattle.wb_geometry.proofs.Moments.{only_read}
use Rattle.wb_super.proofs.Superblocks.{reads_only}
use Rattle.wb_sum.specs.Crc32c.{sum_of}

-- so many sectors are read, and this is their checksum
pub record IsSummedTo (count sum : ℕ) (old now : State) : Type 0 where
  pub read : OnlyRead old now
  pub faults : now.faults ≡ old.faults
  pub is : (image : Image) → old.content ≡ Some image → sum ≡ sum_of (bytes_at image 0 count)

-- none yet
pub summed_nothing : (s : State) → IsSummedTo 0 (sum_of []) s s
summed_nothing s = record { read = only_read s; faults = refl; is = λ image told. refl }

-- one piece behind another
bytes_at-add : (x : Image) (a b : ℕ) → bytes_at x 0 (a + b) ≡ bytes_at x 0 a ++ bytes_at x a b
bytes_at-add x a b = ap bytes_of (take-add a b x) ∙ flat_map-append (λ (s : List ℕ). s) (take a x) (take b (drop a x))

-- this piece is added to a checksum
abbrev pub Adds : (at count before after : ℕ) → State → Type 0
Adds at count before after s =
    (image : Image) → s.content ≡ Some image → (seen : List ℕ) → before ≡ sum_of seen → after ≡ sum_of (seen ++ bytes_at image at count)

pub summed_more : (at count : ℕ) {before after upto : ℕ} {old now new : State} → IsSummedTo at before old now → OnlyRead now new → new.faults ≡ now.faults
    → Adds at count before after now → at + count ≡ upto → IsSummedTo upto after old new
summed_more at count {before} {after} {upto} {old} {now} {new} summed read kept adds next = record {
  read = reads_only summed.read read;
  faults = kept ∙ summed.faults;
  is = λ image told.
      let all = adds image (summed.read.content ∙ told) (bytes_at image 0 at) (summed.is image told) in
      all ∙ ap sum_of (sym (bytes_at-add image at count)) ∙ ap (λ (n : ℕ). sum_of (bytes_at image 0 n)) next;
}

-- no sector is behind those that the device has
pub summed_all : (sectors count end sum : ℕ) (old now : State) → IsDevice old → IsSummedTo count sum old now → end ≡ min sectors old.sectors → count ≡ end
    → (image : Image) → old.content ≡ Some image → sum ≡ sum_of (bytes_at image 0 sectors)
summed_all sectors count end sum old now device summed end_is all image told =
    let size : length image ≡ old.sectors = (device.content image told).size in
    let same : take (min sectors old.sectors) image ≡ take sectors image = subst (λ (n : ℕ). take (min sectors n) image ≡ take sectors image) size (take_min sectors image) in
    summed.is image told ∙ ap (λ (n : ℕ). sum_of (bytes_at image 0 n)) (all ∙ end_is) ∙ ap (λ (x : Image). sum_of (bytes_of x)) same
