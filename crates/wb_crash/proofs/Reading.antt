-- What the bytes of a slot, once read, say of the text there; and a text's sectors from its bytes.
use Rattle.std.proofs.Common.{ℕ, suc, zero, ◌≡◌, ◌+◌, ◌*◌, ◌/◌, ◌<◌, ◌≤◌, List, [], ◌∷◌, ◌++◌, length, get_or, take, drop, ap, sym, ◌∙◌, subst, arith}
use Rattle.std.proofs.Math.Seq.{take-append-add}
use Rattle.std.proofs.lemmas.List.{get_or-take, get_or-drop, length-take-le, length-drop, take-take}
use Rattle.wb_geometry.specs.Image.{Image, IsImage, sector, sectors_of, bytes_of, bytes_at}
use Rattle.wb_geometry.specs.Layout.{places, slot_sectors, slot_start, log_sectors}
use Rattle.wb_geometry.specs.declared.geometry.Geometry.{Geometry}
use Rattle.wb_geometry.proofs.Images.{IsImage-sectors_of, bytes_of-sectors_of}
use Rattle.wb_header.specs.Text.{TextBlock, IsText, length_in}
use Rattle.wb_header.specs.Refused.{Refuses, front_of}
use Rattle.wb_header.specs.Slots.{IsSegmentText, HoldsText}
use Rattle.wb_header.specs.declared.checking.Refused.{Refused}
use Rattle.wb_header.proofs.Spellings.{accepted}
use Rattle.wb_crash.proofs.Texts.{front_is}
use Rattle.wb_geometry.proofs.Slots.{slot_blocks, slot_inside}
use Rattle.wb_header.proofs.SlotTexts.{text_fits}

-- bytes that are a text are so in sectors
pub text_of_bytes : (g : Geometry) (bytes : List ℕ) (id : ℕ) (blocks : List TextBlock) → IsText (places g) (g.backing_sectors / 8) bytes id blocks → IsSegmentText g (sectors_of bytes) id blocks
text_of_bytes g bytes id blocks text =
    let size : length bytes ≡ 4096 * (1 + length blocks) = text.size in
    let count : length bytes / 512 ≡ 8 * (1 + length blocks) = omega arith in
    record {
      whole = subst (λ (n : ℕ). IsImage n (sectors_of bytes)) count (IsImage-sectors_of bytes);
      is = subst (λ (b : List ℕ). IsText (places g) (g.backing_sectors / 8) b id blocks) (sym (bytes_of-sectors_of bytes (omega arith))) text;
    }

-- ---- the front of an image

bytes_of_take : (k : ℕ) (x : Image) → ((i : ℕ) → i < length x → length (sector x i) ≡ 512) → k ≤ length x → bytes_of (take k x) ≡ take (512 * k) (bytes_of x)
bytes_of_take zero x whole few = ap (λ (n : ℕ). take n (bytes_of x)) (let none : 0 ≡ 512 * 0 = omega arith in none)
bytes_of_take (suc k) [] whole few = absurd (omega arith)
bytes_of_take (suc k) (s ∷ x) whole few =
    let size : length s ≡ 512 = whole 0 (omega arith) in
    let parts : length s + 512 * k ≡ 512 * suc k = omega arith in
    ap (λ (bytes : List ℕ). s ++ bytes) (bytes_of_take k x (λ i below. whole (suc i) (omega arith)) (omega arith))
    ∙ sym (take-append-add s (bytes_of x) (512 * k))
    ∙ ap (λ (n : ℕ). take n (s ++ bytes_of x)) parts

-- the sectors of a slot
slot_image : (g : Geometry) (n : ℕ) (x : Image) (id : ℕ) → IsImage n x → log_sectors g ≤ n → IsImage (slot_sectors g) (take (slot_sectors g) (drop (slot_start g id) x))
slot_image g n x id image room =
    let size : length x ≡ n = image.size in
    let inside : slot_start g id + slot_sectors g ≤ n = omega (arith, slot_inside g id (slot_sectors g) (omega arith)) in
    record {
      size = length-take-le (slot_sectors g) (drop (slot_start g id) x) (omega (arith, length-drop (slot_start g id) x));
      whole = λ i below.
          ap length (get_or-take (slot_sectors g) (drop (slot_start g id) x) i [] below ∙ get_or-drop (slot_start g id) x i [])
          ∙ image.whole (slot_start g id + i) (omega arith);
    }

-- the bytes of the first sectors of a slot are the front of its bytes
slot_front : (g : Geometry) (n : ℕ) (x : Image) (id k : ℕ) → IsImage n x → log_sectors g ≤ n → k ≤ slot_sectors g
    → bytes_of (take k (drop (slot_start g id) x)) ≡ take (512 * k) (bytes_at x (slot_start g id) (slot_sectors g))
slot_front g n x id k image room few =
    let slot : IsImage (slot_sectors g) (take (slot_sectors g) (drop (slot_start g id) x)) = slot_image g n x id image room in
    let size : length (take (slot_sectors g) (drop (slot_start g id) x)) ≡ slot_sectors g = slot.size in
    ap bytes_of (sym (take-take k (slot_sectors g) (drop (slot_start g id) x) few))
    ∙ bytes_of_take k (take (slot_sectors g) (drop (slot_start g id) x)) (λ i below. slot.whole i (omega arith)) (omega arith)

-- ---- a text in a slot

-- what a check of the slot's bytes finds stands there
pub found_in_slot : (g : Geometry) (n : ℕ) (x : Image) (id : ℕ) (blocks : List TextBlock) → IsImage n x → log_sectors g ≤ n
    → IsText (places g) (g.backing_sectors / 8) (front_of (bytes_at x (slot_start g id) (slot_sectors g))) id blocks → HoldsText g x id blocks
found_in_slot g n x id blocks image room text = record {
  text = take count (drop (slot_start g id) x);
  is = record { whole = whole; is = subst (λ (b : List ℕ). IsText (places g) (g.backing_sectors / 8) b id blocks) (sym same) text };
  stands = record {
    each = λ i below. sym (get_or-take count (drop (slot_start g id) x) i [] (omega (arith, whole.size)) ∙ get_or-drop (slot_start g id) x i []);
  };
}
  where
    bytes : List ℕ
    bytes = bytes_at x (slot_start g id) (slot_sectors g)

    count : ℕ
    count = 8 * (1 + length blocks)

    counted : length_in bytes ≡ length blocks
    counted = sym (get_or-take (4096 * (1 + length_in bytes)) bytes 12 0 (omega arith)) ∙ text.counted

    few : 8 * (1 + length blocks) ≤ slot_sectors g
    few = omega (arith, slot_blocks g, text.few)

    inside : slot_start g id + 8 * (1 + length blocks) ≤ length x
    inside = omega (arith, slot_inside g id (8 * (1 + length blocks)) few, image.size)

    same : bytes_of (take (8 * (1 + length blocks)) (drop (slot_start g id) x)) ≡ front_of bytes
    same =
        slot_front g n x id (8 * (1 + length blocks)) image room few
        ∙ ap (λ (k : ℕ). take k bytes) (let sizes : 512 * (8 * (1 + length blocks)) ≡ 4096 * (1 + length_in bytes) = omega (arith, counted) in sizes)

    whole : IsImage (8 * (1 + length blocks)) (take (8 * (1 + length blocks)) (drop (slot_start g id) x))
    whole = record {
      size = length-take-le (8 * (1 + length blocks)) (drop (slot_start g id) x) (omega (arith, inside, length-drop (slot_start g id) x));
      whole = λ i below.
          ap length (get_or-take (8 * (1 + length blocks)) (drop (slot_start g id) x) i [] below ∙ get_or-drop (slot_start g id) x i [])
          ∙ image.whole (slot_start g id + i) (omega (arith, inside, image.size));
    }

-- where the check refuses them, none does
pub refused_in_slot : (g : Geometry) (n : ℕ) (x : Image) (id : ℕ) (blocks : List TextBlock) (refused : Refused) → IsImage n x → log_sectors g ≤ n
    → Refuses (places g) (g.backing_sectors / 8) id (bytes_at x (slot_start g id) (slot_sectors g)) refused → HoldsText g x id blocks → ⊥
refused_in_slot g n x id blocks refused image room refuses held =
    accepted (places g) (g.backing_sectors / 8) id bytes blocks refused (subst (λ (b : List ℕ). IsText (places g) (g.backing_sectors / 8) b id blocks) whole held.is.is) refuses
  where
    bytes : List ℕ
    bytes = bytes_at x (slot_start g id) (slot_sectors g)

    size : length held.text ≡ 8 * (1 + length blocks)
    size = held.is.whole.size

    front : bytes_of held.text ≡ take (4096 * (1 + length blocks)) bytes
    front =
        ap bytes_of (sym (front_is held.is held.stands))
        ∙ slot_front g n x id (length held.text) image room (text_fits g held.text id blocks held.is)
        ∙ ap (λ (k : ℕ). take k bytes) (let sizes : 512 * length held.text ≡ 4096 * (1 + length blocks) = omega (arith, size) in sizes)

    counted : length_in bytes ≡ length blocks
    counted =
        sym (ap (λ (b : List ℕ). get_or b 12 0) front ∙ get_or-take (4096 * (1 + length blocks)) bytes 12 0 (omega arith))
        ∙ held.is.is.counted

    whole : bytes_of held.text ≡ front_of bytes
    whole = front ∙ ap (λ (k : ℕ). take (4096 * (1 + k)) bytes) (sym counted)
