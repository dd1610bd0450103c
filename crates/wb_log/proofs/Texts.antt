-- What stands in the slots of a log: the blocks of a text, and texts after a write.
use Rattle.std.proofs.Common.{ℕ, ◌≡◌, ◌⊎◌, ◌+◌, ◌-◌, ◌*◌, ◌/◌, ◌<◌, ◌≤◌, List, length, take, drop, Some, sym, ap, ◌∙◌, inl, inr, arith}
use Rattle.std.proofs.lemmas.List.{drop-drop, drop-take, take-take, length-drop, length-take-le}
use Rattle.wb_geometry.specs.Image.{Image, sector, sectors_of, bytes_of, bytes_at, overlay, IsPartlyWritten}
use Rattle.wb_geometry.specs.Device.{State, HoldsContent}
use Rattle.wb_geometry.specs.Layout.{slot_sectors, slot_start}
use Rattle.wb_geometry.specs.declared.geometry.Geometry.{Geometry}
use Rattle.wb_geometry.specs.declared.spot.Spot.{Spot}
use Rattle.wb_geometry.proofs.Histories.{bytes_at-one}
use Rattle.wb_geometry.proofs.Images.{sector-sectors_of, bytes_at-sectors_of, sector-overlay_inside}
use Rattle.wb_header.specs.Text.{TextBlock, no_block, payload_in}
use Rattle.wb_header.specs.Standing.{block_at}
use Rattle.wb_header.specs.Slots.{IsSegmentText, Stands, HoldsText}
use Rattle.wb_header.proofs.Checkings.{block_at as block_of_text}
use Rattle.wb_log.specs.Reading.{block_start}
use Rattle.wb_log.proofs.Pieces.{sectors_of-bytes_of, sector_there, bytes_at-same}
use Rattle.wb_geometry.proofs.Slots.{AreApart}
use Rattle.wb_header.proofs.SlotTexts.{text_fits}

-- ---- a text

-- the bytes of a block of a text
payload_at : (g : Geometry) (text : Image) (id j : ℕ) (blocks : List TextBlock) → IsSegmentText g text id blocks → j < length blocks
    → (block_at blocks j).payload ≡ payload_in (bytes_of text) j
payload_at g text id j blocks is below =
    ap (λ (bs : List TextBlock). (block_at bs j).payload) is.is.listed
    ∙ ap (λ (block : TextBlock). block.payload) (block_of_text (length blocks) (bytes_of text) j no_block below)

text_block : (g : Geometry) (text : Image) (id j : ℕ) (blocks : List TextBlock) → IsSegmentText g text id blocks → j < length blocks
    → bytes_at text (8 * (1 + j)) 8 ≡ (block_at blocks j).payload
text_block g text id j blocks is below =
    let bytes : List ℕ = bytes_of text in
    let at : 512 * (8 * (1 + j)) ≡ 4096 * (j + 1) = omega arith in
    ap (λ (x : Image). bytes_at x (8 * (1 + j)) 8) (sym (sectors_of-bytes_of (8 * (1 + length blocks)) text is.whole))
    ∙ bytes_at-sectors_of bytes (8 * (1 + j)) 8 (omega (arith, below, is.is.size))
    ∙ ap (λ (n : ℕ). take 4096 (drop n bytes)) at
    ∙ sym (payload_at g text id j blocks is below)

text_sector : (g : Geometry) (text : Image) (id j i : ℕ) (blocks : List TextBlock) → IsSegmentText g text id blocks → j < length blocks → i < 8
    → sector text (8 * (1 + j) + i) ≡ sector (sectors_of (block_at blocks j).payload) i
text_sector g text id j i blocks is below eight =
    let bytes : List ℕ = bytes_of text in
    let payload : List ℕ = payload_in bytes j in
    let size : length payload ≡ 4096 = length-take-le 4096 (drop (4096 * (j + 1)) bytes) (omega (arith, below, is.is.size, length-drop (4096 * (j + 1)) bytes)) in
    let at : 512 * (8 * (1 + j) + i) ≡ 4096 * (j + 1) + 512 * i = omega arith in
    let behind : 4096 ≡ 512 * i + (4096 - 512 * i) = omega (arith, eight) in
    ap (λ (x : Image). sector x (8 * (1 + j) + i)) (sym (sectors_of-bytes_of (8 * (1 + length blocks)) text is.whole))
    ∙ sector-sectors_of bytes (8 * (1 + j) + i) (omega (arith, below, eight, is.is.size))
    ∙ ap (λ (n : ℕ). take 512 (drop n bytes)) at
    ∙ ap (take 512) (sym (drop-drop (512 * i) (4096 * (j + 1)) bytes))
    ∙ sym (take-take 512 (4096 - 512 * i) (drop (512 * i) (drop (4096 * (j + 1)) bytes)) (omega (arith, eight)))
    ∙ ap (take 512) (sym (ap (λ (n : ℕ). drop (512 * i) (take n (drop (4096 * (j + 1)) bytes))) behind ∙ drop-take (512 * i) (4096 - 512 * i) (drop (4096 * (j + 1)) bytes)))
    ∙ sym (sector-sectors_of payload i (omega (arith, eight, size)))
    ∙ ap (λ (p : List ℕ). sector (sectors_of p) i) (sym (payload_at g text id j blocks is below))

-- ---- a text in its slot

-- each sector of the text lies in the image
held_inside : (g : Geometry) (x : Image) (id i : ℕ) (blocks : List TextBlock) → (holds : HoldsText g x id blocks) → i < length holds.text
    → slot_start g id + i < length x
held_inside g x id i blocks holds below =
    sector_there x (slot_start g id + i) (ap length (holds.stands.each i below) ∙ holds.is.whole.whole i (omega (arith, below, holds.is.whole.size)))

-- a block of a segment that stands in its slot
pub held_block : (g : Geometry) (x : Image) (id j : ℕ) (blocks : List TextBlock) → HoldsText g x id blocks → j < length blocks
    → bytes_at x (slot_start g id + 8 * (1 + j)) 8 ≡ (block_at blocks j).payload
held_block g x id j blocks holds below =
    let start : ℕ = slot_start g id in
    let many : length holds.text ≡ 8 * (1 + length blocks) = holds.is.whole.size in
    let last : start + (8 * (1 + j) + 7) < length x = held_inside g x id (8 * (1 + j) + 7) blocks holds (omega (arith, below, many)) in
    bytes_at-same x holds.text (start + 8 * (1 + j)) (8 * (1 + j)) 8 (omega (arith, last)) (omega (arith, below, many))
    (λ i eight.
    let place : start + 8 * (1 + j) + i ≡ start + (8 * (1 + j) + i) = omega arith in
    ap (sector x) place ∙ holds.stands.each (8 * (1 + j) + i) (omega (arith, below, many, eight)))
    ∙ text_block g holds.text id j blocks holds.is below

-- and one of its sectors
pub held_sector : (g : Geometry) (x : Image) (id j i : ℕ) (blocks : List TextBlock) → HoldsText g x id blocks → j < length blocks → i < 8
    → sector x (slot_start g id + 8 * (1 + j) + i) ≡ sector (sectors_of (block_at blocks j).payload) i
held_sector g x id j i blocks holds below eight =
    let place : slot_start g id + 8 * (1 + j) + i ≡ slot_start g id + (8 * (1 + j) + i) = omega arith in
    ap (sector x) place
    ∙ holds.stands.each (8 * (1 + j) + i) (omega (arith, below, eight, holds.is.whole.size))
    ∙ text_sector g holds.text id j i blocks holds.is below eight

-- the same of the bytes that a read of it gives
pub held_sector_read : (g : Geometry) (x : Image) (id j i : ℕ) (blocks : List TextBlock) → HoldsText g x id blocks → j < length blocks → i < 8
    → bytes_at x (slot_start g id + 8 * (1 + j) + i) 1 ≡ sector (sectors_of (block_at blocks j).payload) i
held_sector_read g x id j i blocks holds below eight =
    let inside : slot_start g id + (8 * (1 + j) + i) < length x = held_inside g x id (8 * (1 + j) + i) blocks holds (omega (arith, below, eight, holds.is.whole.size)) in
    bytes_at-one x (slot_start g id + 8 * (1 + j) + i) (omega (arith, inside)) ∙ held_sector g x id j i blocks holds below eight

-- What a read of the block, or of one of its sectors, gives where the log tells its content.

pub block_read : {s : State} (g : Geometry) (spot : Spot) (into : List ℕ) (x : Image) (blocks : List TextBlock) → length into ≡ 4096 → HoldsContent (block_start g spot) into s → s.content ≡ Some x
    → HoldsText g x spot.id blocks → spot.index < length blocks → into ≡ (block_at blocks spot.index).payload
block_read g spot into x blocks size read told holds below =
    let many : length into / 512 ≡ 8 = omega (arith, size) in
    read.told x told ∙ ap (bytes_at x (block_start g spot)) many ∙ held_block g x spot.id spot.index blocks holds below

pub sector_read : {s : State} (g : Geometry) (spot : Spot) (i : ℕ) (into : List ℕ) (x : Image) (blocks : List TextBlock) → length into ≡ 512 → HoldsContent (block_start g spot + i) into s → s.content ≡ Some x
    → HoldsText g x spot.id blocks → spot.index < length blocks → i < 8 → into ≡ sector (sectors_of (block_at blocks spot.index).payload) i
sector_read g spot i into x blocks size read told holds below eight =
    let one : length into / 512 ≡ 1 = omega (arith, size) in
    read.told x told ∙ ap (bytes_at x (block_start g spot + i)) one ∙ held_sector_read g x spot.id spot.index i blocks holds below eight

-- ---- after a write

-- a text that was written stands
pub stands_after_write : (at : ℕ) (text x : Image) → at + length text ≤ length x → Stands at text (overlay at text x)
stands_after_write at text x inside = record {
  each = λ i below.
      let place : at + i - at ≡ i = omega arith in
      sector-overlay_inside at text x (at + i) (omega (arith, inside)) (omega arith) (omega (arith, below)) ∙ ap (sector text) place;
}

-- one that stands apart from what is written, whole or in part, stays
pub stands_elsewhere : (at other : ℕ) (text written x y : Image) → (at + length text ≤ other) ⊎ (other + length written ≤ at)
    → Stands at text x → IsPartlyWritten other written x y → Stands at text y
stands_elsewhere at other text written x y apart stands some = record {
  each = λ i below. elim (some.each (at + i)) [
    | inl kept ↦ kept ∙ stands.each i below
    | inr put ↦ elim apart [
      | inl before ↦ absurd (omega (arith, before, below, put.0))
      | inr behind ↦ absurd (omega (arith, behind, put.1))
    ]
  ];
}

-- the slot of a segment that was written whole holds it
pub holds_after_write : (g : Geometry) (text x : Image) (id : ℕ) (blocks : List TextBlock) → IsSegmentText g text id blocks → slot_start g id + slot_sectors g ≤ length x
    → HoldsText g (overlay (slot_start g id) text x) id blocks
holds_after_write g text x id blocks is inside = record {
  text = text;
  is = is;
  stands = stands_after_write (slot_start g id) text x (omega (arith, inside, text_fits g text id blocks is));
}

-- and a slot holds what it held while another segment comes into its own
pub holds_elsewhere : (g : Geometry) (written x y : Image) (id other : ℕ) (blocks : List TextBlock) → AreApart g id other → length written ≤ slot_sectors g
    → HoldsText g x id blocks → IsPartlyWritten (slot_start g other) written x y → HoldsText g y id blocks
holds_elsewhere g written x y id other blocks apart fits holds some =
    let long : length holds.text ≤ slot_sectors g = text_fits g holds.text id blocks holds.is in
    record {
      text = holds.text;
      is = holds.is;
      stands = stands_elsewhere (slot_start g id) (slot_start g other) holds.text written x y
          (elim apart [
            | inl before ↦ inl (omega (arith, before, long))
            | inr behind ↦ inr (omega (arith, behind, fits))
          ])
          holds.stands some;
    }
