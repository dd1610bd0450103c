-- One write of a text, as the writing of a segment.
use Rattle.std.proofs.Common.{ℕ, ◌≡◌, ◌+◌, ◌*◌, ◌/◌, ◌≤◌, List, length, Ok, Err, Result, OnOk, OnErr, sym, ◌∙◌, subst, inl, inr, arith}
use Rattle.wb_geometry.specs.Image.{Image, IsImage, sectors_of, overlay, IsPartlyWritten, IsSameBut}
use Rattle.wb_geometry.specs.Device.{State, IsDevice, Passes, ContentPasses}
use Rattle.wb_geometry.specs.Layout.{places, log_sectors, slot_start, slot_sectors}
use Rattle.wb_geometry.specs.declared.geometry.Geometry.{Geometry}
use Rattle.wb_geometry.proofs.Images.{IsImage-sectors_of, bytes_of-sectors_of, IsPartlyWritten-overlay}
use Rattle.wb_geometry.proofs.Moments.{weaker, content_weaker}
use Rattle.wb_header.specs.Text.{TextBlock, IsText}
use Rattle.wb_header.specs.Slots.{IsSegmentText}
use Rattle.wb_log.specs.Writing.{WritesSegment, IsInText}
use Rattle.wb_geometry.proofs.Slots.{slot_inside, slot_blocks}
use Rattle.wb_header.proofs.SlotTexts.{text_fits}

-- the sectors of a text's bytes
text_of_bytes : (g : Geometry) (bytes : List ℕ) (id : ℕ) (blocks : List TextBlock) → IsText (places g) (g.backing_sectors / 8) bytes id blocks → IsSegmentText g (sectors_of bytes) id blocks
text_of_bytes g bytes id blocks is = record {
  whole = subst (λ (n : ℕ). IsImage n (sectors_of bytes)) (let many : length bytes / 512 ≡ 8 * (1 + length blocks) = omega (arith, is.size) in many) (IsImage-sectors_of bytes);
  is = subst (λ (all : List ℕ). IsText (places g) (g.backing_sectors / 8) all id blocks) (sym (bytes_of-sectors_of bytes (omega (arith, is.size)))) is;
}

-- what is known of either result
either : {T E A B : Type 0} (result : Result T E) → OnOk result A → OnErr result B → (A → B) → B
either (Ok x) done failed weaker = weaker done
either (Err e) done failed weaker = failed

-- at either result some of the sectors were written
partly_written : {T E : Type 0} {old new : State} (at : ℕ) (text : Image) (result : Result T E) → IsDevice old → at + length text ≤ old.sectors
    → OnOk result (ContentPasses (λ x y. y ≡ overlay at text x) old new) → OnErr result (ContentPasses (IsPartlyWritten at text) old new)
    → ContentPasses (IsPartlyWritten at text) old new
partly_written at text result device inside done failed =
    either result done failed
    (content_weaker (λ x y told laid. subst (IsPartlyWritten at text x) (sym laid) (IsPartlyWritten-overlay at text x (omega (arith, inside, (device.content x told).size)))))

pub segment_written : {T E : Type 0} {old new : State} (g : Geometry) (at id : ℕ) (blocks : List TextBlock) (bytes : List ℕ) (result : Result T E) → IsDevice old → log_sectors g ≤ old.sectors
    → at ≡ slot_start g id → IsText (places g) (g.backing_sectors / 8) bytes id blocks
    → OnOk result (ContentPasses (λ x y. y ≡ overlay at (sectors_of bytes) x) old new)
    → OnErr result (ContentPasses (IsPartlyWritten at (sectors_of bytes)) old new)
    → Passes (IsPartlyWritten at (sectors_of bytes)) old new → WritesSegment g id blocks old new result
segment_written {T} {E} {old} {new} g at id blocks bytes result device room place is done failed crash =
    let text : IsSegmentText g (sectors_of bytes) id blocks = text_of_bytes g bytes id blocks is in
    let whole : OnOk result (ContentPasses (λ x y. y ≡ overlay (slot_start g id) (sectors_of bytes) x) old new) =
    subst (λ (a : ℕ). OnOk result (ContentPasses (λ x y. y ≡ overlay a (sectors_of bytes) x) old new)) place done in
    record {
      text = sectors_of bytes;
      is = text;
      ok = whole;
      partly = partly_written (slot_start g id) (sectors_of bytes) result device (omega (arith, room, slot_inside g id (slot_sectors g) (omega arith), text_fits g (sectors_of bytes) id blocks text)) whole
          (subst (λ (a : ℕ). OnErr result (ContentPasses (IsPartlyWritten a (sectors_of bytes)) old new)) place failed);
      crash = subst (λ (a : ℕ). Passes (IsPartlyWritten a (sectors_of bytes)) old new) place crash;
    }

-- ---- what stays

-- the sectors of so many blocks and a header
many_sectors : (count : ℕ) (bytes : List ℕ) → length bytes ≡ 4096 * (1 + count) → length (sectors_of bytes) ≡ 8 * (1 + count)
many_sectors count bytes size = let many : length bytes / 512 ≡ 8 * (1 + count) = omega (arith, size) in (IsImage-sectors_of bytes).size ∙ many

-- a sector that isn't written stays
others_same : (g : Geometry) (id count : ℕ) (text x y : Image) → length text ≡ 8 * (1 + count) → IsPartlyWritten (slot_start g id) text x y
    → IsSameBut (IsInText g id count) x y
others_same g id count text x y many some = record {
  size = some.size;
  others = λ i outside. elim (some.each i) [
    | inl same ↦ same
    | inr new ↦ absurd (outside (new.0, omega (arith, new.1, many)))
  ];
}

-- whatever the blocks are, no other sector of the content changes
pub others_kept : {T E : Type 0} {old new : State} (g : Geometry) (at id count : ℕ) (bytes : List ℕ) (result : Result T E) → IsDevice old → log_sectors g ≤ old.sectors
    → at ≡ slot_start g id → count ≤ places g → length bytes ≡ 4096 * (1 + count)
    → OnOk result (ContentPasses (λ x y. y ≡ overlay at (sectors_of bytes) x) old new)
    → OnErr result (ContentPasses (IsPartlyWritten at (sectors_of bytes)) old new)
    → ContentPasses (IsSameBut (IsInText g id count)) old new
others_kept {T} {E} {old} {new} g at id count bytes result device room place few size done failed =
    let many : length (sectors_of bytes) ≡ 8 * (1 + count) = many_sectors count bytes size in
    content_weaker (λ x y told some. others_same g id count (sectors_of bytes) x y many some)
    (subst (λ (a : ℕ). ContentPasses (IsPartlyWritten a (sectors_of bytes)) old new) place
    (partly_written at (sectors_of bytes) result device (omega (arith, room, place, many, few, slot_inside g id (slot_sectors g) (omega arith), slot_blocks g)) done failed))

-- nor does any in what a crash leaves
pub others_left : {old new : State} (g : Geometry) (at id count : ℕ) (bytes : List ℕ) → at ≡ slot_start g id → length bytes ≡ 4096 * (1 + count)
    → Passes (IsPartlyWritten at (sectors_of bytes)) old new → Passes (IsSameBut (IsInText g id count)) old new
others_left {old} {new} g at id count bytes place size crash =
    let many : length (sectors_of bytes) ≡ 8 * (1 + count) = many_sectors count bytes size in
    weaker (λ x y left some. others_same g id count (sectors_of bytes) x y many some)
    (subst (λ (a : ℕ). Passes (IsPartlyWritten a (sectors_of bytes)) old new) place crash)
