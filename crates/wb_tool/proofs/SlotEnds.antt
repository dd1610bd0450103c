-- How `inspect` of a slot ends.
use Rattle.std.proofs.Common.{◌≡◌, ◌≢◌, ◌⊎◌, ◌<◌, ◌≤◌, ◌+◌, ◌-◌, ◌*◌, ◌/◌, ◌%◌, ◌^◌, ◌++◌, List, length, take, ℕ, zero, suc, refl, sym, ap, subst, ◌∙◌, arith, inl, inr, Option, Some, None, IfSome, Result, Ok, Err}
use Rattle.std.proofs.Math.Seq.{take-append_seam}
use Rattle.wb_geometry.specs.Image.{Image, bytes_at}
use Rattle.wb_geometry.specs.Layout.{slot_at, slot_sectors, slot_start}
use Rattle.wb_geometry.specs.Device.{State, OnlyRead, CountsFaultsWhere, HoldsContent}
use Rattle.wb_geometry.specs.declared.geometry.Geometry.{Geometry}
use Rattle.wb_header.specs.Text.{IsText, id_in, length_in, blocks_in}
use Rattle.wb_header.specs.Refused as header
use Rattle.wb_header.specs.Refused.{front_of}
use Rattle.wb_header.specs.declared.checking.Refused.{Refused}
use Rattle.wb_super.specs.Found.{IsSuper}
use Rattle.wb_super.proofs.Superblocks.{reads_only}
use Rattle.wb_super.specs.declared.reading.Super.{Super}
use Rattle.wb_super.specs.declared.reading.SuperRefused.{SuperRefused}
use Rattle.wb_super.specs.declared.reading.SuperRefused.TheVariants as refused
use Rattle.wb_tool.specs.Run.{Lent, Took}
use Rattle.wb_tool.specs.Texts.{no_slot_line}
use Rattle.wb_tool.specs.SlotTexts.{TellsSlot, slot_bytes, room, blocks, segment_line, entries_text, refused_slot_line}
use Rattle.wb_tool.specs.Slot.{SlotEnds, EndsAtSlot, EndsBySlotFault, EndsToldSlot}
use Rattle.wb_tool.proofs.Accounts.{faults_ok}

-- a slot has whole blocks, 2 to 128 of them
pub record IsSlotSize (sectors : ℕ) : Type 0 where
  pub whole : sectors % 8 ≡ 0
  pub low : 16 ≤ sectors
  pub high : sectors ≤ 1024

size_of : (order : ℕ) → 4 ≤ order → order ≤ 10 → IsSlotSize (2 ^ order)
size_of zero low high = absurd (omega arith)
size_of (suc zero) low high = absurd (omega arith)
size_of (suc (suc zero)) low high = absurd (omega arith)
size_of (suc (suc (suc zero))) low high = absurd (omega arith)
size_of (suc (suc (suc (suc zero)))) low high = record { whole = refl; low = omega arith; high = omega arith }
size_of (suc (suc (suc (suc (suc zero))))) low high = record { whole = refl; low = omega arith; high = omega arith }
size_of (suc (suc (suc (suc (suc (suc zero)))))) low high = record { whole = refl; low = omega arith; high = omega arith }
size_of (suc (suc (suc (suc (suc (suc (suc zero))))))) low high = record { whole = refl; low = omega arith; high = omega arith }
size_of (suc (suc (suc (suc (suc (suc (suc (suc zero)))))))) low high = record { whole = refl; low = omega arith; high = omega arith }
size_of (suc (suc (suc (suc (suc (suc (suc (suc (suc zero))))))))) low high = record { whole = refl; low = omega arith; high = omega arith }
size_of (suc (suc (suc (suc (suc (suc (suc (suc (suc (suc zero)))))))))) low high = record { whole = refl; low = omega arith; high = omega arith }
size_of (suc (suc (suc (suc (suc (suc (suc (suc (suc (suc (suc n))))))))))) low high = absurd (omega arith)

pub slot_size : (g : Geometry) → IsSlotSize (slot_sectors g)
slot_size g = size_of g.order g.order_fits.0 g.order_fits.1

pub slot_whole : (g : Geometry) (n : ℕ) → n ≡ 512 * slot_sectors g → n % 4096 ≡ 0
slot_whole g n is = let size = slot_size g in omega (arith, is, size.whole)

pub slot_some : (g : Geometry) (n : ℕ) → n ≡ 512 * slot_sectors g → 2 ≤ n / 4096
slot_some g n is = let size = slot_size g in omega (arith, is, size.low)

pub slot_few : (g : Geometry) (n : ℕ) → n ≡ 512 * slot_sectors g → n / 4096 ≤ 128
slot_few g n is = let size = slot_size g in omega (arith, is, size.high)

room_is : (g : Geometry) (n : ℕ) → n ≡ 512 * slot_sectors g → n / 4096 - 1 ≡ room g
room_is g n is = let size = slot_size g in omega (arith, is, size.whole)

-- what is told of a slot that begins with a text, and of one that doesn't

pub text_told : (g : Geometry) (slot id : ℕ) (bytes found text : List ℕ) → length bytes ≡ 512 * slot_sectors g → id ≡ id_in bytes → id ≢ 0 → found ≡ front_of bytes
    → IsText (length bytes / 4096 - 1) (blocks g) found id (blocks_in (length_in found) found) → text ≡ segment_line slot found ++ entries_text found (length_in found)
    → TellsSlot g slot bytes text
text_told g slot id bytes found text size id_is some found_is is told = inr (inl (
  (λ none. some (id_is ∙ none)),
  (
    blocks_in (length_in found) found,
    subst (λ (n : ℕ). IsText n (blocks g) (front_of bytes) (id_in bytes) (blocks_in (length_in found) found)) (room_is g (length bytes) size)
        (subst (λ (i : ℕ). IsText (length bytes / 4096 - 1) (blocks g) (front_of bytes) i (blocks_in (length_in found) found)) id_is
        (subst (λ (f : List ℕ). IsText (length bytes / 4096 - 1) (blocks g) f id (blocks_in (length_in found) found)) found_is is)),
    told ∙ ap (λ (f : List ℕ). segment_line slot f ++ entries_text f (length_in f)) found_is,
  ),
))

pub refusal_told : (g : Geometry) (slot id : ℕ) (bytes text : List ℕ) (cause : Refused) → length bytes ≡ 512 * slot_sectors g → id ≡ id_in bytes → id ≢ 0
    → header.Refuses (length bytes / 4096 - 1) (blocks g) id bytes cause → text ≡ refused_slot_line slot id cause → TellsSlot g slot bytes text
refusal_told g slot id bytes text cause size id_is some why told = inr (inr (
  (λ none. some (id_is ∙ none)),
  (
    cause,
    subst (λ (n : ℕ). header.Refuses n (blocks g) (id_in bytes) bytes cause) (room_is g (length bytes) size)
        (subst (λ (i : ℕ). header.Refuses (length bytes / 4096 - 1) (blocks g) i bytes cause) id_is why),
    told ∙ ap (λ (i : ℕ). refused_slot_line slot i cause) id_is,
  ),
))

-- what a vector holds whose bytes were all written over
pub taken_whole : (n : ℕ) (written rest : List ℕ) → length written ≡ n → take n (written ++ rest) ≡ written
taken_whole n written rest size = ap (λ (k : ℕ). take k (written ++ rest)) (sym size) ∙ take-append_seam written rest

-- the bytes that were read are those of the slot

start_is : (g : Geometry) (slot : ℕ) → slot < g.slots → slot_start g (slot + 1) ≡ slot_at g slot
start_is g slot below = let same : (slot + 1 - 1) % g.slots ≡ slot = grind arith in ap (slot_at g) same

told_content : (content : Option Image) (P : Image → Type 0) → ((x : Image) → content ≡ Some x → P x) → IfSome content P
told_content None P holds = tt
told_content (Some x) P holds = holds x refl

pub slot_read : (g : Geometry) (slot start : ℕ) (s : State) (into text : List ℕ) → slot < g.slots → start ≡ slot_start g (slot + 1) → length into ≡ 512 * slot_sectors g
    → HoldsContent start into s → TellsSlot g slot into text → IfSome s.content (λ x. TellsSlot g slot (slot_bytes g slot x) text)
slot_read g slot start s into text below start_at size holds tells =
    let count : length into / 512 ≡ slot_sectors g = omega (arith, size) in
    told_content s.content (λ x. TellsSlot g slot (slot_bytes g slot x) text) (λ x told.
    subst (λ (bytes : List ℕ). TellsSlot g slot bytes text)
    (holds.told x told ∙ ap (λ (n : ℕ). bytes_at x start n) count ∙ ap (λ (at : ℕ). bytes_at x at (slot_sectors g)) (start_at ∙ start_is g slot below)) tells)

-- the ends

pub no_slot : (slot : ℕ) (found : Super) (sink : Lent) (before after : State) (status : ℕ) (read : Result Super SuperRefused) → OnlyRead before after → read ≡ Ok found
    → CountsFaultsWhere (read ≡ Err refused.Fault) before.faults after.faults → IsSuper before found → found.geometry.slots ≤ slot
    → (status ≡ 1) ⊎ ((status ≡ 2) × Took sink (no_slot_line slot found.geometry.slots)) → SlotEnds slot sink before after status
no_slot slot found sink before after status read only is counts super above (inl one) = record {
  log = only;
  faults = faults_ok read found status before.faults after.faults is counts (λ six. omega arith);
  ends = inl one;
}
no_slot slot found sink before after status read only is counts super above (inr told) = record {
  log = only;
  faults = faults_ok read found status before.faults after.faults is counts (λ six. let two = told.0 in omega arith);
  ends = inr (inr (record { found = found; super = super; ends = inl (record { above = above; ended = told.0; told = told.1 }) }));
}

kept_before : (read : Result Super SuperRefused) (found : Super) (before mid after status : ℕ) → read ≡ Ok found → CountsFaultsWhere (read ≡ Err refused.Fault) before mid
    → CountsFaultsWhere (status ≡ 6) mid after → CountsFaultsWhere (status ≡ 6) before after
kept_before read found before mid after status is first second =
    subst (λ (n : ℕ). CountsFaultsWhere (status ≡ 6) n after) (first.kept (λ e. let no : Ok found ≡ Err refused.Fault = sym is ∙ e in cc)) second

moved : (slot : ℕ) (found : Super) (sink : Lent) (before mid : State) (status : ℕ) → mid.content ≡ before.content
    → (status ≡ 1) ⊎ EndsBySlotFault slot found sink status ⊎ EndsToldSlot slot found sink mid status
    → IsSuper before found → (status ≡ 1) ⊎ EndsAtSlot slot sink before status
moved slot found sink before mid status same (inl one) super = inl one
moved slot found sink before mid status same (inr (inl fault)) super = inr (record { found = found; super = super; ends = inr (inl fault) })
moved slot found sink before mid status same (inr (inr told)) super = inr (record {
  found = found;
  super = super;
  ends = inr (inr (record {
    below = told.below;
    text = told.text;
    is = subst (λ (content : Option Image). IfSome content (λ x. TellsSlot found.geometry slot (slot_bytes found.geometry slot x) told.text)) same told.is;
    told = told.told;
  }));
})

pub at_slot : (slot : ℕ) (found : Super) (sink : Lent) (before mid after : State) (status : ℕ) (read : Result Super SuperRefused) → OnlyRead before mid → read ≡ Ok found
    → CountsFaultsWhere (read ≡ Err refused.Fault) before.faults mid.faults → IsSuper before found → OnlyRead mid after → CountsFaultsWhere (status ≡ 6) mid.faults after.faults
    → (status ≡ 1) ⊎ EndsBySlotFault slot found sink status ⊎ EndsToldSlot slot found sink mid status → SlotEnds slot sink before after status
at_slot slot found sink before mid after status read first is counts super second faults ends = record {
  log = reads_only first second;
  faults = kept_before read found before.faults mid.faults after.faults status is counts faults;
  ends = elim (moved slot found sink before mid status first.content ends super) [
    | inl one ↦ inl one
    | inr at ↦ inr (inr at)
  ];
}
