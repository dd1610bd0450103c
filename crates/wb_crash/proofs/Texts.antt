-- Segment texts as sectors of a log image: where one stands, the image begins with no other there.
use Rattle.std.proofs.Common.{ℕ, ◌≡◌, ◌+◌, ◌-◌, ◌*◌, ◌/◌, ◌<◌, ◌≤◌, List, [], ◌∷◌, length, get_or, take, drop, inl, inr, ap, sym, ◌∙◌, subst, arith}
use Rattle.std.specs.Int.{w64, from_le_bytes}
use Rattle.std.proofs.lemmas.Bool.{cases_lt}
use Rattle.std.proofs.lemmas.List.{get_or_append_left, get_or_past, get_or-take, get_or-drop, take-append-le, length-take-le, length-drop}
use Rattle.wb_geometry.specs.Image.{Image, sector, bytes_of}
use Rattle.wb_geometry.specs.Layout.{places, slot_at}
use Rattle.wb_geometry.specs.declared.geometry.Geometry.{Geometry}
use Rattle.wb_geometry.proofs.Histories.{images_equal}
use Rattle.wb_header.specs.Text.{TextBlock, IsText}
use Rattle.wb_header.specs.Slots.{IsSegmentText, Stands, HoldsText}
use Rattle.wb_header.proofs.Spellings.{one_segment}
use Rattle.wb_super.specs.Superblock.{header_id}

-- ---- the first sector

byte_of_first : (x : Image) (i : ℕ) → length (sector x 0) ≡ 512 → i < 512 → get_or (bytes_of x) i 0 ≡ get_or (sector x 0) i 0
byte_of_first [] i size below = absurd (omega (arith, size))
byte_of_first (s ∷ x) i size below = get_or_append_left s (bytes_of x) 0 i (omega (arith, size))

front_of_first : (x : Image) (n : ℕ) → length (sector x 0) ≡ 512 → n ≤ 512 → take n (bytes_of x) ≡ take n (sector x 0)
front_of_first [] n size few = absurd (omega (arith, size))
front_of_first (s ∷ x) n size few = take-append-le n s (bytes_of x) (omega (arith, size))

first_size : {g : Geometry} {text : Image} {id : ℕ} {blocks : List TextBlock} → IsSegmentText g text id blocks → length (sector text 0) ≡ 512
first_size is = is.whole.whole 0 (omega arith)

-- a text has a sector
pub some_sector : {g : Geometry} {text : Image} {id : ℕ} {blocks : List TextBlock} → IsSegmentText g text id blocks → 0 < length text
some_sector is = omega (arith, is.whole.size)

-- its first sector tells its id
pub id_of_text : {g : Geometry} {text : Image} {id : ℕ} {blocks : List TextBlock} → IsSegmentText g text id blocks → from_le_bytes w64 (take 8 (sector text 0)) ≡ id
id_of_text {text = text} is = ap (λ (bytes : List ℕ). from_le_bytes w64 bytes) (sym (front_of_first text 8 (first_size is) (omega arith))) ∙ is.is.named

-- and how many blocks it has
count_of_text : {g : Geometry} {text : Image} {id : ℕ} {blocks : List TextBlock} → IsSegmentText g text id blocks → get_or (sector text 0) 12 0 ≡ length blocks
count_of_text {text = text} is = sym (byte_of_first text 12 (first_size is) (omega arith)) ∙ is.is.counted

-- so texts with the same first sector have one length
pub same_size : {g : Geometry} {text other : Image} {id again : ℕ} {blocks others : List TextBlock}
    → IsSegmentText g text id blocks → IsSegmentText g other again others → sector text 0 ≡ sector other 0 → length text ≡ length other
same_size is also same =
    let count = sym (count_of_text is) ∙ ap (λ (s : List ℕ). get_or s 12 0) same ∙ count_of_text also in
    is.whole.size ∙ ap (λ (n : ℕ). 8 * (1 + n)) count ∙ sym also.whole.size

-- ---- a text that stands

pub first_stands : {at : ℕ} {text x : Image} → Stands at text x → 0 < length text → sector x at ≡ sector text 0
first_stands {at} {text} {x} stands some =
    let here : at ≡ at + 0 = omega arith in
    ap (λ (k : ℕ). sector x k) here ∙ stands.each 0 some

-- the image has room for it
pub room_for : {g : Geometry} {at id : ℕ} {text x : Image} {blocks : List TextBlock} → IsSegmentText g text id blocks → Stands at text x → at + length text ≤ length x
room_for {at = at} {text = text} {x = x} is stands = elim (cases_lt (length x) (at + length text)) [
  | inr fits ↦ fits
  | inl past ↦
      let i : ℕ = length text - 1 in
      let none : sector x (at + i) ≡ [] = get_or_past x (at + i) [] (omega arith) in
      let below : i < length text = omega (arith, some_sector is) in
      let some : length (sector text i) ≡ 512 = is.whole.whole i (omega (arith, is.whole.size)) in
      absurd (omega (arith, some, ap length (sym (stands.each i below) ∙ none)))
]

-- those sectors are the text
pub front_is : {g : Geometry} {at id : ℕ} {text x : Image} {blocks : List TextBlock} → IsSegmentText g text id blocks → Stands at text x → take (length text) (drop at x) ≡ text
front_is {at = at} {text = text} {x = x} is stands =
    let size : length (take (length text) (drop at x)) ≡ length text = length-take-le (length text) (drop at x) (omega (arith, length-drop at x, room_for is stands)) in
    images_equal (take (length text) (drop at x)) text size
    (λ k below. get_or-take (length text) (drop at x) k [] (omega (arith, size)) ∙ get_or-drop at x k [] ∙ stands.each k (omega (arith, size)))

-- only one stands there
pub one_text : {g : Geometry} {at id again : ℕ} {text other x : Image} {blocks others : List TextBlock}
    → IsSegmentText g text id blocks → IsSegmentText g other again others → Stands at text x → Stands at other x → text ≡ other
one_text {at = at} {x = x} is also stands too =
    let size = same_size is also (sym (first_stands stands (some_sector is)) ∙ first_stands too (some_sector also)) in
    sym (front_is is stands) ∙ ap (λ (n : ℕ). take n (drop at x)) size ∙ front_is also too

-- and with it only one list of blocks
pub one_held : {g : Geometry} {at id again : ℕ} {text other x : Image} {blocks others : List TextBlock}
    → IsSegmentText g text id blocks → IsSegmentText g other again others → Stands at text x → Stands at other x → blocks ≡ others
one_held {g} {at} {id} {again} {text} {other} {x} {blocks} {others} is also stands too =
    (one_segment (places g) (g.backing_sectors / 8) (places g) (g.backing_sectors / 8) id again (bytes_of other) blocks others
    (subst (λ (u : Image). IsText (places g) (g.backing_sectors / 8) (bytes_of u) id blocks) (one_text is also stands too) is.is) also.is).1

pub one_segment_held : {g : Geometry} {x : Image} {id : ℕ} {blocks others : List TextBlock} → HoldsText g x id blocks → HoldsText g x id others → blocks ≡ others
one_segment_held held too = one_held held.is too.is held.stands too.stands

-- its slot tells its id
pub header_of_text : {g : Geometry} {text : Image} {id : ℕ} {blocks : List TextBlock} (x : Image) (slot : ℕ) → IsSegmentText g text id blocks → sector x (slot_at g slot) ≡ sector text 0 → header_id g x slot ≡ id
header_of_text x slot is same = ap (λ (s : List ℕ). from_le_bytes w64 (take 8 s)) same ∙ id_of_text is
