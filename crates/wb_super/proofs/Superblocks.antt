-- What the bytes of a sector 0 say, and the causes to refuse them.
use Rattle.std.proofs.Common.{◌≡◌, ◌⊎◌, ℕ, zero, suc, ◌+◌, ◌-◌, ◌*◌, ◌/◌, ◌^◌, ◌<◌, ◌≤◌, List, [], ◌∷◌, ◌++◌, length, get_or, take, drop, Option, Some, None, refl, sym, ap, ◌∙◌, subst, inl, inr, arith, length-drop}
use Rattle.std.specs.Prelude.{IfSome}
use Rattle.std.specs.List.{All}
use Rattle.std.proofs.lemmas.List.Elements.{All-get_or, All-take, All-drop}
use Rattle.std.specs.Int.{w32, w64, from_le_bytes, to_le_bytes}
use Rattle.std.proofs.Math.Seq.{take-add}
use Rattle.std.proofs.lemmas.Bool.{cases_lt}
use Rattle.std.proofs.lemmas.List.{drop-take, take-take, length-take-le, get_or_past}
use Rattle.std.proofs.lemmas.Nat.{le_bytes_4, le_bytes_8, from_le_bytes-to_le_bytes_4, from_le_bytes-to_le_bytes_8}
use Rattle.wb_geometry.specs.Image.{Image, sector, bytes_at}
use Rattle.wb_geometry.specs.Layout.{log_sectors}
use Rattle.wb_geometry.specs.Device.{State, IsDevice, HoldsContent, OnlyRead}
use Rattle.wb_geometry.specs.declared.geometry.Geometry.{Geometry}
use Rattle.wb_geometry.proofs.Geometries.{same_numbers}
use Rattle.wb_geometry.proofs.Histories.{bytes_at-one}
use Rattle.wb_geometry.proofs.Moments.{joined_same, same_device_trans}
use Rattle.wb_sum.specs.Crc32c.{sum_of}
use Rattle.wb_sum.proofs.CallerLemmas.{sum_lt}
use Rattle.wb_super.specs.Superblock.{magic, super_fields, super_text, SuperText, record_at, record_of, HasMagic, HasVersion, HasSum, HasGeometry, Describes, field_32, version_in, stored_sum, computed_sum}
use Rattle.wb_super.specs.Found.{most_record, HasFront, IsFormattedFor, IsSuper, RefusesFields, Refuses}
use Rattle.wb_super.specs.declared.reading.Super.{Super}
use Rattle.wb_super.specs.declared.reading.SuperRefused.{SuperRefused}
use Rattle.wb_super.specs.declared.reading.SuperRefused.TheVariants as refused

-- ---- fields of a list of bytes

-- each is a byte
abbrev pub AreBytes : List ℕ → Type 0
AreBytes bytes = All (λ byte. byte < 256) bytes

byte_at : (bytes : List ℕ) → AreBytes bytes → (i : ℕ) → get_or bytes i 0 < 256
byte_at bytes are i = elim (cases_lt i (length bytes)) [
  | inl inside ↦ All-get_or (λ (byte : ℕ). byte < 256) bytes i 0 inside are
  | inr past ↦ omega (arith, get_or_past bytes i 0 past)
]

bytes_in : (from count : ℕ) (bytes : List ℕ) → AreBytes bytes → (i : ℕ) → get_or (take count (drop from bytes)) i 0 < 256
bytes_in from count bytes are =
    byte_at (take count (drop from bytes)) (All-take (λ (byte : ℕ). byte < 256) count (drop from bytes) (All-drop (λ (byte : ℕ). byte < 256) from bytes are))

-- a field with these bytes, from the number that it spells
field_4 : (from n : ℕ) (bytes : List ℕ) → from + 4 ≤ length bytes → AreBytes bytes → from_le_bytes w32 (take 4 (drop from bytes)) ≡ n → take 4 (drop from bytes) ≡ to_le_bytes w32 n
field_4 from n bytes room are is =
    sym (le_bytes_4 (take 4 (drop from bytes)) n (length-take-le 4 (drop from bytes) (omega (arith, length-drop from bytes))) (bytes_in from 4 bytes are) (sym is))

field_8 : (from n : ℕ) (bytes : List ℕ) → from + 8 ≤ length bytes → AreBytes bytes → from_le_bytes w64 (take 8 (drop from bytes)) ≡ n → take 8 (drop from bytes) ≡ to_le_bytes w64 n
field_8 from n bytes room are is =
    sym (le_bytes_8 (take 8 (drop from bytes)) n (length-take-le 8 (drop from bytes) (omega (arith, length-drop from bytes))) (bytes_in from 8 bytes are) (sym is))

-- a front with a field behind it
field_behind : (n m : ℕ) (bytes front field : List ℕ) → take n bytes ≡ front → take m (drop n bytes) ≡ field → take (n + m) bytes ≡ front ++ field
field_behind n m bytes front field is behind =
    take-add n m bytes ∙ ap (λ (xs : List ℕ). xs ++ take m (drop n bytes)) is ∙ ap (λ (xs : List ℕ). front ++ xs) behind

-- a field of a front is that of the whole
field_in : (from count end : ℕ) (bytes front : List ℕ) → take end bytes ≡ front → from + count ≤ end → take count (drop from bytes) ≡ take count (drop from front)
field_in from count end bytes front is room =
    let parts : from + (end - from) ≡ end = omega arith in
    sym (take-take count (end - from) (drop from bytes) (omega arith))
    ∙ ap (take count) (sym (drop-take from (end - from) bytes) ∙ ap (λ (n : ℕ). drop from (take n bytes)) parts ∙ ap (drop from) is)

-- ---- the text of a superblock and its fields

fields_from : (x : Image) (g : Geometry) → length (sector x 0) ≡ 512 → AreBytes (sector x 0) → HasGeometry x g → take 32 (sector x 0) ≡ super_fields 1 g
fields_from x g size are has =
    let s : List ℕ = sector x 0 in
    field_behind 24 8 s _ _
    (field_behind 20 4 s _ _
    (field_behind 16 4 s _ _
    (field_behind 12 4 s _ _
    (field_behind 8 4 s _ _ has.0.0.0 (field_4 8 1 s (omega arith) are has.0.0.1))
    (field_4 12 g.order s (omega arith) are has.1.order))
    (field_4 16 g.slots s (omega arith) are has.1.slots))
    (field_4 20 g.ram s (omega arith) are has.1.ram))
    (field_8 24 g.backing_sectors s (omega arith) are has.1.backing)

-- the fields spell the text
pub super_text_from : (x : Image) (g : Geometry) → length (sector x 0) ≡ 512 → AreBytes (sector x 0) → HasGeometry x g → take 36 (sector x 0) ≡ super_text 1 g
super_text_from x g size are has =
    let s : List ℕ = sector x 0 in
    let fields : take 32 s ≡ super_fields 1 g = fields_from x g size are has in
    field_behind 32 4 s _ _ fields (field_4 32 (sum_of (super_fields 1 g)) s (omega arith) are (has.0.1 ∙ ap sum_of fields))

-- the text has the fields
pub geometry_from : (x : Image) (g : Geometry) → SuperText x g 1 → HasGeometry x g
geometry_from x g super =
    let s : List ℕ = sector x 0 in
    let text : List ℕ = super_text 1 g in
    let magic_is : take 8 s ≡ magic = field_in 0 8 36 s text super.text (omega arith) in
    let version : from_le_bytes w32 (take 4 (drop 8 s)) ≡ 1 = ap (from_le_bytes w32) (field_in 8 4 36 s text super.text (omega arith)) in
    let fields : take 32 s ≡ super_fields 1 g = field_in 0 32 36 s text super.text (omega arith) in
    let sum : from_le_bytes w32 (take 4 (drop 32 s)) ≡ sum_of (super_fields 1 g) =
    ap (from_le_bytes w32) (field_in 32 4 36 s text super.text (omega arith)) ∙ from_le_bytes-to_le_bytes_4 (sum_of (super_fields 1 g)) (sum_lt (super_fields 1 g)) in (
      ((magic_is, version), sum ∙ ap sum_of (sym fields)),
      record {
        order = ap (from_le_bytes w32) (field_in 12 4 36 s text super.text (omega arith)) ∙ from_le_bytes-to_le_bytes_4 g.order (omega (arith, g.order_fits));
        slots = ap (from_le_bytes w32) (field_in 16 4 36 s text super.text (omega arith)) ∙ from_le_bytes-to_le_bytes_4 g.slots (omega (arith, g.slots_fit));
        ram = ap (from_le_bytes w32) (field_in 20 4 36 s text super.text (omega arith)) ∙ from_le_bytes-to_le_bytes_4 g.ram (omega (arith, g.ram_fits));
        backing = ap (from_le_bytes w64) (field_in 24 8 36 s text super.text (omega arith)) ∙ from_le_bytes-to_le_bytes_8 g.backing_sectors (omega (arith, g.backing_fits));
      },
    )

-- ---- a sector that was read

pub sector_read : {s : State} (at : ℕ) (into : List ℕ) → IsDevice s → at < s.sectors → length into ≡ 512 → HoldsContent at into s → (x : Image) → s.content ≡ Some x → sector x at ≡ into
sector_read {s} at into device inside size holds x told =
    let one : length into / 512 ≡ 1 = omega arith in
    let l : at < length x = omega (arith, (device.content x told).size) in
    sym (holds.told x told ∙ ap (bytes_at x at) one ∙ bytes_at-one x at l)

-- what holds of each content
if_told : (content : Option Image) (P : Image → Type 0) → ((x : Image) → content ≡ Some x → P x) → IfSome content P
if_told None P holds = tt
if_told (Some x) P holds = holds x refl

-- what refuses the bytes refuses the device
pub refuses_from_fields : {s : State} (front : List ℕ) (r : SuperRefused) → IsDevice s → HasFront s → length front ≡ 512 → HoldsContent 0 front s
    → ((x : Image) → sector x 0 ≡ front → RefusesFields x r) → Refuses s r
refuses_from_fields {s} front refused.Magic device room size holds refuses = (room, if_told s.content _ (λ x told. refuses x (sector_read 0 front device (omega arith) size holds x told)))
refuses_from_fields {s} front (refused.Version found) device room size holds refuses = (room, (refuses (front ∷ []) refl).2, if_told s.content _ (λ x told. refuses x (sector_read 0 front device (omega arith) size holds x told)))
refuses_from_fields {s} front (refused.Sum stored computed) device room size holds refuses = (room, (refuses (front ∷ []) refl).3, if_told s.content _ (λ x told. refuses x (sector_read 0 front device (omega arith) size holds x told)))
refuses_from_fields {s} front refused.Geometry device room size holds refuses = (room, if_told s.content _ (λ x told. refuses x (sector_read 0 front device (omega arith) size holds x told)))
refuses_from_fields {s} front (refused.Small needs has) device room size holds refuses = absurd (refuses (front ∷ []) refl)
refuses_from_fields {s} front refused.Fault device room size holds refuses = absurd (refuses (front ∷ []) refl)
refuses_from_fields {s} front (refused.Record found) device room size holds refuses = absurd (refuses (front ∷ []) refl)

-- and is no fault
pub no_fault_from_fields : (front : List ℕ) (r : SuperRefused) → ((x : Image) → sector x 0 ≡ front → RefusesFields x r) → r ≡ refused.Fault → ⊥
no_fault_from_fields front r refuses is = subst (RefusesFields (front ∷ [])) is (refuses (front ∷ []) refl)

-- the geometry of the bytes is that of the device
pub has_geometry : {s : State} (front : List ℕ) (g : Geometry) → IsDevice s → HasFront s → length front ≡ 512 → HoldsContent 0 front s
    → ((x : Image) → sector x 0 ≡ front → HasGeometry x g) → IfSome s.content (λ x. HasGeometry x g)
has_geometry {s} front g device room size holds found = if_told s.content _ (λ x told. found x (sector_read 0 front device (omega arith) size holds x told))

pub formatted_from : {s : State} (front : List ℕ) (g : Geometry) → IsDevice s → log_sectors g ≤ s.sectors → HasFront s → length front ≡ 512 → AreBytes front → HoldsContent 0 front s
    → ((x : Image) → sector x 0 ≡ front → HasGeometry x g) → IsFormattedFor s g
formatted_from {s} front g device enough room size are holds found = record {
  room = enough;
  text = if_told s.content _ (λ x told.
      let is : sector x 0 ≡ front = sector_read 0 front device (omega arith) size holds x told in
      record {
        room = omega (arith, (device.content x told).size);
        text = super_text_from x g (ap length is ∙ size) (subst AreBytes (sym is) are) (found x is);
      });
}

-- the geometry of a good superblock has the front too
front_from : (s : State) (g : Geometry) → IsFormattedFor s g → HasFront s
front_from s g formatted = omega (arith, formatted.room)

-- the record that was read is that of the content
pub record_read : {old mid : State} (g : Geometry) (into : List ℕ) (found : ℕ) → IsFormattedFor old g → OnlyRead old mid → IsDevice mid → length into ≡ 512 → HoldsContent record_at into mid
    → found ≡ from_le_bytes w64 (take 8 into) → IfSome old.content (λ x. record_of x ≡ found)
record_read {old} {mid} g into found formatted only device size holds is =
    if_told old.content _ (λ x told.
    let inside : 2047 < mid.sectors = omega (arith, front_from old g formatted, only.same.size) in
    ap (λ (bytes : List ℕ). from_le_bytes w64 (take 8 bytes)) (sector_read record_at into device inside size holds x (only.content ∙ told)) ∙ sym is)

-- one read after another
pub reads_only : {old mid new : State} → OnlyRead old mid → OnlyRead mid new → OnlyRead old new
reads_only first second = record {
  content = second.content ∙ first.content;
  crash = joined_same first.crash second.crash;
  left = λ x left. second.left x (first.left x left);
  syncs = second.syncs ∙ first.syncs;
  same = same_device_trans first.same second.same;
}

-- ---- one geometry

-- a superblock has one geometry
pub one_geometry : (x : Image) (g h : Geometry) → SuperText x g 1 → SuperText x h 1 → g ≡ h
one_geometry x g h first second =
    let one = (geometry_from x g first).1 in
    let other = (geometry_from x h second).1 in
    same_numbers g h (sym one.order ∙ other.order) (sym one.slots ∙ other.slots) (sym one.ram ∙ other.ram) (sym one.backing ∙ other.backing)

-- ---- one refusal

-- The stages of judging a superblock, each after those before it. A refusal other than a fault stops at one of them.
Reaches : State → Image → ℕ → Type 0
Reaches s x zero = Unit {0}
Reaches s x (suc zero) = HasFront s
Reaches s x (suc (suc zero)) = HasFront s × HasMagic x
Reaches s x (suc (suc (suc zero))) = HasFront s × HasVersion x
Reaches s x (suc (suc (suc (suc zero)))) = HasFront s × HasSum x
Reaches s x (suc (suc (suc (suc (suc zero))))) = HasFront s × ((g : Geometry) × HasGeometry x g)
Reaches s x (suc (suc (suc (suc (suc (suc zero)))))) = HasFront s × ((g : Geometry) × HasGeometry x g × (log_sectors g ≤ s.sectors))
Reaches s x (suc (suc (suc (suc (suc (suc (suc k))))))) = HasFront s × ((g : Geometry) × HasGeometry x g × (log_sectors g ≤ s.sectors)) × (record_of x ≤ most_record)

reaches_before : (s : State) (x : Image) (k : ℕ) → Reaches s x (suc k) → Reaches s x k
unfolding Reaches
reaches_before s x zero all = tt
reaches_before s x (suc zero) all = all.0
reaches_before s x (suc (suc zero)) all = (all.0, all.1.0)
reaches_before s x (suc (suc (suc zero))) all = (all.0, all.1.0)
reaches_before s x (suc (suc (suc (suc zero)))) all = (all.0, all.1.1.0)
reaches_before s x (suc (suc (suc (suc (suc zero))))) all = (all.0, (all.1.0, all.1.1))
reaches_before s x (suc (suc (suc (suc (suc (suc zero)))))) all = (all.0, all.1)
reaches_before s x (suc (suc (suc (suc (suc (suc (suc k))))))) all = all

-- all of those before
reaches_all : (s : State) (x : Image) (k more : ℕ) → Reaches s x (more + k) → Reaches s x k
reaches_all s x k zero all = subst (Reaches s x) (omega arith) all
reaches_all s x k (suc more) all = reaches_all s x k more (reaches_before s x (more + k) (subst (Reaches s x) (omega arith) all))

reaches_below : (s : State) (x : Image) (j k : ℕ) → j ≤ k → Reaches s x k → Reaches s x j
reaches_below s x j k below all = reaches_all s x j (k - j) (subst (Reaches s x) (omega arith) all)

-- the sectors that the fields ask for
abbrev needs_of : Image → ℕ
needs_of x = 2048 + 2 ^ field_32 12 x * field_32 16 x

needs_is : (x : Image) (g : Geometry) → Describes x g → log_sectors g ≡ needs_of x
needs_is x g names = ap (λ (n : ℕ). 2048 + 2 ^ n * g.slots) (sym names.order) ∙ ap (λ (n : ℕ). 2048 + 2 ^ field_32 12 x * n) (sym names.slots)

-- what is answered at a stage
verdict : State → Image → ℕ → SuperRefused
verdict s x zero = refused.Small 2048 s.sectors
verdict s x (suc zero) = refused.Magic
verdict s x (suc (suc zero)) = refused.Version (version_in x)
verdict s x (suc (suc (suc zero))) = refused.Sum (stored_sum x) (computed_sum x)
verdict s x (suc (suc (suc (suc zero)))) = refused.Geometry
verdict s x (suc (suc (suc (suc (suc zero))))) = refused.Small (needs_of x) s.sectors
verdict s x (suc (suc (suc (suc (suc (suc k)))))) = refused.Record (record_of x)

record StopsAt (s : State) (x : Image) (r : SuperRefused) : Type 0 where
  stage : ℕ
  inside : stage < 7
  before : Reaches s x stage
  not_here : Reaches s x (suc stage) → ⊥
  answer : r ≡ verdict s x stage

at_told : (content : Option Image) (P : Image → Type 0) (x : Image) → content ≡ Some x → IfSome content P → P x
at_told content P x told holds = subst (λ (o : Option Image). IfSome o P) told holds

stops_small : (s : State) (x : Image) (needs has : ℕ) → s.content ≡ Some x → Refuses s (refused.Small needs has) → StopsAt s x (refused.Small needs has)
unfolding Reaches verdict
stops_small s x needs has told refuses = elim refuses.2 [
  | inl front ↦ record {
    stage = 0;
    inside = omega arith;
    before = tt;
    not_here = λ room. omega (arith, refuses.0, refuses.1, front, room);
    answer = let is : has ≡ s.sectors = refuses.0 in cc;
  }
  | inr slots ↦
      let g : Geometry = slots.1.0 in
      let names : HasGeometry x g = at_told s.content (λ y. HasGeometry y g) x told slots.1.2 in
      let needs_all : needs ≡ needs_of x = slots.1.1 ∙ needs_is x g names.1 in
      record {
        stage = 5;
        inside = omega arith;
        before = (slots.0, (g, names));
        not_here = λ room. omega (arith, refuses.0, refuses.1, needs_all, needs_is x room.1.0 room.1.1.1, room.1.2);
        answer = let is : has ≡ s.sectors = refuses.0 in cc;
      }
]

stops_at : (s : State) (x : Image) (r : SuperRefused) → s.content ≡ Some x → Refuses s r → (r ≡ refused.Fault) ⊎ StopsAt s x r
unfolding Reaches verdict
stops_at s x refused.Fault told refuses = inl refl
stops_at s x (refused.Small needs has) told refuses = inr (stops_small s x needs has told refuses)
stops_at s x refused.Magic told refuses =
    let here : RefusesFields x refused.Magic = at_told s.content (λ y. RefusesFields y refused.Magic) x told refuses.1 in
    inr (record { stage = 1; inside = omega arith; before = refuses.0; not_here = λ all. here all.1; answer = refl })
stops_at s x (refused.Version found) told refuses =
    let here : RefusesFields x (refused.Version found) = at_told s.content (λ y. RefusesFields y (refused.Version found)) x told refuses.2 in
    inr (record { stage = 2; inside = omega arith; before = (refuses.0, here.0); not_here = λ all. here.2 (sym here.1 ∙ all.1.1); answer = ap (λ (n : ℕ). refused.Version n) (sym here.1) })
stops_at s x (refused.Sum stored computed) told refuses =
    let here : RefusesFields x (refused.Sum stored computed) = at_told s.content (λ y. RefusesFields y (refused.Sum stored computed)) x told refuses.2 in
    let stored_is : stored_sum x ≡ stored = here.1 in
    let computed_is : computed_sum x ≡ computed = here.2 in
    inr (record { stage = 3; inside = omega arith; before = (refuses.0, here.0); not_here = λ all. here.3 (sym stored_is ∙ all.1.1 ∙ computed_is); answer = ap (λ (n : ℕ). refused.Sum n computed) (sym stored_is) ∙ ap (λ (n : ℕ). refused.Sum (stored_sum x) n) (sym computed_is) })
stops_at s x refused.Geometry told refuses =
    let here : RefusesFields x refused.Geometry = at_told s.content (λ y. RefusesFields y refused.Geometry) x told refuses.1 in
    inr (record { stage = 4; inside = omega arith; before = (refuses.0, here.0); not_here = λ all. here.1 all.1.0 all.1.1.1; answer = refl })
stops_at s x (refused.Record found) told refuses =
    let g : Geometry = refuses.1.0 in
    let formatted : IsFormattedFor s g = refuses.1.1 in
    let text : SuperText x g 1 = at_told s.content (λ y. SuperText y g 1) x told formatted.text in
    let here : record_of x ≡ found = at_told s.content (λ y. record_of y ≡ found) x told refuses.2 in
    inr (record {
      stage = 6;
      inside = omega arith;
      before = (front_from s g formatted, (g, geometry_from x g text, formatted.room));
      not_here = λ all. omega (arith, refuses.0, all.2, here);
      answer = ap (λ (n : ℕ). refused.Record n) (sym here);
    })

-- where two refusals stop is one stage
one_stop : (s : State) (x : Image) (r t : SuperRefused) → StopsAt s x r → StopsAt s x t → r ≡ t
one_stop s x r t first second = elim (cases_lt first.stage second.stage) [
  | inl before ↦ absurd (first.not_here (reaches_below s x (suc first.stage) second.stage (omega arith) second.before))
  | inr from ↦ elim (cases_lt second.stage first.stage) [
    | inl behind ↦ absurd (second.not_here (reaches_below s x (suc second.stage) first.stage (omega arith) first.before))
    | inr to ↦ let same : first.stage ≡ second.stage = omega arith in first.answer ∙ ap (verdict s x) same ∙ sym second.answer
  ]
]

-- of a content there is one refusal but for a fault
pub one_refusal : (s : State) (x : Image) → s.content ≡ Some x → (r t : SuperRefused) → Refuses s r → Refuses s t → (r ≡ t) ⊎ (r ≡ refused.Fault) ⊎ (t ≡ refused.Fault)
one_refusal s x told r t first second = elim (stops_at s x r told first) [
  | inl fault ↦ inr (inl fault)
  | inr stops ↦ elim (stops_at s x t told second) [
    | inl fault ↦ inr (inr fault)
    | inr there ↦ inl (one_stop s x r t stops there)
  ]
]

reaches_end : (s : State) (x : Image) (found : Super) → s.content ≡ Some x → IsSuper s found → Reaches s x 7
unfolding Reaches
reaches_end s x found told is =
    let g : Geometry = found.geometry in
    let formatted : IsFormattedFor s g = is.formatted in
    let text : SuperText x g 1 = at_told s.content (λ y. SuperText y g 1) x told formatted.text in
    let number : record_of x ≡ found.recorded = at_told s.content (λ y. record_of y ≡ found.recorded) x told is.number in
    (front_from s g formatted, (g, geometry_from x g text, formatted.room), omega (arith, number, is.bounded))

-- a good superblock is refused only for a fault
pub never_both : (s : State) (x : Image) → s.content ≡ Some x → (found : Super) (r : SuperRefused) → IsSuper s found → Refuses s r → r ≡ refused.Fault
never_both s x told found r is refuses = elim (stops_at s x r told refuses) [
  | inl fault ↦ fault
  | inr stops ↦ absurd (stops.not_here (reaches_below s x (suc stops.stage) 7 (omega (arith, stops.inside)) (reaches_end s x found told is)))
]

-- so a formatted log with a fair record is
pub formatted_not_refused : (s : State) (x : Image) (g : Geometry) → length x ≡ s.sectors → s.content ≡ Some x → SuperText x g 1 → record_of x ≤ most_record → (r : SuperRefused) → Refuses s r → r ≡ refused.Fault
formatted_not_refused s x g size told text bounded r refuses =
    let here : (P : Image → Type 0) → P x → IfSome s.content P = λ P holds. subst (λ (o : Option Image). IfSome o P) (sym told) holds in
    let found : Super = record { version = 1; geometry = g; recorded = record_of x } in
    never_both s x told found r (record {
      version = refl;
      formatted = record { room = omega (arith, text.room, size); text = here (λ y. SuperText y g 1) text };
      number = here (λ y. record_of y ≡ record_of x) refl;
      bounded = bounded;
    }) refuses

pub not_refused : (s : State) (x : Image) (g : Geometry) → IsDevice s → s.content ≡ Some x → SuperText x g 1 → record_of x ≤ most_record → (r : SuperRefused) → Refuses s r → r ≡ refused.Fault
not_refused s x g device told text bounded r refuses = formatted_not_refused s x g (device.content x told).size told text bounded r refuses

-- and of a content there is one superblock
pub one_super : (s : State) (x : Image) → s.content ≡ Some x → (a b : Super) → IsSuper s a → IsSuper s b → a ≡ b
one_super s x told a b first second =
    let g : Geometry = a.geometry in
    let h : Geometry = b.geometry in
    let same : g ≡ h = one_geometry x g h (at_told s.content (λ y. SuperText y g 1) x told first.formatted.text) (at_told s.content (λ y. SuperText y h 1) x told second.formatted.text) in
    let number : a.recorded ≡ b.recorded = sym (at_told s.content (λ y. record_of y ≡ a.recorded) x told first.number) ∙ at_told s.content (λ y. record_of y ≡ b.recorded) x told second.number in
    let version : a.version ≡ b.version = first.version ∙ sym second.version in
    let of : ℕ → Geometry → ℕ → Super = λ v k n. record { version = v; geometry = k; recorded = n } in
    ap (λ (v : ℕ). of v g a.recorded) version ∙ ap (λ (k : Geometry). of b.version k a.recorded) same ∙ ap (of b.version h) number
