-- The ids of a log's slots, read one after another.
use Rattle.std.proofs.Common.{ℕ, ◌≡◌, ◌+◌, ◌<◌, ◌≤◌, true, false, List, length, take, Option, Some, None, Result, Ok, Err, refl, sym, ap, ◌∙◌, subst, inl, inr, arith}
use Rattle.std.specs.Int.{w64, from_le_bytes}
use Rattle.std.specs.Option.{IfSome}
use Rattle.std.specs.Result.{OnOk, OnErr, is_err}
use Rattle.std.proofs.lemmas.Bool.{cases_lt}
use Rattle.std.proofs.lemmas.Nat.{pow_pos}
use Rattle.wb_geometry.specs.Image.{Image, sector}
use Rattle.wb_geometry.specs.Device.{State, IsDevice, IsInside, HoldsContent, OnlyRead, next_count}
use Rattle.wb_geometry.specs.Layout.{slot_at, log_sectors}
use Rattle.wb_geometry.specs.declared.geometry.Geometry.{Geometry}
use Rattle.wb_geometry.proofs.Moments.{only_read}
use Rattle.wb_geometry.proofs.Slots.{slots_follow}
use Rattle.wb_super.specs.Superblock.{header_id}
use Rattle.wb_super.proofs.Superblocks.{sector_read, reads_only}
use Rattle.wb_header.specs.Text.{id_in}
use Rattle.wb_replay.specs.Stopping.{HasNoStray}

-- what holds of each content, and what is said of it where it is told
pub if_told : {P : Image → Type 0} (content : Option Image) → ((x : Image) → content ≡ Some x → P x) → IfSome content P
if_told None holds = tt
if_told (Some x) holds = holds x refl

pub where_told : (P : Image → Type 0) (content : Option Image) (x : Image) → content ≡ Some x → IfSome content P → P x
where_told P content x told holds = subst (λ (o : Option Image). IfSome o P) told holds

-- the slots before this one were read, and none of them has an id above the limit
pub record AreNoStrays (g : Geometry) (limit slot : ℕ) (old now : State) (bytes : List ℕ) : Type 0 where
  pub size : length bytes ≡ 512
  pub only_read : OnlyRead old now
  pub faults : now.faults ≡ old.faults
  pub reads : now.reads ≤ old.reads + slot
  pub few : slot ≤ g.slots
  pub ids : IfSome old.content (λ x. (earlier : ℕ) → earlier < slot → header_id g x earlier ≤ limit)

pub none_read : (g : Geometry) (limit : ℕ) (s : State) (bytes : List ℕ) → length bytes ≡ 512 → AreNoStrays g limit 0 s s bytes
none_read g limit s bytes size = record {
  size = size;
  only_read = only_read s;
  faults = refl;
  reads = omega arith;
  few = omega arith;
  ids = if_told s.content (λ x told earlier below. absurd (omega (arith, below)));
}

pub slot_read_inside : {old now : State} (g : Geometry) (limit slot at : ℕ) (bytes : List ℕ) → AreNoStrays g limit slot old now bytes → log_sectors g ≤ old.sectors
    → slot < g.slots → at ≡ slot_at g slot → IsInside at bytes now
slot_read_inside {old} {now} g limit slot at bytes is room below start = record {
  whole = omega (arith, is.size);
  some = omega (arith, is.size);
  inside = omega (arith, is.size, start, slots_follow g slot g.slots below, pow_pos g.order, room, is.only_read.same.size);
}

-- the id that is read there
pub slot_id : {old now : State} (g : Geometry) (limit slot at id : ℕ) (bytes into : List ℕ) → AreNoStrays g limit slot old now bytes → IsDevice now → log_sectors g ≤ old.sectors
    → slot < g.slots → at ≡ slot_at g slot → length into ≡ length bytes → HoldsContent at into now → id ≡ id_in into
    → (x : Image) → old.content ≡ Some x → header_id g x slot ≡ id
slot_id {old} {now} g limit slot at id bytes into is device room below start size holds read x told =
    let inside : at < now.sectors = omega (arith, (slot_read_inside g limit slot at bytes is room below start).inside, is.size) in
    ap (λ (n : ℕ). from_le_bytes w64 (take 8 (sector x n))) (sym start)
    ∙ ap (λ (s : List ℕ). from_le_bytes w64 (take 8 s)) (sector_read at into device inside (size ∙ is.size) holds x (is.only_read.content ∙ told))
    ∙ sym read

-- one slot more
pub slot_next : {old now new : State} (g : Geometry) (limit slot id : ℕ) (bytes into : List ℕ) → AreNoStrays g limit slot old now bytes → slot < g.slots → length into ≡ length bytes
    → OnlyRead now new → new.faults ≡ now.faults → new.reads ≡ next_count now.reads → ((x : Image) → old.content ≡ Some x → header_id g x slot ≡ id) → id ≤ limit
    → AreNoStrays g limit (slot + 1) old new into
slot_next {old} {now} {new} g limit slot id bytes into is below_all size only faults reads there few = record {
  size = size ∙ is.size;
  only_read = reads_only is.only_read only;
  faults = faults ∙ is.faults;
  reads = omega (arith, reads, is.reads);
  few = omega (arith, below_all);
  ids = if_told old.content (λ x told earlier below. elim (cases_lt earlier slot) [
    | inl before ↦ where_told _ old.content x told is.ids earlier before
    | inr from ↦
        let same : slot ≡ earlier = omega (arith, below, from) in
        subst (λ (n : ℕ). header_id g x n ≤ limit) same (subst (λ (n : ℕ). n ≤ limit) (sym (there x told)) few)
  ]);
}

-- all of them
pub no_strays : {old now : State} (g : Geometry) (limit slot : ℕ) (bytes : List ℕ) → AreNoStrays g limit slot old now bytes → g.slots ≤ slot → HasNoStray g limit old
no_strays {old} g limit slot bytes is all = if_told old.content (λ x told other below. where_told _ old.content x told is.ids other (omega (arith, below, all)))

-- ---- whether a call failed

pub failed_is : {T E P : Type 0} (r : Result T E) → is_err r ≡ true → OnErr r P → P
failed_is (Ok x) is holds = absurd (let z = is in cc)
failed_is (Err e) is holds = holds

pub done_is : {T E P : Type 0} (r : Result T E) → is_err r ≡ false → OnOk r P → P
done_is (Ok x) is holds = holds
done_is (Err e) is holds = absurd (let z = is in cc)
