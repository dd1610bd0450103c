-- The steps of formatting, and of writing the record, from one image to the next.
use Rattle.std.proofs.Common.{ℕ, ◌≡◌, ◌+◌, ◌-◌, ◌*◌, ◌^◌, ◌<◌, ◌≤◌, List, length, take, replicate, Some, refl, sym, ◌∙◌, ap, subst, inl, inr, arith}
use Rattle.std.specs.Int.{w64, to_le_bytes, from_le_bytes}
use Rattle.std.proofs.lemmas.Bool.{cases_eq, cases_lt}
use Rattle.std.proofs.lemmas.Nat.{pow_pos, from_le_bytes-to_le_bytes_8}
use Rattle.std.proofs.Math.Nat.{mod-eq_of_lt, mul-lt-mul_of_pos_left}
use Rattle.std.proofs.Math.Seq.{take-append_seam}
use Rattle.wb_geometry.specs.Image.{Image, sector, IsSameBut, Replaces, ReplacesOrNot}
use Rattle.wb_geometry.specs.Layout.{slot_sectors, slot_at, slot_start, log_sectors}
use Rattle.wb_geometry.specs.declared.geometry.Geometry.{Geometry}
use Rattle.wb_geometry.specs.Device.{State, IsDevice, IsSameDevice, NothingPending, Passes, ContentPasses, LeavesOnly}
use Rattle.wb_geometry.proofs.Moments.{weaker, joined, joined_between, settled, left_from_content, content_weaker, content_joined, same_device_trans}
use Rattle.wb_super.specs.Superblock.{super_text, magic, record_at}
use Rattle.wb_super.specs.Formatting.{zero_sector, super_sector, IsFormatSector, Formats, IsWithdrawn, FormatsOrNot}
use Rattle.wb_super.specs.Clearing.{IsCleared, ClearsPartly, ClearsSlots, Clears}
use Rattle.wb_super.specs.Recording.{record_sector, Records, RecordsOrNot}

-- ---- the record

Records-replaces : (id : ℕ) (bytes : List ℕ) (x y : Image) → id < 2 ^ 64 → bytes ≡ record_sector id → Replaces record_at bytes x y → Records id x y
Records-replaces id bytes x y fits are step = record {
  sector = subst (λ (s : List ℕ). Replaces record_at s x y) are step;
  number = ap (λ (s : List ℕ). from_le_bytes w64 (take 8 s)) (step.there ∙ are) ∙ ap (from_le_bytes w64) (take-append_seam (to_le_bytes w64 id) (replicate 504 0)) ∙ from_le_bytes-to_le_bytes_8 id fits;
}

RecordsOrNot-replaces : (id : ℕ) (bytes : List ℕ) (x y : Image) → id < 2 ^ 64 → bytes ≡ record_sector id → ReplacesOrNot record_at bytes x y → RecordsOrNot id x y
RecordsOrNot-replaces id bytes x y fits are (inl same) = inl same
RecordsOrNot-replaces id bytes x y fits are (inr step) = inr (Records-replaces id bytes x y fits are step)

-- the content where its sector was put, where that failed, and a crash at any time

pub records_whole : {old new : State} (id : ℕ) (bytes : List ℕ) → id < 2 ^ 64 → bytes ≡ record_sector id → ContentPasses (Replaces record_at bytes) old new → ContentPasses (Records id) old new
records_whole id bytes fits are step = content_weaker (λ x y told put. Records-replaces id bytes x y fits are put) step

pub records_stopped : {old new : State} (id : ℕ) (bytes : List ℕ) → id < 2 ^ 64 → bytes ≡ record_sector id → ContentPasses (ReplacesOrNot record_at bytes) old new → ContentPasses (RecordsOrNot id) old new
records_stopped id bytes fits are step = content_weaker (λ x y told put. RecordsOrNot-replaces id bytes x y fits are put) step

pub records_crash : {old new : State} (id : ℕ) (bytes : List ℕ) → id < 2 ^ 64 → bytes ≡ record_sector id → Passes (ReplacesOrNot record_at bytes) old new → Passes (RecordsOrNot id) old new
records_crash id bytes fits are step = weaker (λ x y left put. RecordsOrNot-replaces id bytes x y fits are put) step

-- from a device with nothing pending
pub records_any_moment : {old new : State} (id : ℕ) (x : Image) → IsDevice old → NothingPending old → old.content ≡ Some x → Passes (RecordsOrNot id) old new → LeavesOnly (RecordsOrNot id x) old new
records_any_moment id x device nothing told pass = record {
  each = λ y left. elim (left_from_content device nothing told pass left) [
    | inl same ↦ inl same
    | inr step ↦ step
  ];
}

-- ---- the slots and the record cleared

-- one more, or not
clears_partly_more : (g : Geometry) (at : ℕ) (x y z : Image) → IsCleared g at → ClearsPartly g x y → ReplacesOrNot at zero_sector y z → ClearsPartly g x z
clears_partly_more g at x y z cleared so_far (inl same) = subst (ClearsPartly g x) (sym same) so_far
clears_partly_more g at x y z cleared so_far (inr step) = record {
  size = step.others.size ∙ so_far.size;
  each = λ i. elim (cases_eq i at) [
    | inl here ↦ inr (subst (IsCleared g) (sym here) cleared, ap (sector z) here ∙ step.there)
    | inr other ↦ elim (so_far.each i) [
      | inl kept ↦ inl (step.others.others i other ∙ kept)
      | inr zeros ↦ inr (zeros.0, step.others.others i other ∙ zeros.1)
    ]
  ];
}

-- zeros stay zeros
zeros_stay : (at i : ℕ) (y z : Image) → Replaces at zero_sector y z → sector y i ≡ zero_sector → sector z i ≡ zero_sector
zeros_stay at i y z step zeros = elim (cases_eq i at) [
  | inl here ↦ ap (sector z) here ∙ step.there
  | inr other ↦ step.others.others i other ∙ zeros
]

front_cleared : (g : Geometry) (slot : ℕ) → slot < g.slots → IsCleared g (slot_at g slot)
front_cleared g slot inside = inr (record { slot = slot; inside = inside; place = refl })

-- the next slot
clears_next : (g : Geometry) (id : ℕ) (x y z : Image) → 1 ≤ id → id ≤ g.slots → ClearsSlots g (id - 1) x y → Replaces (slot_at g (id - 1)) zero_sector y z → ClearsSlots g id x z
clears_next g id x y z first last so_far step = record {
  partly = clears_partly_more g (slot_at g (id - 1)) x y z (front_cleared g (id - 1) (omega arith)) so_far.partly (inr step);
  slots = λ slot below. elim (cases_lt slot (id - 1)) [
    | inl before ↦ zeros_stay (slot_at g (id - 1)) (slot_at g slot) y z step (so_far.slots slot before)
    | inr from ↦
        let here : slot ≡ id - 1 = omega arith in
        ap (λ (k : ℕ). sector z (slot_at g k)) here ∙ step.there
  ];
}

-- then the record
clears_record : (g : Geometry) (x y z : Image) → ClearsSlots g g.slots x y → Replaces record_at zero_sector y z → Clears g x z
clears_record g x y z so_far step = record {
  all_slots = record {
    partly = clears_partly_more g record_at x y z (inl refl) so_far.partly (inr step);
    slots = λ slot below. zeros_stay record_at (slot_at g slot) y z step (so_far.slots slot below);
  };
  zero_record = step.there;
}

-- ---- the slots, one after another

-- So many slots are cleared, and no call failed.
pub record IsClearing (g : Geometry) (count : ℕ) (old now : State) : Type 0 where
  pub content : ContentPasses (ClearsSlots g count) old now
  pub crash : Passes (ClearsPartly g) old now
  pub reads : now.reads ≡ old.reads
  pub same : IsSameDevice old now
  pub faults : now.faults ≡ old.faults

-- A slot begins inside the log.
front_inside : (g : Geometry) (slot : ℕ) → slot < g.slots → slot_at g slot < log_sectors g
front_inside g slot inside =
    let further : slot_sectors g * slot < slot_sectors g * g.slots = mul-lt-mul_of_pos_left inside (pow_pos g.order) in
    omega arith

-- The loop is at segment `id`, whose slot begins at this sector.
pub record IsTurn (g : Geometry) (id at : ℕ) : Type 0 where
  pub first : 1 ≤ id
  pub last : id ≤ g.slots
  pub place : at ≡ slot_start g id

turn_place : (g : Geometry) (id at : ℕ) → IsTurn g id at → slot_at g (id - 1) ≡ at
turn_place g id at turn =
    let below : id - 1 < g.slots = omega (arith, turn.first, turn.last) in
    sym (turn.place ∙ ap (slot_at g) (mod-eq_of_lt below))

-- The sector is inside the device.
pub clearing_inside : {old now : State} (g : Geometry) (id at : ℕ) → IsTurn g id at → log_sectors g ≤ old.sectors → IsClearing g (id - 1) old now → at < now.sectors
clearing_inside g id at turn room so_far = omega (arith, front_inside g (id - 1) (omega (arith, turn.first, turn.last)), turn_place g id at turn, so_far.same.size)

turn_cleared : (g : Geometry) (id at : ℕ) → IsTurn g id at → IsCleared g at
turn_cleared g id at turn = subst (IsCleared g) (turn_place g id at turn) (front_cleared g (id - 1) (omega (arith, turn.first, turn.last)))

-- a crash at any time
pub clearing_crash : {old mid new : State} (g : Geometry) (id at : ℕ) → IsTurn g id at → IsClearing g (id - 1) old mid → Passes (ReplacesOrNot at zero_sector) mid new → Passes (ClearsPartly g) old new
clearing_crash g id at turn so_far step =
    joined (λ x y left first. first) (λ x y z left first second. clears_partly_more g at x y z (turn_cleared g id at turn) first second) so_far.crash step

-- the content where the next write failed
pub clearing_stopped : {old mid new : State} (g : Geometry) (id at : ℕ) → IsTurn g id at → IsClearing g (id - 1) old mid → ContentPasses (ReplacesOrNot at zero_sector) mid new → ContentPasses (ClearsPartly g) old new
clearing_stopped g id at turn so_far step =
    content_joined (λ x y z told first second. clears_partly_more g at x y z (turn_cleared g id at turn) first.partly second) so_far.content step

-- and where it is done
clearing_content : {old mid new : State} (g : Geometry) (id at : ℕ) → IsTurn g id at → IsClearing g (id - 1) old mid → ContentPasses (Replaces at zero_sector) mid new → ContentPasses (ClearsSlots g id) old new
clearing_content g id at turn so_far step =
    content_joined (λ x y z told first second. clears_next g id x y z turn.first turn.last first (subst (λ (i : ℕ). Replaces i zero_sector y z) (sym (turn_place g id at turn)) second)) so_far.content step

pub clearing_next : {old mid new : State} (g : Geometry) (id at : ℕ) → IsTurn g id at → IsClearing g (id - 1) old mid
    → ContentPasses (Replaces at zero_sector) mid new → Passes (ReplacesOrNot at zero_sector) mid new → new.reads ≡ mid.reads → IsSameDevice mid new → new.faults ≡ mid.faults → IsClearing g (id + 1 - 1) old new
clearing_next {old} {mid} {new} g id at turn so_far step crash reads same faults =
    let more : id ≡ id + 1 - 1 = omega arith in
    record {
      content = subst (λ (count : ℕ). ContentPasses (ClearsSlots g count) old new) more (clearing_content g id at turn so_far step);
      crash = clearing_crash g id at turn so_far crash;
      reads = reads ∙ so_far.reads;
      same = same_device_trans so_far.same same;
      faults = faults ∙ so_far.faults;
    }

-- at the last of them
pub clearing_done : {old mid new : State} (g : Geometry) (id at : ℕ) → IsTurn g id at → id ≡ g.slots → IsClearing g (id - 1) old mid → ContentPasses (Replaces at zero_sector) mid new → ContentPasses (ClearsSlots g g.slots) old new
clearing_done {old} {mid} {new} g id at turn all so_far step = subst (λ (count : ℕ). ContentPasses (ClearsSlots g count) old new) all (clearing_content g id at turn so_far step)

-- then the record: the content where it was cleared, where that failed, and a crash at any time

pub clears_whole : {old mid new : State} (g : Geometry) → ContentPasses (ClearsSlots g g.slots) old mid → ContentPasses (Replaces record_at zero_sector) mid new → ContentPasses (Clears g) old new
clears_whole g so_far step = content_joined (λ x y z told slots put. clears_record g x y z slots put) so_far step

pub clears_stopped : {old mid new : State} (g : Geometry) → ContentPasses (ClearsSlots g g.slots) old mid → ContentPasses (ReplacesOrNot record_at zero_sector) mid new → ContentPasses (ClearsPartly g) old new
clears_stopped g so_far step = content_joined (λ x y z told slots put. clears_partly_more g record_at x y z (inl refl) slots.partly put) so_far step

pub clears_crash : {old mid new : State} (g : Geometry) → Passes (ClearsPartly g) old mid → Passes (ReplacesOrNot record_at zero_sector) mid new → Passes (ClearsPartly g) old new
clears_crash g so_far step = joined (λ x y left first. first) (λ x y z left first put. clears_partly_more g record_at x y z (inl refl) first put) so_far step

-- ---- formatting

-- y is x with zeros in sector 0, and perhaps in others that formatting writes.
pub record IsBlanked (g : Geometry) (x y : Image) : Type 0 where
  pub front : sector y 0 ≡ zero_sector
  pub others : IsSameBut (IsFormatSector g) x y

-- with zeros in all of them
pub record IsBlank (g : Geometry) (x y : Image) : Type 0 where
  pub blanked : IsBlanked g x y
  pub zero_record : sector y record_at ≡ zero_sector
  pub zero_slots : (slot : ℕ) → slot < g.slots → sector y (slot_at g slot) ≡ zero_sector

-- Zeros are no magic.
withdrawn : (g : Geometry) (x y : Image) → IsBlanked g x y → IsWithdrawn g x y
withdrawn g x y blanked = record {
  no_magic = λ has. let zeros : replicate 8 0 ≡ magic = ap (take 8) (sym blanked.front) ∙ has in absurd (cc);
  others = blanked.others;
}

blanked_front : (g : Geometry) (x y : Image) → Replaces 0 zero_sector x y → IsBlanked g x y
blanked_front g x y step = record {
  front = step.there;
  others = record { size = step.others.size; others = λ i other. step.others.others i (λ here. other (inl here)) };
}

blanked_more : (g : Geometry) (x y z : Image) → IsBlanked g x y → ClearsPartly g y z → IsBlanked g x z
blanked_more g x y z first second = record {
  front = elim (second.each 0) [
    | inl kept ↦ kept ∙ first.front
    | inr zeros ↦ zeros.1
  ];
  others = record {
    size = second.size ∙ first.others.size;
    others = λ i other. elim (second.each i) [
      | inl kept ↦ kept ∙ first.others.others i other
      | inr zeros ↦ absurd (other (inr zeros.0))
    ];
  };
}

blank_all : (g : Geometry) (x y z : Image) → IsBlanked g x y → Clears g y z → IsBlank g x z
blank_all g x y z first second = record {
  blanked = blanked_more g x y z first second.all_slots.partly;
  zero_record = second.zero_record;
  zero_slots = second.all_slots.slots;
}

-- The new superblock alone is missing.
formats_last : (g : Geometry) (bytes : List ℕ) (x y z : Image) → bytes ≡ super_sector g → log_sectors g ≤ length x → IsBlank g x y → Replaces 0 bytes y z → Formats g x z
formats_last g bytes x y z are room blank step =
    let zero_record : sector z record_at ≡ zero_sector = step.others.others record_at (λ e. absurd (omega (arith, e))) ∙ blank.zero_record in
    let zero_slots : (slot : ℕ) → slot < g.slots → sector z (slot_at g slot) ≡ zero_sector = λ slot below. step.others.others (slot_at g slot) (λ e. absurd (omega (arith, e))) ∙ blank.zero_slots slot below in
    record {
      empty = record {
        text = record { room = omega (arith, step.others.size, blank.blanked.others.size); text = ap (take 36) (step.there ∙ are) ∙ take-append_seam (super_text 1 g) (replicate 476 0) };
        no_record = ap (λ (s : List ℕ). from_le_bytes w64 (take 8 s)) zero_record;
        no_segment = λ slot below. ap (λ (s : List ℕ). from_le_bytes w64 (take 8 s)) (zero_slots slot below);
      };
      others = record {
        size = step.others.size ∙ blank.blanked.others.size;
        others = λ i other. step.others.others i (λ here. other (inl here)) ∙ blank.blanked.others.others i other;
      };
      superblock = step.there ∙ are;
      zero_record = zero_record;
      zero_slots = zero_slots;
    }

-- ---- the steps of formatting, from one state of the device to the next

formats_or_not_front : (g : Geometry) (x y : Image) → ReplacesOrNot 0 zero_sector x y → FormatsOrNot g x y
formats_or_not_front g x y (inl same) = inl same
formats_or_not_front g x y (inr step) = inr (inl (withdrawn g x y (blanked_front g x y step)))

formats_or_not_last : (g : Geometry) (bytes : List ℕ) (x y z : Image) → bytes ≡ super_sector g → log_sectors g ≤ length x → IsBlank g x y → ReplacesOrNot 0 bytes y z → FormatsOrNot g x z
formats_or_not_last g bytes x y z are room blank (inl same) = inr (inl (withdrawn g x z (subst (IsBlanked g x) (sym same) blank.blanked)))
formats_or_not_last g bytes x y z are room blank (inr step) = inr (inr (formats_last g bytes x y z are room blank step))

-- The first step is done: sector 0 is zeros, also in what a crash leaves now.
pub record Withdraws (g : Geometry) (old now : State) : Type 0 where
  pub content : ContentPasses (IsBlanked g) old now
  pub left : (y : Image) → now.leaves_now y → (x : Image) × old.leaves_now x × IsBlanked g x y
  pub crash : Passes (FormatsOrNot g) old now

-- The second is done: the others are zeros too.
pub record Blanks (g : Geometry) (old now : State) : Type 0 where
  pub content : ContentPasses (IsBlank g) old now
  pub left : (y : Image) → now.leaves_now y → (x : Image) × old.leaves_now x × IsBlank g x y
  pub crash : Passes (FormatsOrNot g) old now

-- the first step, where it fails, and at any time
pub front_stopped : {old new : State} (g : Geometry) → ContentPasses (ReplacesOrNot 0 zero_sector) old new → ContentPasses (FormatsOrNot g) old new
front_stopped g step = content_weaker (λ x y told front. formats_or_not_front g x y front) step

pub front_crash : {old new : State} (g : Geometry) → Passes (ReplacesOrNot 0 zero_sector) old new → Passes (FormatsOrNot g) old new
front_crash g step = weaker (λ x y left front. formats_or_not_front g x y front) step

-- and where it is done
pub withdraws : {old new : State} (g : Geometry) → IsDevice old → IsDevice new → IsSameDevice old new → NothingPending new → ContentPasses (Replaces 0 zero_sector) old new → Passes (ReplacesOrNot 0 zero_sector) old new → Withdraws g old new
withdraws {old} {new} g before after same nothing step crash =
    let content : ContentPasses (IsBlanked g) old new = content_weaker (λ x y told front. blanked_front g x y front) step in
    record {
      content = content;
      left = λ y left. settled before after same nothing content left;
      crash = front_crash g crash;
    }

-- the second step
pub middle_stopped : {old mid new : State} (g : Geometry) → Withdraws g old mid → ContentPasses (ClearsPartly g) mid new → ContentPasses (FormatsOrNot g) old new
middle_stopped g first second = content_joined (λ x y z told blanked clears. inr (inl (withdrawn g x z (blanked_more g x y z blanked clears)))) first.content second

pub middle_crash : {old mid new : State} (g : Geometry) → Withdraws g old mid → Passes (ClearsPartly g) mid new → Passes (FormatsOrNot g) old new
middle_crash g first second =
    joined_between (λ x y left whole. whole) (λ x y z left blanked clears. inr (inl (withdrawn g x z (blanked_more g x y z blanked clears)))) first.crash first.left second

pub blanks : {old mid new : State} (g : Geometry) → IsDevice old → IsDevice new → IsSameDevice old mid → IsSameDevice mid new → NothingPending new
    → Withdraws g old mid → ContentPasses (Clears g) mid new → Passes (ClearsPartly g) mid new → Blanks g old new
blanks {old} {mid} {new} g before after same same' nothing first second crash =
    let content : ContentPasses (IsBlank g) old new = content_joined (λ x y z told blanked clears. blank_all g x y z blanked clears) first.content second in
    record {
      content = content;
      left = λ y left. settled before after (same_device_trans same same') nothing content left;
      crash = middle_crash g first crash;
    }

-- the last step
pub last_whole : {old mid new : State} (g : Geometry) (bytes : List ℕ) → bytes ≡ super_sector g → IsDevice old → log_sectors g ≤ old.sectors → Blanks g old mid → ContentPasses (Replaces 0 bytes) mid new → ContentPasses (Formats g) old new
last_whole g bytes are device room so_far step =
    content_joined (λ x y z told blank front. formats_last g bytes x y z are (omega (arith, (device.content x told).size)) blank front) so_far.content step

pub last_stopped : {old mid new : State} (g : Geometry) (bytes : List ℕ) → bytes ≡ super_sector g → IsDevice old → log_sectors g ≤ old.sectors → Blanks g old mid → ContentPasses (ReplacesOrNot 0 bytes) mid new → ContentPasses (FormatsOrNot g) old new
last_stopped g bytes are device room so_far step =
    content_joined (λ x y z told blank front. formats_or_not_last g bytes x y z are (omega (arith, (device.content x told).size)) blank front) so_far.content step

pub last_crash : {old mid new : State} (g : Geometry) (bytes : List ℕ) → bytes ≡ super_sector g → IsDevice old → log_sectors g ≤ old.sectors → Blanks g old mid → Passes (ReplacesOrNot 0 bytes) mid new → Passes (FormatsOrNot g) old new
last_crash g bytes are device room so_far step =
    joined_between (λ x y left whole. whole) (λ x y z left blank front. formats_or_not_last g bytes x y z are (omega (arith, (device.now x left).size)) blank front) so_far.crash so_far.left step

-- from a device with nothing pending
pub formats_any_moment : {old new : State} (g : Geometry) (x : Image) → IsDevice old → NothingPending old → old.content ≡ Some x → Passes (FormatsOrNot g) old new → LeavesOnly (FormatsOrNot g x) old new
formats_any_moment g x device nothing told pass = record {
  each = λ y left. elim (left_from_content device nothing told pass left) [
    | inl same ↦ inl same
    | inr step ↦ step
  ];
}
