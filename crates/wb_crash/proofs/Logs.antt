-- What the calls make of an image of the log.
use Rattle.std.proofs.Common.{ℕ, ◌≡◌, ◌⊎◌, ◌+◌, ◌-◌, ◌%◌, ◌<◌, ◌≤◌, List, length, take, inl, inr, ap, sym, ◌∙◌, subst, arith}
use Rattle.std.specs.Int.{w64, from_le_bytes}
use Rattle.std.proofs.lemmas.Bool.{cases_lt, cases_eq}
use Rattle.wb_geometry.specs.Image.{Image, sector, overlay, IsPartlyWritten}
use Rattle.wb_geometry.specs.Layout.{slot_sectors, slot_at, slot_start}
use Rattle.wb_geometry.specs.Line.{Line}
use Rattle.wb_geometry.specs.declared.geometry.Geometry.{Geometry}
use Rattle.wb_geometry.proofs.Images.{IsPartlyWritten-overlay, sector-overlay_inside}
use Rattle.wb_header.specs.Slots.{Stands}
use Rattle.wb_super.specs.Superblock.{SuperText, record_at, record_of, header_id}
use Rattle.wb_super.specs.Recording.{Records, RecordsOrNot}
use Rattle.wb_crash.specs.Images.{IsOrdered, HoldsSegment, BeginsSegment, IsLogImage}
use Rattle.wb_crash.specs.Crash.{IsNextText}
use Rattle.wb_crash.specs.Numbers.{trying, written, synced, put_up_to, recording}
use Rattle.wb_crash.specs.declared.numbers.Numbers.{Numbers}
use Rattle.wb_crash.proofs.Texts.{some_sector, header_of_text}
use Rattle.wb_geometry.proofs.Slots.{slot_below, elsewhere, slots_differ, slot_inside}
use Rattle.wb_header.proofs.SlotTexts.{text_fits}

-- ---- a write of the next segment's text

kept_outside : (at : ℕ) (text x y : Image) (k : ℕ) → IsPartlyWritten at text x y → (k < at) ⊎ (at + length text ≤ k) → sector y k ≡ sector x k
kept_outside at text x y k partly out = elim (partly.each k) [
  | inl same ↦ same
  | inr put ↦ elim out [
    | inl before ↦ absurd (omega (arith, before, put.0))
    | inr behind ↦ absurd (omega (arith, behind, put.1))
  ]
]

-- the text's length, and where its slot lies
next_fits : {g : Geometry} {line : Line} {e : Numbers} {at : ℕ} {text : Image} → IsNextText g line e at text → length text ≤ slot_sectors g
next_fits {g} {line} {e} {at} {text} next = text_fits g text (e.tried + 1) next.is.blocks next.is.is

-- a sector of the slot of a segment that isn't recorded is as it was
slot_kept : (g : Geometry) (line : Line) (e : Numbers) (at : ℕ) (text x y : Image) (s k : ℕ) → IsNextText g line e at text → IsPartlyWritten at text x y → e.recorded < s → s ≤ e.tried
    → k < slot_sectors g → sector y (slot_start g s + k) ≡ sector x (slot_start g s + k)
slot_kept g line e at text x y s k next partly low high below =
    kept_outside at text x y (slot_start g s + k) partly
    (elim (elsewhere g ((s - 1) % g.slots) ((e.tried + 1 - 1) % g.slots) k (length text)
    (slots_differ g s (e.tried + 1) (omega arith) (omega arith) (omega (arith, next.room))) (next_fits next) below) [
      | inl before ↦ inl (omega (arith, before, next.slot))
      | inr behind ↦ inr (omega (arith, behind, next.slot))
    ])

first_kept : (g : Geometry) (line : Line) (e : Numbers) (at : ℕ) (text x y : Image) (s : ℕ) → IsNextText g line e at text → IsPartlyWritten at text x y → e.recorded < s → s ≤ e.tried
    → sector y (slot_start g s) ≡ sector x (slot_start g s)
first_kept g line e at text x y s next partly low high =
    let here : slot_start g s + 0 ≡ slot_start g s = omega arith in
    let some : 0 < slot_sectors g = omega (arith, next_fits next, some_sector next.is.is) in
    subst (λ (k : ℕ). sector y k ≡ sector x k) here (slot_kept g line e at text x y s 0 next partly low high some)

-- so the segments that stood there stand
pub segment_kept : (g : Geometry) (line : Line) (e : Numbers) (at : ℕ) (text x y : Image) (s : ℕ) → IsNextText g line e at text → IsPartlyWritten at text x y → e.recorded < s → s ≤ e.tried
    → HoldsSegment g line x s → HoldsSegment g line y s
segment_kept g line e at text x y s next partly low high segment = record {
  text = segment.text;
  is = segment.is;
  stands = record {
    each = λ i below.
        slot_kept g line e at text x y s i next partly low high (omega (arith, below, text_fits g segment.text s segment.is.blocks segment.is.is))
        ∙ segment.stands.each i below;
  };
}

front_kept : (g : Geometry) (line : Line) (e : Numbers) (at : ℕ) (text x y : Image) (k : ℕ) → IsNextText g line e at text → IsPartlyWritten at text x y → k < 2048 → sector y k ≡ sector x k
front_kept g line e at text x y k next partly below = kept_outside at text x y k partly (inl (omega (arith, next.slot)))

pub id_kept : (g : Geometry) (x y : Image) (slot : ℕ) → sector y (slot_at g slot) ≡ sector x (slot_at g slot) → header_id g y slot ≡ header_id g x slot
id_kept g x y slot same = ap (λ (s : List ℕ). from_le_bytes w64 (take 8 s)) same

pub super_kept : (g : Geometry) (x y : Image) → length y ≡ length x → sector y 0 ≡ sector x 0 → SuperText x g 1 → SuperText y g 1
super_kept g x y size same super = record {
  room = omega (arith, size, super.room);
  text = ap (λ (s : List ℕ). take 36 s) same ∙ super.text;
}

record_kept : (x y : Image) → sector y record_at ≡ sector x record_at → record_of y ≡ record_of x
record_kept x y same = ap (λ (s : List ℕ). from_le_bytes w64 (take 8 s)) same

-- An image in which some of the text is written is one of the engine that tries it.
pub log_written : (g : Geometry) (line : Line) (e : Numbers) (at : ℕ) (text x y : Image) → IsOrdered g e → IsNextText g line e at text → IsLogImage g line e x → IsPartlyWritten at text x y
    → IsLogImage g line (trying e) y
log_written g line e at text x y ordered next logs partly = record {
  super = super_kept g x y partly.size (front_kept g line e at text x y 0 next partly (omega arith)) logs.super;
  from = omega (arith, number, logs.from);
  to = omega (arith, number, logs.to);
  synced = λ s low high. segment_kept g line e at text x y s next partly low (omega (arith, high, ordered.stable, ordered.logged)) (logs.synced s low high);
  begun = begun;
  newest = newest;
}
  where
    number : record_of y ≡ record_of x
    number = record_kept x y (front_kept g line e at text x y record_at next partly (omega arith))

    slot_is : at ≡ slot_at g ((e.tried + 1 - 1) % g.slots)
    slot_is = next.slot

    old : (s : ℕ) → e.recorded < s → s ≤ e.tried → BeginsSegment g line x s → BeginsSegment g line y s
    old s low high begins =
        let same : sector y (slot_start g s) ≡ sector x (slot_start g s) = first_kept g line e at text x y s next partly low high in
        record {
          text = begins.text;
          is = begins.is;
          front = elim begins.front [
            | inl first ↦ inl (same ∙ first)
            | inr below ↦ inr (omega (arith, below, id_kept g x y ((s - 1) % g.slots) same))
          ];
        }

    at_slot : sector y at ≡ sector x at ⊎ sector y at ≡ sector text 0
    at_slot = elim (partly.each at) [
      | inl same ↦ inl same
      | inr put ↦ inr (put.2 ∙ ap (λ (k : ℕ). sector text k) (omega arith))
    ]

    new : BeginsSegment g line y (e.tried + 1)
    new = record {
      text = text;
      is = next.is;
      front = elim at_slot [
        | inl same ↦
            inr (omega (
              arith,
              logs.newest ((e.tried + 1 - 1) % g.slots) (slot_below g (e.tried + 1)),
              id_kept g x y ((e.tried + 1 - 1) % g.slots) (subst (λ (k : ℕ). sector y k ≡ sector x k) slot_is same),
            ))
        | inr put ↦ inl (subst (λ (k : ℕ). sector y k ≡ sector text 0) next.slot put)
      ];
    }

    begun : (s : ℕ) → e.stable < s → s ≤ e.tried + 1 → BeginsSegment g line y s
    begun s low high = elim (cases_lt e.tried s) [
      | inr before ↦ old s (omega (arith, low, ordered.recorded, ordered.back)) before (logs.begun s low before)
      | inl last ↦ let is : e.tried + 1 ≡ s = omega arith in subst (BeginsSegment g line y) is new
    ]

    newest : (slot : ℕ) → slot < g.slots → header_id g y slot ≤ e.tried + 1
    newest slot below = elim (cases_eq slot ((e.tried + 1 - 1) % g.slots)) [
      | inl is ↦ elim at_slot [
        | inl same ↦
            omega (
              arith,
              logs.newest slot below,
              id_kept g x y slot (subst (λ (k : ℕ). sector y k ≡ sector x k) (slot_is ∙ ap (slot_at g) (sym is)) same),
            )
        | inr put ↦
            omega (arith, header_of_text y slot next.is.is (subst (λ (k : ℕ). sector y k ≡ sector text 0) (slot_is ∙ ap (slot_at g) (sym is)) put))
      ]
      | inr other ↦
          let some : 0 < slot_sectors g = omega (arith, next_fits next, some_sector next.is.is) in
          let here : slot_at g slot + 0 ≡ slot_at g slot = omega arith in
          let same : sector y (slot_at g slot + 0) ≡ sector x (slot_at g slot + 0) =
          kept_outside at text x y (slot_at g slot + 0) partly
          (elim (elsewhere g slot ((e.tried + 1 - 1) % g.slots) 0 (length text) other (next_fits next) some) [
            | inl before ↦ inl (omega (arith, before, slot_is))
            | inr behind ↦ inr (omega (arith, behind, slot_is))
          ]) in
          omega (arith, logs.newest slot below, id_kept g x y slot (subst (λ (k : ℕ). sector y k ≡ sector x k) here same))
    ]

-- the slot is inside
pub next_inside : (g : Geometry) (line : Line) (e : Numbers) (at : ℕ) (text x : Image) → IsNextText g line e at text → IsLogImage g line e x → at + length text ≤ length x
next_inside g line e at text x next logs = omega (arith, next.slot, slot_inside g (e.tried + 1) (length text) (next_fits next), logs.super.room)

-- written whole, the text stands there
pub next_stands : (g : Geometry) (line : Line) (e : Numbers) (at : ℕ) (text x : Image) → IsNextText g line e at text → IsLogImage g line e x → HoldsSegment g line (overlay at text x) (e.tried + 1)
next_stands g line e at text x next logs = record {
  text = text;
  is = next.is;
  stands = subst (λ (k : ℕ). Stands k text (overlay at text x)) next.slot (record {
    each = λ i below.
        let room = next_inside g line e at text x next logs in
        let behind : at + i - at ≡ i = omega arith in
        sector-overlay_inside at text x (at + i) (omega (arith, room)) (omega arith) (omega arith) ∙ ap (λ (k : ℕ). sector text k) behind;
  });
}

pub next_partly : (g : Geometry) (line : Line) (e : Numbers) (at : ℕ) (text x : Image) → IsNextText g line e at text → IsLogImage g line e x → IsPartlyWritten at text x (overlay at text x)
next_partly g line e at text x next logs = IsPartlyWritten-overlay at text x (next_inside g line e at text x next logs)

-- ---- a write of the record

pub others_kept : (id : ℕ) (x y : Image) (k : ℕ) → Records id x y → (k ≡ record_at → ⊥) → sector y k ≡ sector x k
others_kept id x y k records other = records.sector.others.others k other

segment_there : (g : Geometry) (line : Line) (id : ℕ) (x y : Image) (s : ℕ) → Records id x y → HoldsSegment g line x s → HoldsSegment g line y s
segment_there g line id x y s records segment = record {
  text = segment.text;
  is = segment.is;
  stands = record { each = λ i below. others_kept id x y (slot_start g s + i) records (λ is. absurd (omega arith)) ∙ segment.stands.each i below };
}

-- so the segments that stood there stand
pub segment_recorded : (g : Geometry) (line : Line) (id : ℕ) (x y : Image) (s : ℕ) → RecordsOrNot id x y → HoldsSegment g line x s → HoldsSegment g line y s
segment_recorded g line id x y s step segment = elim step [
  | inl same ↦ subst (λ (u : Image). HoldsSegment g line u s) (sym same) segment
  | inr records ↦ segment_there g line id x y s records segment
]

-- whatever id the new record has that is none too high and none too low, it is an image of the engine
log_with : (g : Geometry) (line : Line) (e : Numbers) (id : ℕ) (x y : Image) → e.recorded ≤ id → id ≤ e.back → IsLogImage g line e x → Records id x y → IsLogImage g line e y
log_with g line e id x y low high logs records = record {
  super = super_kept g x y records.sector.others.size (others_kept id x y 0 records (λ is. absurd (omega arith))) logs.super;
  from = omega (arith, records.number);
  to = omega (arith, records.number);
  synced = λ s above below. segment_there g line id x y s records (logs.synced s above below);
  begun = λ s above below.
      let begins : BeginsSegment g line x s = logs.begun s above below in
      let same : sector y (slot_start g s) ≡ sector x (slot_start g s) = others_kept id x y (slot_start g s) records (λ is. absurd (omega arith)) in
      record {
        text = begins.text;
        is = begins.is;
        front = elim begins.front [
          | inl first ↦ inl (same ∙ first)
          | inr less ↦ inr (omega (arith, less, id_kept g x y ((s - 1) % g.slots) same))
        ];
      };
  newest = λ slot below.
      omega (arith, logs.newest slot below, id_kept g x y slot (others_kept id x y (slot_at g slot) records (λ is. absurd (omega arith))));
}

pub log_recorded : (g : Geometry) (line : Line) (e : Numbers) (x y : Image) → IsOrdered g e → IsLogImage g line e x → RecordsOrNot e.back x y → IsLogImage g line e y
log_recorded g line e x y ordered logs step = elim step [
  | inl same ↦ subst (IsLogImage g line e) (sym same) logs
  | inr records ↦ log_with g line e e.back x y ordered.recorded (omega arith) logs records
]

-- with the new record it is an image of the engine once that is written
pub log_at_record : (g : Geometry) (line : Line) (e : Numbers) (x y : Image) → IsOrdered g e → IsLogImage g line e x → Records e.back x y → IsLogImage g line (recording e) y
log_at_record g line e x y ordered logs records =
    let same : IsLogImage g line e y = log_with g line e e.back x y ordered.recorded (omega arith) logs records in
    record {
      super = same.super;
      from = omega (arith, records.number);
      to = same.to;
      synced = λ s low high. same.synced s (omega (arith, low, ordered.recorded)) high;
      begun = same.begun;
      newest = same.newest;
    }

-- ---- the numbers alone

-- what stands in a content is synced once a sync is answered `Ok`
pub log_at_sync : (g : Geometry) (line : Line) (e : Numbers) (x : Image) → IsOrdered g e → e.tried ≡ e.logged → IsLogImage g line e x
    → ((s : ℕ) → e.recorded < s → s ≤ e.logged → HoldsSegment g line x s) → IsLogImage g line (synced e) x
log_at_sync g line e x ordered up logs logged = record {
  super = logs.super;
  from = logs.from;
  to = logs.to;
  synced = logged;
  begun = λ s low high. absurd (omega (arith, low, high, up));
  newest = logs.newest;
}

pub log_at_put : (g : Geometry) (line : Line) (e : Numbers) (k : ℕ) (x : Image) → e.back ≤ k → IsLogImage g line e x → IsLogImage g line (put_up_to k e) x
log_at_put g line e k x from logs = record {
  super = logs.super;
  from = logs.from;
  to = omega (arith, logs.to);
  synced = logs.synced;
  begun = logs.begun;
  newest = logs.newest;
}

-- what is logged doesn't show in an image
pub log_at_written : (g : Geometry) (line : Line) (e : Numbers) (x : Image) → IsLogImage g line (trying e) x → IsLogImage g line (written e) x
log_at_written g line e x logs = record {
  super = logs.super;
  from = logs.from;
  to = logs.to;
  synced = logs.synced;
  begun = logs.begun;
  newest = logs.newest;
}
