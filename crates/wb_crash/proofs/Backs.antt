-- What the calls make of an image of the backing device.
use Rattle.std.proofs.Common.{ℕ, suc, zero, ◌≡◌, ◌+◌, ◌-◌, ◌<◌, ◌≤◌, List, [], ◌∷◌, ◌++◌, length, get_or, Option, Some, None, inl, inr, refl, ap, sym, ◌∙◌, subst, arith}
use Rattle.std.proofs.lemmas.Bool.{cases_lt}
use Rattle.std.proofs.lemmas.List.{get_or_past}
use Rattle.wb_geometry.specs.Image.{Image, sector}
use Rattle.wb_geometry.specs.History.{HistoryEntry, written, standing, later, last_write, after, IsUnwritten, PutsPartly}
use Rattle.wb_geometry.specs.Line.{Line, span, image}
use Rattle.wb_geometry.specs.declared.geometry.Geometry.{Geometry}
use Rattle.wb_geometry.proofs.Histories.{last_write-append, length-after, sector-after, puts_all}
use Rattle.wb_geometry.proofs.Lines.{span-split, unwritten-first, unwritten-second, image-between, Agrees-wider}
use Rattle.wb_crash.specs.Images.{IsOrdered, IsBackingImage}
use Rattle.wb_crash.specs.Crash.{WritesAlike}
use Rattle.wb_crash.specs.Numbers.{synced, put_up_to}
use Rattle.wb_crash.specs.declared.numbers.Numbers.{Numbers}

-- ---- sectors that no entry writes

-- where no entry writes a sector, each of them doesn't
unwritten_each : (i : ℕ) (entries : List HistoryEntry) (k : ℕ) (d : HistoryEntry) → IsUnwritten i entries → k < length entries → written i (get_or entries k d) ≡ None
unwritten_each i [] k d none below = absurd (omega arith)
unwritten_each i (e ∷ entries) zero d none below = unwritten-first i (e ∷ []) entries none
unwritten_each i (e ∷ entries) (suc k) d none below = unwritten_each i entries k d (unwritten-second i (e ∷ []) entries none) (omega arith)

-- entries put partly leave it as it was
pub kept_unwritten : (entries : List HistoryEntry) (x y : Image) (i : ℕ) → PutsPartly entries x y → IsUnwritten i entries → sector y i ≡ sector x i
kept_unwritten entries x y i partly none = elim (partly.each i) [
  | inl same ↦ same
  | inr by ↦
      let not : written i by.0 ≡ None = ap (written i) (sym by.1.2) ∙ unwritten_each i entries by.1.0 by.0 none by.1.1 in
      absurd (let is = sym not ∙ by.2 in cc)
]

-- a span in three parts: what none of its segments writes, none of the middle ones does
pub part_unwritten : (list : ℕ → List HistoryEntry) (a b c d i : ℕ) → a ≤ b → b ≤ c → c ≤ d → IsUnwritten i (span list a (d - a)) → IsUnwritten i (span list b (c - b))
part_unwritten list a b c d i first second third none =
    let parts : (b - a) + ((c - b) + (d - c)) ≡ d - a = omega arith in
    let at : a + (b - a) ≡ b = omega arith in
    let whole : span list a (d - a) ≡ span list a (b - a) ++ span list b ((c - b) + (d - c)) =
    ap (span list a) (sym parts) ∙ span-split list a (b - a) ((c - b) + (d - c)) ∙ ap (λ (s : ℕ). span list a (b - a) ++ span list s ((c - b) + (d - c))) at in
    let rest : IsUnwritten i (span list b ((c - b) + (d - c))) = unwritten-second i (span list a (b - a)) (span list b ((c - b) + (d - c))) (subst (IsUnwritten i) whole none) in
    unwritten-first i (span list b (c - b)) (span list (b + (c - b)) (d - c)) (subst (IsUnwritten i) (span-split list b (c - b) (d - c)) rest)

-- two spans that follow one another
span_joined : (list : ℕ → List HistoryEntry) (a b c : ℕ) → a ≤ b → b ≤ c → span list a (c - a) ≡ span list a (b - a) ++ span list b (c - b)
span_joined list a b c first second =
    let parts : (b - a) + (c - b) ≡ c - a = omega arith in
    let at : a + (b - a) ≡ b = omega arith in
    ap (span list a) (sym parts) ∙ span-split list a (b - a) (c - b) ∙ ap (λ (s : ℕ). span list a (b - a) ++ span list s (c - b)) at

-- ---- writing segments back

-- Segments that a sync of the log covered, put partly: each sector that changed is one that some of them writes.
pub backs_partly : (g : Geometry) (line : Line) (e : Numbers) (k : ℕ) (entries : List HistoryEntry) (y z : Image) → IsOrdered g e → e.back ≤ k → k ≤ e.stable
    → WritesAlike entries (span line.list e.back (k - e.back)) → IsBackingImage line e y → PutsPartly entries y z → IsBackingImage line e z
backs_partly g line e k entries y z ordered from until alike backs partly = record {
  size = partly.size ∙ backs.size;
  agrees = λ r low high. record {
    each = λ i none.
        kept_unwritten entries y z i partly (alike i ∙ part_unwritten line.list r e.back k e.stable i high from until none)
        ∙ (backs.agrees r low high).each i none;
  };
}

stands_alike : (s t : List ℕ) (a b : Option (List ℕ)) → b ≡ None → (a ≡ None → s ≡ t) → standing s (later a b) ≡ standing t a
stands_alike s t a (Some u) none same = absurd (let is = none in cc)
stands_alike s t (Some u) None none same = refl
stands_alike s t None None none same = same refl

-- put whole, they are back
pub backs_put : (g : Geometry) (line : Line) (e : Numbers) (k : ℕ) (entries : List HistoryEntry) (y z : Image) → line.first ≡ e.first → IsOrdered g e → e.back ≤ k → k ≤ e.stable
    → WritesAlike entries (span line.list e.back (k - e.back)) → IsBackingImage line e y → z ≡ after y entries → IsBackingImage line (put_up_to k e) z
backs_put g line e k entries y z start ordered from until alike backs put = record {
  size = partly.size ∙ backs.size;
  agrees = λ r low high. elim (cases_lt e.back r) [
    | inr before ↦ (backs_partly g line e k entries y z ordered from until alike backs partly).agrees r low before
    | inl behind ↦ record { each = λ i none. each r i (omega arith) high none }
  ];
}
  where
    partly : PutsPartly entries y z
    partly = subst (PutsPartly entries y) (sym put) (puts_all entries y)

    each : (r i : ℕ) → e.back ≤ r → r ≤ k → IsUnwritten i (span line.list r (e.stable - r)) → sector z i ≡ sector (image line r) i
    each r i low high none = elim (cases_lt i (length y)) [
      | inl inside ↦
          let behind : IsUnwritten i (span line.list r (k - r)) = part_unwritten line.list r r k e.stable i (omega arith) high until none in
          let parts : last_write i entries ≡ later (last_write i (span line.list e.back (r - e.back))) (last_write i (span line.list r (k - r))) =
          alike i ∙ ap (last_write i) (span_joined line.list e.back r k low high) ∙ last_write-append i (span line.list e.back (r - e.back)) (span line.list r (k - r)) in
          let same : last_write i (span line.list e.back (r - e.back)) ≡ None → sector y i ≡ sector (image line e.back) i =
          λ front. (backs.agrees e.back ordered.recorded (omega arith)).each i
          (ap (last_write i) (span_joined line.list e.back r e.stable low (omega arith))
          ∙ last_write-append i (span line.list e.back (r - e.back)) (span line.list r (e.stable - r))
          ∙ ap (later (last_write i (span line.list e.back (r - e.back)))) none ∙ front) in
          ap (λ (u : Image). sector u i) put ∙ sector-after y entries i inside
          ∙ ap (standing (sector y i)) parts
          ∙ stands_alike (sector y i) (sector (image line e.back) i) (last_write i (span line.list e.back (r - e.back))) (last_write i (span line.list r (k - r))) behind same
          ∙ sym (sector-after (image line e.back) (span line.list e.back (r - e.back)) i (omega (arith, backs.size, base_size e.back)))
          ∙ ap (λ (u : Image). sector u i) (sym (image-between line e.back r (omega (arith, start, ordered.start, ordered.recorded)) low))
      | inr past ↦
          get_or_past z i [] (omega (arith, partly.size)) ∙ sym (get_or_past (image line r) i [] (omega (arith, base_size r, backs.size)))
    ]
      where
        base_size : (s : ℕ) → length (image line s) ≡ length line.base
        base_size s = length-after line.base (span line.list line.first (s - line.first))

-- ---- the numbers alone

pub backs_at_record : (g : Geometry) (line : Line) (e : Numbers) (y : Image) → IsOrdered g e → IsBackingImage line e y → IsBackingImage line (record e { recorded = e.back }) y
backs_at_record g line e y ordered backs = record {
  size = backs.size;
  agrees = λ r low high. backs.agrees r (omega (arith, low, ordered.recorded)) high;
}

pub backs_at_sync : (g : Geometry) (line : Line) (e : Numbers) (y : Image) → IsOrdered g e → IsBackingImage line e y → IsBackingImage line (synced e) y
backs_at_sync g line e y ordered backs = record {
  size = backs.size;
  agrees = λ r low high. Agrees-wider line r e.stable e.logged y (omega (arith, high, ordered.back)) ordered.stable (backs.agrees r low high);
}
