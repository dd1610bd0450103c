-- What no other entries write than those of a history is put by that history: those of a segment, and a history with places
-- behind it that change nothing.
use Rattle.std.proofs.Common.{ℕ, zero, suc, ◌≡◌, ◌+◌, ◌-◌, ◌*◌, ◌<◌, ◌≤◌, List, ◌++◌, length, take, drop, replicate, get_or, Option, Some, None, Contains, inl, inr, refl, ap, sym, ◌∙◌, subst, arith}
use Rattle.std.proofs.lemmas.List.{take-append-drop, length-replicate, get_or-replicate}
use Rattle.std.proofs.lemmas.List.Elements.{Contains-append_left, Contains-append_right, Contains-append_cases}
use Rattle.wb_geometry.specs.Image.{Image, sector}
use Rattle.wb_geometry.specs.History.{HistoryEntry, Void, written, later, last_write, PutsPartly}
use Rattle.wb_geometry.specs.Line.{segment, span}
use Rattle.wb_geometry.proofs.Histories.{last_write-append}

pub puts_among : (es fs : List HistoryEntry) (x y : Image) → ((entry : HistoryEntry) (i : ℕ) (t : List ℕ) → Contains es entry → written i entry ≡ Some t → Contains fs entry)
    → PutsPartly es x y → PutsPartly fs x y
puts_among es fs x y among put = record {
  size = put.size;
  each = λ i. elim (put.each i) [
    | inl same ↦ inl same
    | inr by ↦ inr (by.0, among by.0 i (sector y i) by.1 by.2, by.2)
  ];
}

pub puts_same : (h : List HistoryEntry) (x : Image) → PutsPartly h x x
puts_same h x = record { size = refl; each = λ i. inl refl }

-- an entry of a segment is one of the history
Contains-take : (k : ℕ) (es : List HistoryEntry) (e : HistoryEntry) → Contains (take k es) e → Contains es e
Contains-take k es e has = subst (λ (l : List HistoryEntry). Contains l e) (take-append-drop k es) (Contains-append_left (take k es) (drop k es) e has)

Contains-drop : (k : ℕ) (es : List HistoryEntry) (e : HistoryEntry) → Contains (drop k es) e → Contains es e
Contains-drop k es e has = subst (λ (l : List HistoryEntry). Contains l e) (take-append-drop k es) (Contains-append_right (take k es) (drop k es) e has)

Contains-segment : (n first s : ℕ) (h : List HistoryEntry) (e : HistoryEntry) → Contains (segment n first h s) e → Contains h e
Contains-segment n first s h e has = Contains-drop (n * (s - (first + 1))) h e (Contains-take n (drop (n * (s - (first + 1))) h) e has)

-- and so is one of some that follow one another
Contains-span : (n first : ℕ) (h : List HistoryEntry) (a m : ℕ) (e : HistoryEntry) → Contains (span (segment n first h) a m) e → Contains h e
Contains-span n first h a zero e has = absurd (omega (arith, has.1))
Contains-span n first h a (suc m) e has = elim (Contains-append_cases (segment n first h (suc a)) (span (segment n first h) (suc a) m) e has) [
  | inl here ↦ Contains-segment n first (suc a) h e here
  | inr behind ↦ Contains-span n first h (suc a) m e behind
]

pub puts_of_span : (n first a m : ℕ) (h : List HistoryEntry) (x y : Image) → PutsPartly (span (segment n first h) a m) x y → PutsPartly h x y
puts_of_span n first a m h x y put = puts_among (span (segment n first h) a m) h x y (λ e i t has is. Contains-span n first h a m e has) put

-- segments that write alike make spans that do
pub span-alike : (list other : ℕ → List HistoryEntry) (k a m : ℕ) → ((s : ℕ) → a < s → s ≤ a + m → last_write k (list s) ≡ last_write k (other s))
    → last_write k (span list a m) ≡ last_write k (span other a m)
span-alike list other k a zero alike = refl
span-alike list other k a (suc m) alike =
    last_write-append k (list (suc a)) (span list (suc a) m)
    ∙ ap (λ (w : Option (List ℕ)). later w (last_write k (span list (suc a) m))) (alike (suc a) (omega arith) (omega arith))
    ∙ ap (later (last_write k (other (suc a)))) (span-alike list other k (suc a) m (λ s low high. alike s (omega (arith, low)) (omega (arith, high))))
    ∙ sym (last_write-append k (other (suc a)) (span other (suc a) m))

-- a place that changes nothing writes nothing
void_at : (count k : ℕ) (e : HistoryEntry) → k < length (replicate count (Void 0)) → get_or (replicate count (Void 0)) k e ≡ e → e ≡ Void 0
void_at count k e below is = sym is ∙ get_or-replicate count k (Void 0) e (omega (arith, length-replicate {A = HistoryEntry} count (Void 0)))

pub puts_without_voids : (h : List HistoryEntry) (count : ℕ) (x y : Image) → PutsPartly (h ++ replicate count (Void 0)) x y → PutsPartly h x y
puts_without_voids h count x y put = puts_among (h ++ replicate count (Void 0)) h x y front put
  where
    front : (e : HistoryEntry) (i : ℕ) (t : List ℕ) → Contains (h ++ replicate count (Void 0)) e → written i e ≡ Some t → Contains h e
    front e i t has is = elim (Contains-append_cases h (replicate count (Void 0)) e has) [
      | inl there ↦ there
      | inr behind ↦
          let void : e ≡ Void 0 = void_at count behind.0 e behind.1 behind.2 in
          let both : Some t ≡ None = sym is ∙ ap (written i) void in
          absurd (cc)
    ]
