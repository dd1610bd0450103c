-- A history cut into segments: which entries each has, and the images after the first of them.
use Rattle.std.proofs.Common.{ℕ, suc, zero, ◌≡◌, ◌+◌, ◌-◌, ◌*◌, ◌<◌, ◌≤◌, List, [], ◌∷◌, ◌++◌, length, take, drop, Option, Some, None, inl, inr, refl, ap, sym, ◌∙◌, subst, arith, zero-add, append_assoc, append-nil}
use Rattle.std.proofs.Math.Nat.{mul-suc, mul-zero}
use Rattle.std.proofs.Math.Seq.{take-add}
use Rattle.std.proofs.lemmas.Bool.{cases_lt}
use Rattle.std.proofs.lemmas.List.{get_or_past, drop-drop, take_all, take-append-le, drop-append-le, length-drop, length_push}
use Rattle.wb_geometry.specs.Image.{Image, sector}
use Rattle.wb_geometry.specs.History.{HistoryEntry, after, later, last_write, standing, IsUnwritten}
use Rattle.wb_geometry.specs.Line.{Line, span, image, segment, line_of, cut, Agrees}
use Rattle.wb_geometry.proofs.Histories.{last_write-append, after-append, length-after, sector-after}

-- ---- spans

-- the segments of two spans that follow one another
pub span-split : (list : ℕ → List HistoryEntry) (a m n : ℕ) → span list a (m + n) ≡ span list a m ++ span list (a + m) n
span-split list a zero n =
    let here : a + 0 ≡ a = omega arith in
    ap (span list a) (zero-add n) ∙ ap (λ (b : ℕ). span list b n) (sym here)
span-split list a (suc m) n =
    let more : suc m + n ≡ suc (m + n) = omega arith in
    let next : suc a + m ≡ a + suc m = omega arith in
    ap (span list a) more
    ∙ ap (λ (es : List HistoryEntry). list (suc a) ++ es) (span-split list (suc a) m n ∙ ap (λ (b : ℕ). span list (suc a) m ++ span list b n) next)
    ∙ sym (append_assoc (list (suc a)) (span list (suc a) m) (span list (a + suc m) n))

-- one segment
pub span-one : (list : ℕ → List HistoryEntry) (a : ℕ) → span list a 1 ≡ list (suc a)
span-one list a = append-nil (list (suc a))

-- equal segments make equal spans
pub span-same : (list other : ℕ → List HistoryEntry) (a m : ℕ) → ((s : ℕ) → a < s → s ≤ a + m → list s ≡ other s) → span list a m ≡ span other a m
span-same list other a zero same = refl
span-same list other a (suc m) same =
    let first : list (suc a) ≡ other (suc a) = same (suc a) (omega arith) (omega arith) in
    let rest : span list (suc a) m ≡ span other (suc a) m = span-same list other (suc a) m (λ s low high. same s (omega arith) (omega arith)) in
    ap (λ (es : List HistoryEntry). es ++ span list (suc a) m) first ∙ ap (λ (es : List HistoryEntry). other (suc a) ++ es) rest

-- where none of the segments of a span writes the sector, none of a part of it does
later-none_first : (a b : Option (List ℕ)) → later a b ≡ None → a ≡ None
later-none_first a (Some t) is = absurd (let z = is in cc)
later-none_first a None is = is

later-none_second : (a b : Option (List ℕ)) → later a b ≡ None → b ≡ None
later-none_second a (Some t) is = absurd (let z = is in cc)
later-none_second a None is = refl

pub unwritten-first : (k : ℕ) (xs ys : List HistoryEntry) → IsUnwritten k (xs ++ ys) → IsUnwritten k xs
unwritten-first k xs ys none = later-none_first (last_write k xs) (last_write k ys) (sym (last_write-append k xs ys) ∙ none)

pub unwritten-second : (k : ℕ) (xs ys : List HistoryEntry) → IsUnwritten k (xs ++ ys) → IsUnwritten k ys
unwritten-second k xs ys none = later-none_second (last_write k xs) (last_write k ys) (sym (last_write-append k xs ys) ∙ none)

-- ---- segments of a history

-- the segments of a span are the places from its first to its last
pub span-segments : (n first : ℕ) (h : List HistoryEntry) (a m : ℕ) → span (segment n first h) (first + a) m ≡ take (n * m) (drop (n * a) h)
span-segments n first h a zero =
    let none : n * 0 ≡ 0 = mul-zero n in
    ap (λ (k : ℕ). take k (drop (n * a) h)) (sym none)
span-segments n first h a (suc m) =
    let index : suc (first + a) - (first + 1) ≡ a = omega arith in
    let next : suc (first + a) ≡ first + suc a = omega arith in
    let behind : n * a + n ≡ n * suc a = sym (mul-suc n a) in
    let whole : n + n * m ≡ n * suc m = let s = mul-suc n m in omega arith in
    ap (λ (k : ℕ). take n (drop (n * k) h) ++ span (segment n first h) (suc (first + a)) m) index
    ∙ ap (λ (b : ℕ). take n (drop (n * a) h) ++ span (segment n first h) b m) next
    ∙ ap (λ (es : List HistoryEntry). take n (drop (n * a) h) ++ es) (span-segments n first h (suc a) m)
    ∙ ap (λ (k : ℕ). take n (drop (n * a) h) ++ take (n * m) (drop k h)) (sym behind)
    ∙ ap (λ (es : List HistoryEntry). take n (drop (n * a) h) ++ take (n * m) es) (sym (drop-drop n (n * a) h))
    ∙ sym (take-add n (n * m) (drop (n * a) h))
    ∙ ap (λ (k : ℕ). take k (drop (n * a) h)) whole

-- the image after the first segments is that of so many places
pub image-cut : (n first : ℕ) (base : Image) (h : List HistoryEntry) (k : ℕ) → image (line_of n first base h) k ≡ cut n base h (k - first)
image-cut n first base h k =
    let start : first + 0 ≡ first = omega arith in
    let none : n * 0 ≡ 0 = mul-zero n in
    ap (after base) (ap (λ (b : ℕ). span (segment n first h) b (k - first)) (sym start) ∙ span-segments n first h 0 (k - first)
    ∙ ap (λ (b : ℕ). take (n * (k - first)) (drop b h)) none)

-- all of the history, where the segments have places for it
pub image-all : (n first : ℕ) (base : Image) (h : List HistoryEntry) (k : ℕ) → length h ≤ n * (k - first) → image (line_of n first base h) k ≡ after base h
image-all n first base h k room = image-cut n first base h k ∙ ap (after base) (take_all (n * (k - first)) h room)

-- a full segment stays as it is when the history grows
pub segment-kept : (n first : ℕ) (h more : List HistoryEntry) (s : ℕ) → first < s → n * (s - first) ≤ length h → segment n first (h ++ more) s ≡ segment n first h s
segment-kept n first h more s above full =
    let a : ℕ = s - (first + 1) in
    let count : s - first ≡ suc a = omega arith in
    let size : n * (s - first) ≡ n * a + n = ap (λ (k : ℕ). n * k) count ∙ mul-suc n a in
    let before : n * a ≤ length h = omega arith in
    let room : n ≤ length (drop (n * a) h) = omega (arith, length-drop (n * a) h) in
    ap (take n) (drop-append-le (n * a) h more before) ∙ take-append-le n (drop (n * a) h) more room

-- the segment that isn't full takes what comes
pub segment-push : (n first : ℕ) (h : List HistoryEntry) (e : HistoryEntry) (s : ℕ) → first < s → n * (s - (first + 1)) ≤ length h → length h < n * (s - first)
    → segment n first (h ++ e ∷ []) s ≡ segment n first h s ++ e ∷ []
segment-push n first h e s above begun few_places =
    let a : ℕ = s - (first + 1) in
    let count : s - first ≡ suc a = omega arith in
    let size : n * (s - first) ≡ n * a + n = ap (λ (k : ℕ). n * k) count ∙ mul-suc n a in
    let some_room : length (drop (n * a) h) < n = omega (arith, length-drop (n * a) h) in
    let long : length (drop (n * a) h ++ e ∷ []) ≤ n = omega (arith, length_push (drop (n * a) h) e) in
    ap (take n) (drop-append-le (n * a) h (e ∷ []) begun)
    ∙ take_all n (drop (n * a) h ++ e ∷ []) long
    ∙ ap (λ (es : List HistoryEntry). es ++ e ∷ []) (sym (take_all n (drop (n * a) h) (omega arith)))

empty_list : (es : List HistoryEntry) → length es ≡ 0 → es ≡ []
empty_list [] is = refl
empty_list (e ∷ es) is = absurd (omega arith)

take_none : (k : ℕ) → take {A = HistoryEntry} k [] ≡ []
take_none k = take_all k [] (omega arith)

-- one behind it has no entry
pub segment-none : (n first : ℕ) (h : List HistoryEntry) (s : ℕ) → length h ≤ n * (s - (first + 1)) → segment n first h s ≡ []
segment-none n first h s past =
    let none : length (drop (n * (s - (first + 1))) h) ≡ 0 = omega (arith, length-drop (n * (s - (first + 1))) h) in
    ap (take n) (empty_list (drop (n * (s - (first + 1))) h) none) ∙ take_none n

-- ---- images that agree

-- what agrees but for the segments up to s does so but for those up to a later one
pub Agrees-wider : (line : Line) (r s t : ℕ) (y : Image) → r ≤ s → s ≤ t → Agrees line r s y → Agrees line r t y
Agrees-wider line r s t y low high agrees = record {
  each = λ i none.
      let parts : (s - r) + (t - s) ≡ t - r = omega arith in
      let split : span line.list r (t - r) ≡ span line.list r (s - r) ++ span line.list (r + (s - r)) (t - s)
      = ap (span line.list r) (sym parts) ∙ span-split line.list r (s - r) (t - s) in
      agrees.each i (unwritten-first i (span line.list r (s - r)) (span line.list (r + (s - r)) (t - s)) (subst (IsUnwritten i) split none));
}

-- the image after segment b is that after segment a with those between put
pub image-between : (line : Line) (a b : ℕ) → line.first ≤ a → a ≤ b → image line b ≡ after (image line a) (span line.list a (b - a))
image-between line a b low high =
    let parts : (a - line.first) + (b - a) ≡ b - line.first = omega arith in
    let here : line.first + (a - line.first) ≡ a = omega arith in
    ap (after line.base) (ap (span line.list line.first) (sym parts) ∙ span-split line.list line.first (a - line.first) (b - a)
    ∙ ap (λ (c : ℕ). span line.list line.first (a - line.first) ++ span line.list c (b - a)) here)
    ∙ after-append line.base (span line.list line.first (a - line.first)) (span line.list a (b - a))

-- with those segments put it agrees with the image after the last of them
pub Agrees-put : (line : Line) (a b : ℕ) (y z : Image) → line.first ≤ a → a ≤ b → length y ≡ length line.base → Agrees line a b y
    → z ≡ after y (span line.list a (b - a)) → Agrees line b b z
Agrees-put line a b y z low high size agrees put = record { each = λ i none. each i }
  where
    entries : List HistoryEntry
    entries = span line.list a (b - a)

    stands : (i : ℕ) (last : Option (List ℕ)) → last_write i entries ≡ last → standing (sector y i) last ≡ standing (sector (image line a) i) last
    stands i (Some t) is = refl
    stands i None is = agrees.each i is

    sizes : length (image line a) ≡ length y
    sizes = length-after line.base (span line.list line.first (a - line.first)) ∙ sym size

    each : (i : ℕ) → sector z i ≡ sector (image line b) i
    each i = elim (cases_lt i (length y)) [
      | inl lt ↦
          ap (λ (x : Image). sector x i) put ∙ sector-after y entries i lt
          ∙ stands i (last_write i entries) refl
          ∙ sym (sector-after (image line a) entries i (omega (arith, sizes)))
          ∙ ap (λ (x : Image). sector x i) (sym (image-between line a b low high))
      | inr past ↦
          get_or_past z i [] (omega (arith, ap length put, length-after y entries))
          ∙ sym (get_or_past (image line b) i [] (omega (arith, ap length (image-between line a b low high), length-after (image line a) entries, sizes)))
    ]
