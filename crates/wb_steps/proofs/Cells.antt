-- What the rule says of single cells, and lists that are read at a place.
use Rattle.std.proofs.Common.{◌≡◌, ◌⊎◌, ℕ, zero, suc, ◌+◌, ◌*◌, ◌/◌, ◌%◌, ◌^◌, ◌<◌, ◌≤◌, List, [], ◌∷◌, ◌++◌, length, map, get_or, set, sym, ap, refl, ◌∙◌, subst, inl, inr, suc-mul, div-add-mod', arith}
use Rattle.std.specs.List.{All, Contains, enumerate_from}
use Rattle.std.specs.Prelude.{None}
use Rattle.std.proofs.lemmas.Bool.{cases_eq, cases_lt}
use Rattle.std.proofs.lemmas.List.{get_or-set_other, length-append}
use Rattle.std.proofs.Math.Nat.{div-eq_of_lt-le}
use mathlib.Core.Option.{some, none, some-injective, some-ne-none}
use mathlib.Core.Option as maybe
use lib.ListN.{get_elem?}
use Rattle.atomic_table.proofs.Lists.{at_longer, one_turn}
use Rattle.wb_geometry.specs.History.{HistoryEntry, Write, Void}
use Rattle.wb_steps.specs.Rule.{Home, cells, cell_word, segment_at, MayStand, Phase, free, claimed, filling, filled, taken, InPhase, Truth, IsSound}
use Rattle.wb_steps.specs.declared.shape.Shape.{Shape}
use Rattle.wb_steps.proofs.Lists.{Contains-first, Contains-more, Contains-none, Contains-cases}

module _ {X : Type 0} where
  pub inside_of : (xs : List X) (i : ℕ) (x : X) → get_elem? xs i ≡ some x → i < length xs
  inside_of [] i x e = absurd (some-ne-none x (sym e))
  inside_of (y ∷ ys) zero x e = omega arith
  inside_of (y ∷ ys) (suc i) x e = let h = inside_of ys i x e in omega (arith, h)

  pub there : (xs : List X) (i : ℕ) → i < length xs → (x : X) × (get_elem? xs i ≡ some x)
  there [] i h = absurd (omega arith)
  there (x ∷ xs) zero h = (x, refl)
  there (x ∷ xs) (suc i) h = there xs i (omega arith)

  pub at_append : (xs ys : List X) (i : ℕ) (x : X) → get_elem? (xs ++ ys) i ≡ some x → (get_elem? xs i ≡ some x) ⊎ ((j : ℕ) × (i ≡ length xs + j) × (get_elem? ys j ≡ some x))
  at_append [] ys i x e = inr (i, omega arith, e)
  at_append (y ∷ xs) ys zero x e = inl e
  at_append (y ∷ xs) ys (suc i) x e = elim (at_append xs ys i x e) [
    | inl here ↦ inl here
    | inr more ↦ inr (more.0, omega (arith, more.1), more.2)
  ]

  pub All_at : (P : X → Type 0) (xs : List X) (i : ℕ) (x : X) → All P xs → get_elem? xs i ≡ some x → P x
  All_at P [] i x all e = absurd (some-ne-none x (sym e))
  All_at P (y ∷ xs) zero x all e = subst P (some-injective y x e) (all 0 y (omega arith))
  All_at P (y ∷ xs) (suc i) x all e = All_at P xs i x (λ k d h. all (suc k) d (omega arith)) e

-- the places of entries that stand one behind another
pub places_in : (a : ℕ) (es : List HistoryEntry) (p : ℕ) → Contains (map (λ m. m.0) (enumerate_from a es)) p → (a ≤ p) × (p < a + length es)
places_in a [] p h = absurd (Contains-none p h)
places_in a (e ∷ es) p h = elim (Contains-cases a (map (λ m. m.0) (enumerate_from (a + 1) es)) p h) [
  | inl is ↦ (omega (arith, is), omega (arith, is))
  | inr more ↦ let r = places_in (a + 1) es p more in (omega (arith, r.0), omega (arith, r.1))
]

pub places_of : (a : ℕ) (es : List HistoryEntry) (p : ℕ) → a ≤ p → p < a + length es → Contains (map (λ m. m.0) (enumerate_from a es)) p
places_of a [] p h h' = absurd (omega (arith, h, h'))
places_of a (e ∷ es) p h h' = elim (cases_eq a p) [
  | inl is ↦ subst (λ (q : ℕ). Contains (a ∷ map (λ m. m.0) (enumerate_from (a + 1) es)) q) is (Contains-first a (map (λ m. m.0) (enumerate_from (a + 1) es)))
  | inr other ↦ Contains-more a (map (λ m. m.0) (enumerate_from (a + 1) es)) p (places_of (a + 1) es p (omega arith) (omega arith))
]

-- places that are named have entries that may stand there, so their ids are small enough
pub stand_segment : (k : Shape) (p : ℕ) (e : HistoryEntry) → MayStand k p e → segment_at k p ≤ 2 ^ 48
stand_segment k p (Write client block bits payload) h = h.0
stand_segment k p (Void client) h = h.0

-- the last segment below a whole number of segments
pub within_turn : (n b q : ℕ) → 0 < n → b % n ≡ 0 → q < b → b ≤ q + n → q / n + 1 ≡ b / n
within_turn n b q pos whole below near = at_turn (b / n) (let e : b / n * n + b % n ≡ b = div-add-mod' b n in let x : ℕ = b / n * n in let e' : x + b % n ≡ b = e in let g : x ≡ b = omega arith in g)
  where
    at_turn : (y : ℕ) → y * n ≡ b → q / n + 1 ≡ y
    at_turn zero e = absurd (omega (arith, e))
    at_turn (suc y) e = let m : suc y * n ≡ y * n + n = suc-mul y n in let x : ℕ = y * n in
        let low : y * n ≤ q = (let e' : x + n ≡ b = sym m ∙ e in let g : x ≤ q = omega arith in g) in
        let plus : y + 1 ≡ suc y = omega arith in
        let high : q < (y + 1) * n = (let e' : (y + 1) * n ≡ b = ap (λ (z : ℕ). z * n) plus ∙ e in omega (arith, e')) in
        let r : q / n ≡ y = div-eq_of_lt-le {k = y} n {m = q} low high in omega (arith, r)

-- a whole number of segments below a limit plus one segment is at most the limit
pub whole_below : (n b limit : ℕ) → b % n ≡ 0 → limit % n ≡ 0 → b < limit + n → b ≤ limit
whole_below n b limit whole whole' below = elim (cases_lt limit b) [
  | inl more ↦ let e : limit ≡ b = one_turn limit b n (omega arith) below (whole' ∙ sym whole) in omega (arith, e)
  | inr less ↦ less
]

-- a place that no entry has is free
pub is_free : (log drained : List HistoryEntry) (word : ℕ) (home : maybe.Option Home) (p : ℕ) (f : Phase) → length log ≤ p → InPhase log drained word home p f
    → (f ≡ free) × (word ≡ 0) × (home ≡ some (some None))
is_free log drained word home p free h c = (refl, c.1, c.2)
is_free log drained word home p (claimed j) h c = absurd (omega (arith, h, c.0))
is_free log drained word home p (filling j) h c = absurd (omega (arith, h, c.0))
is_free log drained word home p filled h c = absurd (omega (arith, h, c.0))
is_free log drained word home p taken h c = absurd (omega (arith, h, c.0))

-- what holds of a place still holds where more entries are named, but not at this place
pub phase_longer : (log more drained : List HistoryEntry) (word : ℕ) (home : maybe.Option Home) (p : ℕ) (f : Phase) → (p < length log) ⊎ (length (log ++ more) ≤ p)
    → InPhase log drained word home p f → InPhase (log ++ more) drained word home p f
phase_longer log more drained word home p free where' c = (elim where' [ inl low ↦ absurd (omega (arith, low, c.0)) | inr high ↦ high ], c.1, c.2)
phase_longer log more drained word home p (claimed j) where' c = (omega (arith, c.0, length-append log more), c.1, c.2)
phase_longer log more drained word home p (filling j) where' c = (omega (arith, c.0, length-append log more), c.1, c.2)
phase_longer log more drained word home p filled where' c = (omega (arith, c.0, length-append log more), c.1, (c.2.0, at_longer log more p c.2.0 c.2.1, c.2.2))
phase_longer log more drained word home p taken where' c = (omega (arith, c.0, length-append log more), c.1, c.2, c.3)

-- the word of a cell is none of the first four
pub cell_word_else : (k : Shape) (words : List ℕ) (i x p : ℕ) → i < 4 → get_or (set words i x) (cell_word k p) 0 ≡ get_or words (cell_word k p) 0
cell_word_else k words i x p h = get_or-set_other words i (cell_word k p) x 0 (λ e. omega (arith, e))

-- the next place to drain is taken only where it has an entry
pub taken_inside : (k : Shape) (t : Truth) (words : List ℕ) (homes : List Home) → IsSound k t words homes → t.phase (length t.drained) ≡ taken → length t.drained < length t.log
taken_inside k t words homes h e =
    let d : ℕ = length t.drained in
    let c = h.each_cell d (omega arith) (omega (arith, h.some_cell)) in
    (subst (InPhase t.log t.drained (get_or words (cell_word k d) 0) (get_elem? homes (d % cells k)) d) e c).0

-- one place has one value
pub at_one : {X : Type 0} (xs : List X) (i : ℕ) (x y : X) → get_elem? xs i ≡ some x → get_elem? xs i ≡ some y → x ≡ y
at_one xs i x y a b = some-injective x y (sym a ∙ b)

-- the value that is read at a place is the one that is there
pub read_one : {X : Type 0} (xs : List X) (i : ℕ) (x y : X) → i < length xs → x ≡ get_or xs i x → get_elem? xs i ≡ some y → x ≡ y
read_one xs i x y h e at = at_one xs i x y (Rattle.atomic_table.proofs.Lists.at_index xs i x h e) at

-- what is read of a slice is read of the list
pub view_at : {X : Type 0} (xs slice : List X) (i : ℕ) (x : X) → slice ≡ xs → i < length slice → x ≡ get_or slice i x → get_elem? xs i ≡ some x
view_at {X} xs slice i x e h r = ap (λ (l : List X). get_elem? l i) (sym e) ∙ Rattle.atomic_table.proofs.Lists.at_index slice i x h r
