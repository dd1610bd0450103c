-- The segments in memory stand for those of a history, as one comes, is filled, or goes.
use Rattle.std.proofs.Common.{ℕ, suc, ◌≡◌, ◌+◌, ◌<◌, List, [], ◌∷◌, ◌++◌, length, Option, inl, inr, refl, ap, sym, ◌∙◌, subst, arith}
use Rattle.std.proofs.lemmas.Bool.{cases_lt}
use Rattle.std.proofs.lemmas.List.{length_push, get_or_append_left, get_or_push}
use Rattle.wb_geometry.specs.History.{HistoryEntry, later, last_write}
use Rattle.wb_geometry.specs.Line.{span}
use Rattle.wb_geometry.proofs.Histories.{last_write-append}
use Rattle.wb_header.specs.Segments.{Segment}
use Rattle.wb_header.specs.Standing.{StandsFor, entries_of}
use Rattle.wb_memory.specs.Memory.{segment_at, no_segment, kept_entries}

-- each segment stands for that of its id
abbrev pub AreHeld : (ℕ → List HistoryEntry) → List Segment → Type 0
AreHeld list segments = (j : ℕ) → j < length segments → StandsFor (segment_at segments j).blocks (list (segment_at segments j).id)

-- the ids follow one another
abbrev pub AreInTurn : ℕ → List Segment → Type 0
AreInTurn from segments = (j : ℕ) → j < length segments → (segment_at segments j).id ≡ from + 1 + j

pub at_front : (xs : List Segment) (x : Segment) (j : ℕ) → j < length xs → segment_at (xs ++ x ∷ []) j ≡ segment_at xs j
at_front xs x j lt = get_or_append_left xs (x ∷ []) no_segment j lt

pub at_last : (xs : List Segment) (x : Segment) → segment_at (xs ++ x ∷ []) (length xs) ≡ x
at_last xs x = get_or_push xs x no_segment (length xs) refl

-- one more behind them
pub held_push : (list : ℕ → List HistoryEntry) (xs : List Segment) (x : Segment) → AreHeld list xs → StandsFor x.blocks (list x.id) → AreHeld list (xs ++ x ∷ [])
held_push list xs x held last j lt = elim (cases_lt j (length xs)) [
  | inl before ↦ subst (λ (s : Segment). StandsFor s.blocks (list s.id)) (sym (at_front xs x j before)) (held j before)
  | inr past ↦
      let here : j ≡ length xs = omega (arith, length_push xs x) in
      subst (λ (s : Segment). StandsFor s.blocks (list s.id)) (sym (ap (segment_at (xs ++ x ∷ [])) here ∙ at_last xs x)) last
]

pub held_front : (list : ℕ → List HistoryEntry) (xs : List Segment) (x : Segment) → AreHeld list (xs ++ x ∷ []) → AreHeld list xs
held_front list xs x held j lt =
    subst (λ (s : Segment). StandsFor s.blocks (list s.id)) (at_front xs x j lt) (held j (omega (arith, length_push xs x)))

pub held_last : (list : ℕ → List HistoryEntry) (xs : List Segment) (x : Segment) → AreHeld list (xs ++ x ∷ []) → StandsFor x.blocks (list x.id)
held_last list xs x held =
    subst (λ (s : Segment). StandsFor s.blocks (list s.id)) (at_last xs x) (held (length xs) (omega (arith, length_push xs x)))

-- the first of them, and the others
pub held_first : (list : ℕ → List HistoryEntry) (x : Segment) (xs : List Segment) → AreHeld list (x ∷ xs) → StandsFor x.blocks (list x.id)
held_first list x xs held = held 0 (omega arith)

pub held_rest : (list : ℕ → List HistoryEntry) (x : Segment) (xs : List Segment) → AreHeld list (x ∷ xs) → AreHeld list xs
held_rest list x xs held j lt = held (suc j) (omega arith)

-- the same of another history with the same segments
pub held_same : (list other : ℕ → List HistoryEntry) (xs : List Segment) → ((j : ℕ) → j < length xs → other (segment_at xs j).id ≡ list (segment_at xs j).id)
    → AreHeld list xs → AreHeld other xs
held_same list other xs same held j lt = subst (StandsFor (segment_at xs j).blocks) (sym (same j lt)) (held j lt)

-- ids

pub turn_front : (from : ℕ) (xs : List Segment) (x : Segment) → AreInTurn from (xs ++ x ∷ []) → AreInTurn from xs
turn_front from xs x turn j lt = ap (λ (s : Segment). s.id) (sym (at_front xs x j lt)) ∙ turn j (omega (arith, length_push xs x))

pub turn_last : (from : ℕ) (xs : List Segment) (x : Segment) → AreInTurn from (xs ++ x ∷ []) → x.id ≡ from + 1 + length xs
turn_last from xs x turn = ap (λ (s : Segment). s.id) (sym (at_last xs x)) ∙ turn (length xs) (omega (arith, length_push xs x))

pub turn_push : (from : ℕ) (xs : List Segment) (x : Segment) → AreInTurn from xs → x.id ≡ from + 1 + length xs → AreInTurn from (xs ++ x ∷ [])
turn_push from xs x turn is j lt = elim (cases_lt j (length xs)) [
  | inl before ↦ ap (λ (s : Segment). s.id) (at_front xs x j before) ∙ turn j before
  | inr past ↦
      let here : j ≡ length xs = omega (arith, length_push xs x) in
      ap (λ (i : ℕ). (segment_at (xs ++ x ∷ []) i).id) here ∙ ap (λ (s : Segment). s.id) (at_last xs x) ∙ is ∙ ap (λ (i : ℕ). from + 1 + i) (sym here)
]

pub turn_rest : (from : ℕ) (x : Segment) (xs : List Segment) → AreInTurn from (x ∷ xs) → AreInTurn (from + 1) xs
turn_rest from x xs turn j lt = turn (suc j) (omega arith) ∙ (let z : from + 1 + suc j ≡ from + 1 + 1 + j = omega arith in z)

-- ---- what they keep

-- one after another they keep the last write of each sector
pub last_write-held : (list : ℕ → List HistoryEntry) (k from : ℕ) (segments : List Segment) → AreInTurn from segments → AreHeld list segments
    → last_write k (kept_entries segments) ≡ last_write k (span list from (length segments))
last_write-held list k from [] turn held = refl
last_write-held list k from (s ∷ segments) turn held =
    let first : s.id ≡ suc from = turn 0 (omega arith) ∙ (let z : from + 1 + 0 ≡ suc from = omega arith in z) in
    let next : from + 1 ≡ suc from = omega arith in
    let here : last_write k (entries_of s.blocks) ≡ last_write k (list (suc from)) =
    (held_first list s segments held).each k ∙ ap (λ (id : ℕ). last_write k (list id)) first in
    let rest : last_write k (kept_entries segments) ≡ last_write k (span list (suc from) (length segments)) =
    last_write-held list k (from + 1) segments (turn_rest from s segments turn) (held_rest list s segments held)
    ∙ ap (λ (a : ℕ). last_write k (span list a (length segments))) next in
    last_write-append k (entries_of s.blocks) (kept_entries segments)
    ∙ ap (λ (last : Option (List ℕ)). later last (last_write k (kept_entries segments))) here
    ∙ ap (later (last_write k (list (suc from)))) rest
    ∙ sym (last_write-append k (list (suc from)) (span list (suc from) (length segments)))
