-- The run of segments that is kept, as one comes or goes.
use Rattle.std.proofs.Common.{ℕ, ◌≡◌, ◌⊎◌, ◌+◌, ◌-◌, ◌^◌, ◌<◌, ◌≤◌, List, [], ◌∷◌, ◌++◌, length, get_or, map, drop, refl, sym, ap, ◌∙◌, subst, inl, inr, arith}
use Rattle.std.specs.List.{All}
use Rattle.std.proofs.Math.ListN.{get_or-map}
use Rattle.std.proofs.lemmas.List.{length_push, get_or_append_left, get_or_push, length-map, length-drop, drop-drop}
use Rattle.std.proofs.lemmas.List.Elements.{All-nil, All-tail, All-push}
use Rattle.wb_log.specs.Kept.{Kept, IsKept}
use Rattle.wb_header.specs.declared.sealed.Meta.{Meta}

-- ---- lists with one more behind

pub All-before : {X : Type 0} (P : X → Type 0) (xs : List X) (x : X) → All P (xs ++ x ∷ []) → All P xs
All-before P xs x all k d below = subst P (get_or_append_left xs (x ∷ []) d k below) (all k d (omega (arith, below, length_push xs x)))

pub All-last : {X : Type 0} (P : X → Type 0) (xs : List X) (x : X) → All P (xs ++ x ∷ []) → P x
All-last P xs x all = subst P (get_or_push xs x x (length xs) refl) (all (length xs) x (omega (arith, length_push xs x)))

-- ---- the run

-- none is kept yet
pub kept_none : (slots places : ℕ) (kept : List (List Meta)) → places ≤ 127 → kept ≡ [] → IsKept (record { slots = slots; places = places; first = 0; kept = kept })
kept_none slots places kept few none =
    subst (λ (metas : List (List Meta)). IsKept (record { slots = slots; places = places; first = 0; kept = metas })) (sym none) (record {
      places_few = few;
      few = omega arith;
      fit = All-nil (λ (metas : List Meta). length metas ≤ places);
      ends = omega arith;
    })

-- the next is kept
pub kept_more : (state : Kept) (slots first id : ℕ) (metas : List Meta) (kept : List (List Meta)) → IsKept state → length state.kept < state.slots → length metas ≤ state.places
    → slots ≡ state.slots → first + length state.kept ≡ id → id < 2 ^ 63 → kept ≡ state.kept ++ metas ∷ []
    → IsKept (record { slots = slots; places = state.places; first = first; kept = kept })
kept_more state slots first id metas kept is room few same last below pushed =
    subst (λ (all : List (List Meta)). IsKept (record { slots = slots; places = state.places; first = first; kept = all })) (sym pushed) (record {
      places_few = is.places_few;
      few = omega (arith, length_push state.kept metas, room, same);
      fit = All-push (λ (ms : List Meta). length ms ≤ state.places) state.kept metas is.fit few;
      ends = omega (arith, length_push state.kept metas, last, below);
    })

-- the oldest goes
pub kept_fewer : (state : Kept) (slots : ℕ) (metas : List Meta) (kept : List (List Meta)) → IsKept state → state.kept ≡ metas ∷ kept → slots ≡ state.slots
    → IsKept (record { slots = slots; places = state.places; first = state.first + 1; kept = kept })
kept_fewer state slots metas kept is front same = record {
  places_few = is.places_few;
  few = omega (arith, ap length front, is.few, same);
  fit = All-tail (λ (ms : List Meta). length ms ≤ state.places) metas kept (subst (All (λ (ms : List Meta). length ms ≤ state.places)) front is.fit);
  ends = omega (arith, ap length front, is.ends);
}

-- no segment has more blocks than there are places
pub short_there : {X : Type 0} (metas_of : X → List Meta) (state : Kept) (kept : List X) (at : ℕ) (x : X) → IsKept state → state.kept ≡ map metas_of kept → at < length kept → x ≡ get_or kept at x
    → length (metas_of x) ≤ 127
short_there metas_of state kept at x is same below there =
    let fit : length (get_or state.kept at (metas_of x)) ≤ state.places = is.fit at (metas_of x) (omega (arith, ap length same, length-map kept metas_of, below)) in
    let here : get_or state.kept at (metas_of x) ≡ metas_of x = ap (λ (all : List (List Meta)). get_or all at (metas_of x)) same ∙ get_or-map metas_of kept at x ∙ ap metas_of (sym there) in
    omega (arith, fit, ap length here, is.places_few)

-- the next id is no less than the number of segments that are kept
pub next_last : (first id : ℕ) (kept : List (List Meta)) → (kept ≡ []) ⊎ (id ≡ first + length kept) → length kept ≤ id
next_last first id kept (inl none) = omega (arith, ap length none)
next_last first id kept (inr next) = omega (arith, next)

-- ---- those that go

-- The oldest are gone up to some id at most, and the run ends where it did.
pub record IsFewer (id : ℕ) (old now : Kept) : Type 0 where
  pub start : old.first ≤ now.first
  pub kept : now.kept ≡ drop (now.first - old.first) old.kept
  pub last : now.first + length now.kept ≡ old.first + length old.kept
  pub gone : now.first ≤ old.first + (id + 1 - old.first)
  pub slots : now.slots ≡ old.slots
  pub places : now.places ≡ old.places

pub fewer_none : (id : ℕ) (state : Kept) → IsFewer id state state
fewer_none id state = record {
  start = omega arith;
  kept = let none : state.first - state.first ≡ 0 = omega arith in rw none;
  last = refl;
  gone = omega arith;
  slots = refl;
  places = refl;
}

-- one more goes
pub fewer_more : (id : ℕ) (old now next : Kept) → IsFewer id old now → now.first ≤ id → 1 ≤ length now.kept → next.kept ≡ drop 1 now.kept → next.first ≡ now.first + 1
    → (next.slots ≡ now.slots) × (next.places ≡ now.places) → IsFewer id old next
fewer_more id old now next so_far upto some rest first sizes = record {
  start = omega (arith, so_far.start, first);
  kept = rest ∙ ap (drop 1) so_far.kept ∙ drop-drop 1 (now.first - old.first) old.kept
      ∙ ap (λ (n : ℕ). drop n old.kept) (let gone : now.first - old.first + 1 ≡ next.first - old.first = omega (arith, so_far.start, first) in gone);
  last = omega (arith, so_far.last, first, ap length rest, length-drop 1 now.kept, some);
  gone = omega (arith, so_far.start, so_far.gone, first, upto);
  slots = sizes.0 ∙ so_far.slots;
  places = sizes.1 ∙ so_far.places;
}
