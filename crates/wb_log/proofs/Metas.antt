-- What is kept of each segment, as one comes behind the others and as the oldest go.
use Rattle.std.proofs.Common.{ℕ, ◌≡◌, ◌⊎◌, ◌+◌, ◌-◌, ◌<◌, ◌≤◌, List, [], ◌∷◌, ◌++◌, length, get_or, drop, refl, ap, ◌∙◌, inl, inr, arith}
use Rattle.std.proofs.lemmas.List.{length_push, length-drop, get_or_append_left, get_or_push, get_or-drop}
use Rattle.wb_header.specs.declared.sealed.Meta.{Meta}
use Rattle.wb_log.specs.Kept.{Kept, IsThere, metas_at}

-- the segment that came is there
pub metas_of_last : (old new : Kept) (id : ℕ) (metas : List Meta) → new.kept ≡ old.kept ++ metas ∷ [] → new.first + length old.kept ≡ id → IsThere new id × (metas_at new id ≡ metas)
metas_of_last old new id metas kept last =
    let place : id - new.first ≡ length old.kept = omega (arith, last) in (
      (omega (arith, last), omega (arith, last, ap length kept, length_push old.kept metas)),
      ap (λ (n : ℕ). get_or new.kept n []) place
          ∙ ap (λ (all : List (List Meta)). get_or all (length old.kept) []) kept
          ∙ get_or_push old.kept metas [] (length old.kept) refl,
    )

-- and those before it are what they were
pub metas_before : (old new : Kept) (id other : ℕ) (metas : List Meta) → (old.kept ≡ []) ⊎ (id ≡ old.first + length old.kept) → new.kept ≡ old.kept ++ metas ∷ [] → new.first + length old.kept ≡ id
    → IsThere old other → IsThere new other × (metas_at new other ≡ metas_at old other)
metas_before old new id other metas (inl none) kept last there = absurd (omega (arith, ap length none, there.0, there.1))
metas_before old new id other metas (inr next) kept last there =
    let first : new.first ≡ old.first = omega (arith, last, next) in (
      (omega (arith, first, there.0), omega (arith, first, there.1, ap length kept, length_push old.kept metas)),
      ap (λ (n : ℕ). get_or new.kept (other - n) []) first
          ∙ ap (λ (all : List (List Meta)). get_or all (other - old.first) []) kept
          ∙ get_or_append_left old.kept (metas ∷ []) [] (other - old.first) (omega (arith, there.0, there.1)),
    )

-- where the segments up to one went, those behind it are what they were
pub metas_behind : (old new : Kept) (id other : ℕ) → new.kept ≡ drop (id + 1 - old.first) old.kept → new.first + length new.kept ≡ old.first + length old.kept
    → IsThere old other → id < other → IsThere new other × (metas_at new other ≡ metas_at old other)
metas_behind old new id other kept last there behind =
    let gone : ℕ = id + 1 - old.first in
    let many : length new.kept ≡ length old.kept - gone = ap length kept ∙ length-drop gone old.kept in
    let first : new.first ≡ old.first + gone = omega (arith, many, last, there.0, there.1, behind) in
    let place : gone + (other - new.first) ≡ other - old.first = omega (arith, first, there.0, behind) in (
      (omega (arith, first, there.0, behind), omega (arith, last, there.1)),
      ap (λ (all : List (List Meta)). get_or all (other - new.first) []) kept
          ∙ get_or-drop gone old.kept (other - new.first) []
          ∙ ap (λ (n : ℕ). get_or old.kept n []) place,
    )

-- and none up to it is there
pub metas_gone : (old new : Kept) (id other : ℕ) → new.kept ≡ drop (id + 1 - old.first) old.kept → new.first + length new.kept ≡ old.first + length old.kept → other ≤ id → IsThere new other → ⊥
metas_gone old new id other kept last upto there =
    absurd (omega (arith, ap length kept, length-drop (id + 1 - old.first) old.kept, last, upto, there.0, there.1))
