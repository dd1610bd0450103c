-- The eight spots of a block, one after the other.
use Rattle.std.proofs.Common.{◌≡◌, ◌≢◌, ℕ, ◌+◌, ◌/◌, ◌^◌, ◌<◌, ◌≤◌, true, bit_and, if◌then◌else◌, sym, ap, ◌∙◌, subst, inl, inr, arith, eq-eqb, le-leb}
use Rattle.std.proofs.lemmas.Bool.{cases_eq, ne_eqb, lt-leb}
use Rattle.std.proofs.lemmas.Nat.Bits.{shr_and_one}
use Rattle.std.specs.Int.{bit_at}
use Rattle.wb_geometry.specs.declared.spot.Spot.{Spot}
use Rattle.wb_table.specs.Lookup.{nowhere, noted, kept_after}

-- One step of a walk over the sectors: those before i are as they are to be, the others as they were, and the step makes
-- the one at i as it is to be.
module _ {X : Type 0} (wanted initial old new : ℕ → X) (i : ℕ) (done : (k : ℕ) → k < i → old k ≡ wanted k) (rest : (k : ℕ) → i ≤ k → old k ≡ initial k)
    (here : new i ≡ wanted i) (others : (k : ℕ) → k ≢ i → new k ≡ old k) where
  pub step_done : (k : ℕ) → k < i + 1 → new k ≡ wanted k
  step_done k low = elim (cases_eq k i) [
    | inl same ↦ subst (λ at. new at ≡ wanted at) (sym same) here
    | inr other ↦ others k other ∙ done k (omega arith)
  ]

  pub step_rest : (k : ℕ) → i + 1 ≤ k → new k ≡ initial k
  step_rest k high = others k (λ same. omega arith) ∙ rest k (omega arith)

-- a sector whose bit is set has the noted spot
pub noted-set : (old : Spot) (bits i : ℕ) (spot : Spot) → bit_and (bits / 2 ^ i) 1 ≡ 1 → noted old true bits i spot ≡ spot
noted-set old bits i spot set = ap (λ b. if b then spot else old) (eq-eqb (bit_at bits i) 1 (sym (shr_and_one bits i) ∙ set))

-- and all others keep theirs
pub noted-clear : (old : Spot) (bits i : ℕ) (spot : Spot) → (bit_and (bits / 2 ^ i) 1 ≡ 1 → ⊥) → noted old true bits i spot ≡ old
noted-clear old bits i spot clear = ap (λ b. if b then spot else old) (ne_eqb (bit_at bits i) 1 (λ set. clear (shr_and_one bits i ∙ set)))

-- a spot in a forgotten segment goes
pub kept_after-gone : (id : ℕ) (spot : Spot) → spot.id ≤ id → kept_after id spot ≡ nowhere
kept_after-gone id spot low = ap (λ b. if b then nowhere else spot) (le-leb spot.id id low)

-- and one in a later segment stays
pub kept_after-stays : (id : ℕ) (spot : Spot) → id < spot.id → kept_after id spot ≡ spot
kept_after-stays id spot high = ap (λ b. if b then nowhere else spot) (lt-leb spot.id id high)
