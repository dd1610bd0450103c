-- Counts of faults, at an exit and over several calls.
use Rattle.std.proofs.Common.{ℕ, ◌≡◌, ◌≤◌, ◌∙◌, arith}
use Rattle.wb_geometry.specs.Device.{CountsFaultsWhere, Rose}

-- the count stayed
pub counts_never : {Failed : Type 0} (before now : ℕ) → (Failed → ⊥) → now ≡ before → CountsFaultsWhere Failed before now
counts_never before now never same = record { later = omega (arith, same); failed = λ is. absurd (never is); kept = λ isnt. same }

-- it rose
pub counts_failed : {Failed : Type 0} (before mid now : ℕ) → mid ≡ before → mid ≤ now → Rose mid now → Failed → CountsFaultsWhere Failed before now
counts_failed before mid now same later rose is = record {
  later = omega (arith, same, later);
  failed = λ _. omega (arith, same, rose);
  kept = λ isnt. absurd (isnt is);
}

-- a call after others in which it stayed, and before others in which it stays
pub counts_between : {Failed Fails : Type 0} {before mid now after : ℕ} → mid ≡ before → after ≡ now → (Fails → Failed) → (Failed → Fails) → CountsFaultsWhere Failed mid now → CountsFaultsWhere Fails before after
counts_between kept stays there back counts = record {
  later = omega (arith, kept, stays, counts.later);
  failed = λ is. omega (arith, kept, stays, counts.failed (there is));
  kept = λ isnt. stays ∙ counts.kept (λ is. isnt (back is)) ∙ kept;
}
