-- The faults of a device over a session, and what the session tells of them.
use Rattle.std.proofs.Common.{ℕ, ◌≡◌, ◌⊎◌, ◌≤◌, Bool, true, false, ◌||◌, Option, Some, None, IfSome, inl, inr, refl, ap, sym, ◌∙◌, subst, arith}
use Rattle.wb_geometry.specs.Device.{Rose, CountsFaultsWhere}
use Rattle.wb_geometry.specs.declared.which.Which.{Which}
use Rattle.wb_geometry.specs.declared.which.Which.TheVariants.{Log, Backing}
use Rattle.wb_geometry.proofs.Moments.{later_rose}
use Rattle.wb_serve.specs.Playing.{FaultsWent}
use Rattle.wb_serve.specs.Ending.{is_down_by}

-- ---- the device that is down

cases_down : (o : Option Which) → (o ≡ None) ⊎ ((which : Which) × (o ≡ Some which))
cases_down None = inl refl
cases_down (Some which) = inr (which, refl)

pub some_of : (P : Which → Type 0) {o : Option Which} {which : Which} → IfSome o P → o ≡ Some which → P which
some_of P {o} {which} holds is = subst (λ (p : Option Which). IfSome p P) is holds

is_down : (device : Which) (fault : Option Which) → is_down_by device fault ≡ true → fault ≡ Some device
is_down Log None is = absurd (cc)
is_down Log (Some Log) is = refl
is_down Log (Some Backing) is = absurd (cc)
is_down Backing None is = absurd (cc)
is_down Backing (Some Log) is = absurd (cc)
is_down Backing (Some Backing) is = refl

pub down_is : (device : Which) (fault : Option Which) → fault ≡ Some device → is_down_by device fault ≡ true
down_is Log fault is = ap (is_down_by Log) is
down_is Backing fault is = ap (is_down_by Backing) is

pub no_fault : (fault : Option Which) → is_down_by Log fault ≡ false → is_down_by Backing fault ≡ false → fault ≡ None
no_fault None log backing = refl
no_fault (Some Log) log backing = absurd (cc)
no_fault (Some Backing) log backing = absurd (cc)

-- ---- flags

pub either_false : (a b : Bool) → (a || b) ≡ false → (a ≡ false) × (b ≡ false)
either_false true b is = absurd (cc)
either_false false b is = (refl, is)

either_true : (a b : Bool) → (a || b) ≡ true → (a ≡ true) ⊎ (b ≡ true)
either_true true b is = inl refl
either_true false b is = inr is

pub second_true : (a b : Bool) → b ≡ true → (a || b) ≡ true
second_true true b is = refl
second_true false b is = is

not_true : (a : Bool) → (a ≡ true → ⊥) → a ≡ false
not_true true never = absurd (never refl)
not_true false never = refl

-- ---- counts

-- The count of a device's faults as the engine, which was down by this device if by any, was closed, and this fault was told.
pub record FaultsEnd (device : Which) (fault down : Option Which) (before now : ℕ) : Type 0 where
  pub was_down : IfSome down (λ which. (fault ≡ Some which) × (now ≡ before))
  pub cause : down ≡ None → CountsFaultsWhere (fault ≡ Some device) before now

pub end_later : {device : Which} {fault down : Option Which} {before now : ℕ} → FaultsEnd device fault down before now → before ≤ now
end_later {device} {fault} {down} {before} {now} ends = elim (cases_down down) [
  | inl up ↦ (ends.cause up).later
  | inr is ↦ let kept = (some_of _ ends.was_down is.1).1 in omega (arith, kept)
]

end_rose : {device : Which} {fails : ℕ} {fault down : Option Which} {before mid now : ℕ} → FaultsWent device fails None down before mid → FaultsEnd device fault down mid now
    → fault ≡ Some device → Rose before now
end_rose {device} {fails} {fault} {down} {before} {mid} {now} went ends failed = elim (cases_down down) [
  | inl up ↦ later_rose before mid now went.later ((ends.cause up).failed failed)
  | inr is ↦
      let by : down ≡ Some device = is.1 ∙ sym (some_of _ ends.was_down is.1).0 ∙ failed in
      let rose = went.goes_down (λ none. cc) by in let later = end_later ends in omega (arith, rose, later)
]

end_fine : {device : Which} {fails : ℕ} {fault down : Option Which} {before mid now : ℕ} → FaultsWent device fails None down before mid → FaultsEnd device fault down mid now
    → fails ≡ 0 → (fault ≡ Some device → ⊥) → now ≡ before
end_fine {device} {fails} {fault} {down} {before} {mid} {now} went ends zero other = elim (cases_down down) [
  | inl up ↦ (ends.cause up).kept other ∙ went.fine zero (λ is. let both : None ≡ Some device = sym up ∙ is in cc)
  | inr is ↦
      let ended = some_of _ ends.was_down is.1 in
      ended.1 ∙ went.fine zero (λ by. other (ended.0 ∙ sym is.1 ∙ by))
]

-- what is told of the device: a read of it failed, or it is the one by which the engine went down
pub cause_told : {device : Which} {fails : ℕ} {fault down : Option Which} {before mid now : ℕ} (read failed : Bool) → FaultsWent device fails None down before mid → FaultsEnd device fault down mid now
    → (read ≡ true → 1 ≤ fails) → (read ≡ false → fails ≡ 0) → failed ≡ (read || is_down_by device fault) → CountsFaultsWhere (failed ≡ true) before now
cause_told {device} {fails} {fault} {down} {before} {mid} {now} read failed went ends some none told =
    let later = end_later ends in
    record {
      later = omega (arith, went.later, later);
      failed = λ is. elim (either_true read (is_down_by device fault) (sym told ∙ is)) [
        | inl reads ↦ let times = some reads in omega (arith, times, went.failed, later)
        | inr down ↦ end_rose went ends (is_down device fault down)
      ];
      kept = λ never.
          let fine = either_false read (is_down_by device fault) (sym told ∙ not_true failed never) in
          end_fine went ends (none fine.0) (λ is. let both : true ≡ false = sym (down_is device fault is) ∙ fine.1 in cc);
    }
