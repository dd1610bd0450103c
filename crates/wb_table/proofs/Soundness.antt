-- A table stands for a lookup table.
use Rattle.std.proofs.Common.{◌≡◌, ℕ, ◌<◌, ◌≤◌, ◌⊎◌, inl, inr, Option, Some, None, IsSome, Contains, refl, sym, ap, ◌∙◌, subst, arith, true≢false, eq-eqb, nat_eq}
use Rattle.std.proofs.lemmas.Bool.{eqb-true}
use Rattle.std.proofs.lemmas.Cmp.{nat_eq_equiv}
use Rattle.std.proofs.lemmas.List.{get_or-replicate}
use Rattle.std.proofs.lemmas.Map.Entries.{length-keys_of}
use Rattle.std.proofs.lemmas.Map.Keys.{apart_from_distinct}
use Rattle.std.proofs.lemmas.Map.Views.{Contains-keys_from_lookup, IsSome-lookup_from_Contains}
use Rattle.std.specs.Map.{keys_of}
use Rattle.std.specs.Option.{option_map_or, unwrap_or, is_some}
use Rattle.wb_table.specs.Keeping.{IsFilled}
use Rattle.wb_table.specs.Lookup.{IsLookup, nowhere}
use Rattle.wb_table.specs.Tables.{BlockTable, IsTable, spots_in, spot_in, spot_of, lookup_of, no_spots, IsTidy}
use Rattle.wb_table.specs.declared.spots.Spots.{Spots}

-- a look-up finds nothing or something
pub found_or_not : (found : Option Spots) → (found ≡ None) ⊎ ((spots : Spots) × (found ≡ Some spots))
found_or_not None = inl refl
found_or_not (Some spots) = inr (spots, refl)

pub none_isn't_some : {found : Option Spots} → found ≡ None → IsSome found → ⊥
none_isn't_some none some = true≢false (sym (subst IsSome none some))

pub some_is_some : {found : Option Spots} {spots : Spots} → found ≡ Some spots → IsSome found
some_is_some is = ap is_some is

module _ (table : BlockTable) (block : ℕ) where
  -- the spot of a sector of a block that is there, and of one that isn't
  pub spot_there : (spots : Spots) (i : ℕ) → spots_in table block ≡ Some spots → spot_in table block i ≡ spot_of spots i
  spot_there spots i is = ap (λ found. option_map_or (λ s. spot_of s i) found nowhere) is

  pub spot_elsewhere : (i : ℕ) → spots_in table block ≡ None → spot_in table block i ≡ nowhere
  spot_elsewhere i is = ap (λ found. option_map_or (λ s. spot_of s i) found nowhere) is

  pub there_from_lookup : IsSome (spots_in table block) → Contains (keys_of table.entries) block
  there_from_lookup some = Contains-keys_from_lookup eqb-true block table.entries some

  pub lookup_from_there : Contains (keys_of table.entries) block → IsSome (spots_in table block)
  lookup_from_there there = IsSome-lookup_from_Contains nat_eq_equiv block table.entries there

  -- a block with a spot in a segment is there
  pub there_from_spot : (i : ℕ) → 1 ≤ (spot_in table block i).id → (spots : Spots) × (spots_in table block ≡ Some spots)
  there_from_spot i high = elim (found_or_not (spots_in table block)) [
    | inl none ↦ absurd (let zero : (spot_in table block i).id ≡ 0 = ap (λ spot. spot.id) (spot_elsewhere i none) in omega (arith, zero))
    | inr some ↦ some
  ]

-- no sector of these spots is in a segment
pub spot_of-no_spots : (i : ℕ) → i < 8 → spot_of no_spots i ≡ nowhere
spot_of-no_spots i low = λ j. record { id = get_or-replicate 8 i 0 0 low j; index = get_or-replicate 8 i 0 0 low j }

-- what stands for a block, whether it is there or not
pub spot_or_none : (found : Option Spots) (i : ℕ) → i < 8 → spot_of (unwrap_or found no_spots) i ≡ option_map_or (λ s. spot_of s i) found nowhere
spot_or_none None i low = spot_of-no_spots i low
spot_or_none (Some spots) i low = refl

-- a tidy sector in no segment is on the backing device
pub tidy_nowhere : (spots : Spots) (i : ℕ) → IsTidy spots → i < 8 → (spot_of spots i).id ≡ 0 → spot_of spots i ≡ nowhere
tidy_nowhere spots i tidy low zero = λ j. record { id = zero j; index = tidy i low zero j }

pub lookup_sound : (table : BlockTable) → IsTable table → IsFilled table → IsLookup (lookup_of table)
lookup_sound table sound filled = record {
  once = λ i j low high same. true≢false (sym (eq-eqb _ _ same) ∙ apart_from_distinct nat_eq (keys_of table.entries) i j 0 sound.once low high);
  fits = omega (arith, length-keys_of table.entries, sound.fits);
  there = λ block there. elim (found_or_not (spots_in table block)) [
    | inl none ↦ absurd (none_isn't_some none (lookup_from_there table block there))
    | inr some ↦
        let at = filled.there block some.0 some.1 in
        (at.0, at.1, subst (λ spot. 1 ≤ spot.id) (sym (spot_there table block some.0 at.0 some.1)) at.2)
  ];
  other = λ block i low high. there_from_lookup table block (some_is_some (there_from_spot table block i high).1);
  none = λ block i low zero. elim (found_or_not (spots_in table block)) [
    | inl none ↦ spot_elsewhere table block i none
    | inr some ↦
        let is = spot_there table block some.0 i some.1 in
        is ∙ tidy_nowhere some.0 i (filled.tidy block some.0 some.1) low (ap (λ spot. spot.id) (sym is) ∙ zero)
  ];
}
