-- A step that keeps the rule of the views keeps that of the table.
use Rattle.std.proofs.Common.{◌≡◌, ◌≢◌, ℕ, zero, suc, ◌<◌, List, [], ◌∷◌, ◌++◌, length, map, get_or, set, sym, ap, refl, ◌∙◌, subst, inl, inr, arith}
use Rattle.std.specs.Prelude.{Option, Some, None}
use Rattle.std.proofs.lemmas.List.{map-set, map_push}
use mathlib.Core.Option.{some, some-injective, some-ne-none}
use lib.ListN.{get_elem?}
use Rattle.atomic_table.specs.Table.{Me, Act, Valid, Allows, Splits, Joins, homes_after, carried_after}
use Rattle.atomic_table.proofs.Lists.{at_map, at_set}
use Rattle.wb_geometry.specs.History.{HistoryEntry}
use Rattle.wb_steps.specs.Rule.{Intake, IsLawful}
use Rattle.wb_steps.specs.declared.shape.Shape.{Shape}
use Rattle.wb_steps.specs.declared.view.View.{View}
use Rattle.wb_intake.specs.declared.sight.Sight.{Sight}
use Rattle.wb_steps.proofs.Cells.{at_append}
use Rattle.wb_intake.specs.declared.sight.Meeting.{Meeting}
use Rattle.wb_intake.specs.Sights.{plain, HasMet, Holds, founder}

abbrev pub S : Type 0
S = Option HistoryEntry

-- the views of the seats
abbrev pub seen : List Sight → List View
seen xs = map (λ x. x.view) xs

-- who met nobody
abbrev count : Option Meeting → ℕ
count None = 0
count (Some m) = 1

pub met_nobody : (w : Sight) → w.met ≡ None → HasMet w
met_nobody w none m is = let e : count None ≡ count (Some m) = ap count (sym none ∙ is) in absurd (omega (arith, e))

-- where a seat is given another sight, each seat has still had all of whom it met
met_set : (xs : List Sight) (id : ℕ) (w : Sight) → ((j : ℕ) (x : Sight) → get_elem? xs j ≡ some x → HasMet x) → HasMet w → (j : ℕ) (x : Sight) → get_elem? (set xs id w) j ≡ some x → HasMet x
met_set xs id w each new j x at = elim (at_set xs id j w x at) [
  | inl here ↦ subst HasMet here.1 new
  | inr there ↦ each j x there.1
]

-- one that met nobody else than before
pub met_still : (x w : Sight) → w.met ≡ x.met → HasMet x → HasMet w
met_still x w same had m is = had m (sym same ∙ is)

-- a step of the seat id in a state that keeps the rule: a new sight, by which it met nobody, and an act that keep it, and what it tells
pub lift : (k : Shape) (slots id : ℕ) (me : Me S Sight) (i : ℕ) (f : ℕ → ℕ) (then : ℕ → Me S Sight → Type 0)
    → ((s : Intake) → IsLawful k s → HasMet me.0 → length s.homes ≡ slots → get_elem? s.views id ≡ some me.0.view → get_or s.words i 0 < 18446744073709551616
    → (w : Sight) × (a : Act S) × Valid s.homes me.1 a × (w.met ≡ me.0.met)
    × IsLawful k record { words = set s.words i (f (get_or s.words i 0)); homes = homes_after s.homes me.1 a; views = set s.views id w.view }
    × then (get_or s.words i 0) (w, carried_after me.1 a))
    → Allows (Holds k) slots id me i f then
lift k slots id me i f then step s holds wide at fits =
    let had : HasMet me.0 = holds.1 id me.0 at in
    let r = step (plain s) holds.0 had wide (at_map (λ (x : Sight). x.view) s.views id me.0 at) fits in (
      r.0,
      r.1,
      r.2,
      (
        subst (λ (vs : List View). IsLawful k record { words = set s.words i (f (get_or s.words i 0)); homes = homes_after s.homes me.1 r.1; views = vs }) (sym (map-set (λ (x : Sight). x.view) s.views id r.0)) r.4,
        met_set s.views id r.0 holds.1 (met_still me.0 r.0 r.3 had),
      ),
      r.5,
    )

-- a seat is cut in two, by which nobody is met
pub lift_split : (k : Shape) (id : ℕ) (x left right : Sight) → left.met ≡ x.met → right.met ≡ None
    → ((s : Intake) → IsLawful k s → get_elem? s.views id ≡ some x.view → IsLawful k record { words = s.words; homes = s.homes; views = set s.views id left.view ++ right.view ∷ [] })
    → Splits (Holds k) id x left right
lift_split k id x left right same new step s holds at = (
  subst (λ (vs : List View). IsLawful k record { words = s.words; homes = s.homes; views = vs })
      (sym (map_push (λ (y : Sight). y.view) (set s.views id left) right ∙ ap (λ (vs : List View). vs ++ right.view ∷ []) (map-set (λ (y : Sight). y.view) s.views id left)))
      (step (plain s) holds.0 (at_map (λ (y : Sight). y.view) s.views id x at)),
  λ j y h. elim (at_append (set s.views id left) (right ∷ []) j y h) [
    | inl old ↦ met_set s.views id left holds.1 (met_still x left same (holds.1 id x at)) j y old
    | inr last ↦ subst HasMet (only right last.0 y last.2) (met_nobody right new)
  ],
)
  where
    only : (z : Sight) (i : ℕ) (y : Sight) → get_elem? (z ∷ []) i ≡ some y → z ≡ y
    only z zero y h = some-injective z y h
    only z (suc i) y h = absurd (some-ne-none y (sym h))

-- a seat receives another, which is spent
pub lift_join : (k : Shape) (id : ℕ) (x : Sight) (other : ℕ) (y both spent : Sight) → spent.met ≡ None
    → ((s : Intake) → IsLawful k s → HasMet x → get_elem? s.views id ≡ some x.view → other ≢ id → get_elem? (set s.views id both.view) other ≡ some y.view
    → IsLawful k record { words = s.words; homes = s.homes; views = set (set s.views id both.view) other spent.view } × HasMet both)
    → Joins (Holds k) id x other y both spent
lift_join k id x other y both spent new step s holds at apart there =
    let once : seen (set s.views id both) ≡ set (seen s.views) id both.view = map-set (λ (z : Sight). z.view) s.views id both in
    let r = step (plain s) holds.0 (holds.1 id x at) (at_map (λ (z : Sight). z.view) s.views id x at) apart (ap (λ (vs : List View). get_elem? vs other) (sym once) ∙ at_map (λ (z : Sight). z.view) (set s.views id both) other y there) in (
      subst (λ (vs : List View). IsLawful k record { words = s.words; homes = s.homes; views = vs }) (sym (map-set (λ (z : Sight). z.view) (set s.views id both) other spent ∙ ap (λ (vs : List View). set vs other spent.view) once)) r.0,
      met_set (set s.views id both) other spent (met_set s.views id both holds.1 r.1) (met_nobody spent new),
    )

-- the first seat met nobody
pub founder_met : (k : Shape) (j : ℕ) (x : Sight) → get_elem? (founder k ∷ []) j ≡ some x → HasMet x
founder_met k zero x at = subst HasMet (some-injective (founder k) x at) (met_nobody (founder k) refl)
founder_met k (suc j) x at = absurd (some-ne-none x (sym at))
