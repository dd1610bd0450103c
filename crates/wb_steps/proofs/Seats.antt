-- The drain and the owners stay where they are.
use Rattle.std.proofs.Common.{◌≡◌, ◌≢◌, ℕ, zero, suc, ◌+◌, List, [], ◌∷◌, length, set, Bool, true, false, cond, eqb, sym, ap, refl, ◌∙◌, subst, arith}
use Rattle.std.specs.Prelude.{Some, None}
use mathlib.Core.Option.{some, none}
use mathlib.Core.Option as maybe
use lib.ListN.{get_elem?}
use Rattle.atomic_table.proofs.Lists.{set_else}
use Rattle.wb_steps.specs.Views.{copy, telling, note_of, hearing, spent}
use Rattle.wb_steps.specs.Rule.{Intake, Home, IsOwned, IsDrainAt}
use Rattle.wb_steps.specs.Machines.{known_at}
use Rattle.wb_steps.specs.Steps.{Allows, seeing, take_out, Effect, effect, split, join, views_after}
use Rattle.wb_steps.specs.declared.shape.Shape.{Shape}
use Rattle.wb_steps.specs.declared.view.View.{View}
use Rattle.wb_steps.specs.declared.view.Role.{Role}
use Rattle.wb_steps.specs.declared.view.Role.TheVariants.{Owner, Copy, Drain, Spent}
use Rattle.wb_steps.specs.declared.steps.Kind.{Kind}
use Rattle.wb_steps.specs.declared.steps.Kind.TheVariants as kind
use Rattle.wb_steps.proofs.Cells.{at_one}
use Rattle.wb_steps.proofs.Copies.{roles_apart}
use Rattle.wb_steps.proofs.Fitting.{IsSeat, seat_set, seat_more}

-- a step changes neither the role nor the client of its own seat
abbrev IsSame : View → View → Type 0
IsSame v w = (w.role ≡ v.role) × (w.client ≡ v.client)

seeing_same : (v : View) (word r : ℕ) → IsSame v (seeing v word r)
seeing_same v zero r = (refl, refl)
seeing_same v (suc zero) r = (refl, refl)
seeing_same v (suc (suc zero)) r = (refl, refl)
seeing_same v (suc (suc (suc word))) r = (refl, refl)

cond_same : (b : Bool) (x y : Effect) (v : View) → IsSame v x.view → IsSame v y.view → IsSame v (cond b x y).view
cond_same true x y v e f = e
cond_same false x y v e f = f

take_same : (words : List ℕ) (homes : List Home) (cell : ℕ) (v : View) (h : maybe.Option Home) → IsSame v (take_out words homes cell v h).view
take_same words homes cell v none = (refl, refl)
take_same words homes cell v (some none) = (refl, refl)
take_same words homes cell v (some (some None)) = (refl, refl)
take_same words homes cell v (some (some (Some e))) = (refl, refl)

effect_same : (k : Shape) (words : List ℕ) (homes : List Home) (v : View) (r : ℕ) (what : Kind) → IsSame v (effect k words homes v r what).view
effect_same k words homes v r (kind.Claim expected entry) = cond_same (eqb r expected) _ _ v (refl, refl) (refl, refl)
effect_same k words homes v r (kind.Bump to) = (refl, refl)
effect_same k words homes v r (kind.Fill place) = (refl, refl)
effect_same k words homes v r (kind.Look word) = seeing_same v word r
effect_same k words homes v r kind.Take = cond_same (eqb r (length v.known + 1)) _ _ v (take_same words homes _ v _) (refl, refl)
effect_same k words homes v r kind.GiveBack = (refl, refl)
effect_same k words homes v r (kind.Raise limit) = (refl, refl)
effect_same k words homes v r (kind.Stable stable) = (refl, refl)
effect_same k words homes v r (kind.Fault fault) = (refl, refl)
effect_same k words homes v r kind.Split = (refl, refl)
effect_same k words homes v r (kind.Join copy) = (refl, refl)

-- What is said of a seat's role and client alone, and of no copy, stays so of the seat.
module _ (P : View → Type 0) (keeps : (v w : View) → IsSame v w → P v → P w) (no_copy : (v : View) → v.role ≡ Copy → P v → ⊥) where
  seat_split : (views : List View) (id j : ℕ) (v : View) (role : Role) → get_elem? views id ≡ some v → IsSeat P views j → IsSeat P (split views id v role) j
  seat_split views id j v Owner at d = seat_more P (set views id (telling v)) j (note_of v) (seat_set P views id j v (telling v) at (keeps v (telling v) (refl, refl)) d)
  seat_split views id j v Copy at d = seat_more P views j (copy v []) d
  seat_split views id j v Drain at d = seat_more P views j (copy v []) d
  seat_split views id j v Spent at d = seat_more P views j (copy v []) d

  seat_join : (views : List View) (id j other : ℕ) (v w : View) → get_elem? views id ≡ some v → get_elem? views other ≡ some w → w.role ≡ Copy → IsSeat P views j → IsSeat P (join views id v other (get_elem? views other)) j
  seat_join views id j other v w at there copies d =
      let apart : j ≢ other = λ e. no_copy w copies (subst P (sym (at_one views other w d.0 there (ap (get_elem? views) (sym e) ∙ d.1))) d.2) in
      let m = seat_set P views id j v (hearing v w) at (keeps v (hearing v w) (refl, refl)) d in
      subst (λ (x : maybe.Option View). IsSeat P (join views id v other x) j) (sym there) (m.0, set_else (set views id (hearing v w)) other j spent apart ∙ m.1, m.2)

  seat_after : (k : Shape) (s : Intake) (id j : ℕ) (v : View) (r : ℕ) (what : Kind) → get_elem? s.views id ≡ some v → IsSeat P s.views j → IsSeat P (set s.views id (effect k s.words s.homes v r what).view) j
  seat_after k s id j v r what at d = seat_set P s.views id j v (effect k s.words s.homes v r what).view at (keeps v (effect k s.words s.homes v r what).view (effect_same k s.words s.homes v r what)) d

  seat_stays : (k : Shape) (s : Intake) (id j : ℕ) (v : View) (r : ℕ) (what : Kind) → get_elem? s.views id ≡ some v → Allows k s v what → IsSeat P s.views j → IsSeat P (views_after s.views id v (effect k s.words s.homes v r what).view what) j
  seat_stays k s id j v r (kind.Claim expected entry) at a d = seat_after k s id j v r (kind.Claim expected entry) at d
  seat_stays k s id j v r (kind.Bump to) at a d = seat_after k s id j v r (kind.Bump to) at d
  seat_stays k s id j v r (kind.Fill place) at a d = seat_after k s id j v r (kind.Fill place) at d
  seat_stays k s id j v r (kind.Look word) at a d = seat_after k s id j v r (kind.Look word) at d
  seat_stays k s id j v r kind.Take at a d = seat_after k s id j v r kind.Take at d
  seat_stays k s id j v r kind.GiveBack at a d = seat_after k s id j v r kind.GiveBack at d
  seat_stays k s id j v r (kind.Raise limit) at a d = seat_after k s id j v r (kind.Raise limit) at d
  seat_stays k s id j v r (kind.Stable stable) at a d = seat_after k s id j v r (kind.Stable stable) at d
  seat_stays k s id j v r (kind.Fault fault) at a d = seat_after k s id j v r (kind.Fault fault) at d
  seat_stays k s id j v r kind.Split at a d = seat_split s.views id j v v.role at d
  seat_stays k s id j v r (kind.Join other) at a d = seat_join s.views id j other v a.1.0 at a.1.1 a.1.2 d

pub drain_stays : (k : Shape) (s : Intake) (id j : ℕ) (v : View) (r : ℕ) (what : Kind) → get_elem? s.views id ≡ some v → Allows k s v what → IsDrainAt s.views j → IsDrainAt (views_after s.views id v (effect k s.words s.homes v r what).view what) j
drain_stays = seat_stays (λ (x : View). x.role ≡ Drain) (λ v w same e. same.0 ∙ e) (λ v copies e. roles_apart Copy Drain (λ n. omega arith) (sym copies ∙ e))

pub owner_stays : (c : ℕ) (k : Shape) (s : Intake) (id : ℕ) (v : View) (r : ℕ) (what : Kind) → get_elem? s.views id ≡ some v → Allows k s v what → IsOwned s.views (λ j. j) c → IsOwned (views_after s.views id v (effect k s.words s.homes v r what).view what) (λ j. j) c
owner_stays c k s id v r what at a o =
    let q = seat_stays (λ (x : View). (x.role ≡ Owner) × (x.client ≡ c)) (λ v w same e. (same.0 ∙ e.0, same.1 ∙ e.1)) (λ v copies e. roles_apart Copy Owner (λ n. omega arith) (sym copies ∙ e.0)) k s id c v r what at a (o.0, o.1, (o.2, o.3)) in
    (q.0, q.1, q.2.0, q.2.1)

-- what the drain of a machine knows
pub known_here : (views : List View) (i : ℕ) (v : View) → get_elem? views i ≡ some v → known_at views i ≡ v.known
known_here [] i v h = absurd (maybe.some-ne-none v (sym h))
known_here (x ∷ xs) zero v h = ap (λ (y : View). y.known) (maybe.some-injective x v h)
known_here (x ∷ xs) (suc i) v h = known_here xs i v h
