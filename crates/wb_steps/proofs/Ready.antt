-- What an allowed step of a lawful state may count on.
use Rattle.std.proofs.Common.{◌≡◌, ◌≢◌, ◌⊎◌, ℕ, ◌+◌, ◌%◌, ◌^◌, ◌<◌, List, [], ◌∷◌, length, set, sym, refl, ◌∙◌, subst, inl, inr, arith}
use Rattle.std.specs.Prelude.{Option, Some, None}
use Rattle.std.proofs.Math.Nat.{mod-lt}
use mathlib.Core.Option.{some}
use lib.ListN.{get_elem?}
use Rattle.wb_geometry.specs.History.{HistoryEntry}
use Rattle.wb_steps.specs.Rule.{Intake, IsShape, cells, Truth, Drains, IsLawful}
use Rattle.wb_steps.specs.Rule as rule
use Rattle.wb_steps.specs.Steps.{Allows, word_of, views_after}
use Rattle.wb_steps.specs.Machines.{Fits}
use Rattle.wb_steps.specs.declared.shape.Shape.{Shape}
use Rattle.wb_steps.specs.declared.view.View.{View}
use Rattle.wb_steps.specs.declared.view.Role.TheVariants.{Owner, Drain, Spent}
use Rattle.wb_steps.specs.declared.steps.Kind.{Kind}
use Rattle.wb_steps.specs.declared.steps.Kind.TheVariants as kind
use Rattle.wb_steps.proofs.Numbers.{seen_of}
use Rattle.wb_steps.proofs.Copies.{roles_apart}
use Rattle.wb_steps.proofs.Bounds.{named_one, few_places, few_drained}

owner_lives : (v : View) → v.role ≡ Owner → v.role ≢ Spent
owner_lives v o e = roles_apart Owner Spent (λ n. omega arith) (sym o ∙ e)

drain_lives : (v : View) → v.role ≡ Drain → v.role ≢ Spent
drain_lives v d e = roles_apart Drain Spent (λ n. omega arith) (sym d ∙ e)

both_live : (v : View) → (v.role ≡ Owner) ⊎ (v.role ≡ Drain) → v.role ≢ Spent
both_live v (inl o) = owner_lives v o
both_live v (inr d) = drain_lives v d

-- no spent view may make a step
pub lives : (k : Shape) (s : Intake) (v : View) (what : Kind) → Allows k s v what → v.role ≢ Spent
lives k s v (kind.Claim expected entry) a = owner_lives v a.0
lives k s v (kind.Bump to) a = owner_lives v a.0
lives k s v (kind.Fill place) a = owner_lives v a.0
lives k s v (kind.Look word) a = a.0
lives k s v kind.Take a = drain_lives v a
lives k s v kind.GiveBack a = drain_lives v a.0
lives k s v (kind.Raise limit) a = drain_lives v a.0
lives k s v (kind.Stable stable) a = drain_lives v a.0
lives k s v (kind.Fault fault) a = drain_lives v a.0
lives k s v kind.Split a = both_live v a.0
lives k s v (kind.Join copy) a = both_live v a.0

module _ (k : Shape) (shape : IsShape k) (s : Intake) (law : IsLawful k s) (id : ℕ) (v : View) (at : get_elem? s.views id ≡ some v) where
  pub known_fits : (what : Kind) → Allows k s v what → length v.known + 1 < 2 ^ 64
  known_fits what a = let h = seen_of law.truth id v v.role (lives k s v what a) (law.each_view id v at) in let few = few_places k law.truth s.words s.homes shape law.sound in omega (arith, h.short, h.cursor, few)

  claim_fits : (expected : ℕ) → v.role ≡ Owner → expected < v.seen.limit → expected + 1 < 2 ^ 64
  claim_fits expected role low = let h = seen_of law.truth id v v.role (owner_lives v role) (law.each_view id v at) in let few = few_drained k law.truth s.words s.homes shape law.sound in omega (arith, h.limit, few, low)

  has_parcel : v.role ≡ Drain → (held : Option ℕ) → v.held ≡ held → held ≢ None → (p : ℕ) × (e : HistoryEntry) × (v.mine ≡ (p, e) ∷ [])
  has_parcel role None is n = absurd (n refl)
  has_parcel role (Some p) is n = let o : Drains law.truth id v = subst (rule.Fits law.truth id v) role (law.each_view id v at) in let h = o.holds p is in (p, h.3.0, h.3.2)

  pub step_fits : (what : Kind) → Allows k s v what → Fits v what
  step_fits (kind.Claim expected entry) a = claim_fits expected a.0 a.2
  step_fits (kind.Bump to) a = tt
  step_fits (kind.Fill place) a = let e = named_one k s law id v place at a.0 a.1 in let few = few_places k law.truth s.words s.homes shape law.sound in omega (arith, e.4, few)
  step_fits (kind.Look word) a = a.1
  step_fits kind.Take a = tt
  step_fits kind.GiveBack a = has_parcel a.0 v.held refl a.1
  step_fits (kind.Raise limit) a = tt
  step_fits (kind.Stable stable) a = tt
  step_fits (kind.Fault fault) a = tt
  step_fits kind.Split a = tt
  step_fits (kind.Join copy) a = tt

-- of most steps the views change at the seat alone
pub own_views : (views : List View) (id : ℕ) (v w : View) (what : Kind) → (what ≡ kind.Split → ⊥) → ((copy : ℕ) → what ≡ kind.Join copy → ⊥) → set views id w ≡ views_after views id v w what
own_views views id v w (kind.Claim expected entry) n m = refl
own_views views id v w (kind.Bump to) n m = refl
own_views views id v w (kind.Fill place) n m = refl
own_views views id v w (kind.Look word) n m = refl
own_views views id v w kind.Take n m = refl
own_views views id v w kind.GiveBack n m = refl
own_views views id v w (kind.Raise limit) n m = refl
own_views views id v w (kind.Stable stable) n m = refl
own_views views id v w (kind.Fault fault) n m = refl
own_views views id v w kind.Split n m = absurd (n refl)
own_views views id v w (kind.Join copy) n m = absurd (m copy refl)

-- the word that an allowed step reads is there
pub word_inside : (k : Shape) (s : Intake) (law : IsLawful k s) (v : View) (what : Kind) → Allows k s v what → word_of k v what < length s.words
word_inside k s law v (kind.Claim expected entry) a = omega (arith, law.sound.wide)
word_inside k s law v (kind.Bump to) a = omega (arith, law.sound.wide)
word_inside k s law v (kind.Fill place) a = let h : place % cells k < cells k = mod-lt place law.sound.some_cell in omega (arith, law.sound.wide, h)
word_inside k s law v (kind.Look word) a = omega (arith, law.sound.wide, a.1)
word_inside k s law v kind.Take a = let h : length v.known % cells k < cells k = mod-lt (length v.known) law.sound.some_cell in omega (arith, law.sound.wide, h)
word_inside k s law v kind.GiveBack a = let h : length v.known % cells k < cells k = mod-lt (length v.known) law.sound.some_cell in omega (arith, law.sound.wide, h)
word_inside k s law v (kind.Raise limit) a = omega (arith, law.sound.wide)
word_inside k s law v (kind.Stable stable) a = omega (arith, law.sound.wide)
word_inside k s law v (kind.Fault fault) a = omega (arith, law.sound.wide)
word_inside k s law v kind.Split a = omega (arith, law.sound.wide)
word_inside k s law v (kind.Join copy) a = omega (arith, law.sound.wide)
