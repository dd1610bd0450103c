-- What an answer says of what was named.
use Rattle.std.proofs.Common.{◌≡◌, ◌≢◌, ◌+◌, ◌-◌, ◌*◌, ◌/◌, ◌%◌, ◌<◌, ◌≤◌, ℕ, List, [], ◌∷◌, ◌++◌, length, map, replicate, zero, suc, refl, sym, ap, ◌∙◌, ◌⊎◌, inl, inr, subst, Bool, true, false, cond, eqb, append_assoc, suc-mul, div-add-mod', arith}
use Rattle.std.specs.Prelude.{not}
use Rattle.std.specs.List.{All, enumerate_from}
use Rattle.std.proofs.lemmas.Bool.{eq-eqb, ne_eqb}
use Rattle.std.proofs.Math.Nat.{mod-lt, mul-mod_left}
use Rattle.wb_steps.specs.Views.{placed, filling, without}
use Rattle.std.specs.Prelude.{Result, Ok, Err, IfOk, IfSome, Option, Some, None, slice_get}
use mathlib.Core.Option.{some}
use mathlib.Core.Option as maybe
use lib.ListN.{get_elem?}
use Rattle.atomic_table.proofs.Lists.{at_last}
use Rattle.wb_geometry.specs.History.{HistoryEntry, Void, client_of}
use Rattle.wb_steps.specs.declared.view.View.{View}
use Rattle.atomic_table.specs.Seated.{TableId}
use Rattle.wb_steps.specs.Views.{beginning}
use Rattle.wb_steps.specs.declared.view.Role.TheVariants.{Owner}
use Rattle.wb_intake.specs.Passes.{pass_name, view_of, AreNewcomers}
use Rattle.wb_intake.specs.declared.pass.Pass.{Pass}
use Rattle.wb_intake.specs.Sights.{IsLegal}
use Rattle.wb_intake.specs.Belongs.{Saw, HasNamed, HasClaimed, IsOwed}

pub if_ok : {T E : Type 0} (r : Result T E) (P Q R : T → Type 0) → ((x : T) → P x → Q x → R x) → IfOk r P → IfOk r Q → IfOk r R
if_ok (Ok x) P Q R f a b = f x a b
if_ok (Err e) P Q R f a b = tt

pub claimed_of : (v w : View) (p : ℕ) (e : HistoryEntry) → HasNamed v w p e → HasClaimed w p e
claimed_of v w p e h = (h.unfilled, (length v.mine, ap (λ (l : List (ℕ × HistoryEntry)). get_elem? l (length v.mine)) h.mine ∙ at_last v.mine (p, e) (length v.mine) refl))

pub all_home : {X : Type 0} (n : ℕ) (x : X) → map some (replicate n x) ≡ replicate n (some x)
all_home zero x = refl
all_home (suc n) x = ap (λ (l : List (maybe.Option _)). some x ∷ l) (all_home n x)

last_or_before : {X : Type 0} (xs : List X) (y p : X) (i : ℕ) → slice_get (xs ++ y ∷ []) i ≡ Some p → (slice_get xs i ≡ Some p) ⊎ ((i ≡ length xs) × (Some y ≡ Some p))
last_or_before [] y p zero h = inr (refl, h)
last_or_before [] y p (suc i) h = inl h
last_or_before (x ∷ xs) y p zero h = inl h
last_or_before (x ∷ xs) y p (suc i) h = elim (last_or_before xs y p i h) [ inl a ↦ inl a | inr b ↦ inr (ap suc b.0, b.1) ]

abbrev size : Option Pass → ℕ
size None = 0
size (Some x) = 1

none-ne-some : (p : Pass) → None ≡ Some p → ⊥
none-ne-some p h = let e : size None ≡ size (Some p) = ap size h in Rattle.std.proofs.Common.suc-ne-zero 0 (sym e)

-- the entries of a client stand at the places from the first on
pub placed_from : (c p q : ℕ) (xs : List HistoryEntry) → q ≤ p → All (λ m. q ≤ m.0) (placed c p xs)
placed_from c p q [] h = λ i d inside. absurd (omega arith)
placed_from c p q (x ∷ xs) h = one_more (eqb (client_of x) c) (placed c (p + 1) xs) (placed_from c (p + 1) q xs (omega arith))
  where
    both : (more : List (ℕ × HistoryEntry)) → All (λ m. q ≤ m.0) more → All (λ m. q ≤ m.0) ((p, x) ∷ more)
    both more all zero d inside = h
    both more all (suc i) d inside = all i d (omega (arith, inside))

    one_more : (b : Bool) (more : List (ℕ × HistoryEntry)) → All (λ m. q ≤ m.0) more → All (λ m. q ≤ m.0) (cond b ((p, x) ∷ more) more)
    one_more false more all = all
    one_more true more all = both more all

-- where a pass has only seen more, what it names is as it was
pub legal_still : (v w : View) → Saw v w → IsLegal v → IsLegal w
legal_still v w saw h = (
  h.0,
  saw.mine ∙ h.1 ∙ (λ i. placed (sym saw.client i) 0 (sym saw.known i) ++ h.0),
  subst (λ (known : List HistoryEntry). All (λ m. length known ≤ m.0) h.0) (sym saw.known) h.2,
)

pub below_still : (v w : View) → Saw v w → All (λ m. m.0 < v.seen.cursor) v.mine → All (λ m. m.0 < v.seen.cursor) w.mine
below_still v w saw all = subst (λ (mine : List (ℕ × HistoryEntry)). All (λ m. m.0 < v.seen.cursor) mine) (sym saw.mine) all

-- one pass more
pub newcomers_push : (name : TableId) (limit n : ℕ) (passes : List Pass) (p : Pass) → length passes ≡ n → AreNewcomers name limit passes → pass_name p ≡ name → view_of p ≡ beginning Owner n limit → AreNewcomers name limit (passes ++ p ∷ [])
newcomers_push name limit n passes p long each own view i q at = elim (last_or_before passes p q i at) [
  | inl old ↦ each i q old
  | inr last ↦ subst (λ (x : Option Pass). IfSome x (λ y. (pass_name y ≡ name) × (view_of y ≡ beginning Owner i limit))) last.1 (own, view ∙ ap (λ (m : ℕ). beginning Owner m limit) (sym (last.0 ∙ long)))
]

pub none_yet : (name : TableId) (limit : ℕ) → AreNewcomers name limit []
none_yet name limit zero p h = absurd (none-ne-some p h)
none_yet name limit (suc i) p h = absurd (none-ne-some p h)

-- each of the passes is of the intake, and has no unfilled place
pub newcomer_in : (name : TableId) (limit : ℕ) (passes front more : List Pass) (p : Pass) → passes ≡ front ++ p ∷ more → AreNewcomers name limit passes → (pass_name p ≡ name) × ((view_of p).unfilled ≡ [])
newcomer_in name limit passes front more p is each = let h = each (length front) p (ap (λ (l : List Pass). slice_get l (length front)) is ∙ seam front) in (h.0, ap (λ (v : View). v.unfilled) h.1)
  where
    seam : (xs : List Pass) → slice_get (xs ++ p ∷ more) (length xs) ≡ Some p
    seam [] = refl
    seam (x ∷ xs) = seam xs

-- the end of the segment that a place stands in
pub rounded : (p n : ℕ) → 0 < n → (p + (n - p % n)) % n ≡ 0
rounded p n pos =
    let e : p / n * n + p % n ≡ p = div-add-mod' p n in let m : suc (p / n) * n ≡ p / n * n + n = suc-mul (p / n) n in let r : p % n < n = mod-lt p pos in
    let x : ℕ = p / n * n in let e' : x + p % n ≡ p = e in let m' : suc (p / n) * n ≡ x + n = m in
    ap (λ (y : ℕ). y % n) (let g : p + (n - p % n) ≡ suc (p / n) * n = omega (arith, e', m', r) in g) ∙ mul-mod_left (suc (p / n)) n

-- nothing is left of the one place
pub without_self : (p : ℕ) → without p (p ∷ []) ≡ []
without_self p = ap (λ (b : Bool). cond (not b) (p ∷ []) []) (eq-eqb p p refl)

-- no later place is among those that are left out
without_later : (p q m : ℕ) (e : HistoryEntry) → p < q → without p (map (λ x. x.0) (enumerate_from q (replicate m e))) ≡ map (λ x. x.0) (enumerate_from q (replicate m e))
without_later p q zero e h = refl
without_later p q (suc m) e h =
    ap (λ (b : Bool). cond (not b) (q ∷ without p (map (λ x. x.0) (enumerate_from (q + 1) (replicate m e)))) (without p (map (λ x. x.0) (enumerate_from (q + 1) (replicate m e))))) (ne_eqb q p (λ z. omega arith))
    ∙ ap (λ (l : List ℕ). q ∷ l) (without_later p (q + 1) m e (omega arith))

-- the first of the places that are owed
pub owed_first : (v : View) (client next left : ℕ) → 0 < left → IsOwed v client next left → ((more : List ℕ) × (v.unfilled ≡ next ∷ more)) × ((j : ℕ) × (get_elem? v.mine j ≡ some (next, Void client)))
owed_first v client next zero h o = absurd (omega arith)
owed_first v client next (suc m) h o = (
  (map (λ x. x.0) (enumerate_from (next + 1) (replicate m (Void client))), o.0),
  (length o.1.0, ap (λ (l : List (ℕ × HistoryEntry)). get_elem? l (length o.1.0)) o.1.1 ∙ at_seam o.1.0 (next, Void client) (enumerate_from (next + 1) (replicate m (Void client)))),
)
  where
    at_seam : (xs : List (ℕ × HistoryEntry)) (y : ℕ × HistoryEntry) (ys : List (ℕ × HistoryEntry)) → get_elem? (xs ++ y ∷ ys) (length xs) ≡ some y
    at_seam [] y ys = refl
    at_seam (x ∷ xs) y ys = at_seam xs y ys

-- one place less is owed once the first of them is filled
pub owed_next : (v : View) (client next left : ℕ) → 0 < left → IsOwed v client next left → IsOwed (filling v next) client (next + 1) (left - 1)
owed_next v client next zero h o = absurd (omega arith)
owed_next v client next (suc m) h o =
    let less : suc m - 1 ≡ m = omega arith in
    subst (λ (n : ℕ). IsOwed (filling v next) client (next + 1) n) (sym less) (
      ap (without next) o.0
          ∙ ap (λ (b : Bool). cond (not b) (next ∷ without next (map (λ x. x.0) (enumerate_from (next + 1) (replicate m (Void client))))) (without next (map (λ x. x.0) (enumerate_from (next + 1) (replicate m (Void client)))))) (eq-eqb next next refl)
          ∙ without_later next (next + 1) m (Void client) (omega arith),
      (o.1.0 ++ (next, Void client) ∷ [], o.1.1 ∙ sym (append_assoc o.1.0 ((next, Void client) ∷ []) (enumerate_from (next + 1) (replicate m (Void client))))),
    )
