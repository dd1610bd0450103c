-- The rule holds at the start.
use Rattle.std.proofs.Common.{◌≡◌, ℕ, zero, suc, ◌+◌, ◌%◌, ◌<◌, [], ◌∷◌, ◌++◌, length, replicate, get_or, sym, ap, refl, ◌∙◌, subst, inl, inr, arith}
use Rattle.std.specs.Prelude.{None}
use Rattle.std.proofs.lemmas.Bool.{cases_eq}
use Rattle.std.proofs.lemmas.List.{length-append, length-replicate, get_or-replicate}
use Rattle.std.proofs.Math.Nat.{mod-lt, mul-mod_left}
use mathlib.Core.Option.{some, some-injective, some-ne-none}
use lib.ListN.{get_elem?}
use Rattle.atomic_table.proofs.Lists.{at_longer, at_last}
use Rattle.wb_steps.specs.Faults.{parts_of}
use Rattle.wb_steps.specs.Views.{beginning}
use Rattle.wb_steps.specs.Rule.{IsOwned, cells, free, Truth, Owns, Drains, Fits, IsSound, IsLawful}
use Rattle.wb_steps.specs.Steps.{owners, start}
use Rattle.wb_steps.specs.declared.shape.Shape.{Shape}
use Rattle.wb_steps.specs.declared.view.View.{View}
use Rattle.wb_steps.specs.declared.view.Role.TheVariants.{Owner, Drain}
use Rattle.wb_steps.proofs.Cells.{at_append, inside_of}
use Rattle.wb_steps.proofs.Fitting.{parts_same}
use Rattle.wb_steps.proofs.Phases.{free-ne-taken, held-ne-none}

module _ (k : Shape) (clients : ℕ) (seat : ℕ → ℕ) (drain : ℕ) where
  abbrev pub first_truth : Truth
  first_truth = record { log = []; drained = []; limit = cells k; stable = 0; fault = parts_of 0; clients = clients; seat = seat; drain = drain; told = λ c. []; phase = λ p. free }

  replicated : {X : Type 0} (n i : ℕ) (x : X) → i < n → get_elem? (replicate n x) i ≡ some x
  replicated zero i x h = absurd (omega arith)
  replicated (suc n) zero x h = refl
  replicated (suc n) (suc i) x h = replicated n i x (omega arith)

  behind_four : (a b c d n i : ℕ) → i < n → get_or (a ∷ b ∷ c ∷ d ∷ replicate n 0) (i + 4) 0 ≡ 0
  behind_four a b c d n i h = ap (λ (j : ℕ). get_or (a ∷ b ∷ c ∷ d ∷ replicate n 0) j 0) (let e : i + 4 ≡ suc (suc (suc (suc i))) = omega arith in e) ∙ get_or-replicate n i 0 0 h

  pub first_sound : 0 < cells k → IsSound k first_truth (0 ∷ cells k ∷ 0 ∷ 0 ∷ replicate (cells k) 0) (replicate (cells k) (some None))
  first_sound pos = record {
    some_cell = pos;
    wide = (let e : length (replicate (cells k) 0) ≡ cells k = length-replicate {A = ℕ} (cells k) 0 in omega (arith, e));
    deep = length-replicate (cells k) (some None);
    cursor = refl;
    limit = refl;
    stable = refl;
    fault = refl;
    behind = ([], refl);
    below = omega arith;
    room = omega arith;
    whole = mul-mod_left k.ram k.places;
    stable_whole = zero_mod k.places;
    stable_below = omega arith;
    each_entry = λ p e h. absurd (some-ne-none e (sym h));
    each_owner = λ i d h. absurd (omega arith);
    untold = λ c h. refl;
    each_holder = λ p e j low h. absurd (some-ne-none e (sym h));
    each_cell = λ p low high. (omega arith, behind_four 0 (cells k) 0 0 (cells k) (p % cells k) (mod-lt p pos), replicated (cells k) (p % cells k) (some None) (mod-lt p pos));
  }
    where
      zero_mod : (n : ℕ) → 0 % n ≡ 0
      zero_mod zero = refl
      zero_mod (suc n) = Rattle.std.proofs.Math.Nat.mod-eq_of_lt (let h : 0 < suc n = omega arith in h)

  pub first_owner : (c : ℕ) → c < clients → Owns first_truth (seat c) (beginning Owner c (cells k))
  first_owner c h = record {
    seen = record { known = ([], refl); short = omega arith; cursor = omega arith; limit = omega arith; stable = omega arith; fault = parts_same (parts_of 0); heard = λ i d inside. absurd (omega arith) };
    seat = refl;
    client = h;
    mine = refl;
    below = λ i d inside. absurd (omega arith);
    told = refl;
    in_flight = λ p has. absurd (omega (arith, has.1));
    no_other = λ p low high. absurd (omega arith);
    holds = λ p has. absurd (held-ne-none p (sym has));
  }

  pub first_drain : Drains first_truth drain (beginning Drain clients (cells k))
  first_drain = record {
    seen = record { known = ([], refl); short = omega arith; cursor = omega arith; limit = omega arith; stable = omega arith; fault = parts_same (parts_of 0); heard = λ i d inside. absurd (omega arith) };
    seat = refl;
    clients = refl;
    known = refl;
    limit = refl;
    stable = refl;
    fault = refl;
    holds = λ p has. absurd (held-ne-none p (sym has));
    rests = λ none_held e. free-ne-taken e;
  }

pub length-owners : (n limit : ℕ) → length (owners n limit) ≡ n
length-owners zero limit = refl
length-owners (suc n) limit = length-append (owners n limit) (beginning Owner n limit ∷ []) ∙ (let e = length-owners n limit in omega (arith, e))

pub owner_at : (n limit c : ℕ) → c < n → get_elem? (owners n limit) c ≡ some (beginning Owner c limit)
owner_at zero limit c h = absurd (omega arith)
owner_at (suc n) limit c h = elim (cases_eq c n) [
  | inl is ↦ ap (get_elem? (owners n limit ++ beginning Owner n limit ∷ [])) is ∙ at_last (owners n limit) (beginning Owner n limit) n (length-owners n limit) ∙ ap (λ (m : ℕ). some (beginning Owner m limit)) (sym is)
  | inr other ↦ at_longer (owners n limit) (beginning Owner n limit ∷ []) c (beginning Owner c limit) (owner_at n limit c (omega arith))
]

pub drain_at : (n limit : ℕ) → get_elem? (owners n limit ++ beginning Drain n limit ∷ []) n ≡ some (beginning Drain n limit)
drain_at n limit = at_last (owners n limit) (beginning Drain n limit) n (length-owners n limit)

pub owned_at : (n limit c : ℕ) → c < n → IsOwned (owners n limit ++ beginning Drain n limit ∷ []) (λ j. j) c
owned_at n limit c h = (beginning Owner c limit, at_longer (owners n limit) (beginning Drain n limit ∷ []) c (beginning Owner c limit) (owner_at n limit c h), refl, refl)

-- the machine at the start
pub starts : (k : Shape) (clients : ℕ) → 0 < cells k → IsLawful k (start k clients)
starts k clients pos = record {
  truth = first_truth k clients (λ c. c) clients;
  sound = first_sound k clients (λ c. c) clients pos;
  each_client = owned_at clients (cells k);
  drained_by = (beginning Drain clients (cells k), drain_at clients (cells k), refl);
  each_view = λ j v h. elim (at_append (owners clients (cells k)) (beginning Drain clients (cells k) ∷ []) j v h) [
    | inl old ↦ let n = length-owners clients (cells k) in let inside : j < clients = (let i = inside_of (owners clients (cells k)) j v old in omega (arith, i, n)) in
        subst (λ (x : View). Fits (first_truth k clients (λ c. c) clients) j x x.role) (some-injective (beginning Owner j (cells k)) v (sym (owner_at clients (cells k) j inside) ∙ old)) (first_owner k clients (λ c. c) clients j inside)
    | inr last ↦ let n = length-owners clients (cells k) in let z = only last.0 v last.2 in
        subst (λ (x : View). Fits (first_truth k clients (λ c. c) clients) j x x.role) z.1 (subst (λ (i : ℕ). Fits (first_truth k clients (λ c. c) clients) i (beginning Drain clients (cells k)) Drain) (let g : clients ≡ j = omega (arith, last.1, n, z.0) in g) (first_drain k clients (λ c. c) clients))
  ];
}
  where
    only : (i : ℕ) (v : View) → get_elem? (beginning Drain clients (cells k) ∷ []) i ≡ some v → (i ≡ 0) × (beginning Drain clients (cells k) ≡ v)
    only zero v h = (refl, some-injective (beginning Drain clients (cells k)) v h)
    only (suc i) v h = absurd (some-ne-none v (sym h))

-- the intake at the start: the drain is its only seat
pub founder_starts : (k : Shape) → 0 < cells k → IsLawful k record { words = 0 ∷ cells k ∷ 0 ∷ 0 ∷ replicate (cells k) 0; homes = replicate (cells k) (some None); views = beginning Drain 0 (cells k) ∷ [] }
founder_starts k pos = starts k 0 pos
