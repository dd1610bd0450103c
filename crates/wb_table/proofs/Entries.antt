-- Entries of which only the first ones count.
use Rattle.std.proofs.Common.{◌≡◌, ℕ, zero, suc, ◌+◌, ◌-◌, ◌<◌, ◌≤◌, ◌⊎◌, inl, inr, Bool, true, false, not, List, [], ◌∷◌, ◌++◌, length, get_or, take, set, swap, Some, None, IsSome, position, nat_lt, lt-ltb, eq-eqb, true≢false, refl, sym, ap, ◌∙◌, subst, arith, nat_eq, if◌then◌else◌, ◌==◌, cond}
use Rattle.std.proofs.lemmas.Bool.{cases_Bool, cases_lt, cases_eq, ne_eqb, eqb-true}
use Rattle.std.proofs.lemmas.Bool.Decides.{nat_tests}
use Rattle.std.proofs.lemmas.List.{take-set-le, take_more_set, length-set, length-take, length-take-le, take-map, take-take, get_or-take, get_or_default}
use Rattle.std.proofs.Math.Seq.{take-set-lt}
use Rattle.std.proofs.lemmas.Cmp.{nat_eq_equiv}
use Rattle.std.proofs.lemmas.Map.Entries.{length-keys_of}
use Rattle.std.proofs.lemmas.Option.{slice_get-get_or}
use Rattle.std.specs.List.{position_or_len, swap_remove, IsDistinct}
use Rattle.std.specs.Map.{keys_of, lookup}
use Rattle.indexmap.specs.IndexMap.{insert_entry}
use Rattle.indexmap.proofs.MapLemmas.{Found-position, distinct-take}
use Rattle.indexmap.proofs.RemoveLemmas.{swap_out}

-- what an insert makes of the look-ups
pub lookup-insert_entry : {X : Type 0} (es : List (ℕ × X)) (k : ℕ) (v : X) (q : ℕ) → lookup (nat_eq q) (insert_entry nat_eq es k v) ≡ (if q == k then Some v else lookup (nat_eq q) es)
lookup-insert_entry [] k v q = refl
lookup-insert_entry (e ∷ es) k v q = grind (arith, nat_tests, lookup-insert_entry es k v q)

module _ {X : Type 0} (t : ℕ → Bool) where
  -- where the search for the first key that passes goes on
  place : (e : ℕ × X) (es : List (ℕ × X)) → t e.0 ≡ false → position_or_len t (keys_of (e ∷ es)) ≡ suc (position_or_len t (keys_of es))
  place e es is = ap (λ b. cond (not b) (1 + position_or_len t (keys_of es)) 0) is ∙ omega arith

  place_first : (e : ℕ × X) (es : List (ℕ × X)) → t e.0 ≡ true → position_or_len t (keys_of (e ∷ es)) ≡ 0
  place_first e es is = ap (λ b. cond (not b) (1 + position_or_len t (keys_of es)) 0) is

  -- a key among the first entries is found there
  pub lookup-take-inside : (es : List (ℕ × X)) (n : ℕ) → position_or_len t (keys_of es) < n → lookup t (take n es) ≡ lookup t es
  lookup-take-inside es zero inside = absurd (omega arith)
  lookup-take-inside [] (suc n) inside = refl
  lookup-take-inside (e ∷ es) (suc n) inside = elim (cases_Bool (t e.0)) [
    | inl is ↦ ap (λ b. cond b (Some e.1) (lookup t (take n es))) is ∙ sym (ap (λ b. cond b (Some e.1) (lookup t es)) is)
    | inr is ↦ ap (λ rest. cond (t e.0) (Some e.1) rest) (lookup-take-inside es n (omega (arith, place e es is)))
  ]

  -- and one behind them isn't
  pub lookup-take-behind : (es : List (ℕ × X)) (n : ℕ) → n ≤ position_or_len t (keys_of es) → lookup t (take n es) ≡ None
  lookup-take-behind es zero behind = refl
  lookup-take-behind [] (suc n) behind = refl
  lookup-take-behind (e ∷ es) (suc n) behind = elim (cases_Bool (t e.0)) [
    | inl is ↦ absurd (omega (arith, place_first e es is))
    | inr is ↦ ap (λ b. cond b (Some e.1) (lookup t (take n es))) is ∙ lookup-take-behind es n (omega (arith, place e es is))
  ]

  -- a key that is found among the first entries is there
  pub inside_from_lookup : (es : List (ℕ × X)) (n : ℕ) → IsSome (lookup t (take n es)) → position_or_len t (keys_of es) < n
  inside_from_lookup es n some = elim (cases_lt (position_or_len t (keys_of es)) n) [
    | inl low ↦ low
    | inr high ↦ absurd (true≢false (sym (subst IsSome (lookup-take-behind es n high) some)))
  ]

  -- where a key is found among the first entries or there is room, and it isn't among them, there is room
  pub room_behind : (es : List (ℕ × X)) (n room : ℕ) → n ≤ length es → n ≤ position_or_len t (keys_of es) → IsSome (lookup t (take n es)) ⊎ (length (take n es) < room) → n < room
  room_behind es n room within behind (inl some) = absurd (omega (arith, inside_from_lookup es n some))
  room_behind es n room within behind (inr few) = omega (arith, length-take n es)

  -- the first entries have a key where all have it
  position_or_len-take : (es : List (ℕ × X)) (n : ℕ) → position_or_len t (keys_of es) < n → n ≤ length es → position_or_len t (keys_of (take n es)) ≡ position_or_len t (keys_of es)
  position_or_len-take es zero inside within = absurd (omega arith)
  position_or_len-take [] (suc n) inside within = absurd (omega arith)
  position_or_len-take (e ∷ es) (suc n) inside within = elim (cases_Bool (t e.0)) [
    | inl is ↦ place_first e (take n es) is ∙ sym (place_first e es is)
    | inr is ↦ place e (take n es) is ∙ ap suc (position_or_len-take es n (omega (arith, place e es is)) (omega arith)) ∙ sym (place e es is)
  ]

module _ {X : Type 0} (k : ℕ) (v : X) where
  insert_first : (e : ℕ × X) (es : List (ℕ × X)) → nat_eq k e.0 ≡ true → insert_entry nat_eq (e ∷ es) k v ≡ (e.0, v) ∷ es
  insert_first e es is = ap (λ b. if b then (e.0, v) ∷ es else e ∷ insert_entry nat_eq es k v) is

  insert_later : (e : ℕ × X) (es : List (ℕ × X)) → nat_eq k e.0 ≡ false → insert_entry nat_eq (e ∷ es) k v ≡ e ∷ insert_entry nat_eq es k v
  insert_later e es is = ap (λ b. if b then (e.0, v) ∷ es else e ∷ insert_entry nat_eq es k v) is

  -- an insert at a key among the first entries is one into these
  pub take-insert_entry-inside : (es : List (ℕ × X)) (n : ℕ) → position_or_len (nat_eq k) (keys_of es) < n → n ≤ length es → take n (insert_entry nat_eq es k v) ≡ insert_entry nat_eq (take n es) k v
  take-insert_entry-inside es zero inside within = absurd (omega arith)
  take-insert_entry-inside [] (suc n) inside within = absurd (omega arith)
  take-insert_entry-inside (e ∷ es) (suc n) inside within = elim (cases_Bool (nat_eq k e.0)) [
    | inl is ↦ ap (take (suc n)) (insert_first e es is) ∙ sym (insert_first e (take n es) is)
    | inr is ↦ ap (take (suc n)) (insert_later e es is) ∙ ap (λ l. e ∷ l) (take-insert_entry-inside es n (omega (arith, place (nat_eq k) e es is)) (omega arith)) ∙ sym (insert_later e (take n es) is)
  ]

  -- an insert at a key that is there adds no entry
  pub length-insert_entry-inside : (es : List (ℕ × X)) → position_or_len (nat_eq k) (keys_of es) < length es → length (insert_entry nat_eq es k v) ≡ length es
  length-insert_entry-inside [] inside = absurd (omega arith)
  length-insert_entry-inside (e ∷ es) inside = elim (cases_Bool (nat_eq k e.0)) [
    | inl is ↦ ap length (insert_first e es is)
    | inr is ↦ ap length (insert_later e es is) ∙ ap suc (length-insert_entry-inside es (omega (arith, place (nat_eq k) e es is)))
  ]

  -- an insert behind the first entries leaves them
  take-insert_entry-behind : (es : List (ℕ × X)) (n : ℕ) → n ≤ position_or_len (nat_eq k) (keys_of es) → n ≤ length es → take n (insert_entry nat_eq es k v) ≡ take n es
  take-insert_entry-behind es zero behind within = refl
  take-insert_entry-behind [] (suc n) behind within = absurd (omega arith)
  take-insert_entry-behind (e ∷ es) (suc n) behind within = elim (cases_Bool (nat_eq k e.0)) [
    | inl is ↦ absurd (omega (arith, place_first (nat_eq k) e es is))
    | inr is ↦ ap (take (suc n)) (insert_later e es is) ∙ ap (λ l. e ∷ l) (take-insert_entry-behind es n (omega (arith, place (nat_eq k) e es is)) (omega arith))
  ]

  -- the entry of an insert
  get_or-insert_entry : (es : List (ℕ × X)) (d : ℕ × X) → get_or (insert_entry nat_eq es k v) (position_or_len (nat_eq k) (keys_of es)) d ≡ (k, v)
  get_or-insert_entry [] d = refl
  get_or-insert_entry (e ∷ es) d = elim (cases_Bool (nat_eq k e.0)) [
    | inl is ↦ (λ j. get_or (insert_first e es is j) (place_first (nat_eq k) e es is j) d) ∙ ap (λ key. (key, v)) (sym (eqb-true k e.0 is))
    | inr is ↦ (λ j. get_or (insert_later e es is j) (place (nat_eq k) e es is j) d) ∙ get_or-insert_entry es d
  ]

  -- an insert into the first entries, where the key isn't among them
  insert_entry-take-behind : (es : List (ℕ × X)) (n : ℕ) → n ≤ position_or_len (nat_eq k) (keys_of es) → n ≤ length es → insert_entry nat_eq (take n es) k v ≡ take n es ++ (k, v) ∷ []
  insert_entry-take-behind es zero behind within = refl
  insert_entry-take-behind [] (suc n) behind within = absurd (omega arith)
  insert_entry-take-behind (e ∷ es) (suc n) behind within = elim (cases_Bool (nat_eq k e.0)) [
    | inl is ↦ absurd (omega (arith, place_first (nat_eq k) e es is))
    | inr is ↦ insert_later e (take n es) is ∙ ap (λ l. e ∷ l) (insert_entry-take-behind es n (omega (arith, place (nat_eq k) e es is)) (omega arith))
  ]

-- a look-up of a key that isn't there, once it is taken out
pub lookup-absent : {X : Type 0} (es : List (ℕ × X)) (k : ℕ) → lookup (nat_eq k) es ≡ None → (q : ℕ) → lookup (nat_eq q) es ≡ (if q == k then None else lookup (nat_eq q) es)
lookup-absent es k absent q = elim (cases_eq q k) [
  | inl same ↦ subst (λ key. lookup (nat_eq key) es ≡ None) (sym same) absent ∙ sym (ap (λ b. if b then None else lookup (nat_eq q) es) (eq-eqb q k same))
  | inr other ↦ sym (ap (λ b. if b then None else lookup (nat_eq q) es) (ne_eqb q k other))
]

-- the item at i, brought behind the first n
take-swap : {X : Type 0} (xs : List X) (i n : ℕ) (d : X) → n ≤ i → i < length xs → take (n + 1) (swap xs i n) ≡ take n xs ++ get_or xs i d ∷ []
take-swap [] i n d low high = absurd (omega arith)
take-swap (x ∷ xs) i n d low high =
    let all = x ∷ xs in
    let one = set all i (get_or all n x) in
    take_more_set one n (get_or all i x) (omega (arith, length-set all i (get_or all n x)))
    ∙ (λ j. take-set-le n all i (get_or all n x) low j ++ get_or_default all i x d high j ∷ [])

-- the item at i, brought to the end of the first n + 1 and left out
pub take-swap_remove : {X : Type 0} (xs : List X) (i n : ℕ) (d : X) → i ≤ n → n < length xs → take n (swap xs i n) ≡ swap_remove (take (n + 1) xs) i d
take-swap_remove [] i n d low high = absurd (omega arith)
take-swap_remove (x ∷ xs) i n d low high =
    let all = x ∷ xs in
    let front = take (n + 1) all in
    let size : length front ≡ n + 1 = length-take (n + 1) all ∙ omega arith in
    let last : get_or all n x ≡ get_or front (length front - 1) d =
    get_or_default all n x d high ∙ sym (get_or-take (n + 1) all n d (omega arith)) ∙ ap (λ at. get_or front at d) (omega (arith, size)) in
    take-set-le n (set all i (get_or all n x)) n (get_or all i x) (omega arith)
    ∙ ap (λ y. take n (set all i y)) last
    ∙ sym (take-take n (n + 1) (set all i (get_or front (length front - 1) d)) (omega arith))
    ∙ (λ j. take (shorter size j) (take-set-lt (n + 1) all i (get_or front (length front - 1) d) (omega arith) j))
  where
    shorter : {m : ℕ} → m ≡ n + 1 → n ≡ m - 1
    shorter e = omega (arith, e)

-- an insert behind the first n entries, brought to their end, is an insert into these
pub take-swap-insert_entry : {X : Type 0} (es : List (ℕ × X)) (k : ℕ) (v : X) (n : ℕ) → n ≤ position_or_len (nat_eq k) (keys_of es) → n ≤ length es
    → position_or_len (nat_eq k) (keys_of es) < length (insert_entry nat_eq es k v)
    → take (n + 1) (swap (insert_entry nat_eq es k v) (position_or_len (nat_eq k) (keys_of es)) n) ≡ insert_entry nat_eq (take n es) k v
take-swap-insert_entry es k v n behind within inside =
    let i = position_or_len (nat_eq k) (keys_of es) in
    take-swap (insert_entry nat_eq es k v) i n (k, v) behind inside
    ∙ (λ j. take-insert_entry-behind k v es n behind within j ++ get_or-insert_entry k v es (k, v) j ∷ [])
    ∙ sym (insert_entry-take-behind k v es n behind within)

-- a key among the first n + 1 entries whose entry is brought to their end and left out
pub lookup-removed : {X : Type 0} (es : List (ℕ × X)) (k i n : ℕ) → IsDistinct nat_eq (keys_of es) → position (nat_eq k) (keys_of es) ≡ Some i → i ≤ n → n < length es
    → (q : ℕ) → lookup (nat_eq q) (take n (swap es i n)) ≡ (if q == k then None else lookup (nat_eq q) (take (n + 1) es))
lookup-removed [] k i n distinct at low high q = absurd (omega arith)
lookup-removed (e ∷ es) k i n distinct at low high q =
    let all = e ∷ es in
    let front = take (n + 1) all in
    let size : length front ≡ n + 1 = length-take-le (n + 1) all (omega arith) in
    let first : position_or_len (nat_eq k) (keys_of all) ≡ i = (Found-position (nat_eq k) all i at).or_len in
    let here : position_or_len (nat_eq k) (keys_of front) ≡ i = position_or_len-take (nat_eq k) all (n + 1) (omega (arith, first)) (omega arith) ∙ first in
    let within : i < length (keys_of front) = omega (arith, size, length-keys_of front) in
    let index : position (nat_eq k) (keys_of front) ≡ Some i =
    (λ j. cond (nat_lt (here j) (length (keys_of front))) (Some (here j)) None) ∙ ap (λ b. cond b (Some i) None) (lt-ltb i (length (keys_of front)) within) in
    let apart : IsDistinct nat_eq (keys_of front) = subst (IsDistinct nat_eq) (take-map (λ x. x.0) (n + 1) all) (distinct-take nat_eq_equiv (n + 1) (keys_of all) distinct) in
    let out = swap_out nat_eq nat_eq_equiv (nat_eq k) (nat_eq_equiv.congr k) front i (get_or front i e) index (slice_get-get_or front i e (omega (arith, size))) apart
    (take n (swap all i n)) (take-swap_remove all i n (get_or front i e) low high) in
    out.updated.0 q ∙ ap (λ b. cond b None (lookup (nat_eq q) front)) (nat_eq_equiv.symm k q)

-- the same, where the entry is among the first n
pub lookup-taken_out : {X : Type 0} (es : List (ℕ × X)) (k i n : ℕ) → IsDistinct nat_eq (keys_of es) → position (nat_eq k) (keys_of es) ≡ Some i → i < n → n ≤ length es
    → (q : ℕ) → lookup (nat_eq q) (take (n - 1) (swap es i (n - 1))) ≡ (if q == k then None else lookup (nat_eq q) (take n es))
lookup-taken_out es k i zero distinct at inside within q = absurd (omega arith)
lookup-taken_out es k i (suc n) distinct at inside within q =
    let last : suc n - 1 ≡ n = omega arith in
    let all : n + 1 ≡ suc n = omega arith in
    (λ j. lookup (nat_eq q) (take (last j) (swap es i (last j)))) ∙ lookup-removed es k i n distinct at (omega arith) (omega arith) q ∙ ap (λ m. if q == k then None else lookup (nat_eq q) (take m es)) all
