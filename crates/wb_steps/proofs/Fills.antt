-- A place moves on in its cell: it is filled, its cell is taken by its owner, or its entry is taken out.
use Rattle.std.proofs.Common.{◌≡◌, ◌≢◌, ℕ, zero, suc, ◌+◌, ◌%◌, ◌<◌, ◌≤◌, List, [], ◌∷◌, length, get_or, set, Bool, cond, sym, ap, refl, ◌∙◌, subst, inl, inr, arith}
use Rattle.std.specs.List.{Contains}
use Rattle.std.specs.Prelude.{Option, Some}
use Rattle.std.proofs.lemmas.Bool.{cases_eq, cases_lt, eq-eqb, ne_eqb}
use Rattle.std.proofs.lemmas.List.{get_or-set_other, get_or-set_same, length-set}
use Rattle.std.proofs.Math.Nat.{mod-lt}
use mathlib.Core.Option.{some, none, some-injective, some-ne-none}
use mathlib.Core.Option as maybe
use lib.ListN.{get_elem?}
use Rattle.atomic_table.proofs.Lists.{one_turn, set_here, set_else}
use Rattle.wb_geometry.specs.History.{HistoryEntry, client_of}
use Rattle.wb_steps.specs.Views.{IsPrefix, placed, filling, without, released}
use Rattle.wb_steps.specs.Rule.{Intake, Home, cells, cell_word, Phase, filled, taken, holder, unfilled_phase, InPhase, Truth, Owns, Fits, IsSound, IsLawful}
use Rattle.wb_steps.specs.declared.shape.Shape.{Shape}
use Rattle.wb_steps.specs.declared.view.View.{View}
use Rattle.wb_steps.specs.declared.view.Role.TheVariants.{Owner}
use Rattle.wb_steps.proofs.Lists.{prefix_same, without_less, without_other}
use Rattle.wb_steps.proofs.Phases.{put, put_here, put_else, holder_unfilled, filled-ne-taken, released_some, unfilled_released}
use Rattle.wb_steps.proofs.Fitting.{Turns, parts_same, turns_by, moved}

-- two places of one turn have two cells
pub other_cell : (n d p q : ℕ) → d ≤ p → p < d + n → d ≤ q → q < d + n → q ≢ p → q % n ≢ p % n
other_cell n d p q a b a' b' other e = elim (cases_lt p q) [
  | inl less ↦ other (sym (one_turn p q n (omega arith) (omega arith) (sym e)))
  | inr more ↦ other (one_turn q p n more (omega arith) e)
]

-- the entry e of the client c stands at the place p of the entries from the place q on
abbrev Stands : (c q : ℕ) → List HistoryEntry → (p : ℕ) → HistoryEntry → Type 0
Stands c q es p e = (j : ℕ) × (p ≡ q + j) × (get_elem? es j ≡ some e) × (client_of e ≡ c)

stands_later : (c q : ℕ) (x : HistoryEntry) (xs : List HistoryEntry) (p : ℕ) (e : HistoryEntry) → Stands c (q + 1) xs p e → Stands c q (x ∷ xs) p e
stands_later c q x xs p e r = (suc r.0, omega (arith, r.1), r.2, r.3)

stands_head : (c q : ℕ) (x : HistoryEntry) (xs : List HistoryEntry) (p : ℕ) (e : HistoryEntry) → client_of x ≡ c → ((i : ℕ) → get_elem? (placed c (q + 1) xs) i ≡ some (p, e) → Stands c (q + 1) xs p e)
    → (i : ℕ) → get_elem? ((q, x) ∷ placed c (q + 1) xs) i ≡ some (p, e) → Stands c q (x ∷ xs) p e
stands_head c q x xs p e own more zero h = let same = some-injective (q, x) (p, e) h in
    (0, (let g : q ≡ p = ap (λ (m : ℕ × HistoryEntry). m.0) same in omega arith), ap (λ (m : ℕ × HistoryEntry). some m.1) same, ap (λ (m : ℕ × HistoryEntry). client_of m.1) (sym same) ∙ own)
stands_head c q x xs p e own more (suc i) h = stands_later c q x xs p e (more i h)

-- what an owner names is named so in the list of entries
pub placed_at : (c q : ℕ) (es : List HistoryEntry) (i p : ℕ) (e : HistoryEntry) → get_elem? (placed c q es) i ≡ some (p, e) → Stands c q es p e
placed_at c q [] i p e h = absurd (some-ne-none (p, e) (sym h))
placed_at c q (x ∷ xs) i p e h = elim (cases_eq (client_of x) c) [
  | inl own ↦ stands_head c q x xs p e own (λ n g. placed_at c (q + 1) xs n p e g) i
      (subst (λ (b : Bool). get_elem? (cond b ((q, x) ∷ placed c (q + 1) xs) (placed c (q + 1) xs)) i ≡ some (p, e)) (eq-eqb (client_of x) c own) h)
  | inr other ↦ stands_later c q x xs p e (placed_at c (q + 1) xs i p e
      (subst (λ (b : Bool). get_elem? (cond b ((q, x) ∷ placed c (q + 1) xs) (placed c (q + 1) xs)) i ≡ some (p, e)) (ne_eqb (client_of x) c other) h))
]

-- The word of the cell of the place p becomes x, and the cell h.
module _ (k : Shape) (t : Truth) (words : List ℕ) (homes : List Home) (o : IsSound k t words homes) (p x : ℕ) (h : Home) (drained : List HistoryEntry) (phase : ℕ → Phase) where
  abbrev further : Truth
  further = record t { drained = drained; phase = phase }

  pub cell_sound : IsPrefix drained t.log → t.limit ≤ length drained + cells k → t.stable ≤ length drained
      → ((q : ℕ) (e : HistoryEntry) (j : ℕ) → length drained ≤ q → get_elem? t.log q ≡ some e → holder (phase q) ≡ suc j → t.seat (client_of e) ≡ j)
      → ((q : ℕ) → length drained ≤ q → q < length drained + cells k → InPhase t.log drained (get_or (set words (cell_word k p) x) (cell_word k q) 0) (get_elem? (set homes (p % cells k) h) (q % cells k)) q (phase q))
      → IsSound k further (set words (cell_word k p) x) (set homes (p % cells k) h)
  cell_sound behind room stable_below holders each = record {
    some_cell = o.some_cell;
    wide = length-set words (cell_word k p) x ∙ o.wide;
    deep = length-set homes (p % cells k) h ∙ o.deep;
    cursor = get_or-set_other words (cell_word k p) 0 x 0 (λ e. omega arith) ∙ o.cursor;
    limit = get_or-set_other words (cell_word k p) 1 x 0 (λ e. omega arith) ∙ o.limit;
    stable = get_or-set_other words (cell_word k p) 2 x 0 (λ e. omega arith) ∙ o.stable;
    fault = ap Rattle.wb_steps.specs.Faults.parts_of (get_or-set_other words (cell_word k p) 3 x 0 (λ e. omega arith)) ∙ o.fault;
    behind = behind;
    below = o.below;
    room = room;
    whole = o.whole;
    stable_whole = o.stable_whole;
    stable_below = stable_below;
    each_entry = o.each_entry;
    each_owner = o.each_owner;
    untold = o.untold;
    each_holder = holders;
    each_cell = each;
  }

-- The place p moves on to the phase f: its word is x then, and its cell is h.
module _ (k : Shape) (s : Intake) (law : IsLawful k s) (id p : ℕ) (f : Phase) where
  abbrev t : Truth
  t = law.truth

  abbrev pub with_phase : Truth
  with_phase = record law.truth { phase = put law.truth.phase p f }

  pub turns_at : ((j : ℕ) → j ≢ id → length t.drained ≤ p → p < length t.log → holder (t.phase p) ≢ suc j) → ((j : ℕ) → j ≢ id → holder f ≢ suc j) → (t.drain ≢ id → (p ≡ length t.drained → t.phase p ≢ taken) × (f ≢ taken)) → Turns t with_phase id
  turns_at was now drain = turns_by t id t.drained t.limit t.stable t.fault (put t.phase p f) (prefix_same t.drained) (omega arith) (omega arith) (parts_same t.fault)
      (λ j q n low high h. (low, put_else t.phase p f q (λ e. was j n (omega (arith, e, low)) (omega (arith, e, high)) (ap (λ (x : ℕ). holder (t.phase x)) (sym e) ∙ h))))
      (λ j q n low high h. elim (cases_eq q p) [
        | inl is ↦ absurd (now j n (ap holder (sym (put_here t.phase p f q is)) ∙ h))
        | inr other ↦ (low, high, ap holder (sym (put_else t.phase p f q other)) ∙ h)
      ])
      (λ n. (
        refl,
        refl,
        refl,
        refl,
        refl,
        (λ h. elim (cases_eq (length t.drained) p) [
          | inl is ↦ absurd ((drain n).0 (sym is) (ap t.phase (sym is) ∙ h))
          | inr other ↦ put_else t.phase p f (length t.drained) other ∙ h
        ]),
        λ h. elim (cases_eq (length t.drained) p) [
          | inl is ↦ absurd ((drain n).1 (sym (put_here t.phase p f (length t.drained) is) ∙ h))
          | inr other ↦ sym (put_else t.phase p f (length t.drained) other) ∙ h
        ],
      ))

  pub sound_at : (x : ℕ) (h : Home) → length t.drained ≤ p → p < length t.drained + cells k → InPhase t.log t.drained x (some h) p f
      → ((e : HistoryEntry) (j : ℕ) → get_elem? t.log p ≡ some e → holder f ≡ suc j → t.seat (client_of e) ≡ j)
      → IsSound k with_phase (set s.words (cell_word k p) x) (set s.homes (p % cells k) h)
  sound_at x h low high in_phase owner = let o = law.sound in let wide : length s.words ≡ cells k + 4 = o.wide in let cell : p % cells k < cells k = mod-lt p o.some_cell in
      cell_sound k t s.words s.homes o p x h t.drained (put t.phase p f) o.behind o.room o.stable_below
      (λ q e j l at hold. elim (cases_eq q p) [
        | inl is ↦ owner e j (ap (get_elem? t.log) (sym is) ∙ at) (ap holder (sym (put_here t.phase p f q is)) ∙ hold)
        | inr other ↦ o.each_holder q e j l at (ap holder (sym (put_else t.phase p f q other)) ∙ hold)
      ])
      (λ q l g. elim (cases_eq q p) [
        | inl is ↦
            subst (InPhase t.log t.drained (get_or (set s.words (cell_word k p) x) (cell_word k q) 0) (get_elem? (set s.homes (p % cells k) h) (q % cells k)) q) (sym (put_here t.phase p f q is))
            (subst (λ (y : ℕ). InPhase t.log t.drained (get_or (set s.words (cell_word k p) x) (cell_word k y) 0) (get_elem? (set s.homes (p % cells k) h) (y % cells k)) y f) (sym is)
            (subst (λ (y : ℕ). InPhase t.log t.drained y (get_elem? (set s.homes (p % cells k) h) (p % cells k)) p f) (sym (get_or-set_same s.words (cell_word k p) x 0 (omega arith)))
            (subst (λ (y : maybe.Option Home). InPhase t.log t.drained x y p f) (sym (set_here s.homes (p % cells k) h (let deep : length s.homes ≡ cells k = o.deep in omega arith))) in_phase)))
        | inr other ↦ let apart = other_cell (cells k) (length t.drained) p q low high l g other in
            subst (InPhase t.log t.drained (get_or (set s.words (cell_word k p) x) (cell_word k q) 0) (get_elem? (set s.homes (p % cells k) h) (q % cells k)) q) (sym (put_else t.phase p f q other))
            (subst (λ (y : ℕ). InPhase t.log t.drained y (get_elem? (set s.homes (p % cells k) h) (q % cells k)) q (t.phase q)) (sym (get_or-set_other s.words (cell_word k p) (cell_word k q) x 0 (λ e. apart (omega arith))))
            (subst (λ (y : maybe.Option Home). InPhase t.log t.drained (get_or s.words (cell_word k q) 0) y q (t.phase q)) (sym (set_else s.homes (p % cells k) (q % cells k) h apart)) (o.each_cell q l g)))
      ])

-- an owner of which only the unfilled places change, and the one whose cell it holds
pub owns_with : (t : Truth) (id : ℕ) (v : View) (phase : ℕ → Phase) (unfilled : List ℕ) (held : Option ℕ) → Owns t id v
    → ((p : ℕ) → Contains unfilled p → (length t.drained ≤ p) × (p < length t.log) × (phase p ≡ unfilled_phase held id p))
    → ((p : ℕ) → length t.drained ≤ p → p < length t.log → holder (phase p) ≡ suc id → Contains unfilled p)
    → ((p : ℕ) → held ≡ Some p → Contains unfilled p)
    → Owns (record t { phase = phase }) id (record v { unfilled = unfilled; held = held })
owns_with t id v phase unfilled held o in_flight no_other holds = record {
  seen = record { known = o.seen.known; short = o.seen.short; cursor = o.seen.cursor; limit = o.seen.limit; stable = o.seen.stable; fault = o.seen.fault; heard = o.seen.heard };
  seat = o.seat;
  client = o.client;
  mine = o.mine;
  below = o.below;
  told = o.told;
  in_flight = in_flight;
  no_other = no_other;
  holds = holds;
}

-- an owner fills one of its places with the entry that it named for it
pub filled_law : (k : Shape) (s : Intake) (law : IsLawful k s) (id : ℕ) (v : View) (p i : ℕ) (e : HistoryEntry) → get_elem? s.views id ≡ some v → v.role ≡ Owner → Contains v.unfilled p → get_elem? v.mine i ≡ some (p, e)
    → IsLawful k record { words = set s.words (cell_word k p) (p + 1); homes = set s.homes (p % cells k) (some (Some e)); views = set s.views id (filling v p) }
filled_law k s law id v p i e at role has named =
    let t : Truth = law.truth in
    let o : Owns t id v = subst (Fits t id v) role (law.each_view id v at) in
    let place = o.in_flight p has in
    let d : length t.drained ≤ p = place.0 in
    let room : p < length t.drained + cells k = omega (arith, place.1, law.sound.below, law.sound.room) in
    let in_log = placed_at v.client 0 t.log i p e (subst (λ (l : List (ℕ × HistoryEntry)). get_elem? l i ≡ some (p, e)) o.mine named) in
    let here : get_elem? t.log p ≡ some e = ap (get_elem? t.log) (let g : p ≡ in_log.0 = omega (arith, in_log.1) in g) ∙ in_log.2 in
    let hold : holder (t.phase p) ≡ suc id = ap holder place.2 ∙ holder_unfilled v.held id p in
    moved k s law (with_phase k s law id p filled) id v (filling v p) (set s.words (cell_word k p) (p + 1)) (set s.homes (p % cells k) (some (Some e))) at refl refl refl
    (turns_at k s law id p filled (λ j n low high h. n (omega (arith, hold, h))) (λ j n h. omega (arith, h)) (λ n. ((λ is h. let z : suc id ≡ 0 = sym hold ∙ ap holder h in omega (arith, z)), filled-ne-taken)))
    (sound_at k s law id p filled (p + 1) (some (Some e)) d room (place.1, refl, (e, here, refl)) (λ x j at h. omega (arith, h)))
    (subst (Fits (with_phase k s law id p filled) id (filling v p)) (sym role) (owns t o))
  where
    owns : (t : Truth) → Owns t id v → Owns (record t { phase = put t.phase p filled }) id (filling v p)
    owns t o = owns_with t id v (put t.phase p filled) (without p v.unfilled) (released p v.held) o
        (λ q h. let was = without_less p q v.unfilled h in let place = o.in_flight q was.0 in
        (place.0, place.1, put_else t.phase p filled q was.1 ∙ place.2 ∙ sym (unfilled_released p id q v.held was.1)))
        (λ q low high h. elim (cases_eq q p) [
          | inl is ↦ absurd (let z : 0 ≡ suc id = ap holder (sym (put_here t.phase p filled q is)) ∙ h in omega (arith, z))
          | inr other ↦ without_other p q v.unfilled (o.no_other q low high (ap holder (sym (put_else t.phase p filled q other)) ∙ h)) other
        ])
        (λ q h. let was = released_some p q v.held h in without_other p q v.unfilled (o.holds q was.0) was.1)
