-- A cell is taken by its owner, and an entry is taken out and given to the drained list.
use Rattle.std.proofs.Common.{◌≡◌, ◌≢◌, ◌⊎◌, ℕ, zero, suc, ◌+◌, ◌*◌, ◌%◌, ◌<◌, ◌≤◌, max, eqb, List, [], ◌∷◌, ◌++◌, length, map, get_or, set, Bool, true, false, cond, sym, ap, refl, ◌∙◌, subst, inl, inr, append_assoc, arith}
use Rattle.std.specs.List.{Contains}
use Rattle.std.specs.Prelude.{Option, Some, None}
use Rattle.std.proofs.lemmas.Bool.{cases_eq, eq-eqb, ne_eqb}
use Rattle.std.proofs.lemmas.List.{get_or-set_other, get_or-set_same, length-set, length-append, set-get_or}
use Rattle.std.proofs.Math.Nat.{mod-lt}
use native.Mathlib.Nat.{add-mod_right}
use mathlib.Core.Option.{some, none, some-injective, some-ne-none}
use mathlib.Core.Option as maybe
use lib.ListN.{get_elem?}
use Rattle.atomic_table.proofs.Lists.{set_here, set_else}
use Rattle.wb_geometry.specs.History.{HistoryEntry}
use Rattle.wb_steps.specs.Views.{IsPrefix, holding, taking, draining}
use Rattle.wb_steps.specs.Rule.{Intake, Home, cells, cell_word, Phase, free, claimed, filling, filled, taken, holder, unfilled_phase, InPhase, Truth, Owns, Drains, Fits, IsSound, IsLawful}
use Rattle.wb_steps.specs.declared.shape.Shape.{Shape}
use Rattle.wb_steps.specs.declared.view.View.{View}
use Rattle.wb_steps.specs.declared.view.Role.TheVariants.{Owner, Drain}
use Rattle.wb_steps.proofs.Lists.{prefix_more}
use Rattle.wb_steps.proofs.Phases.{put, put_here, put_else, free-ne-taken, held-ne-none, held_is}
use Rattle.wb_steps.proofs.Fitting.{Turns, parts_same, turns_by, moved}
use Rattle.wb_steps.proofs.Cells.{inside_of}
use Rattle.wb_steps.proofs.Fills.{other_cell, turns_at, cell_sound, sound_at, owns_with, with_phase}

-- an owner that holds no cell takes the cell of one of its unfilled places, which is empty
pub entered_law : (k : Shape) (s : Intake) (law : IsLawful k s) (id : ℕ) (v : View) (p : ℕ) → get_elem? s.views id ≡ some v → v.role ≡ Owner → Contains v.unfilled p → v.held ≡ None
    → (get_elem? s.homes (p % cells k) ≡ some (some None))
    × IsLawful k record { words = set s.words (cell_word k p) (get_or s.words (cell_word k p) 0); homes = set s.homes (p % cells k) none; views = set s.views id (holding v p) }
entered_law k s law id v p at role has bare =
    let t : Truth = law.truth in
    let o : Owns t id v = subst (Fits t id v) role (law.each_view id v at) in
    let place = o.in_flight p has in
    let d : length t.drained ≤ p = place.0 in
    let room : p < length t.drained + cells k = omega (arith, place.1, law.sound.below, law.sound.room) in
    let is : t.phase p ≡ claimed id = place.2 ∙ ap (λ (h : Option ℕ). unfilled_phase h id p) bare in
    let was : InPhase t.log t.drained (get_or s.words (cell_word k p) 0) (get_elem? s.homes (p % cells k)) p (claimed id) = subst (InPhase t.log t.drained (get_or s.words (cell_word k p) 0) (get_elem? s.homes (p % cells k)) p) is (law.sound.each_cell p d room) in
    let hold : holder (t.phase p) ≡ suc id = ap holder is in (
      was.2,
      moved k s law (with_phase k s law id p (filling id)) id v (holding v p) (set s.words (cell_word k p) (get_or s.words (cell_word k p) 0)) (set s.homes (p % cells k) none) at refl refl refl
          (turns_at k s law id p (filling id) (λ j n low high h. n (omega (arith, hold, h))) (λ j n h. n (omega (arith, h)))
          (λ n. ((λ e h. let z : suc id ≡ 0 = sym hold ∙ ap holder h in omega (arith, z)), λ h. let z : suc id ≡ 0 = ap holder h in omega (arith, z))))
          (sound_at k s law id p (filling id) (get_or s.words (cell_word k p) 0) none d room (place.1, was.1, refl) (λ x j in_log h. law.sound.each_holder p x j d in_log (hold ∙ h)))
          (subst (Fits (with_phase k s law id p (filling id)) id (holding v p)) (sym role) (owns t o)),
    )
  where
    owns : (t : Truth) → Owns t id v → Owns (record t { phase = put t.phase p (filling id) }) id (holding v p)
    owns t o = owns_with t id v (put t.phase p (filling id)) v.unfilled (Some p) o
        (λ q h. let place = o.in_flight q h in (
          place.0,
          place.1,
          elim (cases_eq q p) [
            | inl is ↦ put_here t.phase p (filling id) q is ∙ sym (ap (λ (b : Bool). cond b (filling id) (claimed id)) (eq-eqb p q (sym is)))
            | inr other ↦ put_else t.phase p (filling id) q other ∙ place.2 ∙ ap (λ (h : Option ℕ). unfilled_phase h id q) bare ∙ sym (ap (λ (b : Bool). cond b (filling id) (claimed id)) (ne_eqb p q (λ e. other (sym e))))
          ],
        ))
        (λ q low high h. elim (cases_eq q p) [
          | inl is ↦ subst (Contains v.unfilled) (sym is) has
          | inr other ↦ o.no_other q low high (ap holder (sym (put_else t.phase p (filling id) q other)) ∙ h)
        ])
        (λ q h. subst (Contains v.unfilled) (held_is p q h) has)

-- where the drain holds no cell, and the word says that the next place is filled, its entry is at home
pub filled_next : (k : Shape) (s : Intake) (law : IsLawful k s) (id : ℕ) (v : View) → get_elem? s.views id ≡ some v → v.role ≡ Drain → v.held ≡ None
    → get_or s.words (cell_word k (length v.known)) 0 ≡ length v.known + 1
    → (length v.known < length law.truth.log) × (holder (law.truth.phase (length v.known)) ≡ 0)
    × ((e : HistoryEntry) × (get_elem? law.truth.log (length v.known) ≡ some e) × (get_elem? s.homes (length v.known % cells k) ≡ some (some (Some e))))
filled_next k s law id v at role bare says =
    let t : Truth = law.truth in
    let o : Drains t id v = subst (Fits t id v) role (law.each_view id v at) in
    let p : ℕ = length v.known in
    let d : p ≡ length t.drained = ap length o.known in
    by_phase t (t.phase p) (λ h. o.rests bare (ap t.phase (sym d) ∙ h)) (law.sound.each_cell p (omega (arith, d)) (omega (arith, d, law.sound.some_cell)))
  where
    by_phase : (t : Truth) (f : Phase) → (f ≢ taken) → InPhase t.log t.drained (get_or s.words (cell_word k (length v.known)) 0) (get_elem? s.homes (length v.known % cells k)) (length v.known) f
        → (length v.known < length t.log) × (holder f ≡ 0) × ((e : HistoryEntry) × (get_elem? t.log (length v.known) ≡ some e) × (get_elem? s.homes (length v.known % cells k) ≡ some (some (Some e))))
    by_phase t free n c = absurd (omega (arith, c.1, says))
    by_phase t (claimed j) n c = absurd (omega (arith, c.1, says))
    by_phase t (filling j) n c = absurd (omega (arith, c.1, says))
    by_phase t filled n c = (c.0, refl, c.2)
    by_phase t taken n c = absurd (n refl)

-- the drain takes out the entry of the next place
pub taken_law : (k : Shape) (s : Intake) (law : IsLawful k s) (id : ℕ) (v : View) (e : HistoryEntry) → get_elem? s.views id ≡ some v → v.role ≡ Drain → v.held ≡ None
    → get_or s.words (cell_word k (length v.known)) 0 ≡ length v.known + 1 → get_elem? s.homes (length v.known % cells k) ≡ some (some (Some e))
    → IsLawful k record { words = set s.words (cell_word k (length v.known)) (get_or s.words (cell_word k (length v.known)) 0); homes = set s.homes (length v.known % cells k) none; views = set s.views id (taking v e) }
taken_law k s law id v e at role bare says home =
    let t : Truth = law.truth in
    let o : Drains t id v = subst (Fits t id v) role (law.each_view id v at) in
    let p : ℕ = length v.known in
    let d : p ≡ length t.drained = ap length o.known in
    let next = filled_next k s law id v at role bare says in
    let same : next.2.0 ≡ e = entry_is next.2.0 (sym next.2.2 ∙ home) in
    let here : get_elem? t.log p ≡ some e = next.2.1 ∙ ap some same in
    moved k s law (with_phase k s law id p taken) id v (taking v e) (set s.words (cell_word k p) (get_or s.words (cell_word k p) 0)) (set s.homes (p % cells k) none) at refl refl refl
    (turns_at k s law id p taken (λ j n low high h. omega (arith, next.1, h)) (λ j n h. omega (arith, h)) (λ n. absurd (n (sym o.seat))))
    (sound_at k s law id p taken (get_or s.words (cell_word k p) 0) none (omega (arith, d)) (omega (arith, d, law.sound.some_cell)) (next.0, says, d, refl) (λ x j in_log h. omega (arith, h)))
    (subst (Fits (with_phase k s law id p taken) id (taking v e)) (sym role) (drains t o next.0 here))
  where
    entry_is : (x : HistoryEntry) → some (some (Some x)) ≡ some (some (Some e)) → x ≡ e
    entry_is x h = ap (λ (y : maybe.Option Home). entry y) h
      where
        entry : maybe.Option Home → HistoryEntry
        entry none = e
        entry (some none) = e
        entry (some (some None)) = e
        entry (some (some (Some y))) = y

    drains : (t : Truth) → Drains t id v → length v.known < length t.log → get_elem? t.log (length v.known) ≡ some e → Drains (record t { phase = put t.phase (length v.known) taken }) id (taking v e)
    drains t o inside here = let d : length v.known ≡ length t.drained = ap length o.known in record {
      seen = record { known = o.seen.known; short = omega (arith, o.seen.short); cursor = omega (arith, o.seen.cursor, inside); limit = o.seen.limit; stable = o.seen.stable; fault = o.seen.fault; heard = o.seen.heard };
      seat = o.seat;
      clients = o.clients;
      known = o.known;
      limit = o.limit;
      stable = o.stable;
      fault = o.fault;
      holds = λ q h. let is : q ≡ length v.known = sym (held_is (length v.known) q h) in
          (is ∙ d, put_here t.phase (length v.known) taken q is, omega (arith, is), (e, ap (get_elem? t.log) is ∙ here, ap (λ (n : ℕ). (n, e) ∷ []) (sym is)));
      rests = λ h. absurd (held-ne-none (length v.known) h);
    }

prefix_next : (xs ys : List HistoryEntry) (e : HistoryEntry) → IsPrefix xs ys → get_elem? ys (length xs) ≡ some e → IsPrefix (xs ++ e ∷ []) ys
prefix_next [] [] e a h = absurd (some-ne-none e (sym h))
prefix_next [] (y ∷ ys) e a h = (ys, ap (λ (z : HistoryEntry). z ∷ ys) (some-injective y e h))
prefix_next (x ∷ xs) [] e a h = absurd (some-ne-none e (sym h))
prefix_next (x ∷ xs) (y ∷ ys) e a h = let r = prefix_next xs ys e (a.0, ap (Rattle.std.proofs.Common.drop 1) a.1) h in
    (r.0, ap (λ (l : List HistoryEntry). first l ∷ ys) a.1 ∙ ap (λ (l : List HistoryEntry). x ∷ l) r.1)
  where
    first : List HistoryEntry → HistoryEntry
    first [] = e
    first (z ∷ zs) = z

-- what holds of a place that is not the next one to drain still holds where more is drained
phase_drained : (log drained more : List HistoryEntry) (word : ℕ) (home : maybe.Option Home) (p : ℕ) (f : Phase) → p ≢ length drained → InPhase log drained word home p f → InPhase log more word home p f
phase_drained log drained more word home p free n c = c
phase_drained log drained more word home p (claimed j) n c = c
phase_drained log drained more word home p (filling j) n c = c
phase_drained log drained more word home p filled n c = c
phase_drained log drained more word home p taken n c = absurd (n c.2)

-- The drain gives the cell back, and the entry that it took out joins the drained list.
module _ (k : Shape) (s : Intake) (law : IsLawful k s) (id : ℕ) (v : View) (e : HistoryEntry) (o : Drains law.truth id v)
    (is_taken : law.truth.phase (length law.truth.drained) ≡ taken) (here : get_elem? law.truth.log (length law.truth.drained) ≡ some e) (seen_it : length law.truth.drained < v.seen.cursor) where
  abbrev t : Truth
  t = law.truth

  abbrev d : ℕ
  d = length t.drained

  abbrev more : List HistoryEntry
  more = t.drained ++ e ∷ []

  abbrev after : Truth
  after = record t { drained = more; phase = put t.phase (d + cells k) free }

  longer_by_one : length more ≡ d + 1
  longer_by_one = length-append t.drained (e ∷ [])

  not_new : (p : ℕ) → p < length t.log → p ≢ d + cells k
  not_new p h is = omega (arith, h, is, law.sound.below, law.sound.room)

  gives_turns : Turns t after id
  gives_turns = let n = longer_by_one in turns_by t id more t.limit t.stable t.fault (put t.phase (d + cells k) free) (prefix_more t.drained (e ∷ [])) (omega arith) (omega arith) (parts_same t.fault)
      (λ j p ne low high h. (
        (elim (cases_eq p d) [ inl is ↦ absurd (let z : 0 ≡ suc j = ap holder (sym is_taken ∙ ap t.phase (sym is)) ∙ h in omega (arith, z)) | inr other ↦ omega arith ]),
        put_else t.phase (d + cells k) free p (not_new p high),
      ))
      (λ j p ne low high h. (omega arith, high, ap holder (sym (put_else t.phase (d + cells k) free p (not_new p high))) ∙ h))
      (λ ne. absurd (ne (sym o.seat)))

  gives_cell : (p : ℕ) → length more ≤ p → p < length more + cells k
      → InPhase t.log more (get_or (set s.words (cell_word k d) 0) (cell_word k p) 0) (get_elem? (set s.homes (d % cells k) (some None)) (p % cells k)) p (put t.phase (d + cells k) free p)
  gives_cell p low high =
      let n = longer_by_one in let wide : length s.words ≡ cells k + 4 = law.sound.wide in let deep : length s.homes ≡ cells k = law.sound.deep in let cell : d % cells k < cells k = mod-lt d law.sound.some_cell in
      let below : length t.log ≤ t.limit = law.sound.below in let room : t.limit ≤ d + cells k = law.sound.room in
      elim (cases_eq p (d + cells k)) [
        | inl is ↦ let turn : p % cells k ≡ d % cells k = ap (λ (x : ℕ). x % cells k) is ∙ add-mod_right d (cells k) in
            subst (InPhase t.log more (get_or (set s.words (cell_word k d) 0) (cell_word k p) 0) (get_elem? (set s.homes (d % cells k) (some None)) (p % cells k)) p) (sym (put_here t.phase (d + cells k) free p is)) (
              omega arith,
              ap (λ (x : ℕ). get_or (set s.words (cell_word k d) 0) (x + 4) 0) turn ∙ get_or-set_same s.words (cell_word k d) 0 0 (omega arith),
              ap (get_elem? (set s.homes (d % cells k) (some None))) turn ∙ set_here s.homes (d % cells k) (some None) (omega arith),
            )
        | inr other ↦ let inside : p < d + cells k = omega arith in let apart = other_cell (cells k) d d p (omega arith) (omega (arith, law.sound.some_cell)) (omega arith) inside (λ x. omega arith) in
            subst (InPhase t.log more (get_or (set s.words (cell_word k d) 0) (cell_word k p) 0) (get_elem? (set s.homes (d % cells k) (some None)) (p % cells k)) p) (sym (put_else t.phase (d + cells k) free p other))
            (subst (λ (x : ℕ). InPhase t.log more x (get_elem? (set s.homes (d % cells k) (some None)) (p % cells k)) p (t.phase p)) (sym (get_or-set_other s.words (cell_word k d) (cell_word k p) 0 0 (λ x. apart (omega arith))))
            (subst (λ (x : maybe.Option Home). InPhase t.log more (get_or s.words (cell_word k p) 0) x p (t.phase p)) (sym (set_else s.homes (d % cells k) (p % cells k) (some None) apart))
            (phase_drained t.log t.drained more (get_or s.words (cell_word k p) 0) (get_elem? s.homes (p % cells k)) p (t.phase p) (λ x. omega arith) (law.sound.each_cell p (omega arith) inside))))
      ]

  gives_sound : IsSound k after (set s.words (cell_word k d) 0) (set s.homes (d % cells k) (some None))
  gives_sound = let o = law.sound in let n = longer_by_one in
      cell_sound k t s.words s.homes o d 0 (some None) more (put t.phase (d + cells k) free) (prefix_next t.drained t.log e o.behind here) (omega (arith, o.room)) (omega (arith, o.stable_below))
      (λ p x j low at h. o.each_holder p x j (omega arith) at (ap holder (sym (put_else t.phase (d + cells k) free p (not_new p (inside_of t.log p x at)))) ∙ h))
      gives_cell

  gives_fits : v.mine ≡ (d, e) ∷ [] → Drains after id (draining v)
  gives_fits mine = let n = longer_by_one in
      let known : v.known ++ map (λ m. m.1) v.mine ≡ more = (λ i. o.known i ++ map (λ m. m.1) (mine i)) in
      let long : length (v.known ++ map (λ m. m.1) v.mine) ≡ d + 1 = ap length known ∙ n in record {
        seen = record {
          known = ([], known_all known);
          short = omega (arith, seen_it, long);
          cursor = o.seen.cursor;
          limit = o.seen.limit;
          stable = o.seen.stable;
          fault = o.seen.fault;
          heard = o.seen.heard;
        };
        seat = o.seat;
        clients = o.clients;
        known = known;
        limit = o.limit;
        stable = o.stable;
        fault = o.fault;
        holds = λ p h. absurd (held-ne-none p (sym h));
        rests = λ none_held h. elim (cases_eq (length more) (d + cells k)) [
          | inl is ↦ free-ne-taken (sym (put_here t.phase (d + cells k) free (length more) is) ∙ h)
          | inr other ↦
              let p : ℕ = length more in let at : t.phase p ≡ taken = sym (put_else t.phase (d + cells k) free p other) ∙ h in
              let c = subst (InPhase t.log t.drained (get_or s.words (cell_word k p) 0) (get_elem? s.homes (p % cells k)) p) at (law.sound.each_cell p (omega arith) (omega (arith, law.sound.some_cell))) in
              omega (arith, c.2)
        ];
      }
    where
      known_all : {xs ys : List HistoryEntry} → xs ≡ ys → ys ≡ xs ++ []
      known_all {xs} {ys} e = sym e ∙ sym (Rattle.std.proofs.lemmas.List.append-nil xs)

pub given_law : (k : Shape) (s : Intake) (law : IsLawful k s) (id : ℕ) (v : View) → get_elem? s.views id ≡ some v → v.role ≡ Drain → (v.held ≢ None)
    → IsLawful k record { words = set s.words (cell_word k (length v.known)) 0; homes = set s.homes (length v.known % cells k) (some None); views = set s.views id (draining v) }
given_law k s law id v at role has =
    let t : Truth = law.truth in
    let o : Drains t id v = subst (Fits t id v) role (law.each_view id v at) in
    let p = held_one v.held has in
    let h = o.holds p.0 p.1 in
    let e : HistoryEntry = h.3.0 in
    let is : length t.drained ≡ length v.known = ap length (sym o.known) in
    let made : IsLawful k record { words = set s.words (cell_word k (length t.drained)) 0; homes = set s.homes (length t.drained % cells k) (some None); views = set s.views id (draining v) } =
    (let here : get_elem? t.log (length t.drained) ≡ some e = ap (get_elem? t.log) (sym h.0) ∙ h.3.1 in let ph : t.phase (length t.drained) ≡ taken = ap t.phase (sym h.0) ∙ h.1 in let sn : length t.drained < v.seen.cursor = omega (arith, h.0, h.2) in
    moved k s law (after k s law id v e o ph here sn) id v (draining v) (set s.words (cell_word k (length t.drained)) 0) (set s.homes (length t.drained % cells k) (some None)) at refl refl refl
    (gives_turns k s law id v e o ph here sn) (gives_sound k s law id v e o ph here sn)
    (subst (Fits (after k s law id v e o ph here sn) id (draining v)) (sym role) (gives_fits k s law id v e o ph here sn (h.3.2 ∙ ap (λ (n : ℕ). (n, e) ∷ []) h.0)))) in
    subst (λ (n : ℕ). IsLawful k record { words = set s.words (cell_word k n) 0; homes = set s.homes (n % cells k) (some None); views = set s.views id (draining v) }) is made
  where
    held_one : (held : Option ℕ) → (held ≢ None) → (p : ℕ) × (held ≡ Some p)
    held_one None n = absurd (n refl)
    held_one (Some p) n = (p, refl)
