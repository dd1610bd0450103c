-- Entries are named: a claim, and a bump.
use Rattle.std.proofs.Common.{◌≡◌, ℕ, zero, suc, ◌+◌, ◌-◌, ◌*◌, ◌/◌, ◌%◌, ◌^◌, ◌<◌, ◌≤◌, max, List, [], ◌∷◌, ◌++◌, length, replicate, get_or, set, sym, ap, refl, ◌∙◌, subst, inl, inr, arith}
use Rattle.std.specs.List.{All, Contains, enumerate_from}
use Rattle.std.specs.Prelude.{Option, Some, None}
use Rattle.std.proofs.lemmas.Bool.{cases_lt}
use Rattle.std.proofs.lemmas.List.{get_or-set_other, get_or-set_same, length-append, length-set, append-nil, length-replicate}
use Rattle.std.proofs.lemmas.List.Elements.{All-append, All-replicate}
use Rattle.std.proofs.lemmas.List.FromFn.{length-enumerate_from, get_or-enumerate_from}
use Rattle.std.proofs.Math.Nat.{mod-eq_of_lt}
use mathlib.Core.Option.{some, some-injective, some-ne-none}
use lib.ListN.{get_elem?}
use Rattle.atomic_table.proofs.Lists.{one_turn}
use Rattle.wb_geometry.specs.History.{HistoryEntry, Void, client_of}
use Rattle.wb_steps.specs.Views.{placed, naming}
use Rattle.wb_steps.specs.Rule.{Intake, cells, cell_word, MayStand, holder, unfilled_phase, InPhase, Truth, Owns, Fits, IsSound, IsLawful}
use Rattle.wb_steps.specs.declared.shape.Shape.{Shape}
use Rattle.wb_steps.specs.declared.view.View.{View}
use Rattle.wb_steps.specs.declared.view.Role.TheVariants.{Owner}
use Rattle.wb_steps.proofs.Lists.{prefix_trans, prefix_length, prefix_same, prefix_more, placed-append, placed-own, placed-others, Contains-none}
use Rattle.wb_steps.proofs.Phases.{named, named_below, named_here, named_above}
use Rattle.wb_steps.proofs.Fitting.{Turns, parts_same, moved}
use Rattle.wb_steps.proofs.Cells.{there, at_append, All_at, places_in, places_of, stand_segment, within_turn, whole_below, is_free, phase_longer, cell_word_else, taken_inside, inside_of}

-- The owner v with the seat id names places for the entries es of its client.
module _ (k : Shape) (s : Intake) (law : IsLawful k s) (id : ℕ) (v : View) (es : List HistoryEntry) where
  abbrev t : Truth
  t = law.truth

  abbrev a : ℕ
  a = length t.log

  abbrev b : ℕ
  b = length (t.log ++ es)

  abbrev u : Truth
  u = record t { log = t.log ++ es; phase = named a b id t.phase }

  grows : b ≡ a + length es
  grows = length-append t.log es

  d_below : length t.drained ≤ a
  d_below = prefix_length t.drained t.log law.sound.behind

  appended_turns : t.seat v.client ≡ id → All (λ e. client_of e ≡ v.client) es → Turns t u id
  appended_turns seat own = record {
    more = prefix_more t.log es;
    done = prefix_same t.drained;
    limit = omega arith;
    stable = omega arith;
    fault = parts_same t.fault;
    clients = omega arith;
    seat = λ c h. refl;
    drain = refl;
    tells = λ c. prefix_same (t.told c);
    told = λ c h n. refl;
    mine = λ c h n. placed-append c 0 t.log es
        ∙ ap (λ (l : List (ℕ × HistoryEntry)). placed c 0 t.log ++ l) (placed-others c (0 + a) es (λ i d inside e. n (ap t.seat (sym e ∙ own i d inside) ∙ seat)))
        ∙ append-nil (placed c 0 t.log);
    stays = λ j p n low high h. (low, named_below a b id t.phase p high);
    comes = λ j p n low high h. elim (cases_lt p a) [
      | inl below ↦ (low, below, ap holder (sym (named_below a b id t.phase p below)) ∙ h)
      | inr above ↦ absurd (n (let e : suc id ≡ suc j = ap holder (sym (named_here a b id t.phase p above high)) ∙ h in omega arith))
    ];
    other = λ n. (
      refl,
      refl,
      refl,
      refl,
      refl,
      (λ h. named_below a b id t.phase (length t.drained) (taken_inside k t s.words s.homes law.sound h) ∙ h),
      λ h. elim (cases_lt (length t.drained) a) [
        | inl below ↦ sym (named_below a b id t.phase (length t.drained) below) ∙ h
        | inr above ↦ elim (cases_lt (length t.drained) b) [
          | inl inside ↦ absurd (let e : suc id ≡ 0 = ap holder (sym (named_here a b id t.phase (length t.drained) above inside) ∙ h) in omega arith)
          | inr beyond ↦ sym (named_above a b id t.phase (length t.drained) above beyond) ∙ h
        ]
      ],
    );
  }

  cell_still : (p : ℕ) → length t.drained ≤ p → p < length t.drained + cells k
      → InPhase (t.log ++ es) t.drained (get_or (set s.words 0 b) (cell_word k p) 0) (get_elem? s.homes (p % cells k)) p (named a b id t.phase p)
  cell_still p low high =
      let was = law.sound.each_cell p low high in
      subst (λ (x : ℕ). InPhase (t.log ++ es) t.drained x (get_elem? s.homes (p % cells k)) p (named a b id t.phase p)) (sym (cell_word_else k s.words 0 b p (omega arith)))
      (elim (cases_lt p a) [
        | inl below ↦ subst (InPhase (t.log ++ es) t.drained (get_or s.words (cell_word k p) 0) (get_elem? s.homes (p % cells k)) p) (sym (named_below a b id t.phase p below))
            (phase_longer t.log es t.drained (get_or s.words (cell_word k p) 0) (get_elem? s.homes (p % cells k)) p (t.phase p) (inl below) was)
        | inr above ↦ elim (cases_lt p b) [
          | inl inside ↦ let f = is_free t.log t.drained (get_or s.words (cell_word k p) 0) (get_elem? s.homes (p % cells k)) p (t.phase p) above was in
              subst (InPhase (t.log ++ es) t.drained (get_or s.words (cell_word k p) 0) (get_elem? s.homes (p % cells k)) p) (sym (named_here a b id t.phase p above inside)) (inside, f.1, f.2)
          | inr beyond ↦ subst (InPhase (t.log ++ es) t.drained (get_or s.words (cell_word k p) 0) (get_elem? s.homes (p % cells k)) p) (sym (named_above a b id t.phase p above beyond))
              (phase_longer t.log es t.drained (get_or s.words (cell_word k p) 0) (get_elem? s.homes (p % cells k)) p (t.phase p) (inr beyond) was)
        ]
      ])

  appended_sound : t.seat v.client ≡ id → v.client < t.clients → All (λ e. client_of e ≡ v.client) es → b ≤ t.limit → ((i : ℕ) (e : HistoryEntry) → get_elem? es i ≡ some e → MayStand k (a + i) e)
      → IsSound k u (set s.words 0 b) s.homes
  appended_sound seat client own room stand = let o = law.sound in let long : length s.words ≡ cells k + 4 = o.wide in record {
    some_cell = o.some_cell;
    wide = length-set s.words 0 b ∙ o.wide;
    deep = o.deep;
    cursor = get_or-set_same s.words 0 b 0 (omega arith);
    limit = get_or-set_other s.words 0 1 b 0 (λ e. omega arith) ∙ o.limit;
    stable = get_or-set_other s.words 0 2 b 0 (λ e. omega arith) ∙ o.stable;
    fault = ap Rattle.wb_steps.specs.Faults.parts_of (get_or-set_other s.words 0 3 b 0 (λ e. omega arith)) ∙ o.fault;
    behind = prefix_trans t.drained t.log (t.log ++ es) o.behind (prefix_more t.log es);
    below = room;
    room = o.room;
    whole = o.whole;
    stable_whole = o.stable_whole;
    stable_below = o.stable_below;
    each_entry = λ p e at. elim (at_append t.log es p e at) [
      | inl old ↦ o.each_entry p e old
      | inr new ↦ subst (λ (q : ℕ). MayStand k q e) (sym new.1) (stand new.0 e new.2)
    ];
    each_owner = All-append (λ e. client_of e < t.clients) t.log es o.each_owner (λ i d inside. let e = own i d inside in omega (arith, e, client));
    untold = o.untold;
    each_holder = λ p e j low at h. elim (at_append t.log es p e at) [
      | inl old ↦ o.each_holder p e j low old (ap holder (sym (named_below a b id t.phase p (inside_of t.log p e old))) ∙ h)
      | inr new ↦
          let i : ℕ = new.0 in let inside : i < length es = inside_of es i e new.2 in let is : p ≡ a + i = new.1 in let n : b ≡ a + length es = grows in
          let same : suc id ≡ suc j = ap holder (sym (named_here a b id t.phase p (omega arith) (omega arith))) ∙ h in
          ap t.seat (All_at (λ e. client_of e ≡ v.client) es i e own new.2) ∙ seat ∙ (let g : id ≡ j = omega arith in g)
    ];
    each_cell = cell_still;
  }

  appended_owns : Owns t id v → v.unfilled ≡ [] → All (λ e. client_of e ≡ v.client) es → b ≤ t.limit → Owns u id (naming v a es b)
  appended_owns o idle own room = let n : b ≡ a + length es = grows in record {
    seen = record {
      known = o.seen.known;
      short = omega (arith, o.seen.short, o.seen.cursor);
      cursor = omega arith;
      limit = o.seen.limit;
      stable = o.seen.stable;
      fault = o.seen.fault;
      heard = o.seen.heard;
    };
    seat = o.seat;
    client = o.client;
    mine = ap (λ (l : List (ℕ × HistoryEntry)). l ++ enumerate_from a es) o.mine
        ∙ ap (λ (l : List (ℕ × HistoryEntry)). placed v.client 0 t.log ++ l) (sym (placed-own v.client a es own) ∙ ap (λ (q : ℕ). placed v.client q es) (let z : a ≡ 0 + a = omega arith in z))
        ∙ sym (placed-append v.client 0 t.log es);
    below = All-append (λ m. m.0 < b) v.mine (enumerate_from a es)
        (λ i d inside. let h = o.below i d inside in omega (arith, h, o.seen.cursor))
        (λ i d inside. let long = length-enumerate_from a es in let e = ap (λ (m : ℕ × HistoryEntry). m.0) (get_or-enumerate_from a es i d (omega (arith, inside, long))) in omega (arith, inside, long, e));
    told = o.told;
    in_flight = λ p h. let w = places_in a es p h in
        (let below = d_below in omega (arith, w.0, below), omega (arith, w.1), named_here a b id t.phase p w.0 (omega (arith, w.1)) ∙ ap (λ (x : Option ℕ). unfilled_phase x id p) (sym (none_held o)));
    no_other = λ p low high h. elim (cases_lt p a) [
      | inl below ↦ absurd (Contains-none p (subst (λ (l : List ℕ). Contains l p) idle (o.no_other p low below (ap holder (sym (named_below a b id t.phase p below)) ∙ h))))
      | inr above ↦ places_of a es p above (omega arith)
    ];
    holds = λ p h. absurd (Contains-none p (subst (λ (l : List ℕ). Contains l p) idle (o.holds p h)));
  }
    where
      none_of : (held : Option ℕ) → ((p : ℕ) → held ≡ Some p → ⊥) → held ≡ None
      none_of None n = refl
      none_of (Some p) n = absurd (n p refl)

      none_held : Owns t id v → v.held ≡ None
      none_held o = none_of v.held (λ p h. Contains-none p (subst (λ (l : List ℕ). Contains l p) idle (o.holds p h)))

  pub appended : get_elem? s.views id ≡ some v → v.role ≡ Owner → v.unfilled ≡ [] → All (λ e. client_of e ≡ v.client) es → b ≤ t.limit → ((i : ℕ) (e : HistoryEntry) → get_elem? es i ≡ some e → MayStand k (a + i) e)
      → IsLawful k record { words = set s.words 0 b; homes = s.homes; views = set s.views id (naming v a es b) }
  appended at role idle own room stand =
      let o : Owns t id v = subst (Fits t id v) role (law.each_view id v at) in
      moved k s law u id v (naming v a es b) (set s.words 0 b) s.homes at refl refl refl (appended_turns o.seat own) (appended_sound o.seat o.client own room stand)
      (subst (Fits u id (naming v a es b)) (sym role) (appended_owns o idle own room))

some_places : (ram n : ℕ) → 0 < ram * n → 0 < n
some_places ram zero h = let e : ram * 0 ≡ 0 = omega arith in omega (arith, e, h)
some_places ram (suc n) h = omega arith

-- an owner with no unfilled place, which has seen a limit above the cursor, claims the place at the cursor
pub claimed_law : (k : Shape) (s : Intake) (law : IsLawful k s) (id : ℕ) (v : View) (e : HistoryEntry) (c : ℕ) → get_elem? s.views id ≡ some v → v.role ≡ Owner → v.unfilled ≡ [] → client_of e ≡ v.client
    → get_or s.words 0 0 ≡ c → c < v.seen.limit → MayStand k c e
    → IsLawful k record { words = set s.words 0 (c + 1); homes = s.homes; views = set s.views id (naming v c (e ∷ []) (c + 1)) }
claimed_law k s law id v e c at role idle own found low stand =
    let t : Truth = law.truth in
    let o : Owns t id v = subst (Fits t id v) role (law.each_view id v at) in
    let is : length t.log ≡ c = sym law.sound.cursor ∙ found in
    let long : length (t.log ++ e ∷ []) ≡ c + 1 = length-append t.log (e ∷ []) ∙ ap (λ (n : ℕ). n + 1) is in
    let whole : IsLawful k record { words = set s.words 0 (length (t.log ++ e ∷ [])); homes = s.homes; views = set s.views id (naming v (length t.log) (e ∷ []) (length (t.log ++ e ∷ []))) } =
    appended k s law id v (e ∷ []) at role idle (All-one e own) (omega (arith, long, low, o.seen.limit)) (stands t is) in
    subst (λ (x : ℕ × ℕ). IsLawful k record { words = set s.words 0 x.1; homes = s.homes; views = set s.views id (naming v x.0 (e ∷ []) x.1) }) (λ i. (is i, long i)) whole
  where
    All-one : (e : HistoryEntry) → client_of e ≡ v.client → All (λ e. client_of e ≡ v.client) (e ∷ [])
    All-one e own zero d h = own
    All-one e own (suc n) d h = absurd (omega arith)

    stands : (t : Truth) → length t.log ≡ c → (i : ℕ) (x : HistoryEntry) → get_elem? (e ∷ []) i ≡ some x → MayStand k (length t.log + i) x
    stands t is zero x h = subst (MayStand k (length t.log + 0)) (some-injective e x h) (subst (λ (n : ℕ). MayStand k n e) (let g : c ≡ length t.log + 0 = omega arith in g) stand)
    stands t is (suc i) x h = absurd (some-ne-none x (sym h))

-- an owner with no unfilled place bumps the cursor to the end of the segment that it stands in
pub bumped_law : (k : Shape) (s : Intake) (law : IsLawful k s) (id : ℕ) (v : View) (b old : ℕ) → get_elem? s.views id ≡ some v → v.role ≡ Owner → v.unfilled ≡ []
    → get_or s.words 0 0 ≡ old → b % k.places ≡ 0 → b < v.seen.cursor + k.places
    → IsLawful k record { words = set s.words 0 (max old b); homes = s.homes; views = set s.views id (naming v old (replicate (b - old) (Void v.client)) (max old b)) }
bumped_law k s law id v b old at role idle found whole near =
    let t : Truth = law.truth in
    let n : ℕ = k.places in
    let o : Owns t id v = subst (Fits t id v) role (law.each_view id v at) in
    let is : length t.log ≡ old = sym law.sound.cursor ∙ found in
    let es : List HistoryEntry = replicate (b - old) (Void v.client) in
    let many : length es ≡ b - old = length-replicate (b - old) (Void v.client) in
    let grown : length (t.log ++ es) ≡ length t.log + length es = length-append t.log es in
    let long : length (t.log ++ es) ≡ max old b = omega arith in
    let room : b ≤ t.limit = whole_below n b t.limit whole law.sound.whole (omega (arith, near, o.seen.cursor, law.sound.below)) in
    let made : IsLawful k record { words = set s.words 0 (length (t.log ++ es)); homes = s.homes; views = set s.views id (naming v (length t.log) es (length (t.log ++ es))) } =
    appended k s law id v es at role idle (All-replicate (λ e. client_of e ≡ v.client) (b - old) (Void v.client) refl) (let low : length t.log ≤ t.limit = law.sound.below in let g : length (t.log ++ es) ≤ t.limit = omega (arith, long, room, is, low) in g) (stands t law.sound o is) in
    subst (λ (x : ℕ × ℕ). IsLawful k record { words = set s.words 0 x.1; homes = s.homes; views = set s.views id (naming v x.0 es x.1) }) (λ i. (is i, long i)) made
  where
    void_at : (m i : ℕ) (x : HistoryEntry) → get_elem? (replicate m (Void v.client)) i ≡ some x → (x ≡ Void v.client) × (i < m)
    void_at zero i x h = absurd (some-ne-none x (sym h))
    void_at (suc m) zero x h = (sym (some-injective (Void v.client) x h), omega arith)
    void_at (suc m) (suc i) x h = let r = void_at m i x h in (r.0, omega (arith, r.1))

    void_stands : (t : Truth) → IsSound k t s.words s.homes → Owns t id v → length t.log ≡ old → (p : ℕ) → old ≤ p → p < b → MayStand k p (Void v.client)
    void_stands t sound o is p low high =
        let n : ℕ = k.places in
        let pos : 0 < n = some_places k.ram k.places sound.some_cell in
        let seen : v.seen.cursor ≤ length t.log = o.seen.cursor in
        let c : ℕ = v.seen.cursor in
        let some : 0 < c = elim (cases_lt 0 c) [ inl more ↦ more | inr least ↦ absurd (let small : b < n = omega arith in let e : b % n ≡ b = mod-eq_of_lt small in omega (arith, e, whole, low, high)) ] in
        let before = there t.log (c - 1) (omega arith) in
        let segment : k.first + 1 + (c - 1) / n ≤ 2 ^ 48 = stand_segment k (c - 1) before.0 (sound.each_entry (c - 1) before.0 before.1) in
        let one : (c - 1) / n + 1 ≡ b / n = within_turn n b (c - 1) pos whole (omega arith) (omega arith) in
        let other : p / n + 1 ≡ b / n = within_turn n b p pos whole high (omega arith) in
        let x : ℕ = (c - 1) / n in let y : ℕ = p / n in let z : ℕ = b / n in
        let one' : x + 1 ≡ z = one in let other' : y + 1 ≡ z = other in let segment' : k.first + 1 + x ≤ 2 ^ 48 = segment in
        ((let g : k.first + 1 + y ≤ 2 ^ 48 = omega arith in g), λ e. let same : p ≡ b = one_turn p b n (omega arith) (omega arith) (e ∙ sym whole) in omega (arith, same, high))

    stands : (t : Truth) → IsSound k t s.words s.homes → Owns t id v → length t.log ≡ old → (i : ℕ) (x : HistoryEntry) → get_elem? (replicate (b - old) (Void v.client)) i ≡ some x → MayStand k (length t.log + i) x
    stands t sound o is i x h = let r = void_at (b - old) i x h in subst (MayStand k (length t.log + i)) (sym r.0) (void_stands t sound o is (length t.log + i) (omega arith) (omega (arith, r.1)))
