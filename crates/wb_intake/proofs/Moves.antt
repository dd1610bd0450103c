-- Each move of a seat keeps the rule of the table.
use Rattle.std.proofs.Common.{◌≡◌, ◌≢◌, ◌⊎◌, ℕ, zero, suc, ◌+◌, ◌-◌, ◌%◌, ◌<◌, ◌≤◌, max, eqb, List, [], ◌∷◌, length, replicate, get_or, set, sym, ap, refl, ◌∙◌, subst, inl, inr, arith}
use Rattle.std.specs.List.{All, Contains}
use Rattle.std.specs.Prelude.{Option, Some, None, IfSome}
use Rattle.std.proofs.lemmas.List.{set-get_or, get_or_append_left, length-append}
use Rattle.std.proofs.lemmas.Bool.{cases_eq}
use mathlib.Core.Option.{some, none}
use mathlib.Core.Option as maybe
use lib.ListN.{get_elem?}
use prog.Atomic.{either}
use Rattle.atomic_table.specs.Table.{State, Me, Step, step, Act, keeps, takes, gives, Allows, Splits, Joins}
use Rattle.atomic_table.proofs.Lists.{exchanged, set_again, set_else}
use Rattle.wb_geometry.specs.History.{HistoryEntry, client_of}
use Rattle.wb_steps.specs.Faults.{parts_of, IsPartwiseAtMost}
use Rattle.wb_steps.specs.Views.{IsPrefix, placed, longer, heard_by, hearing}
use Rattle.wb_steps.specs.Rule.{Intake, IsShape, cells, cell_word, MayStand, HasSeen, Owns, Drains, Fits, IsLawful}
use Rattle.wb_steps.specs.Steps.{seeing}
use Rattle.wb_steps.specs.declared.shape.Shape.{Shape}
use Rattle.wb_steps.specs.declared.view.View.{View}
use Rattle.wb_steps.specs.declared.view.Role.{Role}
use Rattle.wb_steps.specs.declared.view.Role.TheVariants.{Owner, Copy, Drain, Spent}
use Rattle.std.proofs.lemmas.List.Elements.{All-contains}
use Rattle.wb_steps.proofs.Lists.{prefix_trans, prefix_longer, prefix_both, placed-append}
use Rattle.wb_steps.proofs.Bounds.{few_places}
use Rattle.wb_steps.proofs.Appends.{claimed_law, bumped_law}
use Rattle.wb_steps.proofs.Fills.{filled_law}
use Rattle.wb_steps.proofs.Takes.{entered_law, filled_next, taken_law, given_law}
use Rattle.wb_steps.proofs.Numbers.{cursor_seen, limit_seen, stable_seen, fault_seen, raised_law, stable_law, fault_law}
use Rattle.wb_steps.proofs.Copies.{shown_law, told_law, heard_law, founded_law, roles_apart}
use Rattle.wb_intake.specs.declared.sight.Sight.{Sight}
use Rattle.wb_intake.specs.declared.sight.Meeting.{Meeting}
use Rattle.wb_intake.specs.Sights.{IsBehind, HasMet, AreAlike, NamesRightly, counted, Holds}
use Rattle.wb_intake.specs.Plays.{Sat, IsUp, with_view, with_load, with_cell_load, sees, claims, bumps, first_unfilled, enters, fills, takes_out, gives_back, publishes, tells, note, shown, hears, meets, gone, counting, owner}
use Rattle.wb_intake.proofs.Results.{placed_from}
use Rattle.wb_intake.proofs.Lifted.{S, met_still, lift, lift_split, lift_join}

-- a word that becomes what it was
same_word : (k : Shape) (s : Intake) (i : ℕ) (views : List View) → IsLawful k record { words = s.words; homes = s.homes; views = views } → IsLawful k record { words = set s.words i (get_or s.words i 0); homes = s.homes; views = views }
same_word k s i views law = subst (λ (ws : List ℕ). IsLawful k record { words = ws; homes = s.homes; views = views }) (sym (set-get_or s.words i 0)) law

-- notes that are beginnings of what their clients told are alike
alike : (told : ℕ → List ℕ) (heard : List (ℕ × List ℕ)) → All (λ h. IsPrefix h.1 (told h.0)) heard → AreAlike heard
alike told heard all client fewer more has had few =
    prefix_both more fewer (told client) (All-contains (λ (h : ℕ × List ℕ). IsPrefix h.1 (told h.0)) heard (client, more) all had) (All-contains (λ (h : ℕ × List ℕ). IsPrefix h.1 (told h.0)) heard (client, fewer) all has) few

-- an owner of a state that keeps the rule names places rightly
names : (k : Shape) (s : Intake) (law : IsLawful k s) (id : ℕ) (v : View) → get_elem? s.views id ≡ some v → NamesRightly v
names k s law id v at role =
    let o : Owns law.truth id v = subst (Fits law.truth id v) role (law.each_view id v at) in
    let p = prefix_trans v.known law.truth.drained law.truth.log o.seen.known law.sound.behind in (
      (
        placed v.client (0 + length v.known) p.0,
        o.mine ∙ ap (placed v.client 0) p.1 ∙ placed-append v.client 0 v.known p.0,
        placed_from v.client (0 + length v.known) (length v.known) p.0 (omega arith),
      ),
      o.below,
      alike law.truth.told v.heard o.seen.heard,
    )

-- a look at the cursor, the limit, the stable number or the fault
pub looks : (k : Shape) → IsShape k → (n id : ℕ) (me : Sat) (i : ℕ) → me.0.view.role ≢ Spent → i < 4 → Allows (Holds k) n id me i (λ y. y) (sees (step n i 0 0 none) me)
looks k shape n id me zero live few = lift k n id me 0 (λ y. y) (sees (step n 0 0 0 none) me) (λ s law had wide at fits.
    let r : ℕ = get_or s.words 0 0 in let h = cursor_seen k s law id me.0.view at live r refl in
    (with_load me.0 (seeing me.0.view 0 r) 0 r, keeps, tt, refl, same_word k s 0 (set s.views id (seeing me.0.view 0 r)) h.2, ((h.0, h.1, (let few = few_places k law.truth s.words s.homes shape law.sound in omega (arith, few, law.sound.cursor))), had, names k s law id me.0.view at, refl)))
looks k shape n id me (suc zero) live few = lift k n id me 1 (λ y. y) (sees (step n 1 0 0 none) me) (λ s law had wide at fits.
    let r : ℕ = get_or s.words 1 0 in let h = limit_seen k s law id me.0.view at live r refl in
    (with_load me.0 (seeing me.0.view 1 r) 1 r, keeps, tt, refl, same_word k s 1 (set s.views id (seeing me.0.view 1 r)) h.2, ((h.0, h.1), had, names k s law id me.0.view at, refl)))
looks k shape n id me (suc (suc zero)) live few = lift k n id me 2 (λ y. y) (sees (step n 2 0 0 none) me) (λ s law had wide at fits.
    let r : ℕ = get_or s.words 2 0 in let h = stable_seen k s law id me.0.view at live r refl in
    (with_load me.0 (seeing me.0.view 2 r) 2 r, keeps, tt, refl, same_word k s 2 (set s.views id (seeing me.0.view 2 r)) h.1, (h.0, had, names k s law id me.0.view at, refl)))
looks k shape n id me (suc (suc (suc zero))) live few = lift k n id me 3 (λ y. y) (sees (step n 3 0 0 none) me) (λ s law had wide at fits.
    let r : ℕ = get_or s.words 3 0 in let h = fault_seen k s law id me.0.view at live r refl in
    (with_load me.0 (seeing me.0.view 3 r) 3 r, keeps, tt, refl, same_word k s 3 (set s.views id (seeing me.0.view 3 r)) h.1, (h.0, had, names k s law id me.0.view at, refl)))
looks k shape n id me (suc (suc (suc (suc i)))) live few = absurd (omega arith)

-- a claim
pub wins : (k : Shape) (n id : ℕ) (me : Sat) (e : HistoryEntry) (c new : ℕ) (said : maybe.Option S) → me.0.view.role ≡ Owner → me.0.view.unfilled ≡ [] → client_of e ≡ me.0.view.client → c < me.0.view.seen.limit → MayStand k c e → new ≡ c + 1
    → Allows (Holds k) n id me 0 (λ y. either (eqb y c) new y) (claims e (step n 0 c new said) me)
wins k n id me e c new said role idle own low stand next = lift k n id me 0 (λ y. either (eqb y c) new y) (claims e (step n 0 c new said) me) (λ s law had wide at fits.
    let r : ℕ = get_or s.words 0 0 in
    exchanged r c new (λ (x : ℕ). (w : Sight) × (a : Act S) × Rattle.atomic_table.specs.Table.Valid s.homes me.1 a × (w.met ≡ me.0.met)
    × IsLawful k record { words = set s.words 0 x; homes = Rattle.atomic_table.specs.Table.homes_after s.homes me.1 a; views = set s.views id w.view }
    × claims e (step n 0 c new said) me r (w, Rattle.atomic_table.specs.Table.carried_after me.1 a))
    (λ won. (
      with_view me.0 (Rattle.wb_steps.specs.Views.naming me.0.view r (e ∷ []) (r + 1)),
      keeps,
      tt,
      refl,
      subst (λ (x : ℕ). IsLawful k record { words = set s.words 0 x; homes = s.homes; views = set s.views id (Rattle.wb_steps.specs.Views.naming me.0.view r (e ∷ []) (r + 1)) }) (ap (λ (z : ℕ). z + 1) won ∙ sym next)
          (claimed_law k s law id me.0.view e r at role idle own refl (subst (λ (z : ℕ). z < me.0.view.seen.limit) (sym won) low) (subst (λ (z : ℕ). MayStand k z e) (sym won) stand)),
      ((λ _. refl), λ lost. absurd (lost won)),
    ))
    (λ lost. let h = cursor_seen k s law id me.0.view at (λ z. roles_apart Owner Spent (λ m. omega arith) (sym role ∙ z)) r refl in
    (with_view me.0 (seeing me.0.view 0 r), keeps, tt, refl, same_word k s 0 (set s.views id (seeing me.0.view 0 r)) h.2, ((λ won. absurd (lost won)), λ _. (h.0, refl)))))

-- a bump
pub bumps_up : (k : Shape) (n id : ℕ) (me : Sat) (b : ℕ) → me.0.view.role ≡ Owner → me.0.view.unfilled ≡ [] → b % k.places ≡ 0 → b < me.0.view.seen.cursor + k.places
    → Allows (Holds k) n id me 0 (λ y. max y b) (bumps (step n 0 b 0 none) me)
bumps_up k n id me b role idle whole near = lift k n id me 0 (λ y. max y b) (bumps (step n 0 b 0 none) me) (λ s law had wide at fits.
    let r : ℕ = get_or s.words 0 0 in let h = cursor_seen k s law id me.0.view at (λ z. roles_apart Owner Spent (λ m. omega arith) (sym role ∙ z)) r refl in (
      with_view me.0 (Rattle.wb_steps.specs.Views.naming me.0.view r (replicate (b - r) (Rattle.wb_geometry.specs.History.Void me.0.view.client)) (max r b)),
      keeps,
      tt,
      refl,
      bumped_law k s law id me.0.view b r at role idle refl whole near,
      (h.0, refl),
    ))

-- an owner takes the cell of the first place that it has not filled
pub enters_as : (k : Shape) (n id : ℕ) (me : Sat) (i p : ℕ) (more : List ℕ) → me.0.view.role ≡ Owner → me.0.view.unfilled ≡ p ∷ more → me.0.view.held ≡ None → n ≡ cells k → i ≡ cell_word k p
    → Allows (Holds k) n id me i (λ y. y) (enters (step n i 0 0 none) me)
enters_as k n id me i p more role first bare size is = lift k n id me i (λ y. y) (enters (step n i 0 0 none) me) (λ s law had wide at fits.
    let has : Contains me.0.view.unfilled p = subst (λ (l : List ℕ). Contains l p) (sym first) (Rattle.wb_steps.proofs.Lists.Contains-first p more) in
    let h = entered_law k s law id me.0.view p at role has bare in
    let same : first_unfilled me.0.view.unfilled ≡ p = ap first_unfilled first in (
      with_view me.0 (Rattle.wb_steps.specs.Views.holding me.0.view p),
      takes (p % cells k) None,
      h.0,
      refl,
      subst (λ (x : ℕ). IsLawful k record { words = set s.words x (get_or s.words x 0); homes = set s.homes (p % cells k) none; views = set s.views id (Rattle.wb_steps.specs.Views.holding me.0.view p) }) (sym is) h.1,
      (λ j. (with_view me.0 (Rattle.wb_steps.specs.Views.holding me.0.view (sym same j)), (sym same j % sym size j, None) ∷ me.1)),
    ))

-- an owner fills the place whose cell it holds
pub fills_as : (k : Shape) (n id : ℕ) (me : Sat) (i new p j : ℕ) (e : HistoryEntry) (more : List (ℕ × S)) → me.0.view.role ≡ Owner → Contains me.0.view.unfilled p → get_elem? me.0.view.mine j ≡ some (p, e)
    → i ≡ cell_word k p → new ≡ p + 1 → me.1 ≡ (p % cells k, Some e) ∷ more → Allows (Holds k) n id me i (λ _. new) (fills (step n i new 0 none) me)
fills_as k n id me i new p j e more role has named is next holds = lift k n id me i (λ _. new) (fills (step n i new 0 none) me) (λ s law had wide at fits.
    let before : new - 1 ≡ p = omega (arith, next) in (
      with_view me.0 (Rattle.wb_steps.specs.Views.filling me.0.view p),
      gives,
      tt,
      refl,
      subst (λ (x : ℕ × ℕ × List (ℕ × S)). IsLawful k record { words = set s.words x.0 x.1; homes = Rattle.atomic_table.specs.Table.put_back s.homes x.2; views = set s.views id (Rattle.wb_steps.specs.Views.filling me.0.view p) }) (λ z. (sym is z, sym next z, sym holds z))
          (filled_law k s law id me.0.view p j e at role has named),
      (λ z. (with_view me.0 (Rattle.wb_steps.specs.Views.filling me.0.view (sym before z)), Rattle.atomic_table.specs.Table.rest me.1)),
    ))

-- a place that is named is below the limit that the drain knows
below_limit : (k : Shape) (s : Intake) (law : IsLawful k s) (id : ℕ) (v : View) → get_elem? s.views id ≡ some v → v.role ≡ Drain → length v.known < length law.truth.log → length v.known < v.seen.limit
below_limit k s law id v at role named = let o : Drains law.truth id v = subst (Fits law.truth id v) role (law.each_view id v at) in let below = law.sound.below in omega (arith, named, below, o.limit)

-- the drain looks at the word of the next place
pub takes_as : (k : Shape) → IsShape k → (n id : ℕ) (me : Sat) (i : ℕ) → me.0.view.role ≡ Drain → me.0.view.held ≡ None → n ≡ cells k → i ≡ cell_word k (length me.0.view.known) → Allows (Holds k) n id me i (λ y. y) (takes_out k (step n i 0 0 none) me)
takes_as k shape n id me i role bare size is = lift k n id me i (λ y. y) (takes_out k (step n i 0 0 none) me) (λ s law had wide at fits.
    let r : ℕ = get_or s.words i 0 in let v : View = me.0.view in let p : ℕ = length v.known in
    elim (cases_eq r (p + 1)) [
      | inl says ↦
          let says' : get_or s.words (cell_word k p) 0 ≡ p + 1 = ap (λ (x : ℕ). get_or s.words x 0) (sym is) ∙ says in
          let f = filled_next k s law id v at role bare says' in let e : HistoryEntry = f.2.0 in let few = few_places k law.truth s.words s.homes shape law.sound in (
            with_cell_load me.0 (Rattle.wb_steps.specs.Views.taking v e) i r,
            takes (p % cells k) (Some e),
            f.2.2,
            refl,
            subst (λ (x : ℕ). IsLawful k record { words = set s.words x (get_or s.words x 0); homes = set s.homes (p % cells k) none; views = set s.views id (Rattle.wb_steps.specs.Views.taking v e) }) (sym is) (taken_law k s law id v e at role bare says' f.2.2),
            ((λ _. (omega (arith, f.0, few), below_limit k s law id v at role f.0, e, law.sound.each_entry p e f.2.1, (λ z. (with_cell_load me.0 (Rattle.wb_steps.specs.Views.taking v e) i r, (p % sym size z, Some e) ∷ me.1)))), λ waits. absurd (waits says)),
          )
      | inr waits ↦ (with_cell_load me.0 v i r, keeps, tt, refl, same_word k s i (set s.views id v) (subst (λ (vs : List View). IsLawful k record { words = s.words; homes = s.homes; views = vs }) (sym (set_again s.views id v at)) law), ((λ says. absurd (waits says)), λ _. refl))
    ])

-- the drain gives the cell back, which is empty
pub gives_as : (k : Shape) (n id : ℕ) (me : Sat) (i : ℕ) (more : List (ℕ × S)) → me.0.view.role ≡ Drain → me.0.view.held ≢ None → i ≡ cell_word k (length me.0.view.known) → me.1 ≡ (length me.0.view.known % cells k, None) ∷ more
    → Allows (Holds k) n id me i (λ _. 0) (gives_back (step n i 0 0 none) me)
gives_as k n id me i more role has is holds = lift k n id me i (λ _. 0) (gives_back (step n i 0 0 none) me) (λ s law had wide at fits. (
  with_view me.0 (Rattle.wb_steps.specs.Views.draining me.0.view),
  gives,
  tt,
  refl,
  subst (λ (x : ℕ × List (ℕ × S)). IsLawful k record { words = set s.words x.0 0; homes = Rattle.atomic_table.specs.Table.put_back s.homes x.1; views = set s.views id (Rattle.wb_steps.specs.Views.draining me.0.view) }) (λ z. (sym is z, sym holds z))
      (given_law k s law id me.0.view at role has),
  refl,
))

pub raises_as : (k : Shape) (n id : ℕ) (me : Sat) (l : ℕ) → me.0.view.role ≡ Drain → l % k.places ≡ 0 → me.0.view.seen.limit ≤ l → l ≤ length me.0.view.known + cells k → Allows (Holds k) n id me 1 (λ _. l) (publishes (step n 1 l 0 none) me)
raises_as k n id me l role whole up room = lift k n id me 1 (λ _. l) (publishes (step n 1 l 0 none) me) (λ s law had wide at fits. (with_view me.0 (seeing me.0.view 1 l), keeps, tt, refl, raised_law k s law id me.0.view l at role whole up room, refl))

pub stables_as : (k : Shape) (n id : ℕ) (me : Sat) (m : ℕ) → me.0.view.role ≡ Drain → m % k.places ≡ 0 → me.0.view.seen.stable ≤ m → m ≤ length me.0.view.known → Allows (Holds k) n id me 2 (λ _. m) (publishes (step n 2 m 0 none) me)
stables_as k n id me m role whole up done = lift k n id me 2 (λ _. m) (publishes (step n 2 m 0 none) me) (λ s law had wide at fits. (with_view me.0 (seeing me.0.view 2 m), keeps, tt, refl, stable_law k s law id me.0.view m at role whole up done, refl))

pub faults_as : (k : Shape) (n id : ℕ) (me : Sat) (x : ℕ) → me.0.view.role ≡ Drain → IsPartwiseAtMost me.0.view.seen.fault (parts_of x) → Allows (Holds k) n id me 3 (λ _. x) (publishes (step n 3 x 0 none) me)
faults_as k n id me x role up = lift k n id me 3 (λ _. x) (publishes (step n 3 x 0 none) me) (λ s law had wide at fits. (with_view me.0 (seeing me.0.view 3 x), keeps, tt, refl, fault_law k s law id me.0.view x at role up, refl))

pub tells_as : (k : Shape) (id : ℕ) (x : Sight) → x.view.role ≡ Owner → Splits (Holds k) id x (tells x) (note x)
tells_as k id x role = lift_split k id x (tells x) (note x) refl refl (λ s law at. told_law k s law id x.view at role)

pub shows_as : (k : Shape) (id : ℕ) (x : Sight) → x.view.role ≢ Spent → Splits (Holds k) id x x (shown x)
shows_as k id x live = lift_split k id x x (shown x) refl refl (λ s law at. shown_law k s law id x.view at live)

pub founds_as : (k : Shape) (id : ℕ) (x : Sight) → x.view.role ≡ Drain → Splits (Holds k) id x (counting x) (owner x)
founds_as k id x role = lift_split k id x (counting x) (owner x) refl refl (λ s law at. founded_law k s law id x.view at role)

pub hears_as : (k : Shape) (id : ℕ) (x : Sight) (other : ℕ) (y : Sight) → (x.view.role ≡ Owner) ⊎ (x.view.role ≡ Drain) → y.view.role ≡ Copy → Joins (Holds k) id x other y (hears x y) gone
hears_as k id x other y role copies = lift_join k id x other y (hears x y) gone refl (λ s law had at apart there. (heard_law k s law id x.view other y.view at role there apart copies, met_still x (hears x y) refl had))

-- the first entries are of the clients that all are of
all_before : (clients : ℕ) (front log : List HistoryEntry) → IsPrefix front log → All (λ e. client_of e < clients) log → All (λ e. client_of e < clients) front
all_before clients front log p all i d inside = let long : length log ≡ length front + length p.0 = ap length p.1 ∙ length-append front p.0 in
    subst (λ (e : HistoryEntry). client_of e < clients) (ap (λ (es : List HistoryEntry). get_or es i d) p.1 ∙ get_or_append_left front p.0 d i inside) (all i d (omega (arith, inside, long)))

-- the drain has all that is in a copy
behind : (k : Shape) (s : Intake) (law : IsLawful k s) (id : ℕ) (v : View) (other : ℕ) (w : View) → get_elem? s.views id ≡ some v → v.role ≡ Drain → get_elem? s.views other ≡ some w → w.role ≡ Copy → IsBehind v w
behind k s law id v other w at role there copies =
    let o : Drains law.truth id v = subst (Fits law.truth id v) role (law.each_view id v at) in
    let c : HasSeen law.truth other w = (subst (Fits law.truth other w) copies (law.each_view other w there)).0 in record {
      known = subst (IsPrefix w.known) (sym o.known) c.known;
      clients = subst (λ (es : List HistoryEntry). All (λ e. client_of e < v.client) es) (sym o.known)
          (subst (λ (n : ℕ). All (λ e. client_of e < n) law.truth.drained) (sym o.clients) (all_before law.truth.clients law.truth.drained law.truth.log law.sound.behind law.sound.each_owner));
      limit = omega (arith, o.limit, c.limit);
      stable = omega (arith, o.stable, c.stable);
      fault = subst (IsPartwiseAtMost w.seen.fault) (sym o.fault) c.fault;
    }

pub meets_as : (k : Shape) (id : ℕ) (x : Sight) (other : ℕ) (y : Sight) → x.view.role ≡ Drain → y.view.role ≡ Copy → Joins (Holds k) id x other y (meets x y) gone
meets_as k id x other y role copies = lift_join k id x other y (meets x y) gone refl (λ s law had at apart there. (
  heard_law k s law id x.view other y.view at (inr role) there apart copies,
  λ m is. subst (λ (o : Option Meeting). IfSome o (λ p. IsBehind p.drain p.pass)) is
      (behind k s law id x.view other y.view at role (sym (set_else s.views id other (hearing x.view y.view) apart) ∙ there) copies),
))

-- what the drain knows stays where it receives what it is not behind
pub met_view : (v w : View) (n : ℕ) → v.role ≡ Drain → IsBehind v w → seeing (hearing v w) 0 n ≡ seeing v 0 n
met_view v w n role h =
    let known : longer v.known w.known ≡ v.known = prefix_longer v.known w.known h.known in
    let heard : heard_by v.role v.heard w.heard ≡ v.heard = ap (λ (r : Role). heard_by r v.heard w.heard) role in
    let limit : max v.seen.limit w.seen.limit ≡ v.seen.limit = omega (arith, h.limit) in
    let stable : max v.seen.stable w.seen.stable ≡ v.seen.stable = omega (arith, h.stable) in
    let f = h.fault in
    let a : max v.seen.fault.log_down w.seen.fault.log_down ≡ v.seen.fault.log_down = omega (arith, f.log_down) in
    let b : max v.seen.fault.backing_down w.seen.fault.backing_down ≡ v.seen.fault.backing_down = omega (arith, f.backing_down) in
    let c : max v.seen.fault.log_reads w.seen.fault.log_reads ≡ v.seen.fault.log_reads = omega (arith, f.log_reads) in
    let d : max v.seen.fault.backing_reads w.seen.fault.backing_reads ≡ v.seen.fault.backing_reads = omega (arith, f.backing_reads) in
    λ i. record v {
      known = known i;
      heard = heard i;
      seen = record { cursor = n; limit = limit i; stable = stable i; fault = record { log_down = a i; backing_down = b i; log_reads = c i; backing_reads = d i } };
    }

-- what the drain knows that received a copy y of the owner's o, and then looked at the cursor and found n
pub met_all : (d o y z w : Sight) (n : ℕ) → d.view.role ≡ Drain → y ≡ shown o → z ≡ meets d y → HasMet z → IsUp z.view 0 n → w ≡ with_load z (seeing z.view 0 n) 0 n
    → (w.view ≡ seeing d.view 0 n) × (w.loads ≡ counted d.loads 0 n) × (o.view.seen.cursor ≤ n) × (d.view.seen.cursor ≤ n) × IsBehind w.view o.view
met_all d o y z w n role copy joined had up looked =
    let is : z ≡ meets d (shown o) = joined ∙ ap (meets d) copy in
    let b : IsBehind d.view (shown o).view = subst HasMet is had (record { drain = d.view; pass = (shown o).view }) refl in
    let high : IsUp (meets d (shown o)).view 0 n = subst (λ (x : Sight). IsUp x.view 0 n) is up in
    let same : w.view ≡ seeing d.view 0 n = ap (λ (x : Sight). x.view) looked ∙ ap (λ (x : Sight). seeing x.view 0 n) is ∙ met_view d.view (shown o).view n role b in
    let cursor = high.0 in (
      same,
      ap (λ (x : Sight). x.loads) looked ∙ ap (λ (x : Sight). counted x.loads 0 n) is,
      omega (arith, cursor),
      omega (arith, cursor),
      subst (λ (v : View). IsBehind v o.view) (sym same) (record { known = b.known; clients = b.clients; limit = b.limit; stable = b.stable; fault = b.fault }),
    )

-- an owner that has taken the cell of its first unfilled place, and put the entry there, fills the place
pub fills_at : (k : Shape) (n id : ℕ) (x : Sight) (me : Sat) (i new p j : ℕ) (e : HistoryEntry) (more : List ℕ) → me ≡ (with_view x (Rattle.wb_steps.specs.Views.holding x.view p), (p % cells k, Some e) ∷ [])
    → x.view.role ≡ Owner → x.view.unfilled ≡ p ∷ more → get_elem? x.view.mine j ≡ some (p, e) → i ≡ cell_word k p → new ≡ p + 1 → Allows (Holds k) n id me i (λ _. new) (fills (step n i new 0 none) me)
fills_at k n id x me i new p j e more is role first named word next =
    subst (λ (m : Sat). Allows (Holds k) n id m i (λ _. new) (fills (step n i new 0 none) m)) (sym is)
    (fills_as k n id (with_view x (Rattle.wb_steps.specs.Views.holding x.view p), (p % cells k, Some e) ∷ []) i new p j e [] role (subst (λ (l : List ℕ). Contains l p) (sym first) (Rattle.wb_steps.proofs.Lists.Contains-first p more)) named word next refl)

-- the drain that took an entry out gives the cell back
pub gives_at : (k : Shape) (n id : ℕ) (x : Sight) (me : Sat) (i r : ℕ) (e : HistoryEntry) → me ≡ (with_cell_load x (Rattle.wb_steps.specs.Views.taking x.view e) i r, (length x.view.known % cells k, None) ∷ [])
    → x.view.role ≡ Drain → i ≡ cell_word k (length x.view.known) → Allows (Holds k) n id me i (λ _. 0) (gives_back (step n i 0 0 none) me)
gives_at k n id x me i r e is role word =
    subst (λ (m : Sat). Allows (Holds k) n id m i (λ _. 0) (gives_back (step n i 0 0 none) m)) (sym is)
    (gives_as k n id (with_cell_load x (Rattle.wb_steps.specs.Views.taking x.view e) i r, (length x.view.known % cells k, None) ∷ []) i [] role (λ h. Rattle.wb_steps.proofs.Phases.held-ne-none (length x.view.known) h) word refl)
