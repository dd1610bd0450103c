-- What becomes of the views where one of them, or what they are compared with, changes.
use Rattle.std.proofs.Common.{◌≡◌, ◌≢◌, ℕ, zero, suc, ◌<◌, ◌≤◌, List, [], ◌∷◌, ◌++◌, length, set, sym, ap, refl, ◌∙◌, subst, inl, inr, arith}
use Rattle.std.specs.List.{All}
use Rattle.std.proofs.lemmas.Bool.{cases_eq}
use mathlib.Core.Option.{some, none}
use mathlib.Core.Option as maybe
use lib.ListN.{get_elem?}
use Rattle.atomic_table.proofs.Lists.{at_set, set_here, set_else, at_longer}
use Rattle.wb_steps.specs.Faults.{IsPartwiseAtMost}
use Rattle.wb_steps.specs.Views.{IsPrefix, placed}
use Rattle.wb_geometry.specs.History.{HistoryEntry, client_of}
use Rattle.wb_steps.specs.Rule.{Intake, Home, Phase, taken, holder, Truth, HasSeen, Owns, Drains, Fits, IsOwned, IsDrainAt, IsSound, IsLawful}
use Rattle.wb_steps.specs.declared.shape.Shape.{Shape}
use Rattle.wb_steps.specs.declared.view.Faults.{Faults}
use Rattle.wb_steps.specs.declared.view.View.{View}
use Rattle.wb_steps.specs.declared.view.Role.{Role}
use Rattle.wb_steps.specs.declared.view.Role.TheVariants.{Owner, Copy, Drain, Spent}
use Rattle.wb_steps.proofs.Lists.{prefix_trans, prefix_length, prefix_at, prefix_same}
use Rattle.wb_steps.proofs.Phases.{holder_unfilled}

pub parts_same : (a : Faults) → IsPartwiseAtMost a a
parts_same a = record { log_down = omega arith; backing_down = omega arith; log_reads = omega arith; backing_reads = omega arith }

pub parts_trans : (a b c : Faults) → IsPartwiseAtMost a b → IsPartwiseAtMost b c → IsPartwiseAtMost a c
parts_trans a b c x y = record { log_down = omega (arith, x.log_down, y.log_down); backing_down = omega (arith, x.backing_down, y.backing_down); log_reads = omega (arith, x.log_reads, y.log_reads); backing_reads = omega (arith, x.backing_reads, y.backing_reads) }

-- how far the unfilled places of the other seats are, where t becomes u by a step of the seat id
abbrev pub Stays : (t u : Truth) (id : ℕ) → Type 0
Stays t u id = (j p : ℕ) → j ≢ id → length t.drained ≤ p → p < length t.log → holder (t.phase p) ≡ suc j → (length u.drained ≤ p) × (u.phase p ≡ t.phase p)

abbrev pub Comes : (t u : Truth) (id : ℕ) → Type 0
Comes t u id = (j p : ℕ) → j ≢ id → length u.drained ≤ p → p < length u.log → holder (u.phase p) ≡ suc j → (length t.drained ≤ p) × (p < length t.log) × (holder (t.phase p) ≡ suc j)

-- what the drain minds stays, where it is not the drain's step
abbrev pub Rests : (t u : Truth) (id : ℕ) → Type 0
Rests t u id = t.drain ≢ id → (u.drained ≡ t.drained) × (u.limit ≡ t.limit) × (u.stable ≡ t.stable) × (u.fault ≡ t.fault) × (u.clients ≡ t.clients)
    × (t.phase (length t.drained) ≡ taken → u.phase (length t.drained) ≡ taken) × (u.phase (length t.drained) ≡ taken → t.phase (length t.drained) ≡ taken)

-- t becomes u by a step of the seat id, which no other seat's view minds
pub record Turns (t u : Truth) (id : ℕ) : Type 0 where
  pub more : IsPrefix t.log u.log
  pub done : IsPrefix t.drained u.drained
  pub limit : t.limit ≤ u.limit
  pub stable : t.stable ≤ u.stable
  pub fault : IsPartwiseAtMost t.fault u.fault
  pub clients : t.clients ≤ u.clients
  pub seat : (c : ℕ) → c < t.clients → u.seat c ≡ t.seat c
  pub drain : u.drain ≡ t.drain
  pub tells : (c : ℕ) → IsPrefix (t.told c) (u.told c)
  pub told : (c : ℕ) → c < t.clients → t.seat c ≢ id → u.told c ≡ t.told c
  pub mine : (c : ℕ) → c < t.clients → t.seat c ≢ id → placed c 0 u.log ≡ placed c 0 t.log
  pub stays : Stays t u id
  pub comes : Comes t u id
  pub other : Rests t u id

-- The entries that are named stay, and so do the seats and what they told.
module _ (t : Truth) (id : ℕ) (drained : List HistoryEntry) (limit stable : ℕ) (fault : Faults) (phase : ℕ → Phase) where
  abbrev goes : Truth
  goes = record t { drained = drained; limit = limit; stable = stable; fault = fault; phase = phase }

  pub turns_by : IsPrefix t.drained drained → t.limit ≤ limit → t.stable ≤ stable → IsPartwiseAtMost t.fault fault → Stays t goes id → Comes t goes id → Rests t goes id → Turns t goes id
  turns_by done up up' up'' stays comes other = record {
    more = prefix_same t.log;
    done = done;
    limit = up;
    stable = up';
    fault = up'';
    clients = omega arith;
    seat = λ c h. refl;
    drain = refl;
    tells = λ c. prefix_same (t.told c);
    told = λ c h n. refl;
    mine = λ c h n. refl;
    stays = stays;
    comes = comes;
    other = other;
  }

-- Only the seats change, and what they told.
module _ (t : Truth) (id clients : ℕ) (seat : ℕ → ℕ) (told : ℕ → List ℕ) where
  abbrev sits : Truth
  sits = record t { clients = clients; seat = seat; told = told }

  pub seats_turn : t.clients ≤ clients → ((c : ℕ) → c < t.clients → seat c ≡ t.seat c) → ((c : ℕ) → IsPrefix (t.told c) (told c)) → ((c : ℕ) → c < t.clients → t.seat c ≢ id → told c ≡ t.told c) → (t.drain ≢ id → clients ≡ t.clients) → Turns t sits id
  seats_turn more seats tells tolds same = record {
    more = prefix_same t.log;
    done = prefix_same t.drained;
    limit = omega arith;
    stable = omega arith;
    fault = parts_same t.fault;
    clients = more;
    seat = seats;
    drain = refl;
    tells = tells;
    told = tolds;
    mine = λ c h n. refl;
    stays = λ j p n a b h. (a, refl);
    comes = λ j p n a b h. (a, b, h);
    other = λ n. (refl, refl, refl, refl, same n, (λ h. h), λ h. h);
  }

  pub seats_sound : (k : Shape) (words : List ℕ) (homes : List Home) → IsSound k t words homes → All (λ e. client_of e < clients) t.log → ((c : ℕ) → clients ≤ c → told c ≡ [])
      → ((p : ℕ) (e : HistoryEntry) (j : ℕ) → length t.drained ≤ p → get_elem? t.log p ≡ some e → holder (t.phase p) ≡ suc j → seat (client_of e) ≡ j) → IsSound k sits words homes
  seats_sound k words homes o each untold holders = record {
    some_cell = o.some_cell;
    wide = o.wide;
    deep = o.deep;
    cursor = o.cursor;
    limit = o.limit;
    stable = o.stable;
    fault = o.fault;
    behind = o.behind;
    below = o.below;
    room = o.room;
    whole = o.whole;
    stable_whole = o.stable_whole;
    stable_below = o.stable_below;
    each_entry = o.each_entry;
    each_owner = each;
    untold = untold;
    each_holder = holders;
    each_cell = o.each_cell;
  }

pub turns_same : (t : Truth) (id : ℕ) → Turns t t id
turns_same t id = seats_turn t id t.clients t.seat t.told (omega arith) (λ c h. refl) (λ c. prefix_same (t.told c)) (λ c h n. refl) (λ n. refl)

module _ (t u : Truth) (id : ℕ) (r : Turns t u id) (j : ℕ) (v : View) where
  pub seen_still : HasSeen t j v → HasSeen u j v
  seen_still h = record {
    known = prefix_trans v.known t.drained u.drained h.known r.done;
    short = h.short;
    cursor = omega (arith, h.cursor, prefix_length t.log u.log r.more);
    limit = omega (arith, h.limit, r.limit);
    stable = omega (arith, h.stable, r.stable);
    fault = parts_trans v.seen.fault t.fault u.fault h.fault r.fault;
    heard = λ i d inside. prefix_trans _ _ _ (h.heard i d inside) (r.tells _);
  }

  owns_still : j ≢ id → Owns t j v → Owns u j v
  owns_still n o = let ne : t.seat v.client ≢ id = λ e. n (sym o.seat ∙ e) in record {
    seen = seen_still o.seen;
    seat = r.seat v.client o.client ∙ o.seat;
    client = omega (arith, o.client, r.clients);
    mine = o.mine ∙ sym (r.mine v.client o.client ne);
    below = o.below;
    told = o.told ∙ sym (r.told v.client o.client ne);
    in_flight = λ p h. let was = o.in_flight p h in
        let more = r.stays j p n was.0 was.1 (ap holder was.2 ∙ holder_unfilled v.held j p) in
        (more.0, omega (arith, was.1, prefix_length t.log u.log r.more), more.1 ∙ was.2);
    no_other = λ p a b h. let was = r.comes j p n a b h in o.no_other p was.0 was.1 was.2;
    holds = o.holds;
  }

  drains_still : j ≢ id → Drains t j v → Drains u j v
  drains_still n d = let o = r.other (λ e. n (d.seat ∙ e)) in let long : length u.drained ≡ length t.drained = ap length o.0 in record {
    seen = seen_still d.seen;
    seat = d.seat ∙ sym r.drain;
    clients = d.clients ∙ sym o.4;
    known = d.known ∙ sym o.0;
    limit = d.limit ∙ sym o.1;
    stable = d.stable ∙ sym o.2;
    fault = d.fault ∙ sym o.3;
    holds = λ p h. let was = d.holds p h in
        (was.0 ∙ sym long, ap u.phase was.0 ∙ o.5 (ap t.phase (sym was.0) ∙ was.1), was.2, (was.3.0, prefix_at t.log u.log p was.3.0 r.more was.3.1, was.3.2));
    rests = λ h e. d.rests h (o.6 (ap u.phase (sym long) ∙ e));
  }

  pub fits_still : j ≢ id → (role : Role) → Fits t j v role → Fits u j v role
  fits_still n Owner o = owns_still n o
  fits_still n Copy c = (seen_still c.0, c.1)
  fits_still n Drain d = drains_still n d
  fits_still n Spent s = tt

-- The seat id steps: its view v becomes w, and the truth becomes u.
module _ (k : Shape) (s : Intake) (law : IsLawful k s) (u : Truth) (id : ℕ) (v w : View) where
  pub clients_still : get_elem? s.views id ≡ some v → w.role ≡ v.role → w.client ≡ v.client → id < length s.views → Turns law.truth u id → (c : ℕ) → c < law.truth.clients → IsOwned (set s.views id w) u.seat c
  clients_still at role client inside r c h = let was = law.each_client c h in elim (cases_eq (law.truth.seat c) id) [
    | inl is ↦ let same : v ≡ was.0 = mine (sym at ∙ ap (get_elem? s.views) (sym is) ∙ was.1) in
        (w, ap (get_elem? (set s.views id w)) (r.seat c h ∙ is) ∙ set_here s.views id w inside, role ∙ ap (λ (x : View). x.role) same ∙ was.2, client ∙ ap (λ (x : View). x.client) same ∙ was.3)
    | inr other ↦ (was.0, ap (get_elem? (set s.views id w)) (r.seat c h) ∙ (set_else s.views id (law.truth.seat c) w other ∙ was.1), was.2, was.3)
  ]
    where
      mine : {x y : View} → some x ≡ some y → x ≡ y
      mine {x} {y} e = maybe.some-injective x y e

  pub views_still : Turns law.truth u id → Fits u id w w.role → (j : ℕ) (x : View) → get_elem? (set s.views id w) j ≡ some x → Fits u j x x.role
  views_still r fits j x at = elim (at_set s.views id j w x at) [
    | inl here ↦ subst (λ (y : View). Fits u j y y.role) here.1 (subst (λ (i : ℕ). Fits u i w w.role) (sym here.0) fits)
    | inr there ↦ fits_still law.truth u id r j x there.0 x.role (law.each_view j x there.1)
  ]

inside_of : {X : Type 0} (xs : List X) (i : ℕ) (x : X) → get_elem? xs i ≡ some x → i < length xs
inside_of [] i x e = absurd (maybe.some-ne-none x (sym e))
inside_of (y ∷ ys) zero x e = omega arith
inside_of (y ∷ ys) (suc i) x e = let h = inside_of ys i x e in omega (arith, h)

-- the view of this seat is such a one
abbrev pub IsSeat : (View → Type 0) → List View → ℕ → Type 0
IsSeat P views j = (v : View) × (get_elem? views j ≡ some v) × P v

pub seat_set : (P : View → Type 0) (views : List View) (id j : ℕ) (v w : View) → get_elem? views id ≡ some v → (P v → P w) → IsSeat P views j → IsSeat P (set views id w) j
seat_set P views id j v w at keeps d = elim (cases_eq j id) [
  | inl is ↦ (w, ap (get_elem? (set views id w)) is ∙ set_here views id w (inside_of views id v at), keeps (subst P (sym (maybe.some-injective v d.0 (sym at ∙ ap (get_elem? views) (sym is) ∙ d.1))) d.2))
  | inr other ↦ (d.0, set_else views id j w other ∙ d.1, d.2)
]

pub seat_more : (P : View → Type 0) (views : List View) (j : ℕ) (x : View) → IsSeat P views j → IsSeat P (views ++ x ∷ []) j
seat_more P views j x d = (d.0, at_longer views (x ∷ []) j d.0 d.1, d.2)

-- where the seat id steps, the drain stays where it is
pub drain_still : (t u : Truth) (views : List View) (id : ℕ) (v w : View) → get_elem? views id ≡ some v → w.role ≡ v.role → u.drain ≡ t.drain → IsDrainAt views t.drain → IsDrainAt (set views id w) u.drain
drain_still t u views id v w at role same d = subst (IsDrainAt (set views id w)) (sym same) (seat_set (λ (x : View). x.role ≡ Drain) views id t.drain v w at (λ e. role ∙ e) d)

-- The seat id steps, and the words and the cells become these.
pub moved : (k : Shape) (s : Intake) (law : IsLawful k s) (u : Truth) (id : ℕ) (v w : View) (words : List ℕ) (homes : List Home)
    → get_elem? s.views id ≡ some v → w.role ≡ v.role → w.client ≡ v.client → u.clients ≡ law.truth.clients
    → Turns law.truth u id → IsSound k u words homes → Fits u id w w.role
    → IsLawful k record { words = words; homes = homes; views = set s.views id w }
moved k s law u id v w words homes at role client clients r sound fits = record {
  truth = u;
  sound = sound;
  each_client = λ c h. clients_still k s law u id v w at role client (inside_of s.views id v at) r c (omega (arith, h, clients));
  drained_by = drain_still law.truth u s.views id v w at role r.drain law.drained_by;
  each_view = views_still k s law u id v w r fits;
}

-- Only the view of the seat changes.
pub learned : (k : Shape) (s : Intake) (law : IsLawful k s) (id : ℕ) (v w : View)
    → get_elem? s.views id ≡ some v → w.role ≡ v.role → w.client ≡ v.client → Fits law.truth id w w.role
    → IsLawful k record { words = s.words; homes = s.homes; views = set s.views id w }
learned k s law id v w at role client fits = moved k s law law.truth id v w s.words s.homes at role client refl (turns_same law.truth id) law.sound fits
