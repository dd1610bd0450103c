-- Numbers are published, and seen.
use Rattle.std.proofs.Common.{◌≡◌, ◌≢◌, ℕ, ◌+◌, ◌%◌, ◌<◌, ◌≤◌, length, get_or, set, sym, ap, refl, ◌∙◌, subst, arith}
use Rattle.std.proofs.lemmas.List.{get_or-set_other, get_or-set_same, length-set}
use mathlib.Core.Option.{some}
use lib.ListN.{get_elem?}
use Rattle.wb_steps.specs.Faults.{parts_of, IsPartwiseAtMost}
use Rattle.wb_steps.specs.Rule.{Intake, cells, InPhase, Truth, HasSeen, Drains, Fits, IsSound, IsLawful}
use Rattle.wb_steps.specs.declared.shape.Shape.{Shape}
use Rattle.wb_steps.specs.declared.view.Faults.{Faults}
use Rattle.wb_steps.specs.declared.view.Seen.{Seen}
use Rattle.wb_steps.specs.declared.view.View.{View}
use Rattle.wb_steps.specs.declared.view.Role.{Role}
use Rattle.wb_steps.specs.declared.view.Role.TheVariants.{Owner, Copy, Drain, Spent}
use Rattle.wb_steps.proofs.Lists.{prefix_same}
use Rattle.wb_steps.proofs.Fitting.{Turns, parts_same, turns_by, moved, learned}
use Rattle.wb_steps.proofs.Cells.{cell_word_else}

-- x lies between what a seat has seen and the words
pub record Between (t : Truth) (a x : Seen) : Type 0 where
  pub cursor_up : a.cursor ≤ x.cursor
  pub cursor : x.cursor ≤ length t.log
  pub limit_up : a.limit ≤ x.limit
  pub limit : x.limit ≤ t.limit
  pub stable_up : a.stable ≤ x.stable
  pub stable : x.stable ≤ t.stable
  pub fault_up : IsPartwiseAtMost a.fault x.fault
  pub fault : IsPartwiseAtMost x.fault t.fault

pub parts_equal : (a b : Faults) → IsPartwiseAtMost a b → IsPartwiseAtMost b a → a ≡ b
parts_equal a b x y =
    let p : a.log_down ≡ b.log_down = omega (arith, x.log_down, y.log_down) in let q : a.backing_down ≡ b.backing_down = omega (arith, x.backing_down, y.backing_down) in
    let r : a.log_reads ≡ b.log_reads = omega (arith, x.log_reads, y.log_reads) in let s : a.backing_reads ≡ b.backing_reads = omega (arith, x.backing_reads, y.backing_reads) in
    λ i. record { log_down = p i; backing_down = q i; log_reads = r i; backing_reads = s i }

module _ (t : Truth) (j : ℕ) (v : View) (x : Seen) where
  seen_more : HasSeen t j v → Between t v.seen x → HasSeen t j (record v { seen = x })
  seen_more h b = record { known = h.known; short = omega (arith, h.short, b.cursor_up); cursor = b.cursor; limit = b.limit; stable = b.stable; fault = b.fault; heard = h.heard }

  pub fits_more : (role : Role) → Fits t j v role → Between t v.seen x → Fits t j (record v { seen = x }) role
  fits_more Owner o b = record {
    seen = seen_more o.seen b;
    seat = o.seat;
    client = o.client;
    mine = o.mine;
    below = λ i d inside. let h = o.below i d inside in omega (arith, h, b.cursor_up);
    told = o.told;
    in_flight = o.in_flight;
    no_other = o.no_other;
    holds = o.holds;
  }
  fits_more Copy c b = (seen_more c.0 b, c.1)
  fits_more Drain o b = record {
    seen = seen_more o.seen b;
    seat = o.seat;
    clients = o.clients;
    known = o.known;
    limit = omega (arith, o.limit, b.limit, b.limit_up);
    stable = omega (arith, o.stable, b.stable, b.stable_up);
    fault = parts_equal x.fault t.fault b.fault (subst (λ (f : Faults). IsPartwiseAtMost f x.fault) o.fault b.fault_up);
    holds = λ p h. let was = o.holds p h in (was.0, was.1, omega (arith, was.2, b.cursor_up), was.3);
    rests = o.rests;
  }
  fits_more Spent s b = tt

-- what a view that isn't spent has seen lies below the words
pub seen_of : (t : Truth) (j : ℕ) (v : View) (role : Role) → role ≢ Spent → Fits t j v role → HasSeen t j v
seen_of t j v Owner n o = o.seen
seen_of t j v Copy n c = c.0
seen_of t j v Drain n o = o.seen
seen_of t j v Spent n s = absurd (n refl)

pub as_seen : (t : Truth) (j : ℕ) (v : View) → HasSeen t j v → Between t v.seen v.seen
as_seen t j v h = record { cursor_up = omega arith; cursor = h.cursor; limit_up = omega arith; limit = h.limit; stable_up = omega arith; stable = h.stable; fault_up = parts_same v.seen.fault; fault = h.fault }

-- a seat looks at the cursor, the limit, the stable number or the fault
module _ (k : Shape) (s : Intake) (law : IsLawful k s) (id : ℕ) (v : View) (at : get_elem? s.views id ≡ some v) (live : v.role ≢ Spent) where
  has_seen : HasSeen law.truth id v
  has_seen = seen_of law.truth id v v.role live (law.each_view id v at)

  pub saw_law : (x : Seen) → Between law.truth v.seen x → IsLawful k record { words = s.words; homes = s.homes; views = set s.views id (record v { seen = x }) }
  saw_law x b = learned k s law id v (record v { seen = x }) at refl refl (fits_more law.truth id v x v.role (law.each_view id v at) b)

  pub cursor_seen : (r : ℕ) → get_or s.words 0 0 ≡ r → (v.seen.cursor ≤ r) × (length v.known ≤ r) × IsLawful k record { words = s.words; homes = s.homes; views = set s.views id (record v { seen = record v.seen { cursor = r } }) }
  cursor_seen r found = let h = has_seen in let is : length law.truth.log ≡ r = sym law.sound.cursor ∙ found in (
    omega (arith, is, h.cursor),
    omega (arith, is, h.cursor, h.short),
    saw_law (record v.seen { cursor = r }) (record { cursor_up = omega (arith, is, h.cursor); cursor = omega (arith, is); limit_up = omega arith; limit = h.limit; stable_up = omega arith; stable = h.stable; fault_up = parts_same v.seen.fault; fault = h.fault }),
  )

  pub limit_seen : (r : ℕ) → get_or s.words 1 0 ≡ r → (v.seen.limit ≤ r) × (v.seen.cursor ≤ r) × IsLawful k record { words = s.words; homes = s.homes; views = set s.views id (record v { seen = record v.seen { limit = r } }) }
  limit_seen r found = let h = has_seen in let is : law.truth.limit ≡ r = sym law.sound.limit ∙ found in (
    omega (arith, is, h.limit),
    omega (arith, is, h.cursor, law.sound.below),
    saw_law (record v.seen { limit = r }) (record { cursor_up = omega arith; cursor = h.cursor; limit_up = omega (arith, is, h.limit); limit = omega (arith, is); stable_up = omega arith; stable = h.stable; fault_up = parts_same v.seen.fault; fault = h.fault }),
  )

  pub stable_seen : (r : ℕ) → get_or s.words 2 0 ≡ r → (v.seen.stable ≤ r) × IsLawful k record { words = s.words; homes = s.homes; views = set s.views id (record v { seen = record v.seen { stable = r } }) }
  stable_seen r found = let h = has_seen in let is : law.truth.stable ≡ r = sym law.sound.stable ∙ found in (
    omega (arith, is, h.stable),
    saw_law (record v.seen { stable = r }) (record { cursor_up = omega arith; cursor = h.cursor; limit_up = omega arith; limit = h.limit; stable_up = omega (arith, is, h.stable); stable = omega (arith, is); fault_up = parts_same v.seen.fault; fault = h.fault }),
  )

  pub fault_seen : (r : ℕ) → get_or s.words 3 0 ≡ r → IsPartwiseAtMost v.seen.fault (parts_of r) × IsLawful k record { words = s.words; homes = s.homes; views = set s.views id (record v { seen = record v.seen { fault = parts_of r } }) }
  fault_seen r found = let h = has_seen in let is : law.truth.fault ≡ parts_of r = sym law.sound.fault ∙ ap parts_of found in (
    subst (IsPartwiseAtMost v.seen.fault) is h.fault,
    saw_law (record v.seen { fault = parts_of r }) (record {
      cursor_up = omega arith;
      cursor = h.cursor;
      limit_up = omega arith;
      limit = h.limit;
      stable_up = omega arith;
      stable = h.stable;
      fault_up = subst (IsPartwiseAtMost v.seen.fault) is h.fault;
      fault = subst (λ (f : Faults). IsPartwiseAtMost (parts_of r) f) (sym is) (parts_same (parts_of r));
    }),
  )

-- The drain publishes numbers: these are the limit, the stable number and the parts of the fault from then on.
module _ (k : Shape) (s : Intake) (law : IsLawful k s) (id : ℕ) (v : View) (i x l m : ℕ) (f : Faults) where
  abbrev u : Truth
  u = record law.truth { limit = l; stable = m; fault = f }

  abbrev w : View
  w = record v { seen = record v.seen { limit = l; stable = m; fault = f } }

  pub published : get_elem? s.views id ≡ some v → v.role ≡ Drain → 0 < i → i < 4
      → get_or (set s.words i x) 1 0 ≡ l → get_or (set s.words i x) 2 0 ≡ m → parts_of (get_or (set s.words i x) 3 0) ≡ f
      → v.seen.limit ≤ l → l ≤ length v.known + cells k → l % k.places ≡ 0 → v.seen.stable ≤ m → m ≤ length v.known → m % k.places ≡ 0 → IsPartwiseAtMost v.seen.fault f
      → IsLawful k record { words = set s.words i x; homes = s.homes; views = set s.views id w }
  published at role some_word few is_limit is_stable is_fault up room whole up' done whole' up'' =
      let t : Truth = law.truth in
      let h = law.sound in
      let o : Drains t id v = subst (Fits t id v) role (law.each_view id v at) in
      let d : length v.known ≡ length t.drained = ap length o.known in
      let turns : Turns t u id = turns_by t id t.drained l m f t.phase (prefix_same t.drained) (omega (arith, o.limit, up)) (omega (arith, o.stable, up')) (subst (λ (g : Faults). IsPartwiseAtMost g f) o.fault up'')
      (λ j p n a b h. (a, refl)) (λ j p n a b h. (a, b, h)) (λ n. absurd (n (sym o.seat))) in
      let sound : IsSound k u (set s.words i x) s.homes = record {
        some_cell = h.some_cell;
        wide = length-set s.words i x ∙ h.wide;
        deep = h.deep;
        cursor = get_or-set_other s.words i 0 x 0 (λ e. omega arith) ∙ h.cursor;
        limit = is_limit;
        stable = is_stable;
        fault = is_fault;
        behind = h.behind;
        below = omega (arith, h.below, o.limit, up);
        room = omega (arith, room, d);
        whole = whole;
        stable_whole = whole';
        stable_below = omega (arith, done, d);
        each_entry = h.each_entry;
        each_owner = h.each_owner;
        untold = h.untold;
        each_holder = h.each_holder;
        each_cell = λ p low high. subst (λ (y : ℕ). InPhase t.log t.drained y (get_elem? s.homes (p % cells k)) p (t.phase p)) (sym (cell_word_else k s.words i x p few)) (h.each_cell p low high);
      } in
      let fits : Drains u id w = record {
        seen = record { known = o.seen.known; short = o.seen.short; cursor = o.seen.cursor; limit = omega arith; stable = omega arith; fault = parts_same f; heard = o.seen.heard };
        seat = o.seat;
        clients = o.clients;
        known = o.known;
        limit = refl;
        stable = refl;
        fault = refl;
        holds = o.holds;
        rests = o.rests;
      } in
      moved k s law u id v w (set s.words i x) s.homes at refl refl refl turns sound (subst (Fits u id w) (sym role) fits)

-- where the drain's own numbers stand in the words
pub drain_words : (k : Shape) (s : Intake) (law : IsLawful k s) (id : ℕ) (v : View) → get_elem? s.views id ≡ some v → v.role ≡ Drain
    → (get_or s.words 1 0 ≡ v.seen.limit) × (get_or s.words 2 0 ≡ v.seen.stable) × (parts_of (get_or s.words 3 0) ≡ v.seen.fault) × (v.seen.limit % k.places ≡ 0) × (v.seen.limit ≤ length v.known + cells k)
    × (v.seen.stable % k.places ≡ 0) × (v.seen.stable ≤ length v.known)
drain_words k s law id v at role =
    let t : Truth = law.truth in let h = law.sound in let o : Drains t id v = subst (Fits t id v) role (law.each_view id v at) in let d : length v.known ≡ length t.drained = ap length o.known in
    (h.limit ∙ sym o.limit, h.stable ∙ sym o.stable, h.fault ∙ sym o.fault, ap (λ (n : ℕ). n % k.places) o.limit ∙ h.whole, omega (arith, o.limit, h.room, d), ap (λ (n : ℕ). n % k.places) o.stable ∙ h.stable_whole, omega (arith, o.stable, h.stable_below, d))

pub raised_law : (k : Shape) (s : Intake) (law : IsLawful k s) (id : ℕ) (v : View) (l : ℕ) → get_elem? s.views id ≡ some v → v.role ≡ Drain → l % k.places ≡ 0 → v.seen.limit ≤ l → l ≤ length v.known + cells k
    → IsLawful k record { words = set s.words 1 l; homes = s.homes; views = set s.views id (record v { seen = record v.seen { limit = l } }) }
raised_law k s law id v l at role whole up room = let o = drain_words k s law id v at role in let wide : length s.words ≡ cells k + 4 = law.sound.wide in
    published k s law id v 1 l l v.seen.stable v.seen.fault at role (omega arith) (omega arith) (get_or-set_same s.words 1 l 0 (omega arith)) (get_or-set_other s.words 1 2 l 0 (λ e. omega arith) ∙ o.1) (ap parts_of (get_or-set_other s.words 1 3 l 0 (λ e. omega arith)) ∙ o.2)
    up room whole (omega arith) o.6 o.5 (parts_same v.seen.fault)

pub stable_law : (k : Shape) (s : Intake) (law : IsLawful k s) (id : ℕ) (v : View) (m : ℕ) → get_elem? s.views id ≡ some v → v.role ≡ Drain → m % k.places ≡ 0 → v.seen.stable ≤ m → m ≤ length v.known
    → IsLawful k record { words = set s.words 2 m; homes = s.homes; views = set s.views id (record v { seen = record v.seen { stable = m } }) }
stable_law k s law id v m at role whole up done = let o = drain_words k s law id v at role in let wide : length s.words ≡ cells k + 4 = law.sound.wide in
    published k s law id v 2 m v.seen.limit m v.seen.fault at role (omega arith) (omega arith) (get_or-set_other s.words 2 1 m 0 (λ e. omega arith) ∙ o.0) (get_or-set_same s.words 2 m 0 (omega arith)) (ap parts_of (get_or-set_other s.words 2 3 m 0 (λ e. omega arith)) ∙ o.2)
    (omega arith) o.4 o.3 up done whole (parts_same v.seen.fault)

pub fault_law : (k : Shape) (s : Intake) (law : IsLawful k s) (id : ℕ) (v : View) (x : ℕ) → get_elem? s.views id ≡ some v → v.role ≡ Drain → IsPartwiseAtMost v.seen.fault (parts_of x)
    → IsLawful k record { words = set s.words 3 x; homes = s.homes; views = set s.views id (record v { seen = record v.seen { fault = parts_of x } }) }
fault_law k s law id v x at role up = let o = drain_words k s law id v at role in let wide : length s.words ≡ cells k + 4 = law.sound.wide in
    published k s law id v 3 x v.seen.limit v.seen.stable (parts_of x) at role (omega arith) (omega arith) (get_or-set_other s.words 3 1 x 0 (λ e. omega arith) ∙ o.0) (get_or-set_other s.words 3 2 x 0 (λ e. omega arith) ∙ o.1) (ap parts_of (get_or-set_same s.words 3 x 0 (omega arith)))
    (omega arith) o.4 o.3 (omega arith) o.6 o.5 up
