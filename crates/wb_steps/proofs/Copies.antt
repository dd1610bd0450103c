-- Seats are made, and seats tell one another what they know.
use Rattle.std.proofs.Common.{◌≡◌, ◌≢◌, ◌⊎◌, ℕ, zero, suc, ◌+◌, ◌<◌, ◌≤◌, max, eqb, List, [], ◌∷◌, ◌++◌, length, set, Bool, cond, sym, ap, refl, ◌∙◌, subst, inl, inr, arith}
use Rattle.std.specs.List.{All}
use Rattle.std.proofs.lemmas.Bool.{cases_eq, cases_lt, eq-eqb, ne_eqb}
use Rattle.std.proofs.lemmas.List.{length-set}
use Rattle.std.proofs.lemmas.List.Elements.{All-append}
use mathlib.Core.Option.{some, some-injective, some-ne-none}
use lib.ListN.{get_elem?}
use Rattle.atomic_table.proofs.Lists.{at_set, set_else, at_longer, at_last}
use Rattle.wb_geometry.specs.History.{HistoryEntry, client_of}
use Rattle.wb_steps.specs.Faults.{IsPartwiseAtMost, greater_parts}
use Rattle.wb_steps.specs.Views.{IsPrefix, telling, copy, note_of, greater_seen, longer, heard_by, hearing, spent, beginning}
use Rattle.wb_steps.specs.Rule.{Intake, holder, Truth, HasSeen, Owns, Drains, Fits, IsOwned, IsSound, IsLawful}
use Rattle.wb_steps.specs.declared.shape.Shape.{Shape}
use Rattle.wb_steps.specs.declared.view.Faults.{Faults}
use Rattle.wb_steps.specs.declared.view.View.{View}
use Rattle.wb_steps.specs.declared.view.Role.{Role}
use Rattle.wb_steps.specs.declared.view.Role.TheVariants.{Owner, Copy, Drain, Spent}
use Rattle.wb_steps.proofs.Lists.{prefix_same, prefix_more, prefix_length, prefix_both, prefix_longer, longer_other, placed-others}
use Rattle.wb_steps.proofs.Phases.{held-ne-none}
use Rattle.wb_steps.proofs.Fitting.{Turns, seats_turn, seats_sound, turns_same, learned, clients_still, views_still, seat_more, drain_still}
use Rattle.wb_steps.proofs.Cells.{inside_of, at_append, All_at, there}
use Rattle.wb_steps.proofs.Numbers.{Between, seen_of, parts_equal}

-- one number is given another value
abbrev pub at_number : {X : Type 0} → (ℕ → X) → ℕ → X → ℕ → X
at_number f n x m = cond (eqb m n) x (f m)

pub number_here : {X : Type 0} (f : ℕ → X) (n : ℕ) (x : X) (m : ℕ) → m ≡ n → at_number f n x m ≡ x
number_here {X} f n x m e = ap (λ (b : Bool). cond b x (f m)) (eq-eqb m n e)

pub number_else : {X : Type 0} (f : ℕ → X) (n : ℕ) (x : X) (m : ℕ) → m ≢ n → at_number f n x m ≡ f m
number_else {X} f n x m e = ap (λ (b : Bool). cond b x (f m)) (ne_eqb m n e)

abbrev role_number : Role → ℕ
role_number Owner = 0
role_number Copy = 1
role_number Drain = 2
role_number Spent = 3

pub roles_apart : (a b : Role) → role_number a ≢ role_number b → a ≢ b
roles_apart a b n e = n (ap role_number e)

owner-ne-drain : Owner ≡ Drain → ⊥
owner-ne-drain e = let h : role_number Owner ≡ role_number Drain = ap role_number e in omega arith

owner-ne-copy : Owner ≡ Copy → ⊥
owner-ne-copy e = let h : role_number Owner ≡ role_number Copy = ap role_number e in omega arith

copy-ne-spent : Copy ≡ Spent → ⊥
copy-ne-spent e = let h : role_number Copy ≡ role_number Spent = ap role_number e in omega arith

-- The seat id steps, its view v becomes w, and a seat with the view x is made.
module _ (k : Shape) (s : Intake) (law : IsLawful k s) (u : Truth) (id : ℕ) (v w x : View) where
  pub made : get_elem? s.views id ≡ some v → w.role ≡ v.role → (w.client ≡ v.client) ⊎ (v.role ≡ Drain) → Turns law.truth u id → IsSound k u s.words s.homes → Fits u id w w.role → Fits u (length s.views) x x.role
      → ((c : ℕ) → law.truth.clients ≤ c → c < u.clients → (x.role ≡ Owner) × (x.client ≡ c) × (u.seat c ≡ length s.views))
      → IsLawful k record { words = s.words; homes = s.homes; views = set s.views id w ++ x ∷ [] }
  made at role client r sound fits more new =
      let inside : id < length s.views = inside_of s.views id v at in
      let long : length (set s.views id w) ≡ length s.views = length-set s.views id w in record {
        truth = u;
        sound = sound;
        each_client = λ c h. elim (cases_lt c law.truth.clients) [
          | inl old ↦ elim client [
            | inl same ↦ let was = clients_still k s law u id v w at role same inside r c old in (was.0, at_longer (set s.views id w) (x ∷ []) (u.seat c) was.0 was.1, was.2, was.3)
            | inr drain ↦ other_client c old drain inside r at
          ]
          | inr late ↦ let n = new c late h in (x, ap (get_elem? (set s.views id w ++ x ∷ [])) n.2 ∙ at_last (set s.views id w) x (length s.views) long, n.0, n.1)
        ];
        drained_by = seat_more (λ (y : View). y.role ≡ Drain) (set s.views id w) u.drain x (drain_still law.truth u s.views id v w at role r.drain law.drained_by);
        each_view = λ j y h. elim (at_append (set s.views id w) (x ∷ []) j y h) [
          | inl old ↦ views_still k s law u id v w r fits j y old
          | inr last ↦ let z = only last.0 y last.2 in subst (λ (q : View). Fits u j q q.role) z.1 (subst (λ (i : ℕ). Fits u i x x.role) (let g : length s.views ≡ j = omega (arith, last.1, long, z.0) in g) more)
        ];
      }
    where
      only : (i : ℕ) (y : View) → get_elem? (x ∷ []) i ≡ some y → (i ≡ 0) × (x ≡ y)
      only zero y h = (refl, some-injective x y h)
      only (suc i) y h = absurd (some-ne-none y (sym h))

      other_client : (c : ℕ) → c < law.truth.clients → v.role ≡ Drain → id < length s.views → Turns law.truth u id → get_elem? s.views id ≡ some v → IsOwned (set s.views id w ++ x ∷ []) u.seat c
      other_client c old drain inside r at = let was = law.each_client c old in
          let apart : law.truth.seat c ≢ id = λ e. owner-ne-drain (sym was.2 ∙ ap (λ (y : View). y.role) (some-injective was.0 v (sym was.1 ∙ ap (get_elem? s.views) e ∙ at)) ∙ drain) in
          (was.0, at_longer (set s.views id w) (x ∷ []) (u.seat c) was.0 (ap (get_elem? (set s.views id w)) (r.seat c old) ∙ (set_else s.views id (law.truth.seat c) w apart ∙ was.1)), was.2, was.3)

-- a seat that isn't spent makes a copy, which has seen what it has
pub shown_law : (k : Shape) (s : Intake) (law : IsLawful k s) (id : ℕ) (v : View) → get_elem? s.views id ≡ some v → v.role ≢ Spent
    → IsLawful k record { words = s.words; homes = s.homes; views = set s.views id v ++ copy v [] ∷ [] }
shown_law k s law id v at live =
    let t : Truth = law.truth in let h = seen_of t id v v.role live (law.each_view id v at) in
    made k s law t id v v (copy v []) at refl (inl refl) (turns_same t id) law.sound (law.each_view id v at)
    (record { known = h.known; short = h.short; cursor = h.cursor; limit = h.limit; stable = h.stable; fault = h.fault; heard = λ i d inside. absurd (omega arith) }, refl)
    (λ c low high. absurd (omega arith))

-- an owner tells a note
module _ (k : Shape) (s : Intake) (law : IsLawful k s) (id : ℕ) (v : View) (o : Owns law.truth id v) where
  abbrev t : Truth
  t = law.truth

  abbrev list : List ℕ
  list = v.told ++ v.seen.cursor ∷ []

  abbrev tells : Truth
  tells = record t { told = at_number t.told v.client list }

  tells_more : (c : ℕ) → IsPrefix (t.told c) (at_number t.told v.client list c)
  tells_more c = elim (cases_eq c v.client) [
    | inl is ↦ subst (IsPrefix (t.told c)) (sym (number_here t.told v.client list c is)) (subst (λ (l : List ℕ). IsPrefix l list) (o.told ∙ ap t.told (sym is)) (prefix_more v.told (v.seen.cursor ∷ [])))
    | inr other ↦ subst (IsPrefix (t.told c)) (sym (number_else t.told v.client list c other)) (prefix_same (t.told c))
  ]

  tells_turns : Turns t tells id
  tells_turns = seats_turn t id t.clients t.seat (at_number t.told v.client list) (omega arith) (λ c h. refl) tells_more (λ c h n. number_else t.told v.client list c (λ e. n (ap t.seat e ∙ o.seat))) (λ n. refl)

  tells_sound : IsSound k tells s.words s.homes
  tells_sound = let h = law.sound in
      seats_sound t id t.clients t.seat (at_number t.told v.client list) k s.words s.homes h h.each_owner (λ c late. number_else t.told v.client list c (λ e. omega (arith, e, late, o.client)) ∙ h.untold c late) h.each_holder

  tells_heard : All (λ h. IsPrefix h.1 (at_number t.told v.client list h.0)) v.heard
  tells_heard i d inside = Rattle.wb_steps.proofs.Lists.prefix_trans _ _ _ (o.seen.heard i d inside) (tells_more _)

  tells_owns : Owns tells id (telling v)
  tells_owns = record {
    seen = record { known = o.seen.known; short = o.seen.short; cursor = o.seen.cursor; limit = o.seen.limit; stable = o.seen.stable; fault = o.seen.fault; heard = tells_heard };
    seat = o.seat;
    client = o.client;
    mine = o.mine;
    below = o.below;
    told = sym (number_here t.told v.client list v.client refl);
    in_flight = o.in_flight;
    no_other = o.no_other;
    holds = o.holds;
  }

  tells_note : HasSeen tells (length s.views) (note_of v)
  tells_note = record { known = o.seen.known; short = o.seen.short; cursor = o.seen.cursor; limit = o.seen.limit; stable = o.seen.stable; fault = o.seen.fault; heard = one_note }
    where
      one_note : All (λ (h : ℕ × List ℕ). IsPrefix h.1 (at_number t.told v.client list h.0)) ((v.client, list) ∷ [])
      one_note zero d inside = subst (IsPrefix list) (sym (number_here t.told v.client list v.client refl)) (prefix_same list)
      one_note (suc i) d inside = absurd (omega arith)

pub told_law : (k : Shape) (s : Intake) (law : IsLawful k s) (id : ℕ) (v : View) → get_elem? s.views id ≡ some v → v.role ≡ Owner
    → IsLawful k record { words = s.words; homes = s.homes; views = set s.views id (telling v) ++ note_of v ∷ [] }
told_law k s law id v at role =
    let o : Owns law.truth id v = subst (Fits law.truth id v) role (law.each_view id v at) in
    made k s law (tells k s law id v o) id v (telling v) (note_of v) at refl (inl refl) (tells_turns k s law id v o) (tells_sound k s law id v o) (subst (Fits (tells k s law id v o) id (telling v)) (sym role) (tells_owns k s law id v o))
    (tells_note k s law id v o, refl) (λ c low high. absurd (omega arith))

-- a receiver has then seen what a copy had seen
between_both : (t : Truth) (i j : ℕ) (v w : View) → HasSeen t i v → HasSeen t j w → Between t v.seen (greater_seen v.seen w.seen)
between_both t i j v w a b = record {
  cursor_up = omega arith;
  cursor = omega (arith, a.cursor, b.cursor);
  limit_up = omega arith;
  limit = omega (arith, a.limit, b.limit);
  stable_up = omega arith;
  stable = omega (arith, a.stable, b.stable);
  fault_up = record { log_down = omega arith; backing_down = omega arith; log_reads = omega arith; backing_reads = omega arith };
  fault = let x = a.fault in let y = b.fault in record { log_down = omega (arith, x.log_down, y.log_down); backing_down = omega (arith, x.backing_down, y.backing_down); log_reads = omega (arith, x.log_reads, y.log_reads); backing_reads = omega (arith, x.backing_reads, y.backing_reads) };
}

known_both : (t : Truth) (v w : View) → IsPrefix v.known t.drained → IsPrefix w.known t.drained → IsPrefix (longer v.known w.known) t.drained × (length (longer v.known w.known) ≤ max (length v.known) (length w.known))
known_both t v w a b = elim (cases_lt (length v.known) (length w.known)) [
  | inl less ↦ let e = longer_other v.known w.known (prefix_both w.known v.known t.drained b a (omega (arith, less))) in (subst (λ (l : List HistoryEntry). IsPrefix l t.drained) (sym e) b, (let n = ap length e in omega (arith, n)))
  | inr more ↦ let e = prefix_longer v.known w.known (prefix_both v.known w.known t.drained a b more) in (subst (λ (l : List HistoryEntry). IsPrefix l t.drained) (sym e) a, (let n = ap length e in omega (arith, n)))
]

-- a view with more of the drained list in it
hears_seen : (t : Truth) (i j : ℕ) (v w : View) (heard : List (ℕ × List ℕ)) → HasSeen t i v → HasSeen t j w → All (λ h. IsPrefix h.1 (t.told h.0)) heard
    → HasSeen t i (record v { known = longer v.known w.known; seen = greater_seen v.seen w.seen; heard = heard })
hears_seen t i j v w heard a b all = let both = between_both t i j v w a b in let known = known_both t v w a.known b.known in record {
  known = known.0;
  short = omega (arith, known.1, a.short, b.short);
  cursor = both.cursor;
  limit = both.limit;
  stable = both.stable;
  fault = both.fault;
  heard = all;
}

hears_owns : (t : Truth) (i j : ℕ) (v w : View) → Owns t i v → HasSeen t j w → Owns t i (record v { known = longer v.known w.known; seen = greater_seen v.seen w.seen; heard = v.heard ++ w.heard })
hears_owns t i j v w o b = record {
  seen = hears_seen t i j v w (v.heard ++ w.heard) o.seen b (All-append (λ h. IsPrefix h.1 (t.told h.0)) v.heard w.heard o.seen.heard b.heard);
  seat = o.seat;
  client = o.client;
  mine = o.mine;
  below = λ n d inside. let h = o.below n d inside in omega (arith, h);
  told = o.told;
  in_flight = o.in_flight;
  no_other = o.no_other;
  holds = o.holds;
}

-- what the drain has is all that a copy can have
pub met_known : (t : Truth) (i j : ℕ) (v w : View) → Drains t i v → HasSeen t j w → longer v.known w.known ≡ v.known
met_known t i j v w o b = prefix_longer v.known w.known (subst (IsPrefix w.known) (sym o.known) b.known)

hears_drains : (t : Truth) (i j : ℕ) (v w : View) → Drains t i v → HasSeen t j w → Drains t i (record v { known = longer v.known w.known; seen = greater_seen v.seen w.seen; heard = v.heard })
hears_drains t i j v w o b = let both = between_both t i j v w o.seen b in record {
  seen = hears_seen t i j v w v.heard o.seen b o.seen.heard;
  seat = o.seat;
  clients = o.clients;
  known = met_known t i j v w o b ∙ o.known;
  limit = omega (arith, o.limit, both.limit);
  stable = omega (arith, o.stable, both.stable);
  fault = parts_equal (greater_parts v.seen.fault w.seen.fault) t.fault both.fault (subst (λ (f : Faults). IsPartwiseAtMost f (greater_parts v.seen.fault w.seen.fault)) o.fault both.fault_up);
  holds = λ p h. let was = o.holds p h in (was.0, was.1, (let n = was.2 in omega (arith, n)), was.3);
  rests = o.rests;
}

hears_fits : (t : Truth) (i j : ℕ) (v w : View) (role : Role) → (role ≡ Owner) ⊎ (role ≡ Drain) → Fits t i v role → HasSeen t j w → Fits t i (record v { known = longer v.known w.known; seen = greater_seen v.seen w.seen; heard = heard_by role v.heard w.heard }) role
hears_fits t i j v w Owner r o b = hears_owns t i j v w o b
hears_fits t i j v w Drain r o b = hears_drains t i j v w o b
hears_fits t i j v w Copy r o b = absurd (elim r [ inl e ↦ owner-ne-copy (sym e) | inr e ↦ (let h : role_number Copy ≡ role_number Drain = ap role_number e in omega arith) ])
hears_fits t i j v w Spent r o b = absurd (elim r [ inl e ↦ (let h : role_number Spent ≡ role_number Owner = ap role_number e in omega arith) | inr e ↦ (let h : role_number Spent ≡ role_number Drain = ap role_number e in omega arith) ])

-- a copy is spent
spent_law : (k : Shape) (s : Intake) (law : IsLawful k s) (j : ℕ) (w : View) → get_elem? s.views j ≡ some w → w.role ≡ Copy
    → IsLawful k record { words = s.words; homes = s.homes; views = set s.views j spent }
spent_law k s law j w at role = record {
  truth = law.truth;
  sound = law.sound;
  each_client = λ c h. let was = law.each_client c h in
      (was.0, set_else s.views j (law.truth.seat c) spent (λ e. owner-ne-copy (sym was.2 ∙ ap (λ (y : View). y.role) (some-injective was.0 w (sym was.1 ∙ ap (get_elem? s.views) e ∙ at)) ∙ role)) ∙ was.1, was.2, was.3);
  drained_by = let d = law.drained_by in
      (d.0, set_else s.views j law.truth.drain spent (λ e. roles_apart Copy Drain (λ n. omega arith) (sym role ∙ ap (λ (y : View). y.role) (some-injective w d.0 (sym at ∙ ap (get_elem? s.views) (sym e) ∙ d.1)) ∙ d.2)) ∙ d.1, d.2);
  each_view = λ i x h. elim (at_set s.views j i spent x h) [
    | inl here ↦ subst (λ (y : View). Fits law.truth i y y.role) here.1 tt
    | inr there ↦ law.each_view i x there.1
  ];
}

-- an owner or the drain receives what a copy has seen
pub heard_law : (k : Shape) (s : Intake) (law : IsLawful k s) (id : ℕ) (v : View) (j : ℕ) (w : View) → get_elem? s.views id ≡ some v → (v.role ≡ Owner) ⊎ (v.role ≡ Drain) → get_elem? (set s.views id (hearing v w)) j ≡ some w → j ≢ id → w.role ≡ Copy
    → IsLawful k record { words = s.words; homes = s.homes; views = set (set s.views id (hearing v w)) j spent }
heard_law k s law id v j w at role at' n copies =
    let was : get_elem? s.views j ≡ some w = sym (set_else s.views id j (hearing v w) n) ∙ at' in
    let b : HasSeen law.truth j w = seen_of law.truth j w w.role (λ e. copy-ne-spent (sym copies ∙ e)) (law.each_view j w was) in
    spent_law k record { words = s.words; homes = s.homes; views = set s.views id (hearing v w) }
    (learned k s law id v (hearing v w) at refl refl (hears_fits law.truth id j v w v.role role (law.each_view id v at) b)) j w at' copies

-- the drain makes the owner of the next client
module _ (k : Shape) (s : Intake) (law : IsLawful k s) (id : ℕ) (v : View) (o : Drains law.truth id v) where
  abbrev new_seat : ℕ
  new_seat = length s.views

  abbrev more_clients : Truth
  more_clients = record law.truth { clients = law.truth.clients + 1; seat = at_number law.truth.seat law.truth.clients (length s.views) }

  abbrev counted : View
  counted = record v { client = v.client + 1 }

  abbrev newcomer : View
  newcomer = record (beginning Owner v.client 0) { seen = v.seen }

  known_seat : (c : ℕ) → c < law.truth.clients → at_number law.truth.seat law.truth.clients (length s.views) c ≡ law.truth.seat c
  known_seat c h = number_else law.truth.seat law.truth.clients (length s.views) c (λ e. omega arith)

  founds_turns : Turns law.truth more_clients id
  founds_turns = seats_turn law.truth id (law.truth.clients + 1) (at_number law.truth.seat law.truth.clients (length s.views)) law.truth.told (omega arith) known_seat (λ c. prefix_same (law.truth.told c)) (λ c h n. refl) (λ n. absurd (n (sym o.seat)))

  founds_sound : IsSound k more_clients s.words s.homes
  founds_sound = let h = law.sound in
      seats_sound law.truth id (law.truth.clients + 1) (at_number law.truth.seat law.truth.clients (length s.views)) law.truth.told k s.words s.homes h (λ i d inside. let n = h.each_owner i d inside in omega (arith, n)) (λ c late. h.untold c (omega arith))
      (λ p e j low at hold. known_seat (client_of e) (All_at (λ e. client_of e < law.truth.clients) law.truth.log p e h.each_owner at) ∙ h.each_holder p e j low at hold)

  founds_drain : Drains more_clients id counted
  founds_drain = record {
    seen = record { known = o.seen.known; short = o.seen.short; cursor = o.seen.cursor; limit = o.seen.limit; stable = o.seen.stable; fault = o.seen.fault; heard = o.seen.heard };
    seat = o.seat;
    clients = ap (λ (n : ℕ). n + 1) o.clients;
    known = o.known;
    limit = o.limit;
    stable = o.stable;
    fault = o.fault;
    holds = o.holds;
    rests = o.rests;
  }

  none_holds : (p : ℕ) → length law.truth.drained ≤ p → p < length law.truth.log → holder (law.truth.phase p) ≡ suc (length s.views) → ⊥
  none_holds p low high h =
      let e = there law.truth.log p high in
      let seat = law.sound.each_holder p e.0 (length s.views) low e.1 h in
      let owned = law.each_client (client_of e.0) (All_at (λ e. client_of e < law.truth.clients) law.truth.log p e.0 law.sound.each_owner e.1) in
      let inside = inside_of s.views (law.truth.seat (client_of e.0)) owned.0 owned.1 in omega (arith, seat, inside)

  founds_owner : Owns more_clients (length s.views) newcomer
  founds_owner = let c = o.clients in record {
    seen = record { known = (law.truth.drained, refl); short = omega arith; cursor = o.seen.cursor; limit = o.seen.limit; stable = o.seen.stable; fault = o.seen.fault; heard = λ i d inside. absurd (omega arith) };
    seat = number_here law.truth.seat law.truth.clients (length s.views) v.client c;
    client = omega (arith, c);
    mine = sym (placed-others v.client 0 law.truth.log (λ i d inside e. let n = law.sound.each_owner i d inside in omega (arith, e, n, c)));
    below = λ i d inside. absurd (omega arith);
    told = sym (law.sound.untold v.client (omega (arith, c)));
    in_flight = λ p h. absurd (omega (arith, h.1));
    no_other = λ p low high h. absurd (none_holds p low high h);
    holds = λ p h. absurd (held-ne-none p (sym h));
  }

pub founded_law : (k : Shape) (s : Intake) (law : IsLawful k s) (id : ℕ) (v : View) → get_elem? s.views id ≡ some v → v.role ≡ Drain
    → IsLawful k record { words = s.words; homes = s.homes; views = set s.views id (record v { client = v.client + 1 }) ++ record (beginning Owner v.client 0) { seen = v.seen } ∷ [] }
founded_law k s law id v at role =
    let o : Drains law.truth id v = subst (Fits law.truth id v) role (law.each_view id v at) in
    made k s law (more_clients k s law id v o) id v (counted k s law id v o) (newcomer k s law id v o) at refl (inr role) (founds_turns k s law id v o) (founds_sound k s law id v o)
    (subst (Fits (more_clients k s law id v o) id (counted k s law id v o)) (sym role) (founds_drain k s law id v o)) (founds_owner k s law id v o)
    (λ c low high. let is : c ≡ law.truth.clients = omega arith in (refl, o.clients ∙ sym is, number_here law.truth.seat law.truth.clients (length s.views) c is))
