-- What calls one after another leave of a pass.
use Rattle.std.proofs.Common.{◌≡◌, ℕ, ◌+◌, ◌-◌, ◌*◌, ◌/◌, ◌<◌, ◌≤◌, List, [], ◌∷◌, ◌++◌, length, map, true, false, nat_lt, refl, sym, ap, ◌∙◌, subst, arith, append_assoc}
use Rattle.std.specs.List.{All}
use Rattle.std.specs.Prelude.{Result, Ok, Err, IfOk, IfErr, drop}
use Rattle.std.proofs.Math.Nat.{mul-div_right}
use Rattle.std.proofs.lemmas.Bool.{ltb-true, ltb-false}
use Rattle.std.proofs.lemmas.List.{append-nil, length-append, length-map, map-append}
use Rattle.std.proofs.lemmas.List.Elements.{All-nil, All-head, All-tail, All-push, All-weaker}
use Rattle.wb_geometry.specs.History.{HistoryEntry}
use Rattle.wb_geometry.specs.Requests.{parts, entries_of}
use Rattle.wb_geometry.specs.declared.request.Part.{Part}
use Rattle.wb_geometry.specs.declared.which.Which.{Which}
use Rattle.wb_geometry.specs.declared.which.Which.TheVariants.{Log, Backing}
use Rattle.wb_steps.specs.Faults.{IsPartwiseAtMost}
use Rattle.wb_steps.specs.Views.{IsPrefix}
use Rattle.wb_steps.specs.declared.shape.Shape.{Shape}
use Rattle.wb_steps.specs.declared.view.Faults.{Faults}
use Rattle.wb_steps.specs.declared.view.View.{View}
use Rattle.wb_intake.specs.Belongs.{Saw}
use Rattle.wb_intake.specs.declared.sight.Loads.{Loads}
use Rattle.wb_front.specs.Words.{reads_part, ReadsRose}
use Rattle.wb_front.specs.Moving.{HasRead}
use Rattle.wb_front.specs.Requests.{at_places, Rises, HasPut, IsFullAndDown, IsShort, IsUndone, IsWriteCause, IsSince, written}
use Rattle.wb_front.specs.declared.flushing.Down.{Down}
use Rattle.wb_front.specs.declared.writing.Piece.{Piece}
use Rattle.wb_front.specs.declared.writing.WriteCause.{WriteCause}
use Rattle.wb_front.specs.declared.writing.WriteCause.TheVariants as because
use Rattle.wb_steps.proofs.Fitting.{parts_trans}

-- ---- a pass that has seen more

pub saw_then : (u v w : View) → Saw u v → Saw v w → Saw u w
saw_then u v w p q = record {
  role = q.role ∙ p.role;
  client = q.client ∙ p.client;
  known = q.known ∙ p.known;
  mine = q.mine ∙ p.mine;
  unfilled = q.unfilled ∙ p.unfilled;
  held = q.held ∙ p.held;
  told = q.told ∙ p.told;
  heard = q.heard ∙ p.heard;
  cursor = omega (arith, p.cursor, q.cursor);
  limit = omega (arith, p.limit, q.limit);
  stable = omega (arith, p.stable, q.stable);
  fault = parts_trans u.seen.fault v.seen.fault w.seen.fault p.fault q.fault;
}

-- and then read
pub read_since : (u v w : View) (history : List HistoryEntry) → Saw u v → HasRead v w history → HasRead u w history
read_since u v w history p q = record {
  role = q.role ∙ p.role;
  client = q.client ∙ p.client;
  known = q.known;
  more = subst (λ (known : List HistoryEntry). IsPrefix known w.known) p.known q.more;
  few = q.few;
  mine = q.mine ∙ p.mine;
  stands = q.stands;
  unfilled = q.unfilled ∙ p.unfilled;
  held = q.held ∙ p.held;
  told = q.told ∙ p.told;
  heard = q.heard ∙ p.heard;
  cursor = omega (arith, p.cursor, q.cursor);
  limit = omega (arith, p.limit, q.limit);
  stable = omega (arith, p.stable, q.stable);
  fault = parts_trans u.seen.fault v.seen.fault w.seen.fault p.fault q.fault;
}

-- failed reads that came since are no fewer
pub rose_since : (which : Which) (a b c : Faults) → IsPartwiseAtMost a b → ReadsRose (reads_part which b) (reads_part which c) → ReadsRose (reads_part which a) (reads_part which c)
rose_since Log a b c p rose = let up = p.log_reads in omega (arith, up, rose)
rose_since Backing a b c p rose = let up = p.backing_reads in omega (arith, up, rose)

-- ---- places that come one after another

at_places_push : (ps : List ℕ) (front more : List HistoryEntry) (p : ℕ) (e : HistoryEntry) → length ps ≡ length front
    → at_places (ps ++ p ∷ []) (front ++ e ∷ more) ≡ at_places ps (front ++ e ∷ more) ++ (p, e) ∷ []
at_places_push [] [] more p e same = refl
at_places_push [] (x ∷ front) more p e same = absurd (omega (arith, same))
at_places_push (q ∷ ps) [] more p e same = absurd (omega (arith, same))
at_places_push (q ∷ ps) (x ∷ front) more p e same = ap (λ (l : List (ℕ × HistoryEntry)). (q, x) ∷ l) (at_places_push ps front more p e (omega (arith, same)))

rises_push : (ps : List ℕ) (n m p : ℕ) → Rises n ps → All (λ q. q < m) ps → n ≤ m → m ≤ p → Rises n (ps ++ p ∷ [])
rises_push [] n m p rises below low high = (omega (arith, low, high), tt)
rises_push (q ∷ ps) n m p rises below low high =
    (rises.0, rises_push ps (q + 1) m p rises.1 (All-tail (λ q. q < m) q ps below) (let first = All-head (λ q. q < m) q ps below in omega (arith, first)) high)

below_up : (m n : ℕ) → m ≤ n → (ps : List ℕ) → All (λ p. p < m) ps → All (λ p. p < n) ps
below_up m n up ps all = All-weaker (λ p. p < m) (λ p. p < n) (λ p lt. omega (arith, lt, up)) ps all

module _ (entries : List HistoryEntry) where
  -- no place was taken yet
  pub put_none : (v : View) → v.unfilled ≡ [] → HasPut v v [] entries
  put_none v free = record {
    role = refl;
    client = refl;
    known = refl;
    mine = sym (append-nil v.mine);
    unfilled = free;
    held = refl;
    told = refl;
    heard = refl;
    rises = tt;
    below = All-nil (λ p. p < v.seen.cursor);
    cursor = omega arith;
    limit = omega arith;
    stable = omega arith;
    fault = record { log_down = omega arith; backing_down = omega arith; log_reads = omega arith; backing_reads = omega arith };
  }

  -- then the pass only saw more
  pub put_stopped : (u v w : View) (places : List ℕ) → HasPut u v places entries → Saw v w → HasPut u w places entries
  put_stopped u v w places p q = record {
    role = q.role ∙ p.role;
    client = q.client ∙ p.client;
    known = q.known ∙ p.known;
    mine = q.mine ∙ p.mine;
    unfilled = q.unfilled ∙ p.unfilled;
    held = q.held ∙ p.held;
    told = q.told ∙ p.told;
    heard = q.heard ∙ p.heard;
    rises = p.rises;
    below = below_up v.seen.cursor w.seen.cursor q.cursor places p.below;
    cursor = omega (arith, p.cursor, q.cursor);
    limit = omega (arith, p.limit, q.limit);
    stable = omega (arith, p.stable, q.stable);
    fault = parts_trans u.seen.fault v.seen.fault w.seen.fault p.fault q.fault;
  }

-- a pass that saw more put an entry
pub put_since : (u v w : View) (places : List ℕ) (entries : List HistoryEntry) → Saw u v → HasPut v w places entries → HasPut u w places entries
put_since u v w places entries p q = record {
  role = q.role ∙ p.role;
  client = q.client ∙ p.client;
  known = q.known ∙ p.known;
  mine = q.mine ∙ ap (λ (l : List (ℕ × HistoryEntry)). l ++ at_places places entries) p.mine;
  unfilled = q.unfilled;
  held = q.held ∙ p.held;
  told = q.told ∙ p.told;
  heard = q.heard ∙ p.heard;
  rises = rises_lower places v.seen.cursor u.seen.cursor p.cursor q.rises;
  below = q.below;
  cursor = omega (arith, p.cursor, q.cursor);
  limit = omega (arith, p.limit, q.limit);
  stable = omega (arith, p.stable, q.stable);
  fault = parts_trans u.seen.fault v.seen.fault w.seen.fault p.fault q.fault;
}
  where
    rises_lower : (ps : List ℕ) (n m : ℕ) → m ≤ n → Rises n ps → Rises m ps
    rises_lower [] n m low rises = tt
    rises_lower (q ∷ ps) n m low rises = (let first = rises.0 in omega (arith, first, low), rises.1)

-- one entry more was put
pub put_more : (u v w : View) (places : List ℕ) (front more : List HistoryEntry) (p : ℕ) (e : HistoryEntry) → length places ≡ length front
    → HasPut u v places (front ++ e ∷ more) → HasPut v w (p ∷ []) (e ∷ []) → HasPut u w (places ++ p ∷ []) (front ++ e ∷ more)
put_more u v w places front more p e same a b = record {
  role = b.role ∙ a.role;
  client = b.client ∙ a.client;
  known = b.known ∙ a.known;
  mine = b.mine ∙ ap (λ (l : List (ℕ × HistoryEntry)). l ++ (p, e) ∷ []) a.mine ∙ append_assoc u.mine (at_places places (front ++ e ∷ more)) ((p, e) ∷ [])
      ∙ ap (λ (l : List (ℕ × HistoryEntry)). u.mine ++ l) (sym (at_places_push places front more p e same));
  unfilled = b.unfilled;
  held = b.held ∙ a.held;
  told = b.told ∙ a.told;
  heard = b.heard ∙ a.heard;
  rises = rises_push places u.seen.cursor v.seen.cursor p a.rises a.below a.cursor b.rises.0;
  below = All-push (λ q. q < w.seen.cursor) places p (below_up v.seen.cursor w.seen.cursor b.cursor places a.below) (All-head (λ q. q < w.seen.cursor) p [] b.below);
  cursor = omega (arith, a.cursor, b.cursor);
  limit = omega (arith, a.limit, b.limit);
  stable = omega (arith, a.stable, b.stable);
  fault = parts_trans u.seen.fault v.seen.fault w.seen.fault a.fault b.fault;
}

-- ---- loads that were made since

pub since_self : (l : Loads) → IsSince l l
since_self l = record { cursor = omega arith; limit = omega arith; fault = omega arith }

pub since_then : (a b c : Loads) → IsSince a b → IsSince b c → IsSince a c
since_then a b c p q = record { cursor = omega (arith, p.cursor, q.cursor); limit = omega (arith, p.limit, q.limit); fault = omega (arith, p.fault, q.fault) }

pub full_since : (a b c : Loads) (w : View) (device : Which) → IsSince a b → IsFullAndDown b c w device → IsFullAndDown a c w device
full_since a b c w device p q = record {
  cursor = (let up = p.cursor in let lt = q.cursor.0 in omega (arith, up, lt), q.cursor.1);
  limit = (let up = p.limit in let lt = q.limit.0 in omega (arith, up, lt), q.limit.1);
  full = q.full;
  word = q.word;
  fault = (let up = p.fault in let lt = q.fault.0 in omega (arith, up, lt), q.fault.1);
  seen = q.seen;
  down = q.down;
}

pub cause_since : (k : Shape) (a b c : Loads) (w : View) (taken : ℕ) (cause : WriteCause) → IsSince a b → IsWriteCause k b c w taken cause → IsWriteCause k a c w taken cause
cause_since k a b c w taken because.Memory p q = q
cause_since k a b c w taken (because.IdsSpent cursor) p q = (q.0, (let up = p.cursor in let lt = q.1.0 in omega (arith, up, lt), q.1.1), q.2)
cause_since k a b c w taken (because.Down device) p q = full_since a b c w device p q

-- ---- a list of pieces

at_seam : {X : Type 0} (P : X → Type 0) (xs : List X) (x : X) (ys : List X) → All P (xs ++ x ∷ ys) → P x
at_seam P [] x ys all = All-head P x ys all
at_seam P (y ∷ xs) x ys all = at_seam P xs x ys (All-tail P y (xs ++ x ∷ ys) all)

-- the piece is one of them
pub piece_in : (P : Piece → Type 0) (front : List Piece) (piece : Piece) (more pieces : List Piece) → front ++ piece ∷ more ≡ pieces → All P pieces → P piece
piece_in P front piece more pieces is all = at_seam P front piece more (subst (All P) (sym is) all)

entries_split : (client : ℕ) (front : List Piece) (piece : Piece) (more pieces : List Piece) → front ++ piece ∷ more ≡ pieces
    → map (written client) front ++ written client piece ∷ map (written client) more ≡ map (written client) pieces
entries_split client front piece more pieces is = sym (map-append (written client) front (piece ∷ more)) ∙ ap (map (written client)) is

-- it was put
pub piece_put : (u v w : View) (places : List ℕ) (client p : ℕ) (front : List Piece) (piece : Piece) (more pieces : List Piece) → front ++ piece ∷ more ≡ pieces → length places ≡ length front
    → HasPut u v places (map (written client) pieces) → HasPut v w (p ∷ []) (written client piece ∷ []) → HasPut u w (places ++ p ∷ []) (map (written client) pieces)
piece_put u v w places client p front piece more pieces is same a b =
    let split = entries_split client front piece more pieces is in
    subst (HasPut u w (places ++ p ∷ [])) split
    (put_more u v w places (map (written client) front) (map (written client) more) p (written client piece) (same ∙ sym (length-map front (written client))) (subst (HasPut u v places) (sym split) a) b)

pub one_longer : {X : Type 0} (front more all : List X) (x : X) → front ++ x ∷ more ≡ all → length front + 1 ≤ length all
one_longer front more all x is = let long = ap length is in omega (arith, long, length-append front (x ∷ more))

pub nothing_left : {X : Type 0} (xs : List X) → length xs ≡ 0 → xs ≡ []
nothing_left [] none = refl
nothing_left (x ∷ xs) none = absurd (omega (arith, none))

pub ok_weaker : {T E : Type 0} (r : Result T E) (P Q : T → Type 0) → ((x : T) → P x → Q x) → IfOk r P → IfOk r Q
ok_weaker (Ok x) P Q f h = f x h
ok_weaker (Err e) P Q f h = tt

pub err_weaker : {T E : Type 0} (r : Result T E) (P Q : E → Type 0) → ((e : E) → P e → Q e) → IfErr r P → IfErr r Q
err_weaker (Ok x) P Q f h = tt
err_weaker (Err e) P Q f h = f e h

entries_long : (client : ℕ) (ps : List Part) (bytes : List ℕ) → length (entries_of client ps bytes) ≡ length ps
entries_long client [] bytes = refl
entries_long client (p ∷ ps) bytes = let more = entries_long client ps (drop (512 * p.count) bytes) in omega (arith, more)

-- there is a piece for each part
pub pieces_long : (client sector count : ℕ) (bytes : List ℕ) (pieces : List Piece) → map (written client) pieces ≡ entries_of client (parts sector count) bytes → length pieces ≡ length (parts sector count)
pieces_long client sector count bytes pieces is = sym (length-map pieces (written client)) ∙ ap length is ∙ entries_long client (parts sector count) bytes

-- ---- sealed segments

-- the whole segments in so many places, and those that the limit shows to be logged
pub waiting : (n limit a l s first ram : ℕ) → 1 ≤ n → limit ≡ n * (l - first + ram) → s ≡ first + a / n → first ≤ l
    → (nat_lt (limit / n - ram) (a / n) ≡ true → l < s) × (nat_lt (limit / n - ram) (a / n) ≡ false → s ≤ l)
waiting n limit a l s first ram some is sealed low =
    let e : limit / n ≡ l - first + ram = ap (λ (x : ℕ). x / n) is ∙ mul-div_right (l - first + ram) some in
    let x : ℕ = limit / n in let y : ℕ = a / n in let e' : x ≡ l - first + ram = e in let s' : s ≡ first + y = sealed in (
      λ h. let lt' : x - ram < y = ltb-true (x - ram) y h in omega (arith, e', s', lt', low),
      λ h. let le' : y ≤ x - ram = ltb-false (x - ram) y h in omega (arith, e', s', le', low),
    )

-- ---- flushes that aren't done

-- what was loaded since a later moment was loaded since an earlier one
short_sooner : (before later now : Loads) (w : View) (number : ℕ) (d : Down) → before.stable.count ≤ later.stable.count → before.fault.count ≤ later.fault.count
    → IsShort later now w number d → IsShort before now w number d
short_sooner before later now w number d stable fault s = record {
  number_is = s.number_is;
  loaded = (let rose = s.loaded.0 in omega (arith, rose, stable), s.loaded.1);
  seen = s.seen;
  short = s.short;
  word = s.word;
  fault = (let rose = s.fault.0 in omega (arith, rose, fault), s.fault.1);
  seen_fault = s.seen_fault;
  down = s.down;
}

pub undone_sooner : (before later now : Loads) (w : View) (number : ℕ) (d : Down) → before.stable.count ≤ later.stable.count → before.fault.count ≤ later.fault.count
    → IsUndone later now w number d → IsUndone before now w number d
undone_sooner before later now w number d stable fault u = record {
  between = u.between;
  seen = u.seen;
  first = u.first;
  once = short_sooner before later u.between u.seen number u.first stable fault u.once;
  again = u.again;
}
