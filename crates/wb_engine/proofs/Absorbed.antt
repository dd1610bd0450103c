-- An entry was absorbed: what holds of the engine, and what it stands for.
use Rattle.std.proofs.Common.{ℕ, suc, ◌≡◌, ◌⊎◌, ◌+◌, ◌-◌, ◌*◌, ◌/◌, ◌%◌, ◌<◌, ◌≤◌, ◌^◌, List, [], ◌∷◌, ◌++◌, length, inl, inr, refl, ap, sym, ◌∙◌, subst, arith}
use Rattle.std.specs.List.{All}
use Rattle.std.proofs.Math.Nat.{mul-suc, mul-le-mul_left, mul-le-mul_right, div-add-mod, mod-lt, mod_self, div_self, mod-eq_of_lt, div-eq_of_lt, add-mul-mod_self_left, add-mul-div_left, eq-or-lt_of_le}
use Rattle.std.proofs.lemmas.Bool.{cases_eq}
use Rattle.std.proofs.lemmas.List.{length_push, get_or_append_left, get_or_push}
use Rattle.std.proofs.lemmas.List.Elements.{All-nil, All-push}
use Rattle.wb_geometry.specs.Image.{Image}
use Rattle.wb_geometry.specs.Device.{State}
use Rattle.wb_geometry.specs.Entering.{entered}
use Rattle.wb_geometry.specs.History.{HistoryEntry, IsBlockInside}
use Rattle.wb_geometry.specs.Layout.{places}
use Rattle.wb_geometry.specs.Line.{segment}
use Rattle.wb_geometry.specs.declared.entry.Entry.{Entry}
use Rattle.wb_geometry.specs.declared.entry.Entry.TheVariants as entry
use Rattle.wb_geometry.specs.declared.geometry.Geometry.{Geometry}
use Rattle.wb_geometry.proofs.Geometries.{places_few}
use Rattle.wb_geometry.proofs.Lines.{segment-none}
use Rattle.wb_header.specs.Text.{TextBlock}
use Rattle.wb_header.specs.Segments.{Segment}
use Rattle.wb_header.specs.Standing.{StandsFor}
use Rattle.wb_header.proofs.Standings.{stands_none}
use Rattle.wb_log.specs.Kept.{Kept}
use Rattle.wb_memory.specs.Memory.{MemoryContent, live}
use Rattle.wb_engine.specs.Content.{EngineContent, IsEngine, IsInsideBacking, AreMetasInside, limit_of}
use Rattle.wb_engine.specs.Standing.{Standing, IsSynced, MayCome, Fits, Keeps, blocks_of, IsNextOpened, IsSealedIfFull, numbers_at}
use Rattle.wb_crash.specs.declared.numbers.Numbers.{Numbers}
use Rattle.wb_engine.proofs.Held.{AreInTurn, turn_front, turn_last, turn_push}
use Rattle.wb_engine.proofs.Absorptions.{standing_pushed, standing_sealed}

-- ---- one place more

-- it fills its segment, or not
pub record Fills (n a : ℕ) : Type 0 where
  pub rest : (a + 1) % n ≡ 0
  pub last : a % n + 1 ≡ n
  pub count : (a + 1) / n ≡ a / n + 1

pub record FillsNot (n a : ℕ) : Type 0 where
  pub rest : (a + 1) % n ≡ a % n + 1
  pub count : (a + 1) / n ≡ a / n

one_more : (n a : ℕ) → a + 1 ≡ a % n + 1 + n * (a / n)
one_more n a = omega (arith, div-add-mod a n)

pub fills : (n a : ℕ) → 1 ≤ n → Fills n a ⊎ FillsNot n a
fills n a some =
    let pos : 0 < n = omega arith in
    let low : a % n < n = mod-lt a pos in
    let low_1 : a % n + 1 ≤ n = omega arith in
    let rest : (a + 1) % n ≡ (a % n + 1) % n = ap (λ (k : ℕ). k % n) (one_more n a) ∙ add-mul-mod_self_left (a % n + 1) n (a / n) in
    let count : (a + 1) / n ≡ (a % n + 1) / n + a / n = ap (λ (k : ℕ). k / n) (one_more n a) ∙ add-mul-div_left (a % n + 1) (a / n) pos in
    elim (eq-or-lt_of_le low_1) [
      | inl last ↦
          let one : (a % n + 1) / n ≡ 1 = ap (λ (k : ℕ). k / n) last ∙ div_self pos in
          inl (record { rest = rest ∙ ap (λ (k : ℕ). k % n) last ∙ mod_self n; last = last; count = omega (arith, count, one) })
      | inr less ↦ inr (record { rest = rest ∙ mod-eq_of_lt less; count = omega (arith, count, div-eq_of_lt less) })
    ]

-- ---- an entry that may come

at_most_one : (come : Entry) → blocks_of come ≤ 1
at_most_one (entry.Write client block payload) = omega arith
at_most_one (entry.Void client) = omega arith

module _ {L B : Type 0} where
  inside_entered : (e : EngineContent L B) (come : Entry) → Fits e come → IsBlockInside e.geometry.backing_sectors (entered come)
  inside_entered e (entry.Write client block payload) fits = fits.1
  inside_entered e (entry.Void client) fits = tt

  -- a segment's first place is taken by a write
  begins : (e : EngineContent L B) (come : Entry) → Fits e come → e.absorbed % places e.geometry ≡ 0 → 1 ≤ blocks_of come
  begins e (entry.Write client block payload) fits none = omega arith
  begins e (entry.Void client) fits none = absurd (fits none)

module _ {L B : Type 0} {of_log : L → State} {of_backing : B → State} where
  -- the open segment has a block behind it
  some_blocks : (e : EngineContent L B) (come : Entry) (m : MemoryContent) → IsEngine of_log of_backing e → MayCome e come → Keeps come e.memory m → 1 ≤ length m.current.blocks
  some_blocks e come m is may keeps = elim (cases_eq (e.absorbed % places e.geometry) 0) [
    | inl none ↦ keeps.some (omega (arith, begins e come may.fits none))
    | inr other ↦ keeps.some (omega (arith, is.filled.some (omega arith)))
  ]

  -- and not too many
  few_blocks : (e : EngineContent L B) (come : Entry) (m : MemoryContent) → IsEngine of_log of_backing e → Keeps come e.memory m
      → length m.current.blocks ≤ e.absorbed % places e.geometry + 1
  few_blocks e come m is keeps = omega (arith, keeps.few, is.filled.few, at_most_one come)

-- the places of a history that fills its segments end where the next segment begins
rest_is : (n first a id : ℕ) (h : List HistoryEntry) → a % n ≡ 0 → length h ≡ a → first + a / n + 1 ≡ id → length h ≤ n * (id - (first + 1))
rest_is n first a id h none size is =
    let index : id - (first + 1) ≡ a / n = omega (arith, is) in
    subst (λ (k : ℕ). length h ≤ n * k) (sym index) (omega (arith, size, none, div-add-mod a n))

-- ---- the segments in memory

all_front : (P : Segment → Type 0) (xs : List Segment) (x : Segment) → All P (xs ++ x ∷ []) → All P xs
all_front P xs x all = λ k d lt. subst P (get_or_append_left xs (x ∷ []) d k lt) (all k d (omega (arith, length_push xs x, lt)))

all_last : (P : Segment → Type 0) (xs : List Segment) (x : Segment) → All P (xs ++ x ∷ []) → P x
all_last P xs x all = subst P (get_or_push xs x x (length xs) refl) (all (length xs) x (omega (arith, length_push xs x)))

module _ {L B : Type 0} {of_log : L → State} {of_backing : B → State} where
  -- the open segment with the entry is inside
  inside_kept : (e : EngineContent L B) (come : Entry) (m : MemoryContent) → IsEngine of_log of_backing e → MayCome e come → Keeps come e.memory m
      → IsInsideBacking e.geometry m.current
  inside_kept e come m is may keeps =
      keeps.inside e.geometry.backing_sectors (all_last (IsInsideBacking e.geometry) e.memory.sealed e.memory.current is.memory.inside) (inside_entered e come may.fits)

  inside_sealed : (e : EngineContent L B) → IsEngine of_log of_backing e → All (IsInsideBacking e.geometry) e.memory.sealed
  inside_sealed e is = all_front (IsInsideBacking e.geometry) e.memory.sealed e.memory.current is.memory.inside

  id_kept : (e : EngineContent L B) (come : Entry) (m : MemoryContent) → IsEngine of_log of_backing e → Keeps come e.memory m
      → m.current.id ≡ e.numbers.logged + 1 + length e.memory.sealed
  id_kept e come m is keeps = keeps.id ∙ turn_last e.numbers.logged e.memory.sealed e.memory.current is.memory.ids

module _ {L B : Type 0} where
  -- places
  under_ids : (e : EngineContent L B) (come : Entry) → MayCome e come → e.absorbed + 1 ≤ places e.geometry * (2 ^ 48 - e.numbers.first)
  under_ids e come may =
      let n : ℕ = places e.geometry in
      let some : 1 ≤ n = (places_few e.geometry).0 in
      let pos : 0 < n = omega (arith, some) in
      let low : e.absorbed % n < n = mod-lt e.absorbed pos in
      let room : suc (e.absorbed / n) ≤ 2 ^ 48 - e.numbers.first = let m = may.ids in omega arith in
      omega (arith, low, div-add-mod e.absorbed n, mul-suc n (e.absorbed / n), mul-le-mul_left n room)

module _ {L B : Type 0} {of_log : L → State} {of_backing : B → State} where
  -- ---- the segment isn't full

  pub engine_kept : (e : EngineContent L B) (come : Entry) (m : MemoryContent) → IsEngine of_log of_backing e → MayCome e come → Keeps come e.memory m
      → FillsNot (places e.geometry) e.absorbed → IsEngine of_log of_backing (record e { absorbed = e.absorbed + 1; memory = m })
  engine_kept e come m is may keeps fits =
      let now : live m ≡ e.memory.sealed ++ m.current ∷ [] = ap (λ (segments : List Segment). segments ++ m.current ∷ []) keeps.sealed in
      record {
        ordered = is.ordered;
        up = is.up;
        log_room = is.log_room;
        backing_room = is.backing_room;
        filled = record {
          sealed = is.filled.sealed ∙ ap (λ (k : ℕ). e.numbers.first + k) (sym fits.count);
          limited = let room = may.room in omega arith;
          ids = under_ids e come may;
          few = let few = few_blocks e come m is keeps in subst (λ (k : ℕ). length m.current.blocks ≤ k) (sym fits.rest) few;
          some = λ _. some_blocks e come m is may keeps;
        };
        memory = record {
          places = keeps.places ∙ is.memory.places;
          segments = keeps.segments ∙ is.memory.segments;
          slots = ap (λ (k : Kept). k.slots) keeps.logged ∙ is.memory.slots;
          count = ap length keeps.sealed ∙ is.memory.count;
          ids = subst (AreInTurn e.numbers.logged) (sym now)
              (turn_push e.numbers.logged e.memory.sealed m.current (turn_front e.numbers.logged e.memory.sealed e.memory.current is.memory.ids) (id_kept e come m is keeps));
          inside = subst (All (IsInsideBacking e.geometry)) (sym now)
              (All-push (IsInsideBacking e.geometry) e.memory.sealed m.current (inside_sealed e is) (inside_kept e come m is may keeps));
          logged_count = ap (λ (k : Kept). length k.kept) keeps.logged ∙ is.memory.logged_count;
          logged_first = subst (λ (k : Kept). 1 ≤ length k.kept → k.first ≡ e.numbers.recorded + 1) (sym keeps.logged) is.memory.logged_first;
          logged_inside = subst (λ (k : Kept). All (AreMetasInside e.geometry.backing_sectors) k.kept) (sym keeps.logged) is.memory.logged_inside;
        };
      }

  -- ---- it is full

  pub engine_sealed : (e : EngineContent L B) (come : Entry) (m next : MemoryContent) (numbers : Numbers) → IsEngine of_log of_backing e → MayCome e come → Keeps come e.memory m
      → Fills (places e.geometry) e.absorbed → IsNextOpened e.numbers numbers m next → IsEngine of_log of_backing (record e { absorbed = e.absorbed + 1; numbers = numbers; memory = next })
  engine_sealed e come m next numbers is may keeps full opened =
      let g : Geometry = e.geometry in
      let s : Segment = opened.segment in
      let same_logged : next.logged ≡ e.memory.logged = opened.logged ∙ keeps.logged in
      let grown : next.sealed ≡ e.memory.sealed ++ s ∷ [] = opened.sealed ∙ ap (λ (segments : List Segment). segments ++ s ∷ []) keeps.sealed in
      let now : live next ≡ (e.memory.sealed ++ s ∷ []) ++ next.current ∷ [] = ap (λ (segments : List Segment). segments ++ next.current ∷ []) grown in
      let id : s.id ≡ e.numbers.logged + 1 + length e.memory.sealed = opened.id ∙ id_kept e come m is keeps in
      let count : length (e.memory.sealed ++ s ∷ []) ≡ length e.memory.sealed + 1 = length_push e.memory.sealed s in
      let next_id : next.current.id ≡ e.numbers.logged + 1 + length (e.memory.sealed ++ s ∷ []) =
      omega (arith, opened.next_id, opened.id, id, count) in
      let turn : AreInTurn e.numbers.logged ((e.memory.sealed ++ s ∷ []) ++ next.current ∷ []) =
      turn_push e.numbers.logged (e.memory.sealed ++ s ∷ []) next.current
      (turn_push e.numbers.logged e.memory.sealed s (turn_front e.numbers.logged e.memory.sealed e.memory.current is.memory.ids) id) next_id in
      let inside_s : IsInsideBacking g s = subst (λ (b : List TextBlock). All (λ block. 8 * block.number + 8 ≤ g.backing_sectors) b) (sym opened.blocks) (inside_kept e come m is may keeps) in
      let inside_next : IsInsideBacking g next.current =
      subst (λ (b : List TextBlock). All (λ block. 8 * block.number + 8 ≤ g.backing_sectors) b) (sym opened.next_blocks) (All-nil (λ block. 8 * block.number + 8 ≤ g.backing_sectors)) in
      let inside : All (IsInsideBacking g) ((e.memory.sealed ++ s ∷ []) ++ next.current ∷ []) =
      All-push (IsInsideBacking g) (e.memory.sealed ++ s ∷ []) next.current (All-push (IsInsideBacking g) e.memory.sealed s (inside_sealed e is) inside_s) inside_next in
      let moved : Numbers = record e.numbers { sealed = e.numbers.sealed + 1 } in
      let sealed_is : e.numbers.sealed ≡ e.numbers.first + e.absorbed / places g = is.filled.sealed in
      let ids : e.numbers.first + 1 + e.absorbed / places g ≤ 2 ^ 48 = may.ids in
      let room : e.absorbed < limit_of g e.numbers = may.room in
      subst (λ (n : Numbers). IsEngine of_log of_backing (record e { absorbed = e.absorbed + 1; numbers = n; memory = next })) (sym opened.numbers_are) (record {
        ordered = record {
          start = is.ordered.start;
          recorded = is.ordered.recorded;
          back = is.ordered.back;
          stable = is.ordered.stable;
          logged = is.ordered.logged;
          tried = omega (arith, is.ordered.tried);
          one = is.ordered.one;
          room = is.ordered.room;
          ids = omega (arith, sealed_is, ids);
        };
        up = is.up;
        log_room = is.log_room;
        backing_room = is.backing_room;
        filled = record {
          sealed = omega (arith, sealed_is, full.count);
          limited = omega (arith, room);
          ids = under_ids e come may;
          few = subst (λ (b : List TextBlock). length b ≤ (e.absorbed + 1) % places g) (sym opened.next_blocks) (omega arith);
          some = λ some. absurd (omega (arith, some, full.rest));
        };
        memory = record {
          places = opened.places ∙ keeps.places ∙ is.memory.places;
          segments = opened.segments ∙ keeps.segments ∙ is.memory.segments;
          slots = ap (λ (k : Kept). k.slots) same_logged ∙ is.memory.slots;
          count = ap length grown ∙ count ∙ (omega (arith, is.memory.count, is.ordered.logged, is.ordered.tried));
          ids = subst (AreInTurn e.numbers.logged) (sym now) turn;
          inside = subst (All (IsInsideBacking g)) (sym now) inside;
          logged_count = ap (λ (k : Kept). length k.kept) same_logged ∙ is.memory.logged_count;
          logged_first = subst (λ (k : Kept). 1 ≤ length k.kept → k.first ≡ e.numbers.recorded + 1) (sym same_logged) is.memory.logged_first;
          logged_inside = subst (λ (k : Kept). All (AreMetasInside g.backing_sectors) k.kept) (sym same_logged) is.memory.logged_inside;
        };
      })

  -- ---- whichever

  pub engine_absorbed : (e : EngineContent L B) (come : Entry) (m next : MemoryContent) (numbers : Numbers) → IsEngine of_log of_backing e → MayCome e come → Keeps come e.memory m
      → IsSealedIfFull (e.absorbed + 1) (places e.geometry) e.numbers numbers m next → IsEngine of_log of_backing (record e { absorbed = e.absorbed + 1; numbers = numbers; memory = next })
  engine_absorbed e come m next numbers is may keeps (inl sealed) = elim (fills (places e.geometry) e.absorbed (places_few e.geometry).0) [
    | inl full ↦ engine_sealed e come m next numbers is may keeps full sealed.1
    | inr not_full ↦ absurd (omega (arith, sealed.0, not_full.rest))
  ]
  engine_absorbed e come m next numbers is may keeps (inr same) = elim (fills (places e.geometry) e.absorbed (places_few e.geometry).0) [
    | inl full ↦ absurd (same.0 full.rest)
    | inr not_full ↦
        subst (λ (n : Numbers). IsEngine of_log of_backing (record e { absorbed = e.absorbed + 1; numbers = n; memory = next })) (sym same.1)
        (subst (λ (k : MemoryContent). IsEngine of_log of_backing (record e { absorbed = e.absorbed + 1; memory = k })) (sym same.2) (engine_kept e come m is may keeps not_full))
  ]

  pub numbers_absorbed : (e : EngineContent L B) (m next : MemoryContent) (numbers : Numbers) → IsEngine of_log of_backing e
      → IsSealedIfFull (e.absorbed + 1) (places e.geometry) e.numbers numbers m next → numbers ≡ numbers_at e.geometry e.numbers (e.absorbed + 1)
  numbers_absorbed e m next numbers is (inl sealed) = elim (fills (places e.geometry) e.absorbed (places_few e.geometry).0) [
    | inl full ↦ sealed.1.numbers_are ∙ ap (λ (k : ℕ). record e.numbers { sealed = k }) (let s = is.filled.sealed in omega (arith, s, full.count))
    | inr not_full ↦ absurd (omega (arith, sealed.0, not_full.rest))
  ]
  numbers_absorbed e m next numbers is (inr same) = elim (fills (places e.geometry) e.absorbed (places_few e.geometry).0) [
    | inl full ↦ absurd (same.0 full.rest)
    | inr not_full ↦ same.1 ∙ ap (λ (k : ℕ). record e.numbers { sealed = k }) (let s = is.filled.sealed in omega (arith, s, not_full.count))
  ]

  pub standing_absorbed : (e : EngineContent L B) (come : Entry) (m next : MemoryContent) (numbers : Numbers) (base : Image) (h : List HistoryEntry)
      → IsEngine of_log of_backing e → MayCome e come → Keeps come e.memory m → IsSealedIfFull (e.absorbed + 1) (places e.geometry) e.numbers numbers m next
      → Standing of_log of_backing e base h → Standing of_log of_backing (record e { absorbed = e.absorbed + 1; numbers = numbers; memory = next }) base (h ++ entered come ∷ [])
  standing_absorbed e come m next numbers base h is may keeps (inr same) stands =
      let pushed = standing_pushed e m base h (entered come) is keeps.sealed keeps.id keeps.logged keeps.stands stands in
      subst (λ (n : Numbers). Standing of_log of_backing (record e { absorbed = e.absorbed + 1; numbers = n; memory = next }) base (h ++ entered come ∷ [])) (sym same.1)
      (subst (λ (k : MemoryContent). Standing of_log of_backing (record e { absorbed = e.absorbed + 1; memory = k }) base (h ++ entered come ∷ [])) (sym same.2) pushed)
  standing_absorbed e come m next numbers base h is may keeps (inl sealed) stands = elim (fills (places e.geometry) e.absorbed (places_few e.geometry).0) [
    | inr not_full ↦ absurd (omega (arith, sealed.0, not_full.rest))
    | inl full ↦
        let n : ℕ = places e.geometry in
        let now : List HistoryEntry = h ++ entered come ∷ [] in
        let opened = sealed.1 in
        let pushed = standing_pushed e m base h (entered come) is keeps.sealed keeps.id keeps.logged keeps.stands stands in
        let behind : e.numbers.first + (e.absorbed + 1) / n + 1 ≡ next.current.id =
        omega (arith, opened.next_id, id_kept e come m is keeps, is.memory.count, is.filled.sealed, full.count, is.ordered.logged, is.ordered.tried) in
        let none : segment n e.numbers.first now next.current.id ≡ [] =
        segment-none n e.numbers.first now next.current.id (rest_is n e.numbers.first (e.absorbed + 1) next.current.id now full.rest pushed.places behind) in
        let empty : StandsFor next.current.blocks (segment n e.numbers.first now next.current.id) =
        subst (λ (b : List TextBlock). StandsFor b (segment n e.numbers.first now next.current.id)) (sym opened.next_blocks)
        (subst (StandsFor []) (sym none) stands_none) in
        let ids : e.numbers.sealed + 1 ≤ 2 ^ 48 = omega (arith, is.filled.sealed, may.ids) in
        let done = standing_sealed (record e { absorbed = e.absorbed + 1; memory = m }) next opened.segment base now opened.sealed opened.id opened.blocks opened.logged ids empty pushed in
        subst (λ (k : Numbers). Standing of_log of_backing (record e { absorbed = e.absorbed + 1; numbers = k; memory = next }) base now) (sym opened.numbers_are) done
  ]

  -- a crash leaves what it left
  pub synced_absorbed : (e : EngineContent L B) (m next : MemoryContent) (numbers : Numbers)
      → IsSealedIfFull (e.absorbed + 1) (places e.geometry) e.numbers numbers m next
      → IsSynced of_log of_backing e → IsSynced of_log of_backing (record e { absorbed = e.absorbed + 1; numbers = numbers; memory = next })
  synced_absorbed e m next numbers (inl sealed) is =
      subst (λ (n : Numbers). IsSynced of_log of_backing (record e { absorbed = e.absorbed + 1; numbers = n; memory = next })) (sym sealed.1.numbers_are)
      (record { written_back = is.written_back; written = is.written })
  synced_absorbed e m next numbers (inr same) is =
      subst (λ (n : Numbers). IsSynced of_log of_backing (record e { absorbed = e.absorbed + 1; numbers = n; memory = next })) (sym same.1)
      (record { written_back = is.written_back; written = is.written })

-- ---- numbers that fit

module _ {L B : Type 0} where
  pub absorbed_fits : (e : EngineContent L B) (come : Entry) → MayCome e come → e.absorbed + 1 < 2 ^ 64
  absorbed_fits e come may =
      let few : places e.geometry ≤ 127 = (places_few e.geometry).1 in
      let k : ℕ = 2 ^ 48 - e.numbers.first in
      let most : places e.geometry * k ≤ 127 * k = mul-le-mul_right k few in
      let under : e.absorbed + 1 ≤ places e.geometry * k = under_ids e come may in
      let low : k ≤ 2 ^ 48 = omega arith in
      omega (arith, most, under, low)

module _ {L B : Type 0} {of_log : L → State} {of_backing : B → State} where
  pub current_fits : (e : EngineContent L B) (come : Entry) (m : MemoryContent) → IsEngine of_log of_backing e → Keeps come e.memory m → m.current.id < 2 ^ 63
  current_fits e come m is keeps = omega (arith, id_kept e come m is keeps, is.memory.count, is.ordered.ids, is.ordered.logged, is.ordered.tried)
