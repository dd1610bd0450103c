-- All live segments: those in the log as far as they are kept, and those in memory behind them.
use Rattle.std.proofs.Common.{ℕ, suc, zero, ◌≡◌, ◌≢◌, ◌+◌, ◌-◌, ◌<◌, ◌≤◌, ◌==◌, ◌&&◌, if◌then◌else◌, List, [], ◌∷◌, ◌++◌, length, map, drop, get_or, refl, sym, ap, ◌∙◌, subst, arith}
use Rattle.std.specs.List.{All}
use Rattle.std.specs.Int.{bit_at}
use Rattle.std.proofs.lemmas.List.{append_assoc, drop-append-le, length-drop, length-map, drop_all}
use Rattle.std.proofs.lemmas.List.Elements.{All-nil, All-cons, All-head, All-tail, All-map, All-push, All-weaker, All-append}
use Rattle.wb_geometry.specs.declared.spot.Spot.{Spot}
use Rattle.wb_header.specs.Text.{TextBlock}
use Rattle.wb_header.specs.Segments.{Segment}
use Rattle.wb_header.specs.Standing.{numbers_of}
use Rattle.wb_header.specs.declared.sealed.Meta.{Meta}
use Rattle.wb_header.proofs.Standings.{AreDistinct-same}
use Rattle.wb_log.specs.Kept.{meta_of, metas_of}
use Rattle.wb_memory.specs.Memory.{MemoryContent, IsMemory, IsSealed, IsLogged, live, listed, bare, logged_from, segment_at, spot_from, newest}
use Rattle.wb_memory.proofs.ListedSpots.{IsReadable, IdsFrom, IdsFrom-append, newest_same_at}

-- ---- what is kept of blocks

-- the numbers and the bits of blocks have their spots
pub spot_from-bare : (id index : ℕ) (blocks : List TextBlock) (block i : ℕ) → spot_from id index (map bare (metas_of blocks)) block i ≡ spot_from id index blocks block i
spot_from-bare id index [] block i = refl
spot_from-bare id index (here ∷ blocks) block i =
    ap (λ (p : Spot). if here.number == block && bit_at here.bits i == 1 then record { id = id; index = index } else p) (spot_from-bare id (index + 1) blocks block i)

numbers-bare : (blocks : List TextBlock) → numbers_of (map bare (metas_of blocks)) ≡ numbers_of blocks
numbers-bare [] = refl
numbers-bare (here ∷ blocks) = ap (λ (numbers : List ℕ). here.number ∷ numbers) (numbers-bare blocks)

-- what is kept of a sealed segment
pub logged_sealed : (places : ℕ) (s : Segment) → IsSealed places s → IsLogged places (metas_of s.blocks)
logged_sealed places s sealed = record {
  some = omega (arith, length-map s.blocks meta_of, sealed.is.some);
  few = omega (arith, length-map s.blocks meta_of, sealed.few);
  distinct = AreDistinct-same s.blocks (map bare (metas_of s.blocks)) (numbers-bare s.blocks) sealed.is.distinct;
  dirty = All-map (λ (block : TextBlock). block.bits ≢ 0) bare (metas_of s.blocks)
      (All-map (λ (meta : Meta). meta.bits ≢ 0) meta_of s.blocks sealed.is.dirty);
}

-- ---- the segments in the log

pub length-logged_from : (id : ℕ) (kept : List (List Meta)) → length (logged_from id kept) ≡ length kept
length-logged_from id [] = refl
length-logged_from id (metas ∷ kept) = ap suc (length-logged_from (id + 1) kept)

pub ids-logged_from : (id : ℕ) (kept : List (List Meta)) → IdsFrom id (logged_from id kept)
ids-logged_from id [] j below = absurd (omega (arith, below))
ids-logged_from id (metas ∷ kept) zero below = omega arith
ids-logged_from id (metas ∷ kept) (suc j) below = omega (arith, ids-logged_from (id + 1) kept j (omega (arith, below)))

-- where none is kept the first id doesn't matter
pub logged_from-first : (a b : ℕ) (kept : List (List Meta)) → (1 ≤ length kept → a ≡ b) → logged_from a kept ≡ logged_from b kept
logged_from-first a b [] same = refl
logged_from-first a b (metas ∷ kept) same = ap (λ (id : ℕ). logged_from id (metas ∷ kept)) (same (omega arith))

pub logged_from-push : (id : ℕ) (kept : List (List Meta)) (metas : List Meta)
    → logged_from id (kept ++ metas ∷ []) ≡ logged_from id kept ++ record { id = id + length kept; blocks = map bare metas; room = 0 } ∷ []
logged_from-push id [] metas =
    let same : id ≡ id + 0 = omega arith in
    ap (λ (n : ℕ). record { id = n; blocks = map bare metas; room = 0 } ∷ []) same
logged_from-push id (more ∷ kept) metas =
    let same : id + 1 + length kept ≡ id + suc (length kept) = omega arith in
    ap (λ (ss : List Segment). record { id = id; blocks = map bare more; room = 0 } ∷ ss)
    (logged_from-push (id + 1) kept metas ∙ ap (λ (n : ℕ). logged_from (id + 1) kept ++ record { id = n; blocks = map bare metas; room = 0 } ∷ []) same)

drop-logged_from : (n id : ℕ) (kept : List (List Meta)) → drop n (logged_from id kept) ≡ logged_from (id + n) (drop n kept)
drop-logged_from zero id kept =
    let same : id ≡ id + 0 = omega arith in
    ap (λ (m : ℕ). logged_from m kept) same
drop-logged_from (suc n) id [] = refl
drop-logged_from (suc n) id (metas ∷ kept) =
    let same : id + 1 + n ≡ id + suc n = omega arith in
    drop-logged_from n (id + 1) kept ∙ ap (λ (m : ℕ). logged_from m (drop n kept)) same

-- they are readable
pub readable-logged_from : (places id : ℕ) (kept : List (List Meta)) → (1 ≤ length kept → 1 ≤ id) → All (IsLogged places) kept → All IsReadable (logged_from id kept)
readable-logged_from places id [] named all = All-nil IsReadable
readable-logged_from places id (metas ∷ kept) named all =
    All-cons IsReadable _ _ (record { named = named (omega arith); distinct = (All-head (IsLogged places) metas kept all).distinct })
    (readable-logged_from places (id + 1) kept (λ some. omega arith) (All-tail (IsLogged places) metas kept all))

-- none has more blocks than its places
pub few-logged_from : (places id : ℕ) (kept : List (List Meta)) → All (IsLogged places) kept → All (λ (s : Segment). length s.blocks ≤ places) (logged_from id kept)
few-logged_from places id [] all = All-nil (λ (s : Segment). length s.blocks ≤ places)
few-logged_from places id (metas ∷ kept) all =
    All-cons (λ (s : Segment). length s.blocks ≤ places) _ _ (omega (arith, length-map metas bare, (All-head (IsLogged places) metas kept all).few))
    (few-logged_from places (id + 1) kept (All-tail (IsLogged places) metas kept all))

-- segment j of them
pub at-logged_from : (id : ℕ) (kept : List (List Meta)) (j : ℕ) → j < length kept
    → segment_at (logged_from id kept) j ≡ record { id = id + j; blocks = map bare (get_or kept j []); room = 0 }
at-logged_from id [] j below = absurd (omega (arith, below))
at-logged_from id (metas ∷ kept) zero below =
    let same : id ≡ id + 0 = omega arith in
    ap (λ (n : ℕ). record { id = n; blocks = map bare metas; room = 0 }) same
at-logged_from id (metas ∷ kept) (suc j) below =
    let same : id + 1 + j ≡ id + suc j = omega arith in
    at-logged_from (id + 1) kept j (omega (arith, below))
    ∙ ap (λ (n : ℕ). record { id = n; blocks = map bare (get_or kept j []); room = 0 }) same

-- ---- what the steps leave

-- of a segment in memory it is kept what the spots need
pub newest_kept : (first new_first : ℕ) (kept : List (List Meta)) (front : Segment) (rest : List Segment) (block i : ℕ) → (1 ≤ length kept → first ≡ new_first) → new_first + length kept ≡ front.id
    → newest (logged_from first kept ++ front ∷ rest) block i ≡ newest (logged_from new_first (kept ++ metas_of front.blocks ∷ []) ++ rest) block i
newest_kept first new_first kept front rest block i same at =
    let last : Segment = record { id = new_first + length kept; blocks = map bare (metas_of front.blocks); room = 0 } in
    newest_same_at (logged_from first kept) front last rest block i
    (sym (ap (λ (id : ℕ). spot_from id 0 (map bare (metas_of front.blocks)) block i) at ∙ spot_from-bare front.id 0 front.blocks block i))
    ∙ ap (λ (ss : List Segment). newest (ss ++ last ∷ rest) block i) (logged_from-first first new_first kept same)
    ∙ ap (λ (ss : List Segment). newest ss block i) (sym (append_assoc (logged_from new_first kept) (last ∷ []) rest))
    ∙ ap (λ (ss : List Segment). newest (ss ++ rest) block i) (sym (logged_from-push new_first kept (metas_of front.blocks)))

-- the oldest of them forgotten
pub logged_dropped : (low id first new_first : ℕ) (kept new_kept : List (List Meta)) (rest : List Segment) → (1 ≤ length kept → low ≡ first) → id + 1 - low ≤ length kept
    → new_kept ≡ drop (id + 1 - first) kept → new_first + length new_kept ≡ first + length kept
    → drop (id + 1 - low) (logged_from first kept ++ rest) ≡ logged_from new_first new_kept ++ rest
logged_dropped low id first new_first [] new_kept rest from few dropped last =
    let none : id + 1 - low ≡ 0 = omega (arith, few) in
    ap (λ (n : ℕ). drop n rest) none
    ∙ ap (λ (ms : List (List Meta)). logged_from new_first ms ++ rest) (sym (dropped ∙ drop_all (id + 1 - first) [] (omega arith)))
logged_dropped low id first new_first (metas ∷ more) new_kept rest from few dropped last =
    let kept : List (List Meta) = metas ∷ more in
    let n : ℕ = id + 1 - first in
    let count : id + 1 - low ≡ n = ap (λ (m : ℕ). id + 1 - m) (from (omega arith)) in
    let inside : n ≤ length (logged_from first kept) = omega (arith, few, count, length-logged_from first kept) in
    ap (λ (m : ℕ). drop m (logged_from first kept ++ rest)) count
    ∙ drop-append-le n (logged_from first kept) rest inside
    ∙ ap (λ (ss : List Segment). ss ++ rest) (drop-logged_from n first kept)
    ∙ ap (λ (ss : List Segment). ss ++ rest) (logged_from-first (first + n) new_first (drop n kept)
    (λ some. omega (arith, some, last, ap length dropped, length-drop n kept, inside, length-logged_from first kept)))
    ∙ ap (λ (ms : List (List Meta)). logged_from new_first ms ++ rest) (sym dropped)

-- ---- those of a memory

-- the id of the first
abbrev pub low : MemoryContent → ℕ
low m = m.current.id - length m.sealed - length m.logged.kept

pub low_first : (m : MemoryContent) → IsMemory m → 1 ≤ length m.logged.kept → low m ≡ m.logged.first
low_first m is some = omega (arith, is.next some)

pub ids_logged : (m : MemoryContent) → IsMemory m → IdsFrom (low m) (logged_from m.logged.first m.logged.kept)
ids_logged m is =
    subst (IdsFrom (low m)) (logged_from-first (low m) m.logged.first m.logged.kept (low_first m is)) (ids-logged_from (low m) m.logged.kept)

pub ids_listed : (m : MemoryContent) → IsMemory m → IdsFrom (low m) (listed m)
ids_listed m is =
    IdsFrom-append (low m) (m.current.id - length m.sealed) (logged_from m.logged.first m.logged.kept) (live m) (ids_logged m is) is.ids
    (omega (arith, is.early, length-logged_from m.logged.first m.logged.kept))

readable_sealed : (places : ℕ) (s : Segment) → IsSealed places s → IsReadable s
readable_sealed places s sealed = record { named = sealed.is.named; distinct = sealed.is.distinct }

pub readable_live : (m : MemoryContent) → IsMemory m → All IsReadable (live m)
readable_live m is =
    All-push IsReadable m.sealed m.current (All-weaker (IsSealed m.places) IsReadable (readable_sealed m.places) m.sealed is.sealed)
    (record { named = is.current.named; distinct = is.current.distinct })

pub readable_logged : (m : MemoryContent) → IsMemory m → All IsReadable (logged_from m.logged.first m.logged.kept)
readable_logged m is = readable-logged_from m.places m.logged.first m.logged.kept (λ some. omega (arith, is.next some, is.early)) is.logged

pub readable_listed : (m : MemoryContent) → IsMemory m → All IsReadable (listed m)
readable_listed m is = All-append IsReadable (logged_from m.logged.first m.logged.kept) (live m) (readable_logged m is) (readable_live m is)
