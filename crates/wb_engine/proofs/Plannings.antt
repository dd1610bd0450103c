-- The blocks of segments come into a plan, one after another, as they are read from the log.
use Rattle.std.proofs.Common.{ℕ, zero, suc, ◌≡◌, ◌⊎◌, ◌+◌, ◌-◌, ◌*◌, ◌/◌, ◌<◌, ◌≤◌, List, [], ◌++◌, ◌∷◌, length, take, get_or, Option, Some, refl, sym, ◌∙◌, ap, subst, arith}
use Rattle.std.specs.List.{enumerate_from}
use Rattle.std.specs.List.Sorted.{IsPermutation}
use Rattle.std.proofs.Math.Nat.{suc-mul}
use Rattle.std.proofs.lemmas.Nat.{mul-le}
use Rattle.std.proofs.lemmas.List.{length-map, get_or-map, append-nil}
use Rattle.std.proofs.lemmas.List.FromFn.{length-enumerate_from, get_or-enumerate_from}
use Rattle.std.proofs.lemmas.List.Elements.{All-nil}
use Rattle.wb_geometry.specs.Image.{Image, bytes_at}
use Rattle.wb_geometry.specs.Device.{State, HoldsContent}
use Rattle.wb_geometry.specs.History.{HistoryEntry, Write, later, last_write, written}
use Rattle.wb_geometry.specs.Layout.{places, slot_start}
use Rattle.wb_geometry.specs.Line.{span}
use Rattle.wb_geometry.specs.declared.geometry.Geometry.{Geometry}
use Rattle.wb_geometry.proofs.Histories.{last_write-append}
use Rattle.wb_geometry.proofs.Lines.{span-split, span-one}
use Rattle.wb_header.specs.Text.{TextBlock, no_block}
use Rattle.wb_header.specs.Standing.{entry_of, entries_of, numbers_of, block_at}
use Rattle.wb_header.specs.declared.sealed.Meta.{Meta}
use Rattle.wb_log.specs.Kept.{Kept, IsThere, metas_at, no_meta}
use Rattle.wb_log.specs.Reading.{block_start}
use Rattle.wb_back.specs.Plans.{PlanContent, IsArranged, AreInside}
use Rattle.wb_back.proofs.Added.{WritesLast, WritesLast-none, WritesLast-more, WritesLast-all, length-added, AreInside-added, AreInside-arranged}
use Rattle.wb_memory.specs.Memory.{MemoryContent, IsMemory}
use Rattle.wb_engine.specs.Content.{AreMetasInside}
use Rattle.wb_engine.specs.Stepping.{blocks_in_log, entries_in_log, blocks_kept, IsPlanOf, AddsSegment}

-- ---- the blocks of a segment in the log

abbrev pub block_in_log : Geometry → Image → (id : ℕ) → List Meta → ℕ → TextBlock
block_in_log g x id metas i = record { number = (get_or metas i no_meta).block; bits = (get_or metas i no_meta).bits; payload = bytes_at x (slot_start g id + 8 * (1 + i)) 8 }

pub length-blocks_in_log : (g : Geometry) (x : Image) (id : ℕ) (metas : List Meta) → length (blocks_in_log g x id metas) ≡ length metas
length-blocks_in_log g x id metas = length-map (enumerate_from 0 metas) _ ∙ length-enumerate_from 0 metas

pub block_at-in_log : (g : Geometry) (x : Image) (id : ℕ) (metas : List Meta) (i : ℕ) → i < length metas → block_at (blocks_in_log g x id metas) i ≡ block_in_log g x id metas i
block_at-in_log g x id metas i below =
    let of_pair : ℕ × Meta → TextBlock = λ p. record { number = p.1.block; bits = p.1.bits; payload = bytes_at x (slot_start g id + 8 * (1 + p.0)) 8 } in
    get_or-map of_pair (enumerate_from 0 metas) i (0, no_meta) no_block (omega (arith, below, length-enumerate_from 0 metas))
    ∙ ap of_pair (get_or-enumerate_from 0 metas i (0, no_meta) below)
    ∙ ap (λ (n : ℕ). of_pair (n, get_or metas i no_meta)) (let place : 0 + i ≡ i = omega arith in place)

-- no segment in the log has more blocks than places
pub few_there : (m : MemoryContent) (id : ℕ) → IsMemory m → IsThere m.logged id → length (metas_at m.logged id) ≤ m.places
few_there m id memory there = (memory.logged (id - m.logged.first) [] (omega (arith, there.0, there.1))).few

-- ---- one segment

-- the first i blocks of the segment were put over what the plan had
pub record IsAdding (g : Geometry) (kept : Kept) (id : ℕ) (log : State) (i : ℕ) (old plan : PlanContent) : Type 0 where
  pub writes : (x : Image) → log.content ≡ Some x → WritesLast plan.blocks (entries_of old.blocks ++ entries_of (take i (blocks_in_log g x id (metas_at kept id))))
  pub few : length plan.blocks ≤ length old.blocks + i
  pub room_is : plan.room ≡ old.room
  pub inside : (sectors : ℕ) → AreInside sectors old.blocks → AreMetasInside sectors (metas_at kept id) → AreInside sectors plan.blocks

pub adding_none : (g : Geometry) (kept : Kept) (id : ℕ) (log : State) (plan : PlanContent) → IsAdding g kept id log 0 plan plan
adding_none g kept id log plan = record {
  writes = λ x told. record { each = λ k. ap (last_write k) (sym (append-nil (entries_of plan.blocks))) };
  few = omega arith;
  room_is = refl;
  inside = λ sectors fits metas. fits;
}

-- what was read are the bytes of the block
read_bytes : (g : Geometry) (id i : ℕ) (log now : State) (payload : List ℕ) (x : Image) → log.content ≡ Some x → now.content ≡ log.content → length payload ≡ 4096
    → HoldsContent (block_start g (record { id = id; index = i })) payload now → payload ≡ bytes_at x (slot_start g id + 8 * (1 + i)) 8
read_bytes g id i log now payload x told same size holds =
    let eight : length payload / 512 ≡ 8 = omega (arith, size) in
    holds.told x (same ∙ told) ∙ ap (bytes_at x (slot_start g id + 8 * (1 + i))) eight

pub adding_more : (g : Geometry) (kept : Kept) (id : ℕ) (log now : State) (i : ℕ) (meta : Meta) (payload : List ℕ) (first old new : PlanContent) → i < length (metas_at kept id)
    → IsAdding g kept id log i first old → now.content ≡ log.content → meta ≡ get_or (metas_at kept id) i no_meta → length payload ≡ 4096
    → HoldsContent (block_start g (record { id = id; index = i })) payload now
    → ((k : ℕ) → last_write k (entries_of new.blocks) ≡ later (last_write k (entries_of old.blocks)) (written k (Write 0 meta.block meta.bits payload)))
    → (numbers_of new.blocks ≡ numbers_of old.blocks) ⊎ (numbers_of new.blocks ≡ numbers_of old.blocks ++ meta.block ∷ [])
    → new.room ≡ old.room → IsAdding g kept id log (i + 1) first new
adding_more g kept id log now i meta payload first old new below so_far unchanged is_meta size holds put numbers same = record {
  writes = λ x told.
      let metas : List Meta = metas_at kept id in
      let segment : List TextBlock = blocks_in_log g x id metas in
      let block : block_at segment i ≡ record { number = meta.block; bits = meta.bits; payload = payload } =
      block_at-in_log g x id metas i below
      ∙ ap (λ (m : Meta). record { number = m.block; bits = m.bits; payload = bytes_at x (slot_start g id + 8 * (1 + i)) 8 }) (sym is_meta)
      ∙ ap (λ (p : List ℕ). record { number = meta.block; bits = meta.bits; payload = p }) (sym (read_bytes g id i log now payload x told unchanged size holds)) in
      WritesLast-more (entries_of first.blocks) segment old.blocks new.blocks i (omega (arith, below, length-blocks_in_log g x id metas)) (so_far.writes x told)
      (record { put = λ k. put k ∙ ap (λ (b : TextBlock). later (last_write k (entries_of old.blocks)) (written k (entry_of b))) (sym block) });
  few = omega (arith, length-added old.blocks new.blocks meta.block numbers, so_far.few);
  room_is = same ∙ so_far.room_is;
  inside = λ sectors fits metas. AreInside-added sectors old.blocks new.blocks meta.block numbers (so_far.inside sectors fits metas)
      (subst (λ (m : Meta). 8 * m.block + 8 ≤ sectors) (sym is_meta) (metas i no_meta below));
}

pub adding_done : (g : Geometry) (kept : Kept) (id : ℕ) (log : State) (i : ℕ) (old plan : PlanContent) → length (metas_at kept id) ≤ i → IsAdding g kept id log i old plan
    → AddsSegment g kept id log old.blocks plan.blocks
adding_done g kept id log i old plan end so_far = record {
  put = λ x told k.
      let segment : List TextBlock = blocks_in_log g x id (metas_at kept id) in
      let all = WritesLast-all (entries_of old.blocks) segment plan.blocks i (omega (arith, end, length-blocks_in_log g x id (metas_at kept id))) (so_far.writes x told) in
      all.each k ∙ last_write-append k (entries_of old.blocks) (entries_of segment);
  inside = so_far.inside;
}

-- ---- one segment after another

-- one more in a span
pub span-more : (list : ℕ → List HistoryEntry) (a m : ℕ) → span list a (m + 1) ≡ span list a m ++ list (a + m + 1)
span-more list a m =
    let next : suc (a + m) ≡ a + m + 1 = omega arith in
    span-split list a m 1 ∙ ap (λ (es : List HistoryEntry). span list a m ++ es) (span-one list (a + m) ∙ ap list next)

-- one more segment, and as many as there are
pub kept_more : (kept : Kept) (back m id : ℕ) → id ≡ back + m + 1 → blocks_kept kept back (m + 1) ≡ blocks_kept kept back m + length (metas_at kept id)
kept_more kept back m id is =
    let one : m + 1 ≡ suc m = omega arith in
    let here : back + suc m ≡ id = omega (arith, is) in
    ap (blocks_kept kept back) one ∙ ap (λ (s : ℕ). blocks_kept kept back m + length (metas_at kept s)) here

pub kept_grows : (kept : Kept) (back m d : ℕ) → blocks_kept kept back m ≤ blocks_kept kept back (m + d)
kept_grows kept back m zero = let same : m + zero ≡ m = omega arith in omega (arith, ap (blocks_kept kept back) same)
kept_grows kept back m (suc d) =
    let next : m + suc d ≡ m + d + 1 = omega arith in
    omega (arith, kept_grows kept back m d, ap (blocks_kept kept back) next, kept_more kept back (m + d) (back + (m + d) + 1) refl)

pub kept_within : (kept : Kept) (back m n : ℕ) → m ≤ n → blocks_kept kept back m ≤ blocks_kept kept back n
kept_within kept back m n few =
    let all : m + (n - m) ≡ n = omega (arith, few) in
    omega (arith, kept_grows kept back m (n - m), ap (blocks_kept kept back) all)

-- m of the segments are in the plan
pub record IsPlanning (g : Geometry) (kept : Kept) (back : ℕ) (log : State) (m room : ℕ) (plan : PlanContent) : Type 0 where
  pub writes : (x : Image) → log.content ≡ Some x → WritesLast plan.blocks (span (entries_in_log g x kept) back m)
  pub few : length plan.blocks ≤ m * places g
  pub room_is : plan.room ≡ room
  pub inside : (sectors : ℕ) → ((id : ℕ) → back < id → id ≤ back + m → AreMetasInside sectors (metas_at kept id)) → AreInside sectors plan.blocks

pub planning_none : (g : Geometry) (kept : Kept) (back : ℕ) (log : State) (room : ℕ) (plan : PlanContent) → plan.blocks ≡ [] → plan.room ≡ room → IsPlanning g kept back log 0 room plan
planning_none g kept back log room plan none same = record {
  writes = λ x told. subst (λ (blocks : List TextBlock). WritesLast blocks []) (sym none) WritesLast-none;
  few = omega (arith, ap length none);
  room_is = same;
  inside = λ sectors fits. subst (AreInside sectors) (sym none) (All-nil (λ (block : TextBlock). 8 * block.number + 8 ≤ sectors));
}

-- there is room for one more while there are fewer than eight
pub planning_room : (g : Geometry) (kept : Kept) (back : ℕ) (log : State) (m room : ℕ) (plan : PlanContent) → m < 8 → 8 * places g ≤ room → IsPlanning g kept back log m room plan
    → length plan.blocks + places g ≤ plan.room
planning_room g kept back log m room plan few fits so_far =
    let all : suc m * places g ≤ 8 * places g = mul-le (suc m) (places g) 8 (places g) (omega (arith, few)) (omega arith) in
    omega (arith, so_far.few, so_far.room_is, fits, all, suc-mul m (places g))

pub planning_more : (g : Geometry) (kept : Kept) (back : ℕ) (log now : State) (m room id : ℕ) (old new : PlanContent) → id ≡ back + m + 1 → now.content ≡ log.content
    → IsPlanning g kept back log m room old → AddsSegment g kept id now old.blocks new.blocks → length new.blocks ≤ length old.blocks + places g → new.room ≡ old.room
    → IsPlanning g kept back log (m + 1) room new
planning_more g kept back log now m room id old new is same so_far added few room_is = record {
  writes = λ x told. record {
    each = λ k.
        let list : ℕ → List HistoryEntry = entries_in_log g x kept in
        added.put x (same ∙ told) k
        ∙ ap (λ (w : Option (List ℕ)). later w (last_write k (list id))) ((so_far.writes x told).each k)
        ∙ ap (λ (s : ℕ). later (last_write k (span list back m)) (last_write k (list s))) is
        ∙ sym (last_write-append k (span list back m) (list (back + m + 1)))
        ∙ ap (last_write k) (sym (span-more list back m));
  };
  few = let next : (m + 1) * places g ≡ m * places g + places g = ap (λ (n : ℕ). n * places g) (let one : m + 1 ≡ suc m = omega arith in one) ∙ suc-mul m (places g) in omega (arith, few, so_far.few, next);
  room_is = room_is ∙ so_far.room_is;
  inside = λ sectors fits.
      added.inside sectors (so_far.inside sectors (λ s low high. fits s low (omega (arith, high)))) (fits id (omega (arith, is)) (omega (arith, is)));
}

pub planning_done : (g : Geometry) (kept : Kept) (back last : ℕ) (log : State) (m room : ℕ) (plan new : PlanContent) → back ≤ last → m ≡ last - back → IsPlanning g kept back log m room plan
    → IsArranged new.blocks → IsPermutation plan.blocks new.blocks → ((k : ℕ) → last_write k (entries_of new.blocks) ≡ last_write k (entries_of plan.blocks))
    → IsPlanOf g kept back last log new.blocks
planning_done g kept back last log m room plan new order all so_far arranged same put = record {
  arranged = arranged;
  inside = λ sectors fits. AreInside-arranged sectors plan.blocks new.blocks same (so_far.inside sectors (λ s low high. fits s low (omega (arith, high, all, order))));
  put = λ x told k. put k ∙ (so_far.writes x told).each k ∙ ap (λ (n : ℕ). last_write k (span (entries_in_log g x kept) back n)) all;
}
