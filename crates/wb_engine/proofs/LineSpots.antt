-- The newest spot of a sector among segments that stand for those of a line, one after another.
use Rattle.std.proofs.Common.{ℕ, suc, ◌≡◌, ◌≢◌, ◌+◌, ◌-◌, ◌*◌, ◌<◌, ◌≤◌, ◌==◌, if◌then◌else◌, List, [], ◌∷◌, ◌++◌, length, map, get_or, Option, Some, None, refl, sym, ap, ◌∙◌, subst, inl, inr, arith}
use Rattle.std.specs.Int.{bit_at}
use Rattle.std.proofs.lemmas.Bool.{cases_eq, cases_lt, cond-true, cond-false, eq-eqb, ne_eqb}
use Rattle.std.proofs.lemmas.List.{length-append, length_push, get_or_append_left, get_or-append_right}
use Rattle.wb_geometry.specs.Device.{State}
use Rattle.wb_geometry.specs.Image.{Image, sector, sectors_of}
use Rattle.wb_geometry.specs.History.{HistoryEntry, last_write, later, IsUnwritten}
use Rattle.wb_geometry.specs.Line.{Line, span}
use Rattle.wb_geometry.specs.declared.spot.Spot.{Spot}
use Rattle.wb_geometry.proofs.Histories.{last_write-append}
use Rattle.wb_geometry.proofs.Lines.{span-split}
use Rattle.wb_header.specs.Text.{TextBlock}
use Rattle.wb_header.specs.Segments.{Segment}
use Rattle.wb_header.specs.Standing.{StandsFor, block_at}
use Rattle.wb_header.specs.declared.sealed.Meta.{Meta}
use Rattle.wb_header.proofs.Standings.{stands_alike, stands_block, stands_no_block, AreDistinct-one}
use Rattle.wb_log.specs.Kept.{Kept, metas_at}
use Rattle.wb_table.specs.Lookup.{nowhere}
use Rattle.wb_table.specs.Tables.{spot_in}
use Rattle.wb_memory.specs.Memory.{IsMemory, live, listed, bare, logged_from, segment_at, no_segment, kept_entries, spot_from, newest, last_logged}
use Rattle.wb_engine.specs.Content.{EngineContent, IsEngine}
use Rattle.wb_engine.specs.Standing.{Standing, IsListed, line}
use Rattle.wb_engine.specs.Spots.{IsInSegment, IsNewestSpot}
use Rattle.wb_memory.proofs.SegmentSpots.{HasSector, spot_from-cases, last_write-has, last_write-has_not}
use Rattle.wb_memory.proofs.Listed.{spot_from-bare, length-logged_from, ids-logged_from, at-logged_from}
use Rattle.wb_engine.proofs.Held.{AreHeld, AreInTurn, turn_rest, turn_last, last_write-held}

-- the first segment has the sector, and none behind it
spot-first : (line : Line) (s : Segment) (from to j block i : ℕ) → s.id ≡ from + 1 → from + 1 ≤ to → i < 8 → StandsFor s.blocks (line.list s.id) → HasSector s.blocks j block i
    → IsUnwritten (8 * block + i) (span line.list (from + 1) (to - (from + 1))) → IsInSegment line from to block (8 * block + i) (record { id = s.id; index = 0 + j })
spot-first line s from to j block i named until eight stands has behind = record {
  after = omega (arith, named);
  until = omega (arith, named);
  written = λ none. some (sym (last_write-has s.blocks j block i stands.distinct eight has) ∙ stands.each (8 * block + i) ∙ none);
  newest = subst (λ (id : ℕ). IsUnwritten (8 * block + i) (span line.list id (to - id))) (sym named) behind;
  index = λ blocks other.
      let alike = stands_alike s.blocks blocks (line.list s.id) stands other j has.below in
      let same : 0 + j ≡ j = omega arith in (
        omega (arith, alike.0),
        ap (λ (n : ℕ). (block_at blocks n).number) same ∙ alike.1 ∙ has.there,
      );
}
  where
    some : Some (sector (sectors_of (block_at s.blocks j).payload) i) ≡ None → ⊥
    some is = cc

-- no segment has it
spot-none : (line : Line) (s : Segment) (from to k : ℕ) → s.id ≡ from + 1 → from + 1 ≤ to → last_write k (line.list s.id) ≡ None
    → IsUnwritten k (span line.list (from + 1) (to - (from + 1))) → IsUnwritten k (span line.list from (to - from))
spot-none line s from to k named until here behind =
    let count : to - from ≡ suc (to - (from + 1)) = omega arith in
    let next : suc from ≡ from + 1 = omega arith in
    ap (λ (m : ℕ). last_write k (span line.list from m)) count
    ∙ ap (λ (a : ℕ). last_write k (line.list a ++ span line.list a (to - (from + 1)))) next
    ∙ last_write-append k (line.list (from + 1)) (span line.list (from + 1) (to - (from + 1)))
    ∙ ap (later (last_write k (line.list (from + 1)))) behind
    ∙ ap (λ (id : ℕ). last_write k (line.list id)) (sym named) ∙ here

-- one more segment before the others
spot-more : (line : Line) (s : Segment) (segments : List Segment) (from to block i : ℕ) → s.id ≡ from + 1 → from + 1 ≤ to → i < 8 → StandsFor s.blocks (line.list s.id)
    → IsNewestSpot line (from + 1) to block i (newest segments block i) → IsNewestSpot line from to block i (newest (s ∷ segments) block i)
spot-more line s segments from to block i named until eight stands rest = elim rest [
  | inr there ↦
      let other : (newest segments block i).id ≢ 0 = λ none. absurd (omega (arith, none, there.after)) in
      let same = cond-false ((newest segments block i).id == 0) (spot_from s.id 0 s.blocks block i) (newest segments block i) (ne_eqb (newest segments block i).id 0 other) in
      inr (subst (IsInSegment line from to block (8 * block + i)) (sym same)
      (record { after = omega (arith, there.after); until = there.until; written = there.written; newest = there.newest; index = there.index }))
  | inl none ↦
      let first = cond-true ((newest segments block i).id == 0) (spot_from s.id 0 s.blocks block i) (newest segments block i) (eq-eqb (newest segments block i).id 0 none.id) in
      elim (spot_from-cases s.id 0 s.blocks block i) [
        | inl found ↦ inr (subst (IsInSegment line from to block (8 * block + i)) (sym (first ∙ found.2))
            (spot-first line s from to found.0 block i named until eight stands found.1 none.unwritten))
        | inr nothing ↦ inl (record {
          id = ap (λ (p : Spot). p.id) (first ∙ nothing.0);
          index = ap (λ (p : Spot). p.index) (first ∙ nothing.0);
          unwritten = spot-none line s from to (8 * block + i) named until
              (sym (stands.each (8 * block + i)) ∙ last_write-has_not s.blocks block i eight nothing.1) none.unwritten;
        })
      ]
]

-- ---- segments that are known

-- blocks that stand for the segment's entries have its spots
pub record IsKnown (list : ℕ → List HistoryEntry) (s : Segment) : Type 0 where
  pub blocks : List TextBlock
  pub for : StandsFor blocks (list s.id)
  pub spots : (block i : ℕ) → spot_from s.id 0 s.blocks block i ≡ spot_from s.id 0 blocks block i

abbrev pub AreKnown : (ℕ → List HistoryEntry) → List Segment → Type 0
AreKnown list segments = (j : ℕ) → j < length segments → IsKnown list (segment_at segments j)

pub known_held : (list : ℕ → List HistoryEntry) (segments : List Segment) → AreHeld list segments → AreKnown list segments
known_held list segments held j below = record { blocks = (segment_at segments j).blocks; for = held j below; spots = λ block i. refl }

pub known_append : (list : ℕ → List HistoryEntry) (xs ys : List Segment) → AreKnown list xs → AreKnown list ys → AreKnown list (xs ++ ys)
known_append list xs ys front behind j below = elim (cases_lt j (length xs)) [
  | inl inside ↦ subst (IsKnown list) (sym (get_or_append_left xs ys no_segment j inside)) (front j inside)
  | inr past ↦
      subst (IsKnown list) (sym (get_or-append_right xs ys (length xs) j no_segment refl past))
      (behind (j - length xs) (omega (arith, below, past, length-append xs ys)))
]

-- what is kept of a segment in the log makes it known
known_kept : (list : ℕ → List HistoryEntry) (id : ℕ) (metas : List Meta) → IsListed metas (list id) → IsKnown list (record { id = id; blocks = map bare metas; room = 0 })
known_kept list id metas is = record {
  blocks = is.blocks;
  for = is.for;
  spots = λ block i. ap (λ (ms : List Meta). spot_from id 0 (map bare ms) block i) is.kept ∙ spot_from-bare id 0 is.blocks block i;
}

pub known_logged : (list : ℕ → List HistoryEntry) (from : ℕ) (state : Kept) → (1 ≤ length state.kept → state.first ≡ from + 1)
    → ((s : ℕ) → from < s → s ≤ from + length state.kept → IsListed (metas_at state s) (list s)) → AreKnown list (logged_from state.first state.kept)
known_logged list from state first each j below =
    subst (IsKnown list) (sym (at-logged_from state.first state.kept j inside))
    (known_kept list (state.first + j) (get_or state.kept j []) (subst (λ (ms : List Meta). IsListed ms (list (state.first + j))) metas
    (each (state.first + j) (omega (arith, at)) (omega (arith, at, inside)))))
  where
    inside : j < length state.kept
    inside = omega (arith, below, length-logged_from state.first state.kept)

    at : state.first + j ≡ from + 1 + j
    at = omega (arith, first (omega (arith, inside)))

    index : state.first + j - state.first ≡ j
    index = omega arith

    metas : metas_at state (state.first + j) ≡ get_or state.kept j []
    metas = ap (λ (n : ℕ). get_or state.kept n []) index

-- one more segment before the others
spot-known : (line : Line) (s : Segment) (segments : List Segment) (from to block i : ℕ) → s.id ≡ from + 1 → from + 1 ≤ to → i < 8 → IsKnown line.list s
    → IsNewestSpot line (from + 1) to block i (newest segments block i) → IsNewestSpot line from to block i (newest (s ∷ segments) block i)
spot-known line s segments from to block i named until eight known rest =
    let full : Segment = record { id = s.id; blocks = known.blocks; room = 0 } in
    subst (IsNewestSpot line from to block i)
    (ap (λ (p : Spot). if (newest segments block i).id == 0 then p else newest segments block i) (sym (known.spots block i)))
    (spot-more line full segments from to block i named until eight known.for rest)

-- the newest of them that has the sector, or the backing device
pub spot-newest : (line : Line) (segments : List Segment) (from to block i : ℕ) → i < 8 → to ≡ from + length segments → AreInTurn from segments → AreKnown line.list segments
    → IsNewestSpot line from to block i (newest segments block i)
spot-newest line [] from to block i eight end turn known =
    let none : to - from ≡ 0 = omega (arith, end) in
    inl (record { id = refl; index = refl; unwritten = ap (λ (m : ℕ). last_write (8 * block + i) (span line.list from m)) none })
spot-newest line (s ∷ segments) from to block i eight end turn known =
    spot-known line s segments from to block i
    (turn 0 (omega arith) ∙ (let z : from + 1 + 0 ≡ from + 1 = omega arith in z))
    (omega (arith, end)) eight (known 0 (omega arith))
    (spot-newest line segments (from + 1) to block i eight (omega (arith, end)) (turn_rest from s segments turn) (λ j below. known (suc j) (omega (arith, below))))

-- ---- what a newest spot says

later_some : (before last : Option (List ℕ)) → last ≢ None → later before last ≡ last
later_some before (Some s) some = refl
later_some before None some = absurd (some refl)

-- the last write of all the segments is that of the one that it names
pub spot_written : (line : Line) (from to block k : ℕ) (spot : Spot) → IsInSegment line from to block k spot
    → last_write k (span line.list from (to - from)) ≡ last_write k (line.list spot.id)
spot_written line from to block k spot is =
    let count : spot.id - (from + 1) + suc (to - spot.id) ≡ to - from = omega (arith, is.after, is.until) in
    let at : from + (spot.id - (from + 1)) ≡ spot.id - 1 = omega (arith, is.after) in
    let id : suc (spot.id - 1) ≡ spot.id = omega (arith, is.after) in
    let before : List HistoryEntry = span line.list from (spot.id - (from + 1)) in
    let behind : List HistoryEntry = span line.list spot.id (to - spot.id) in
    let parts : span line.list from (to - from) ≡ before ++ (line.list spot.id ++ behind) =
    ap (span line.list from) (sym count)
    ∙ span-split line.list from (spot.id - (from + 1)) (suc (to - spot.id))
    ∙ ap (λ (a : ℕ). before ++ span line.list a (suc (to - spot.id))) at
    ∙ ap (λ (a : ℕ). before ++ (line.list a ++ span line.list a (to - spot.id))) id in
    ap (last_write k) parts
    ∙ last_write-append k before (line.list spot.id ++ behind)
    ∙ ap (later (last_write k before)) (last_write-append k (line.list spot.id) behind ∙ ap (later (last_write k (line.list spot.id))) is.newest)
    ∙ later_some (last_write k before) (last_write k (line.list spot.id)) is.written

-- and it is what stands of the sector in the block that it names, in any blocks that stand for that one
pub spot_sector : (line : Line) (from to block i : ℕ) (spot : Spot) (blocks : List TextBlock) → i < 8 → IsInSegment line from to block (8 * block + i) spot → StandsFor blocks (line.list spot.id)
    → last_write (8 * block + i) (line.list spot.id) ≡ Some (sector (sectors_of (block_at blocks spot.index).payload) i)
spot_sector line from to block i spot blocks eight is stands =
    let at = is.index blocks stands in
    elim (cases_eq (bit_at (block_at blocks spot.index).bits i) 1) [
      | inl set ↦
          ap (λ (n : ℕ). last_write (8 * n + i) (line.list spot.id)) (sym at.1)
          ∙ stands_block blocks (line.list spot.id) spot.index i stands at.0 eight set
      | inr clear ↦
          absurd (is.written (stands_no_block blocks (line.list spot.id) block i stands eight (λ j below there set.
          let same : j ≡ spot.index = AreDistinct-one blocks j spot.index stands.distinct below at.0 (there ∙ sym at.1) in
          clear (ap (λ (n : ℕ). bit_at (block_at blocks n).bits i) (sym same) ∙ set))))
    ]

-- ---- the spots of an engine

module _ {L B : Type 0} {of_log : L → State} {of_backing : B → State} where
  -- the ids of all segments behind the record follow one another
  pub turn_listed : (e : EngineContent L B) → IsEngine of_log of_backing e → AreInTurn e.numbers.recorded (listed e.memory)
  turn_listed e is j below = elim (cases_lt j (length in_log)) [
    | inl inside ↦
        ap (λ (s : Segment). s.id) (get_or_append_left in_log (live e.memory) no_segment j inside)
        ∙ ids-logged_from e.memory.logged.first e.memory.logged.kept j inside
        ∙ (omega (arith, is.memory.logged_first (omega (arith, inside, count))))
    | inr past ↦
        ap (λ (s : Segment). s.id) (get_or-append_right in_log (live e.memory) (length in_log) j no_segment refl past)
        ∙ is.memory.ids (j - length in_log) (omega (arith, below, past, length-append in_log (live e.memory)))
        ∙ (omega (arith, past, count, is.memory.logged_count, is.ordered.recorded, is.ordered.back, is.ordered.stable))
  ]
    where
      in_log : List Segment
      in_log = logged_from e.memory.logged.first e.memory.logged.kept

      count : length in_log ≡ length e.memory.logged.kept
      count = length-logged_from e.memory.logged.first e.memory.logged.kept

  -- and they end with the open one
  pub count_live : (e : EngineContent L B) → IsEngine of_log of_backing e → e.numbers.sealed + 1 ≡ e.numbers.logged + length (live e.memory)
  count_live e is = omega (arith, length_push e.memory.sealed e.memory.current, is.memory.count, is.ordered.logged, is.ordered.tried)

  pub count_listed : (e : EngineContent L B) → IsEngine of_log of_backing e → e.numbers.sealed + 1 ≡ e.numbers.recorded + length (listed e.memory)
  count_listed e is =
      omega (
        arith,
        count_live e is,
        length-append (logged_from e.memory.logged.first e.memory.logged.kept) (live e.memory),
        length-logged_from e.memory.logged.first e.memory.logged.kept,
        is.memory.logged_count,
        is.ordered.recorded,
        is.ordered.back,
        is.ordered.stable,
      )

  -- the last segment in the log is the last that was logged
  pub last_logged_is : (e : EngineContent L B) → IsEngine of_log of_backing e → last_logged e.memory ≡ e.numbers.logged
  last_logged_is e is =
      let last = turn_last e.numbers.logged e.memory.sealed e.memory.current is.memory.ids in
      omega (arith, last)

  pub known_listed : (e : EngineContent L B) (base : Image) (history : List HistoryEntry) → IsEngine of_log of_backing e → Standing of_log of_backing e base history
      → AreKnown (line e base history).list (listed e.memory)
  known_listed e base history is stands =
      known_append (line e base history).list (logged_from e.memory.logged.first e.memory.logged.kept) (live e.memory)
      (known_logged (line e base history).list e.numbers.recorded e.memory.logged is.memory.logged_first
      (λ s after until. stands.logged s after (omega (arith, until, is.memory.logged_count, is.ordered.recorded, is.ordered.back, is.ordered.stable))))
      (known_held (line e base history).list (live e.memory) stands.memory)

  -- The spot that the table has of a sector of a block is its newest, among all segments behind the record: where it names
  -- one, that one writes the sector, and none behind it; where it is nowhere, none does.
  pub spot_in_line : (e : EngineContent L B) (base : Image) (history : List HistoryEntry) (block i : ℕ) → IsEngine of_log of_backing e → IsMemory e.memory
      → Standing of_log of_backing e base history → i < 8
      → IsNewestSpot (line e base history) e.numbers.recorded (e.numbers.sealed + 1) block i (spot_in e.memory.lookup block i)
  spot_in_line e base history block i is sound stands eight =
      subst (IsNewestSpot (line e base history) e.numbers.recorded (e.numbers.sealed + 1) block i) (sym (sound.spots block i eight))
      (spot-newest (line e base history) (listed e.memory) e.numbers.recorded (e.numbers.sealed + 1) block i eight (count_listed e is)
      (turn_listed e is) (known_listed e base history is stands))

  -- where it is nowhere, no segment behind the record writes the sector
  pub spot_nowhere : (e : EngineContent L B) (base : Image) (history : List HistoryEntry) (block i : ℕ) → IsEngine of_log of_backing e → IsMemory e.memory
      → Standing of_log of_backing e base history → i < 8 → spot_in e.memory.lookup block i ≡ nowhere
      → IsUnwritten (8 * block + i) (span (line e base history).list e.numbers.recorded (e.numbers.sealed + 1 - e.numbers.recorded))
  spot_nowhere e base history block i is sound stands eight none = elim (spot_in_line e base history block i is sound stands eight) [
    | inl there ↦ there.unwritten
    | inr there ↦ absurd (omega (arith, there.after, ap (λ (p : Spot). p.id) none))
  ]

  -- where it names a segment, that one writes it, and none behind it
  pub spot_names : (e : EngineContent L B) (base : Image) (history : List HistoryEntry) (block i : ℕ) → IsEngine of_log of_backing e → IsMemory e.memory
      → Standing of_log of_backing e base history → i < 8 → 1 ≤ (spot_in e.memory.lookup block i).id
      → IsInSegment (line e base history) e.numbers.recorded (e.numbers.sealed + 1) block (8 * block + i) (spot_in e.memory.lookup block i)
  spot_names e base history block i is sound stands eight some = elim (spot_in_line e base history block i is sound stands eight) [
    | inl there ↦ absurd (omega (arith, there.id, some))
    | inr there ↦ there
  ]

  -- what the segments in memory keep of a sector
  pub memory_last : (e : EngineContent L B) (base : Image) (history : List HistoryEntry) (k : ℕ) → IsEngine of_log of_backing e → Standing of_log of_backing e base history
      → last_write k (kept_entries (live e.memory)) ≡ last_write k (span (line e base history).list e.numbers.logged (e.numbers.sealed + 1 - e.numbers.logged))
  memory_last e base history k is stands =
      let count : length (live e.memory) ≡ e.numbers.sealed + 1 - e.numbers.logged = omega (arith, count_live e is) in
      last_write-held (line e base history).list k e.numbers.logged (live e.memory) is.memory.ids stands.memory
      ∙ ap (λ (m : ℕ). last_write k (span (line e base history).list e.numbers.logged m)) count

  -- where they have it, it is the last write of all segments behind the record
  pub memory_has : (e : EngineContent L B) (base : Image) (history : List HistoryEntry) (k : ℕ) (bytes : List ℕ) → IsEngine of_log of_backing e → Standing of_log of_backing e base history
      → last_write k (kept_entries (live e.memory)) ≡ Some bytes
      → last_write k (span (line e base history).list e.numbers.recorded (e.numbers.sealed + 1 - e.numbers.recorded)) ≡ Some bytes
  memory_has e base history k bytes is stands has =
      let list : ℕ → List HistoryEntry = (line e base history).list in
      let front : ℕ = e.numbers.logged - e.numbers.recorded in
      let rest : ℕ = e.numbers.sealed + 1 - e.numbers.logged in
      let count : front + rest ≡ e.numbers.sealed + 1 - e.numbers.recorded
      = omega (arith, is.ordered.recorded, is.ordered.back, is.ordered.stable, is.ordered.logged, is.ordered.tried) in
      let at : e.numbers.recorded + front ≡ e.numbers.logged = omega (arith, is.ordered.recorded, is.ordered.back, is.ordered.stable) in
      ap (λ (m : ℕ). last_write k (span list e.numbers.recorded m)) (sym count)
      ∙ ap (last_write k) (span-split list e.numbers.recorded front rest ∙ ap (λ (a : ℕ). span list e.numbers.recorded front ++ span list a rest) at)
      ∙ last_write-append k (span list e.numbers.recorded front) (span list e.numbers.logged rest)
      ∙ ap (later (last_write k (span list e.numbers.recorded front))) (sym (memory_last e base history k is stands) ∙ has)
