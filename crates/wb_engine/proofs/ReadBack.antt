-- What is read of a segment from its slot writes what the segment's entries do.
use Rattle.std.proofs.Common.{ℕ, ◌≡◌, ◌+◌, ◌-◌, ◌*◌, ◌/◌, ◌<◌, ◌≤◌, List, length, get_or, Option, Some, None, inl, inr, sym, ◌∙◌, ap, arith}
use Rattle.std.specs.Int.{bit_at}
use Rattle.std.proofs.lemmas.List.{length-map, get_or-map}
use Rattle.std.proofs.lemmas.Nat.Bits.{bit_at-lt}
use Rattle.std.proofs.lemmas.Bool.{cases_eq}
use Rattle.wb_geometry.specs.Device.{State}
use Rattle.wb_geometry.specs.Image.{Image, sector, sectors_of, bytes_at}
use Rattle.wb_geometry.specs.History.{HistoryEntry, Write, last_write, written}
use Rattle.wb_geometry.specs.Layout.{slot_start}
use Rattle.wb_geometry.specs.declared.geometry.Geometry.{Geometry}
use Rattle.wb_geometry.proofs.Histories.{written-inside, written-clear}
use Rattle.wb_header.specs.Text.{TextBlock, no_block, AreDistinct}
use Rattle.wb_header.specs.Standing.{entry_of, entries_of, block_at, StandsFor}
use Rattle.wb_header.specs.Slots.{HoldsText}
use Rattle.wb_header.specs.declared.sealed.Meta.{Meta}
use Rattle.wb_header.proofs.Standings.{last_write-unnamed, last_write-at, stands_alike}
use Rattle.wb_header.proofs.DistinctBlocks.{has_sector}
use Rattle.wb_log.specs.Kept.{meta_of, metas_of, metas_at, no_meta}
use Rattle.wb_log.proofs.Texts.{held_block}
use Rattle.wb_crash.specs.Images.{HoldsSegment}
use Rattle.wb_crash.proofs.Recover.{holds_text}
use Rattle.wb_engine.specs.Content.{EngineContent}
use Rattle.wb_engine.specs.Standing.{Standing, line}
use Rattle.wb_engine.specs.Stepping.{blocks_in_log}
use Rattle.wb_engine.proofs.Plannings.{length-blocks_in_log, block_at-in_log}

-- ---- a segment as it is kept and as it stands in its slot

meta_at : (blocks : List TextBlock) (j : ℕ) → j < length blocks → get_or (metas_of blocks) j no_meta ≡ meta_of (block_at blocks j)
meta_at blocks j below = get_or-map meta_of blocks j no_block no_meta below

-- a block of which the bits are known from one list and the bytes from another, where both stand for the entries
written_alike : (kept held : TextBlock) (k : ℕ) (last : Option (List ℕ)) → held.number ≡ kept.number → kept.number ≡ k / 8 → written k (entry_of kept) ≡ last → written k (entry_of held) ≡ last
    → written k (Write 0 kept.number kept.bits held.payload) ≡ last
written_alike kept held k last same here first second =
    let i : ℕ = k - 8 * kept.number in
    let low : 8 * kept.number ≤ k = omega (arith, here) in
    let high : k < 8 * kept.number + 8 = omega (arith, here) in
    elim (cases_eq (bit_at kept.bits i) 1) [
      | inr unset ↦
          let clear : bit_at kept.bits i ≡ 0 = omega (arith, unset, bit_at-lt kept.bits i) in
          written-clear 0 kept.number kept.bits held.payload k clear ∙ sym (written-clear 0 kept.number kept.bits kept.payload k clear) ∙ first
      | inl dirty ↦
          let place : k - 8 * held.number ≡ i = ap (λ (n : ℕ). k - 8 * n) same in
          let some : Some (sector (sectors_of kept.payload) i) ≡ last = sym (written-inside 0 kept.number kept.bits kept.payload k low high dirty) ∙ first in
          elim (cases_eq (bit_at held.bits i) 1) [
            | inl both ↦
                written-inside 0 kept.number kept.bits held.payload k low high dirty
                ∙ ap (λ (n : ℕ). Some (sector (sectors_of held.payload) n)) (sym place)
                ∙ sym (written-inside 0 held.number held.bits held.payload k (omega (arith, low, same)) (omega (arith, high, same)) (ap (bit_at held.bits) place ∙ both))
                ∙ second
            | inr unset ↦
                let clear : bit_at held.bits i ≡ 0 = omega (arith, unset, bit_at-lt held.bits i) in
                let none : None ≡ last = sym (written-clear 0 held.number held.bits held.payload k (ap (bit_at held.bits) place ∙ clear)) ∙ second in
                let both : Some (sector (sectors_of kept.payload) i) ≡ None = some ∙ sym none in
                absurd (cc)
          ]
    ]

module _ (g : Geometry) (x : Image) (id : ℕ) (kept held : List TextBlock) (entries : List HistoryEntry) (kept_for : StandsFor kept entries) (held_for : StandsFor held entries)
    (holds : HoldsText g x id held) where
  abbrev there : List TextBlock
  there = blocks_in_log g x id (metas_of kept)

  length-there : length there ≡ length kept
  length-there = length-blocks_in_log g x id (metas_of kept) ∙ length-map kept meta_of

  there_at : (j : ℕ) → j < length kept → block_at there j ≡ record { number = (block_at kept j).number; bits = (block_at kept j).bits; payload = (block_at held j).payload }
  there_at j below =
      let alike = stands_alike kept held entries kept_for held_for j below in
      block_at-in_log g x id (metas_of kept) j (omega (arith, below, length-map kept meta_of))
      ∙ ap (λ (m : Meta). record { number = m.block; bits = m.bits; payload = bytes_at x (slot_start g id + 8 * (1 + j)) 8 }) (meta_at kept j below)
      ∙ ap (λ (p : List ℕ). record { number = (block_at kept j).number; bits = (block_at kept j).bits; payload = p }) (held_block g x id j held holds alike.0)

  number_there : (j : ℕ) → j < length kept → (block_at there j).number ≡ (block_at kept j).number
  number_there j below = ap (λ (b : TextBlock). b.number) (there_at j below)

  distinct_there : AreDistinct there
  distinct_there i j less below same =
      let last : j < length kept = omega (arith, below, length-there) in
      kept_for.distinct i j less last (sym (number_there i (omega (arith, less, last))) ∙ same ∙ number_there j last)

  pub there_writes : (k : ℕ) → last_write k (entries_of (blocks_in_log g x id (metas_of kept))) ≡ last_write k entries
  there_writes k = elim (has_sector k kept) [
    | inl one ↦
        let j : ℕ = one.0 in
        let alike = stands_alike kept held entries kept_for held_for j one.1 in
        last_write-at k j there distinct_there (omega (arith, one.1, length-there)) (number_there j one.1 ∙ one.2)
        ∙ ap (λ (b : TextBlock). written k (entry_of b)) (there_at j one.1)
        ∙ written_alike (block_at kept j) (block_at held j) k (last_write k entries) alike.1 one.2
        (sym (last_write-at k j kept kept_for.distinct one.1 one.2) ∙ kept_for.each k)
        (sym (last_write-at k j held held_for.distinct alike.0 (alike.1 ∙ one.2)) ∙ held_for.each k)
    | inr none ↦
        last_write-unnamed k there (λ j below same.
        let inside : j < length kept = omega (arith, below, length-there) in
        none j inside (sym (number_there j inside) ∙ same))
        ∙ sym (last_write-unnamed k kept none) ∙ kept_for.each k
  ]

-- ---- of an engine

module _ {L B : Type 0} {of_log : L → State} {of_backing : B → State} where
  -- the blocks of a segment that is logged and not recorded, with what stands of them in its slot, write what its entries do
  pub read_writes : (e : EngineContent L B) (base : Image) (history : List HistoryEntry) (x : Image) (s : ℕ) → Standing of_log of_backing e base history → (of_log e.log).content ≡ Some x
      → e.numbers.recorded < s → s ≤ e.numbers.logged
      → (k : ℕ) → last_write k (entries_of (blocks_in_log e.geometry x s (metas_at e.memory.logged s))) ≡ last_write k ((line e base history).list s)
  read_writes e base history x s stands told low high k =
      let listed = stands.logged s low high in
      let segment : HoldsSegment e.geometry (line e base history) x s = stands.safe.on_log.logged x told s low high in
      ap (λ (metas : List Meta). last_write k (entries_of (blocks_in_log e.geometry x s metas))) listed.kept
      ∙ there_writes e.geometry x s listed.blocks segment.is.blocks ((line e base history).list s) listed.for segment.is.for (holds_text segment) k
