-- A sector after a whole history: what the newest segment that has it keeps, or what the backing device has.
use Rattle.std.proofs.Common.{ℕ, suc, zero, ◌≡◌, ◌+◌, ◌-◌, ◌*◌, ◌/◌, ◌%◌, ◌<◌, ◌≤◌, List, ◌++◌, length, take, Option, Some, None, inl, refl, sym, ap, ◌∙◌, subst, arith}
use Rattle.std.specs.Option.{IsSome}
use Rattle.std.proofs.lemmas.List.{length-take-le, take-append-le, take_all}
use Rattle.wb_geometry.specs.Image.{Image, sector, sectors_of, bytes_at}
use Rattle.wb_geometry.specs.Device.{State, IsDevice, HoldsContent}
use Rattle.wb_geometry.specs.History.{HistoryEntry, after, standing, last_write}
use Rattle.wb_geometry.specs.Layout.{places}
use Rattle.wb_geometry.specs.Line.{Line, span, image}
use Rattle.wb_geometry.specs.declared.spot.Spot.{Spot}
use Rattle.wb_geometry.proofs.Geometries.{places_few}
use Rattle.wb_geometry.proofs.Histories.{length-after, sector-after, bytes_at-one}
use Rattle.wb_geometry.proofs.Lines.{image-all, image-between, Agrees-wider}
use Rattle.wb_header.specs.Text.{TextBlock}
use Rattle.wb_header.specs.Standing.{block_at}
use Rattle.wb_log.specs.Reading.{block_start}
use Rattle.wb_log.proofs.Pieces.{bytes_at-same}
use Rattle.wb_log.proofs.Slots.{block_inside}
use Rattle.wb_log.proofs.Texts.{held_sector}
use Rattle.wb_table.specs.Lookup.{nowhere}
use Rattle.wb_table.specs.Tables.{BlockTable, spot_in}
use Rattle.wb_crash.specs.Images.{HoldsSegment, IsBackingImage}
use Rattle.wb_memory.specs.Memory.{IsMemory, live, kept_entries, last_logged}
use Rattle.wb_engine.specs.Content.{EngineContent, IsEngine}
use Rattle.wb_engine.specs.Standing.{Standing, Told, line}
use Rattle.wb_engine.specs.Spots.{IsInSegment}
use Rattle.wb_engine.proofs.Absorptions.{places_behind}
use Rattle.wb_engine.proofs.LineSpots.{spot_written, spot_sector, last_logged_is, spot_nowhere, spot_names, memory_has}

-- what a content is, where it is told
content_of : (content : Option Image) → IsSome content → (x : Image) × (content ≡ Some x)
content_of (Some x) is = (x, refl)
content_of None is = absurd (let z = is in cc)

-- each sector of a run has the spot of the first
spot_of_run : (lookup : BlockTable) (k count : ℕ) (spot : Spot) → spot ≡ spot_in lookup (k / 8) (k % 8) → ((j : ℕ) → 1 ≤ j → j < count → spot_in lookup ((k + j) / 8) ((k + j) % 8) ≡ spot)
    → (j : ℕ) → j < count → spot ≡ spot_in lookup ((k + j) / 8) ((k + j) % 8)
spot_of_run lookup k count spot first next zero less = let same : k + 0 ≡ k = omega arith in first ∙ ap (λ (n : ℕ). spot_in lookup (n / 8) (n % 8)) (sym same)
spot_of_run lookup k count spot first next (suc j) less = sym (next (suc j) (omega arith) less)

module _ {L B : Type 0} {of_log : L → State} {of_backing : B → State} where
  -- all of the history is in the segments up to the open one
  line_whole : (e : EngineContent L B) (base : Image) (h : List HistoryEntry) → IsEngine of_log of_backing e → Standing of_log of_backing e base h
      → image (line e base h) (e.numbers.sealed + 1) ≡ after base h
  line_whole e base h is stands =
      let n : ℕ = places e.geometry in
      let some : 1 ≤ n = (places_few e.geometry).0 in
      let end : e.numbers.sealed + 1 - e.numbers.first ≡ suc (e.absorbed / n) = omega (arith, is.filled.sealed) in
      let room : length h ≤ n * (e.numbers.sealed + 1 - e.numbers.first) =
      subst (λ (m : ℕ). length h ≤ n * m) (sym end) (omega (arith, stands.places, places_behind n e.absorbed some)) in
      image-all n e.numbers.first base h (e.numbers.sealed + 1) room

  -- a sector that is served is inside the image of the backing device
  inside_image : (e : EngineContent L B) (k : ℕ) (shown : Image) → IsEngine of_log of_backing e → IsDevice (of_backing e.backing) → k < e.geometry.backing_sectors → Told (of_backing e.backing) shown → k < length shown
  inside_image e k shown is device inside told = omega (arith, inside, is.backing_room, (device.content shown told).size)

  -- It is as after the recorded segments, with the last of the writes behind them over it.
  sector_last : (e : EngineContent L B) (base shown : Image) (h : List HistoryEntry) (k : ℕ) (last : Option (List ℕ)) → IsEngine of_log of_backing e → Standing of_log of_backing e base h
      → Told (of_backing e.backing) shown → k < length shown → last_write k (span (line e base h).list e.numbers.recorded (e.numbers.sealed + 1 - e.numbers.recorded)) ≡ last
      → standing (sector (image (line e base h) e.numbers.recorded) k) last ≡ sector (after base h) k
  sector_last e base shown h k last is stands told below writes =
      let over : Line = line e base h in
      let from : ℕ = e.numbers.recorded in
      let end : ℕ = e.numbers.sealed + 1 in
      let upto : from ≤ end = omega (arith, is.ordered.recorded, is.ordered.back, is.ordered.stable, is.ordered.logged, is.ordered.tried) in
      let size : length shown ≡ length base = (stands.safe.on_backing.shown shown (inl told)).size in
      sym (
      sym (ap (λ (x : Image). sector x k) (line_whole e base h is stands))
      ∙ ap (λ (x : Image). sector x k) (image-between over from end is.ordered.start upto)
      ∙ sector-after (image over from) (span over.list from (end - from)) k (omega (arith, below, size, length-after base (span over.list over.first (from - over.first))))
      ∙ ap (standing (sector (image over from) k)) writes
      )

  -- ---- where the code finds it

  -- a segment in memory has it
  sector_here : (e : EngineContent L B) (k : ℕ) (bytes : List ℕ) → IsEngine of_log of_backing e → IsDevice (of_backing e.backing) → k < e.geometry.backing_sectors
      → last_write (8 * (k / 8) + k % 8) (kept_entries (live e.memory)) ≡ Some bytes
      → (base shown : Image) (h : List HistoryEntry) → Told (of_backing e.backing) shown → Standing of_log of_backing e base h → bytes ≡ sector (after base h) k
  sector_here e k bytes is device inside kept base shown h told stands =
      let at : 8 * (k / 8) + k % 8 ≡ k = omega arith in
      sector_last e base shown h k (Some bytes) is stands told (inside_image e k shown is device inside told)
      (memory_has e base h k bytes is stands (subst (λ (n : ℕ). last_write n (kept_entries (live e.memory)) ≡ Some bytes) at kept))

  -- the segments up to the last in the log are those that are logged
  pub logged_upto : (e : EngineContent L B) (id : ℕ) → IsEngine of_log of_backing e → id ≤ last_logged e.memory → id ≤ e.numbers.logged
  logged_upto e id is upto = omega (arith, upto, last_logged_is e is)

  -- a segment in the log has it
  sector_logged : (e : EngineContent L B) (k : ℕ) (spot : Spot) (x : Image) → IsEngine of_log of_backing e → IsMemory e.memory → IsDevice (of_backing e.backing) → k < e.geometry.backing_sectors
      → spot ≡ spot_in e.memory.lookup (k / 8) (k % 8) → 1 ≤ spot.id → spot.id ≤ last_logged e.memory → (of_log e.log).content ≡ Some x
      → (base shown : Image) (h : List HistoryEntry) → Told (of_backing e.backing) shown → Standing of_log of_backing e base h → sector x (block_start e.geometry spot + k % 8) ≡ sector (after base h) k
  sector_logged e k spot x is sound device inside named some upto content base shown h told stands =
      let over : Line = line e base h in
      let from : ℕ = e.numbers.recorded in
      let end : ℕ = e.numbers.sealed + 1 in
      let at : 8 * (k / 8) + k % 8 ≡ k = omega arith in
      let eight : k % 8 < 8 = omega arith in
      let names = spot_names e base h (k / 8) (k % 8) is sound stands eight (subst (λ (p : Spot). 1 ≤ p.id) named some) in
      let there : IsInSegment over from end (k / 8) (8 * (k / 8) + k % 8) spot = subst (IsInSegment over from end (k / 8) (8 * (k / 8) + k % 8)) (sym named) names in
      let held : HoldsSegment e.geometry over x spot.id = stands.safe.on_log.logged x content spot.id there.after (logged_upto e spot.id is upto) in
      let blocks : List TextBlock = held.is.blocks in
      let bytes : List ℕ = sector (sectors_of (block_at blocks spot.index).payload) (k % 8) in
      let writes : last_write k (span over.list from (end - from)) ≡ Some bytes =
      subst (λ (n : ℕ). last_write n (span over.list from (end - from)) ≡ Some bytes) at
      (spot_written over from end (k / 8) (8 * (k / 8) + k % 8) spot there ∙ spot_sector over from end (k / 8) (k % 8) spot blocks eight there held.is.for) in
      held_sector e.geometry x spot.id spot.index (k % 8) blocks (record { text = held.text; is = held.is.is; stands = held.stands }) (there.index blocks held.is.for).0 eight
      ∙ sector_last e base shown h k (Some bytes) is stands told (inside_image e k shown is device inside told) writes

  -- the backing device has it
  sector_backing : (e : EngineContent L B) (k : ℕ) → IsEngine of_log of_backing e → IsMemory e.memory → IsDevice (of_backing e.backing) → k < e.geometry.backing_sectors
      → spot_in e.memory.lookup (k / 8) (k % 8) ≡ nowhere
      → (base shown : Image) (h : List HistoryEntry) → Told (of_backing e.backing) shown → Standing of_log of_backing e base h → sector shown k ≡ sector (after base h) k
  sector_backing e k is sound device inside named base shown h told stands =
      let over : Line = line e base h in
      let from : ℕ = e.numbers.recorded in
      let end : ℕ = e.numbers.sealed + 1 in
      let at : 8 * (k / 8) + k % 8 ≡ k = omega arith in
      let eight : k % 8 < 8 = omega arith in
      let writes : last_write k (span over.list from (end - from)) ≡ None =
      subst (λ (n : ℕ). last_write n (span over.list from (end - from)) ≡ None) at (spot_nowhere e base h (k / 8) (k % 8) is sound stands eight named) in
      let backs : IsBackingImage over e.numbers shown = stands.safe.on_backing.shown shown (inl told) in
      let stable : from ≤ e.numbers.stable = omega (arith, is.ordered.recorded, is.ordered.back) in
      let upto : e.numbers.stable ≤ end = omega (arith, is.ordered.stable, is.ordered.logged, is.ordered.tried) in
      (Agrees-wider over from e.numbers.stable end shown stable upto (backs.agrees from (omega arith) is.ordered.recorded)).each k writes
      ∙ sector_last e base shown h k None is stands told (inside_image e k shown is device inside told) writes

  -- ---- as the code reads

  -- the image after the history is as long as what the backing device tells
  whole_image : (e : EngineContent L B) (base shown : Image) (h : List HistoryEntry) → IsEngine of_log of_backing e → IsDevice (of_backing e.backing) → Told (of_backing e.backing) shown
      → Standing of_log of_backing e base h → e.geometry.backing_sectors ≤ length (after base h)
  whole_image e base shown h is device told stands =
      omega (arith, is.backing_room, (device.content shown told).size, (stands.safe.on_backing.shown shown (inl told)).size, length-after base h)

  pub read_here : (e : EngineContent L B) (k : ℕ) (into bytes : List ℕ) → IsEngine of_log of_backing e → IsDevice (of_backing e.backing) → k < e.geometry.backing_sectors
      → last_write (8 * (k / 8) + k % 8) (kept_entries (live e.memory)) ≡ Some bytes → into ≡ bytes
      → (base shown : Image) (h : List HistoryEntry) → Told (of_backing e.backing) shown → Standing of_log of_backing e base h → into ≡ bytes_at (after base h) k 1
  read_here e k into bytes is device inside kept same base shown h told stands =
      same
      ∙ sector_here e k bytes is device inside kept base shown h told stands
      ∙ sym (bytes_at-one (after base h) k (omega (arith, inside, whole_image e base shown h is device told stands)))

  -- each sector of the run has the spot, and they lie in one block
  pub read_logged : (e : EngineContent L B) (k count : ℕ) (spot : Spot) (into : List ℕ) → IsEngine of_log of_backing e → IsMemory e.memory → IsDevice (of_log e.log) → IsDevice (of_backing e.backing)
      → k + count ≤ e.geometry.backing_sectors → k % 8 + count ≤ 8 → spot ≡ spot_in e.memory.lookup (k / 8) (k % 8) → ((j : ℕ) → 1 ≤ j → j < count → spot_in e.memory.lookup ((k + j) / 8) ((k + j) % 8) ≡ spot)
      → 1 ≤ spot.id → spot.id ≤ last_logged e.memory → spot.index < places e.geometry → length into ≡ 512 * count → HoldsContent (block_start e.geometry spot + k % 8) into (of_log e.log)
      → (base shown : Image) (h : List HistoryEntry) → Told (of_backing e.backing) shown → Standing of_log of_backing e base h → into ≡ bytes_at (after base h) k count
  read_logged e k count spot into is sound log_device device inside eight first next some upto below size holds base shown h told stands =
      let content = content_of (of_log e.log).content stands.told in
      let x : Image = content.0 in
      let start : ℕ = block_start e.geometry spot + k % 8 in
      let many : length into / 512 ≡ count = omega (arith, size) in
      holds.told x content.1 ∙ ap (bytes_at x start) many
      ∙ bytes_at-same x (after base h) start k count
      (omega (arith, eight, block_inside e.geometry spot below, is.log_room, (log_device.content x content.1).size))
      (omega (arith, inside, whole_image e base shown h is device told stands))
      (λ j less.
      let place : block_start e.geometry spot + k % 8 + j ≡ block_start e.geometry spot + (k + j) % 8 = omega (arith, eight, less) in
      ap (sector x) place
      ∙ sector_logged e (k + j) spot x is sound device (omega (arith, inside, less)) (spot_of_run e.memory.lookup k count spot first next j less) some upto content.1 base shown h told stands)

  pub read_backing : (e : EngineContent L B) (k count : ℕ) (into : List ℕ) → IsEngine of_log of_backing e → IsMemory e.memory → IsDevice (of_backing e.backing)
      → k + count ≤ e.geometry.backing_sectors → spot_in e.memory.lookup (k / 8) (k % 8) ≡ nowhere → ((j : ℕ) → 1 ≤ j → j < count → spot_in e.memory.lookup ((k + j) / 8) ((k + j) % 8) ≡ nowhere)
      → length into ≡ 512 * count → HoldsContent k into (of_backing e.backing)
      → (base shown : Image) (h : List HistoryEntry) → Told (of_backing e.backing) shown → Standing of_log of_backing e base h → into ≡ bytes_at (after base h) k count
  read_backing e k count into is sound device inside first next size holds base shown h told stands =
      let many : length into / 512 ≡ count = omega (arith, size) in
      holds.told shown told ∙ ap (bytes_at shown k) many
      ∙ bytes_at-same shown (after base h) k k count
      (omega (arith, inside, is.backing_room, (device.content shown told).size))
      (omega (arith, inside, whole_image e base shown h is device told stands))
      (λ j less. sector_backing e (k + j) is sound device (omega (arith, inside, less)) (sym (spot_of_run e.memory.lookup k count nowhere (sym first) next j less)) base shown h told stands)

  -- what was read stands in front of the rest
  pub as_front : (e : EngineContent L B) (n : ℕ) (piece rest : List ℕ) (at count : ℕ) → length piece ≡ n
      → ((base shown : Image) (h : List HistoryEntry) → Told (of_backing e.backing) shown → Standing of_log of_backing e base h → piece ≡ bytes_at (after base h) at count)
      → (base shown : Image) (h : List HistoryEntry) → Told (of_backing e.backing) shown → Standing of_log of_backing e base h → take n (piece ++ rest) ≡ bytes_at (after base h) at count
  as_front e n piece rest at count size is base shown h told stands =
      take-append-le n piece rest (omega (arith, size)) ∙ take_all n piece (omega (arith, size)) ∙ is base shown h told stands

-- a piece of so many sectors, cut from the front of bytes that have as many
pub size_of_front : (count most : ℕ) (into piece : List ℕ) → count ≤ most → most ≡ length into / 512 → length piece ≡ length (take (512 * count) into) → length piece ≡ 512 * count
size_of_front count most into piece few is size = size ∙ length-take-le (512 * count) into (omega (arith, few, is))
