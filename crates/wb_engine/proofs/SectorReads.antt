-- The spots that an engine answers.
use Rattle.std.proofs.Common.{ℕ, ◌≡◌, ◌+◌, ◌<◌, List, sym, ap, ◌∙◌, subst}
use Rattle.std.specs.List.{slice_index_or}
use Rattle.wb_geometry.specs.Image.{Image}
use Rattle.wb_geometry.specs.Device.{State}
use Rattle.wb_geometry.specs.History.{HistoryEntry}
use Rattle.wb_geometry.specs.declared.spot.Spot.{Spot}
use Rattle.wb_table.specs.Lookup.{nowhere}
use Rattle.wb_table.specs.Tables.{spot_in}
use Rattle.wb_memory.specs.Memory.{IsMemory}
use Rattle.wb_engine.specs.Content.{EngineContent, IsEngine}
use Rattle.wb_engine.specs.Standing.{Standing, line}
use Rattle.wb_engine.specs.Spots.{IsNewestSpot}
use Rattle.wb_engine.proofs.LineSpots.{spot_in_line}

module _ {L B : Type 0} {of_log : L → State} {of_backing : B → State} where
  -- the spot that the table has of a sector of a block is its newest
  pub spots_newest : (inner e : EngineContent L B) (block : ℕ) (spots : List Spot) → inner ≡ e → IsEngine of_log of_backing inner → IsMemory inner.memory
      → ((i : ℕ) → i < 8 → slice_index_or spots i nowhere ≡ spot_in inner.memory.lookup block i)
      → (base : Image) (history : List HistoryEntry) → Standing of_log of_backing e base history → (i : ℕ) → i < 8
      → IsNewestSpot (line e base history) e.numbers.recorded (e.numbers.sealed + 1) block i (slice_index_or spots i nowhere)
  spots_newest inner e block spots same inner_is inner_sound table base history stands i eight =
      let is : IsEngine of_log of_backing e = subst (λ (x : EngineContent L B). IsEngine of_log of_backing x) same inner_is in
      let sound : IsMemory e.memory = subst (λ (x : EngineContent L B). IsMemory x.memory) same inner_sound in
      let found : slice_index_or spots i nowhere ≡ spot_in e.memory.lookup block i = table i eight ∙ ap (λ (x : EngineContent L B). spot_in x.memory.lookup block i) same in
      subst (IsNewestSpot (line e base history) e.numbers.recorded (e.numbers.sealed + 1) block i) (sym found)
      (spot_in_line e base history block i is sound stands eight)
