-- The record that the log shows.
use Rattle.std.proofs.Common.{◌≡◌, ◌⊎◌, List, None, inl, inr, sym, ◌∙◌}
use Rattle.wb_geometry.specs.Image.{Image}
use Rattle.wb_geometry.specs.Device.{State}
use Rattle.wb_geometry.specs.History.{HistoryEntry}
use Rattle.wb_super.specs.Superblock.{record_of}
use Rattle.wb_crash.specs.Safety.{Shows}
use Rattle.wb_crash.specs.declared.numbers.Numbers.{Numbers}
use Rattle.wb_engine.specs.Content.{EngineContent}
use Rattle.wb_engine.specs.Standing.{Standing}

-- an image has the record that was written last, or the one that would be written next
abbrev pub IsOldOrNext : Numbers → Image → Type 0
IsOldOrNext e x = (record_of x ≡ e.recorded) ⊎ (record_of x ≡ e.back)

-- while the engine is up it is the one that was written last
pub record_up : {L B : Type 0} {of_log : L → State} {of_backing : B → State} {e : EngineContent L B} {base : Image} {history : List HistoryEntry} → Standing of_log of_backing e base history → e.down ≡ None
    → (x : Image) → Shows (of_log e.log) x → record_of x ≡ e.numbers.recorded
record_up stands up x shows = elim (stands.record_is x shows) [
  | inl is ↦ is
  | inr failed ↦ absurd (let both = sym failed.0 ∙ up in cc)
]
