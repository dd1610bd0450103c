-- What recovery does to the two devices, by the image x that the log has as its content at the start.
use Rattle.std.specs.Prelude.{ℕ, ◌≡◌, ◌⊎◌, ◌+◌, ◌/◌, ◌≤◌, List, length, Some}
use Rattle.std.specs.List.{flat_map}
use Rattle.wb_geometry.specs.Image.{Image, bytes_at}
use Rattle.wb_geometry.specs.Device.{State, NothingPending, Passes, ContentPasses, IsSameDevice}
use Rattle.wb_geometry.specs.History.{HistoryEntry, PutsPartly}
use Rattle.wb_geometry.specs.Layout.{places, slot_sectors, slot_start}
use Rattle.wb_geometry.specs.declared.geometry.Geometry.{Geometry}
use Rattle.wb_header.specs.Text.{TextBlock}
use Rattle.wb_header.specs.Standing.{entries_of}
use Rattle.wb_header.specs.Refused.{Refuses}
use Rattle.wb_header.specs.declared.checking.Refused.{Refused}
use Rattle.wb_super.specs.Superblock.{record_of}
use Rattle.wb_super.specs.declared.reading.Super.{Super}
use Rattle.wb_super.specs.Recording.{Records, RecordsOrNot}
use Rattle.wb_crash.specs.Chain.{IsChain, IsRecovered, IsTidy}
use Rattle.wb_replay.specs.declared.replaying.Recovery.{Recovery}

-- the device was read and synced at most
pub record IsOnlySynced (old new : State) : Type 0 where
  pub content : new.content ≡ old.content
  pub crash : Passes (λ x y. y ≡ x) old new
  pub same : IsSameDevice old new

-- Each sector is as it was or as one of the entries writes it, in the content and in what a crash may leave.
pub record PutsSome (entries : List HistoryEntry) (old new : State) : Type 0 where
  pub content : ContentPasses (PutsPartly entries) old new
  pub crash : Passes (PutsPartly entries) old new

-- why the slot of segment `id` doesn't begin with a text of it
abbrev pub RefusesSlot : Geometry → Image → (id : ℕ) → Refused → Type 0
RefusesSlot g x id refused = Refuses (places g) (g.backing_sectors / 8) id (bytes_at x (slot_start g id) (slot_sectors g)) refused

-- the ids that recovery names, by the record that it found
pub record IsNumbered (found : Super) (recovery : Recovery) : Type 0 where
  pub from : recovery.from ≡ found.recorded + 1
  pub recorded : recovery.recorded ≡ found.recorded + found.geometry.slots
  pub low : recovery.from ≤ recovery.through + 1
  pub high : recovery.through ≤ recovery.recorded

-- what recovery says of the log
pub record TellsChain (g : Geometry) (x : Image) (recovery : Recovery) : Type 0 where
  pub chain : List (List TextBlock)
  pub is : IsChain g x chain
  pub from : recovery.from ≡ record_of x + 1
  pub through : recovery.through ≡ record_of x + length chain
  pub stopped : RefusesSlot g x (recovery.through + 1) recovery.stopped
  pub recorded : recovery.recorded ≡ record_of x + g.slots

-- no slot has an id too high, the backing device has what recovery makes of its content, and a crash leaves just that
pub record IsAllPut (g : Geometry) (x : Image) (backing new_backing : State) : Type 0 where
  pub tidy : IsTidy g x
  pub puts : ContentPasses (IsRecovered g x) backing new_backing
  pub nothing : NothingPending new_backing

-- Wherever recovery ends: nothing of the log changes but the record, and nothing of the backing device but where the chain's
-- blocks are put; nothing is put before all ids are known not to be too high, and the record isn't written before all is put.
pub record GoesInTurn (g : Geometry) (x : Image) (log new_log backing new_backing : State) : Type 0 where
  pub log_content : ContentPasses (RecordsOrNot (record_of x + g.slots)) log new_log
  pub log_crash : Passes (RecordsOrNot (record_of x + g.slots)) log new_log
  pub puts : (chain : List (List TextBlock)) → IsChain g x chain → PutsSome (flat_map entries_of chain) backing new_backing
  pub tidy_first : IsOnlySynced backing new_backing ⊎ IsTidy g x
  pub record_last : IsOnlySynced log new_log ⊎ IsAllPut g x backing new_backing

-- recovery makes z of the contents x0 and y0
pub record MakesOf (g : Geometry) (x0 y0 z : Image) (log backing : State) : Type 0 where
  pub log_told : log.content ≡ Some x0
  pub told : backing.content ≡ Some y0
  pub makes : IsRecovered g x0 y0 z

-- a crash leaves the log with the new record, and z of the backing device
pub record LeavesRecovered (g : Geometry) (x0 z : Image) (log backing : State) : Type 0 where
  pub log_left : (x : Image) → log.leaves_now x → Records (record_of x0 + g.slots) x0 x
  pub left : (y : Image) → backing.leaves_now y → y ≡ z
