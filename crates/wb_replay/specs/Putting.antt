-- How the chain is followed, segment by segment, and what comes before and behind. Private clauses alone speak of it.
use Rattle.std.specs.Prelude.{ℕ, ◌≡◌, ◌⊎◌, ◌+◌, ◌≤◌, List, [], length, Option, Some, None}
use Rattle.std.specs.List.{flat_map}
use Rattle.wb_geometry.specs.Image.{Image}
use Rattle.wb_geometry.specs.Device.{State, Passes, ContentPasses, NothingPending, IsSameDevice, IsUncalled}
use Rattle.wb_geometry.specs.History.{HistoryEntry, after, PutsPartly}
use Rattle.wb_geometry.specs.declared.geometry.Geometry.{Geometry}
use Rattle.wb_header.specs.Text.{TextBlock, length_in, blocks_in}
use Rattle.wb_header.specs.Standing.{entries_of}
use Rattle.wb_header.specs.Slots.{HoldsText}
use Rattle.wb_header.specs.declared.checking.Refused.{Refused}
use Rattle.wb_super.specs.Superblock.{record_of}
use Rattle.wb_crash.specs.Chain.{IsRun, IsChain}
use Rattle.wb_replay.specs.Replaying.{PutsSome, RefusesSlot}
use Rattle.wb_replay.specs.declared.following.Followed.{Followed}
use Rattle.wb_replay.specs.declared.replaying.ReplayStop.{ReplayStop}
use Rattle.wb_replay.specs.declared.replaying.ReplayStop.TheVariants as stop

-- the entries are put, one after another; until then a crash leaves some of them
pub record PutsAll (entries : List HistoryEntry) (old new : State) : Type 0 where
  pub content : ContentPasses (λ x y. y ≡ after x entries) old new
  pub crash : Passes (PutsPartly entries) old new

-- it was written at most
pub record IsUnsynced (old new : State) : Type 0 where
  pub reads : new.reads ≡ old.reads
  pub syncs : new.syncs ≡ old.syncs
  pub same : IsSameDevice old new

-- the entries of a text that was found good
abbrev pub entries_in : List ℕ → List HistoryEntry
entries_in text = entries_of (blocks_in (length_in text) text)

-- a segment's text stands in its slot and is put, or the slot is refused and nothing is
abbrev pub TakesSegment : (g : Geometry) (x : Image) (id : ℕ) → Option Refused → (old new : State) → Type 0
TakesSegment g x id None old new = (blocks : List TextBlock) × HoldsText g x id blocks × PutsAll (entries_of blocks) old new
TakesSegment g x id (Some refused) old new = RefusesSlot g x id refused × PutsAll [] old new

-- nothing is put, or some of a segment whose text stands in its slot
abbrev pub StopsSegment : (g : Geometry) (x : Image) (id : ℕ) → (old new : State) → Type 0
StopsSegment g x id old new = PutsSome [] old new ⊎ ((blocks : List TextBlock) × HoldsText g x id blocks × PutsSome (entries_of blocks) old new)

-- the chain was followed to its end, and is put
pub record FollowsChain (g : Geometry) (x : Image) (followed : Followed) (old new : State) : Type 0 where
  pub chain : List (List TextBlock)
  pub is : IsChain g x chain
  pub count : followed.count ≡ length chain
  pub stopped : RefusesSlot g x (record_of x + 1 + length chain) followed.stopped
  pub puts : PutsAll (flat_map entries_of chain) old new

-- the chain was followed for a part, and some of that is put
pub record FollowsPartly (g : Geometry) (x : Image) (old new : State) : Type 0 where
  pub run : List (List TextBlock)
  pub is : IsRun g x run
  pub puts : PutsSome (flat_map entries_of run) old new

-- a device failed
abbrev pub IsFault : ReplayStop → Type 0
IsFault (stop.Stray slot id) = ⊥
IsFault stop.LogFault = Unit {0}
IsFault stop.BackingFault = Unit {0}

-- the record is written behind the sync of the backing device
abbrev pub StopsAtEnd : ReplayStop → (log new_log new_backing : State) → Type 0
StopsAtEnd (stop.Stray slot id) log new_log new_backing = ⊥
StopsAtEnd stop.LogFault log new_log new_backing = NothingPending new_backing
StopsAtEnd stop.BackingFault log new_log new_backing = IsUncalled log new_log

-- the calls that come before the chain: one sync of each device, and a read for each slot
pub record SettlesIn (slots : ℕ) (log new_log backing new_backing : State) : Type 0 where
  pub log_reads : new_log.reads ≤ log.reads + slots
  pub log_syncs : new_log.syncs ≤ log.syncs + 1
  pub reads : new_backing.reads ≡ backing.reads
  pub syncs : new_backing.syncs ≤ backing.syncs + 1

-- the calls at the end: one sync of each device
pub record EndsIn (log new_log backing new_backing : State) : Type 0 where
  pub log_reads : new_log.reads ≡ log.reads
  pub log_syncs : new_log.syncs ≤ log.syncs + 1
  pub reads : new_backing.reads ≡ backing.reads
  pub from : backing.syncs ≤ new_backing.syncs
  pub syncs : new_backing.syncs ≤ backing.syncs + 1
