-- What an engine stands for: an image at the start, and a history.
use Rattle.std.specs.Prelude.{ℕ, ◌≡◌, ◌≢◌, ◌⊎◌, ◌+◌, ◌*◌, ◌/◌, ◌%◌, ◌<◌, ◌≤◌, ◌^◌, List, [], ◌∷◌, ◌++◌, length, All, None, Some, IsSome}
use Rattle.wb_geometry.specs.Image.{Image}
use Rattle.wb_geometry.specs.Device.{State, NothingPending}
use Rattle.wb_geometry.specs.History.{HistoryEntry, IsBlockInside}
use Rattle.wb_geometry.specs.Entering.{entered}
use Rattle.wb_geometry.specs.Layout.{places}
use Rattle.wb_geometry.specs.Line.{Line, line_of}
use Rattle.wb_geometry.specs.declared.geometry.Geometry.{Geometry}
use Rattle.wb_geometry.specs.declared.entry.Entry.{Entry}
use Rattle.wb_geometry.specs.declared.entry.Entry.TheVariants as entry
use Rattle.wb_geometry.specs.declared.which.Which.TheVariants.{Log}
use Rattle.wb_header.specs.Standing.{StandsFor}
use Rattle.wb_header.specs.Text.{TextBlock}
use Rattle.wb_header.specs.Segments.{Segment}
use Rattle.wb_header.specs.declared.sealed.Meta.{Meta}
use Rattle.wb_super.specs.Superblock.{record_of}
use Rattle.wb_log.specs.Kept.{metas_of, metas_at}
use Rattle.wb_crash.specs.Safety.{Shows, IsSafe}
use Rattle.wb_crash.specs.declared.numbers.Numbers.{Numbers}
use Rattle.wb_memory.specs.Memory.{MemoryContent, live, segment_at}
use Rattle.wb_engine.specs.Content.{EngineContent, limit_of}

-- the history, cut into the engine's segments
abbrev pub line : {L B : Type 0} → EngineContent L B → Image → List HistoryEntry → Line
line e base history = line_of (places e.geometry) e.numbers.first base history

-- of these entries the numbers and the dirty bits of the blocks are kept that stand for them
pub record IsListed (metas : List Meta) (entries : List HistoryEntry) : Type 0 where
  pub blocks : List TextBlock
  pub for : StandsFor blocks entries
  pub kept : metas ≡ metas_of blocks

-- The log tells its content; the history has the places that were absorbed; the blocks of each segment in memory stand for
-- its entries, and what is kept of each in the log is of such blocks; and the devices hold what they should, and would after
-- a crash now.
pub record Standing {L B : Type 0} (of_log : L → State) (of_backing : B → State) (e : EngineContent L B) (base : Image) (history : List HistoryEntry) : Type 0 where
  pub told : IsSome (of_log e.log).content
  pub places : length history ≡ e.absorbed
  pub memory : (j : ℕ) → j < length (live e.memory)
      → StandsFor (segment_at (live e.memory) j).blocks ((line e base history).list (segment_at (live e.memory) j).id)
  pub logged : (s : ℕ) → e.numbers.recorded < s → s ≤ e.numbers.logged → IsListed (metas_at e.memory.logged s) ((line e base history).list s)
  pub safe : IsSafe e.geometry (line e base history) e.numbers (of_log e.log) (of_backing e.backing)
  -- the record is the one that was written last, or else the engine is down by the log and it is the one whose write failed
  pub record_is : (x : Image) → Shows (of_log e.log) x → (record_of x ≡ e.numbers.recorded) ⊎ ((e.down ≡ Some Log) × (record_of x ≡ e.numbers.back))

-- a device's content, where it tells it
abbrev pub Told : State → Image → Type 0
Told s y = s.content ≡ Some y

-- While the engine is up a crash leaves of the backing device what a read gives, and of the log too unless a segment was
-- written since the last sync.
pub record IsSynced {L B : Type 0} (of_log : L → State) (of_backing : B → State) (e : EngineContent L B) : Type 0 where
  pub written_back : e.down ≡ None → NothingPending (of_backing e.backing)
  pub written : e.down ≡ None → e.numbers.stable ≡ e.numbers.logged → NothingPending (of_log e.log)

-- a write has a dirty sector, and its block is inside; another entry isn't the first of a segment
abbrev pub Fits : {L B : Type 0} → EngineContent L B → Entry → Type 0
Fits e (entry.Write client block payload) = (payload.value.bits ≢ 0) × (8 * block + 8 ≤ e.geometry.backing_sectors)
Fits e (entry.Void client) = e.absorbed % places e.geometry ≢ 0

-- there is room for the entry, an id for its segment, and it fits
pub record MayCome {L B : Type 0} (e : EngineContent L B) (entry : Entry) : Type 0 where
  pub room : e.absorbed < limit_of e.geometry e.numbers
  pub ids : e.numbers.first + 1 + e.absorbed / places e.geometry ≤ 2 ^ 48
  pub fits : Fits e entry

-- what absorbing leaves as it was, the devices among it
pub record IsOffDevices {L B : Type 0} (old new : EngineContent L B) : Type 0 where
  pub geometry : new.geometry ≡ old.geometry
  pub down : new.down ≡ old.down
  pub log : new.log ≡ old.log
  pub backing : new.backing ≡ old.backing

-- the numbers once so many places are taken
abbrev pub numbers_at : Geometry → Numbers → (absorbed : ℕ) → Numbers
numbers_at g e absorbed = record e { sealed = e.first + absorbed / places g }

-- all but the devices is as it was
pub record IsSameEngine {L B : Type 0} (old new : EngineContent L B) : Type 0 where
  pub geometry : new.geometry ≡ old.geometry
  pub numbers : new.numbers ≡ old.numbers
  pub absorbed : new.absorbed ≡ old.absorbed
  pub down : new.down ≡ old.down
  pub memory : new.memory ≡ old.memory

-- a write has a dirty sector
abbrev pub IsDirty : Entry → Type 0
IsDirty (entry.Write client block payload) = payload.value.bits ≢ 0
IsDirty (entry.Void client) = Unit {0}

-- how many blocks an entry may add to a segment
abbrev pub blocks_of : Entry → ℕ
blocks_of (entry.Write client block payload) = 1
blocks_of (entry.Void client) = 0

-- the entry is in the open segment
pub record Keeps (come : Entry) (memory new_memory : MemoryContent) : Type 0 where
  pub stands : (entries : List HistoryEntry) → StandsFor memory.current.blocks entries → StandsFor new_memory.current.blocks (entries ++ entered come ∷ [])
  pub id : new_memory.current.id ≡ memory.current.id
  pub sealed : new_memory.sealed ≡ memory.sealed
  pub logged : new_memory.logged ≡ memory.logged
  pub places : new_memory.places ≡ memory.places
  pub segments : new_memory.segments ≡ memory.segments
  pub few : length new_memory.current.blocks ≤ length memory.current.blocks + blocks_of come
  pub some : 1 ≤ length memory.current.blocks + blocks_of come → 1 ≤ length new_memory.current.blocks
  pub inside : (sectors : ℕ) → All (λ block. 8 * block.number + 8 ≤ sectors) memory.current.blocks → IsBlockInside sectors (entered come)
      → All (λ block. 8 * block.number + 8 ≤ sectors) new_memory.current.blocks

-- the open segment was sealed, and the next opened
pub record IsNextOpened (numbers new_numbers : Numbers) (memory new_memory : MemoryContent) : Type 0 where
  pub numbers_are : new_numbers ≡ record numbers { sealed = numbers.sealed + 1 }
  pub segment : Segment
  pub sealed : new_memory.sealed ≡ memory.sealed ++ segment ∷ []
  pub id : segment.id ≡ memory.current.id
  pub blocks : segment.blocks ≡ memory.current.blocks
  pub next_id : new_memory.current.id ≡ memory.current.id + 1
  pub next_blocks : new_memory.current.blocks ≡ []
  pub logged : new_memory.logged ≡ memory.logged
  pub places : new_memory.places ≡ memory.places
  pub segments : new_memory.segments ≡ memory.segments

-- so it was where all of its places are taken, and else nothing was done
abbrev pub IsSealedIfFull : (absorbed each : ℕ) (numbers new_numbers : Numbers) (memory new_memory : MemoryContent) → Type 0
IsSealedIfFull absorbed each numbers new_numbers memory new_memory =
    ((absorbed % each ≡ 0) × IsNextOpened numbers new_numbers memory new_memory)
    ⊎ ((absorbed % each ≢ 0) × (new_numbers ≡ numbers) × (new_memory ≡ memory))
