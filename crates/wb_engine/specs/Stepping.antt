-- The steps of the engine: a segment is logged, the log is synced, a batch of segments is written back, and that is recorded.
use Rattle.std.specs.Prelude.{ℕ, zero, suc, ◌≡◌, ◌⊎◌, ◌+◌, ◌-◌, ◌*◌, ◌<◌, ◌≤◌, List, [], ◌∷◌, ◌++◌, length, drop, map, min, None, Some, Result, Ok, Err, OnOk, OnErr, IfOk, IfErr}
use Rattle.std.specs.List.{enumerate_from}
use Rattle.wb_geometry.specs.Image.{Image, bytes_at}
use Rattle.wb_geometry.specs.Device.{State, Passes, ContentPasses, NothingPending, IsSameDevice, OnlyRead, HasCause, CountsFaultsWhere, next_count}
use Rattle.wb_geometry.specs.History.{HistoryEntry, later, last_write, after, PutsPartly}
use Rattle.wb_geometry.specs.Layout.{slot_start}
use Rattle.wb_geometry.specs.Line.{span}
use Rattle.wb_geometry.specs.declared.geometry.Geometry.{Geometry}
use Rattle.wb_geometry.specs.declared.which.Which.{Which}
use Rattle.wb_geometry.specs.declared.which.Which.TheVariants.{Log, Backing}
use Rattle.wb_header.specs.Text.{TextBlock}
use Rattle.wb_header.specs.Segments.{Segment}
use Rattle.wb_header.specs.Standing.{entries_of}
use Rattle.wb_header.specs.declared.sealed.Meta.{Meta}
use Rattle.wb_super.specs.Recording.{Records, RecordsOrNot}
use Rattle.wb_log.specs.Kept.{Kept, metas_of, metas_at}
use Rattle.wb_log.specs.Writing.{WritesSegment}
use Rattle.wb_back.specs.Plans.{IsArranged, AreInside}
use Rattle.wb_crash.specs.Crash.{CrashInCall}
use Rattle.wb_crash.specs.Numbers.{trying, written, synced, put_up_to, recording}
use Rattle.wb_crash.specs.declared.numbers.Numbers.{Numbers}
use Rattle.wb_engine.specs.Content.{EngineContent, AreMetasInside}
use Rattle.wb_engine.specs.Standing.{Standing, IsSynced, IsOffDevices, line}
use Rattle.wb_engine.specs.declared.turning.Turn.{Turn}
use Rattle.wb_engine.specs.declared.turning.Turn.TheVariants as turn

-- ---- when a step can be made

-- the next segment is sealed, and the slot that it takes has none that recovery may need
abbrev pub MayLog : Geometry → Numbers → Type 0
MayLog g e = (e.logged < e.sealed) × (e.logged + 1 ≤ e.recorded + g.slots)

-- a segment was logged since the last sync
abbrev pub MaySync : Numbers → Type 0
MaySync e = e.stable < e.logged

-- a segment is safe in the log and not written back
abbrev pub MayBack : Numbers → Type 0
MayBack e = e.back < e.stable

-- a segment is written back and not recorded
abbrev pub MayRecord : Numbers → Type 0
MayRecord e = e.recorded < e.back

-- ---- what each step does, in full or until a device fails

-- The text of the oldest sealed segment came into its slot, and nothing else was written or synced.
pub record LogsNext {L B T : Type 0} (of_log : L → State) (of_backing : B → State) (old new : EngineContent L B) (result : Result T Which) : Type 0 where
  pub writes : (front : Segment) (rest : List Segment) → old.memory.sealed ≡ front ∷ rest → WritesSegment old.geometry front.id front.blocks (of_log old.log) (of_log new.log) result
  pub ok : OnOk result ((new.numbers ≡ written old.numbers) × (new.down ≡ None))
  pub failed : IfErr result (λ which. (which ≡ Log) × (new.numbers ≡ trying old.numbers) × (new.down ≡ Some Log))
  pub cause : HasCause (of_log old.log) (of_log new.log) result
  pub syncs : (of_log new.log).syncs ≡ (of_log old.log).syncs
  pub reads : (of_log new.log).reads ≡ (of_log old.log).reads
  pub backing : new.backing ≡ old.backing

-- The log was synced, by which all that is logged is stable.
pub record SyncsLog {L B T : Type 0} (of_log : L → State) (of_backing : B → State) (old new : EngineContent L B) (result : Result T Which) : Type 0 where
  pub content : (of_log new.log).content ≡ (of_log old.log).content
  pub left : Passes (λ x y. y ≡ x) (of_log old.log) (of_log new.log)
  pub durable : OnOk result (NothingPending (of_log new.log))
  pub ok : OnOk result ((new.numbers ≡ synced old.numbers) × (new.down ≡ None))
  pub failed : IfErr result (λ which. (which ≡ Log) × (new.numbers ≡ old.numbers) × (new.down ≡ Some Log))
  pub cause : HasCause (of_log old.log) (of_log new.log) result
  pub syncs : OnOk result ((of_log new.log).syncs ≡ next_count (of_log old.log).syncs)
  pub not_synced : OnErr result (((of_log old.log).syncs ≤ (of_log new.log).syncs) × ((of_log new.log).syncs ≤ next_count (of_log old.log).syncs))
  pub reads : (of_log new.log).reads ≡ (of_log old.log).reads
  pub backing : new.backing ≡ old.backing

-- the blocks of segment `id`, of which this is kept, with the bytes that stand in its slot
abbrev pub blocks_in_log : Geometry → Image → (id : ℕ) → List Meta → List TextBlock
blocks_in_log g x id metas = map (λ p. record { number = p.1.block; bits = p.1.bits; payload = bytes_at x (slot_start g id + 8 * (1 + p.0)) 8 }) (enumerate_from 0 metas)

-- what they write, by the segment's id
abbrev pub entries_in_log : Geometry → Image → Kept → (id : ℕ) → List HistoryEntry
entries_in_log g x kept id = entries_of (blocks_in_log g x id (metas_at kept id))

-- how many blocks are kept of so many segments behind this one
abbrev pub blocks_kept : Kept → (id count : ℕ) → ℕ
blocks_kept kept id zero = 0
blocks_kept kept id (suc count) = blocks_kept kept id count + length (metas_at kept (id + suc count))

-- A plan of the segments behind `back` up to `last`: each block stands once, none is outside a device that all kept ones are
-- inside, and it puts what stands of them in the log, of each sector the newest that there is.
pub record IsPlanOf (g : Geometry) (kept : Kept) (back last : ℕ) (log : State) (planned : List TextBlock) : Type 0 where
  pub arranged : IsArranged planned
  pub inside : (sectors : ℕ) → ((id : ℕ) → back < id → id ≤ last → AreMetasInside sectors (metas_at kept id)) → AreInside sectors planned
  pub put : (x : Image) → log.content ≡ Some x → (k : ℕ) → last_write k (entries_of planned) ≡ last_write k (span (entries_in_log g x kept) back (last - back))

-- The blocks of a segment, with what stands of them in the log, were put over what a plan had.
pub record AddsSegment (g : Geometry) (kept : Kept) (id : ℕ) (log : State) (old new : List TextBlock) : Type 0 where
  pub put : (x : Image) → log.content ≡ Some x → (k : ℕ) → last_write k (entries_of new) ≡ later (last_write k (entries_of old)) (last_write k (entries_in_log g x kept id))
  pub inside : (sectors : ℕ) → AreInside sectors old → AreMetasInside sectors (metas_at kept id) → AreInside sectors new

-- The segments up to `last` were read from the log, by no more reads than they have blocks, and their plan was put to the
-- backing device, which was synced once. Where a read failed the backing device wasn't called, and where that failed each of
-- its sectors is as it was or as the plan has it.
pub record WritesBackThrough {L B T : Type 0} (of_log : L → State) (of_backing : B → State) (last : ℕ) (old new : EngineContent L B) (result : Result T Which) : Type 0 where
  pub planned : List TextBlock
  pub untouched : result ≡ Err Log → new.backing ≡ old.backing
  pub plan : (result ≡ Err Log → ⊥) → IsPlanOf old.geometry old.memory.logged old.numbers.back last (of_log old.log) planned
  pub partly : result ≡ Err Backing → ContentPasses (PutsPartly (entries_of planned)) (of_backing old.backing) (of_backing new.backing)
  pub content : OnOk result (ContentPasses (λ y z. z ≡ after y (entries_of planned)) (of_backing old.backing) (of_backing new.backing))
  pub durable : OnOk result (NothingPending (of_backing new.backing))
  pub syncs : OnOk result ((of_backing new.backing).syncs ≡ next_count (of_backing old.backing).syncs)
  pub not_synced : OnErr result (((of_backing old.backing).syncs ≤ (of_backing new.backing).syncs) × ((of_backing new.backing).syncs ≤ next_count (of_backing old.backing).syncs))
  pub only_read : OnlyRead (of_log old.log) (of_log new.log)
  pub log_reads : (of_log new.log).reads ≤ (of_log old.log).reads + blocks_kept old.memory.logged old.numbers.back (last - old.numbers.back)
  pub reads : (of_backing new.backing).reads ≡ (of_backing old.backing).reads
  pub memory : new.memory ≡ old.memory
  pub ok : OnOk result ((new.numbers ≡ put_up_to last old.numbers) × (new.down ≡ None))
  pub failed : IfErr result (λ which. (new.numbers ≡ old.numbers) × (new.down ≡ Some which))
  pub log_cause : CountsFaultsWhere (result ≡ Err Log) (of_log old.log).faults (of_log new.log).faults
  pub backing_cause : CountsFaultsWhere (result ≡ Err Backing) (of_backing old.backing).faults (of_backing new.backing).faults

-- the last segment of a batch: the last that is stable, or the eighth that is not written back where there are more
abbrev pub batch_end : Numbers → ℕ
batch_end e = min e.stable (e.back + 8)

-- A batch was written back.
abbrev pub WritesBack : {L B T : Type 0} (of_log : L → State) (of_backing : B → State) (old new : EngineContent L B) → Result T Which → Type 0
WritesBack of_log of_backing old new result = WritesBackThrough of_log of_backing (batch_end old.numbers) old new result

-- The record was written, by one write and one sync.
pub record PutsRecord {L B T : Type 0} (of_log : L → State) (of_backing : B → State) (old new : EngineContent L B) (result : Result T Which) : Type 0 where
  pub content : OnOk result (ContentPasses (Records old.numbers.back) (of_log old.log) (of_log new.log))
  pub left : Passes (RecordsOrNot old.numbers.back) (of_log old.log) (of_log new.log)
  pub durable : OnOk result (NothingPending (of_log new.log))
  pub ok : OnOk result ((new.numbers ≡ recording old.numbers) × (new.down ≡ None))
  pub failed : IfErr result (λ which. (which ≡ Log) × (new.numbers ≡ old.numbers) × (new.down ≡ Some Log))
  pub cause : HasCause (of_log old.log) (of_log new.log) result
  pub syncs : OnOk result ((of_log new.log).syncs ≡ next_count (of_log old.log).syncs)
  pub not_synced : OnErr result (((of_log old.log).syncs ≤ (of_log new.log).syncs) × ((of_log new.log).syncs ≤ next_count (of_log old.log).syncs))
  pub reads : (of_log new.log).reads ≡ (of_log old.log).reads
  pub backing : new.backing ≡ old.backing

-- ---- what each step keeps

-- The engine went on, and its devices with it: it stands for what it stood for, what was stable still is, and no sector of the
-- backing device changed, or is changed by a crash, but to what an entry of the history writes.
pub record Moves {L B : Type 0} (of_log : L → State) (of_backing : B → State) (old new : EngineContent L B) : Type 0 where
  pub stands : (base : Image) (history : List HistoryEntry) → Standing of_log of_backing old base history → Standing of_log of_backing new base history
  pub changed : (base : Image) (history : List HistoryEntry) → Standing of_log of_backing old base history → ContentPasses (PutsPartly history) (of_backing old.backing) (of_backing new.backing)
  pub left : (base : Image) (history : List HistoryEntry) → Standing of_log of_backing old base history → Passes (PutsPartly history) (of_backing old.backing) (of_backing new.backing)
  pub synced : IsSynced of_log of_backing old → IsSynced of_log of_backing new
  pub geometry : new.geometry ≡ old.geometry
  pub absorbed : new.absorbed ≡ old.absorbed
  pub first : new.numbers.first ≡ old.numbers.first
  pub sealed : new.numbers.sealed ≡ old.numbers.sealed
  pub stable : old.numbers.stable ≤ new.numbers.stable
  pub same_log : IsSameDevice (of_log old.log) (of_log new.log)
  pub same_backing : IsSameDevice (of_backing old.backing) (of_backing new.backing)

-- So it did in a step, and a crash in the step's course loses nothing that was stable before it.
pub record IsStep {L B : Type 0} (of_log : L → State) (of_backing : B → State) (old new : EngineContent L B) : Type 0 where
  pub moves : Moves of_log of_backing old new
  pub crash : (base : Image) (history : List HistoryEntry) → Standing of_log of_backing old base history
      → CrashInCall old.geometry (line old base history) old.numbers.stable new.numbers.tried (of_log old.log) (of_log new.log) (of_backing old.backing) (of_backing new.backing)

-- ---- a turn

-- the answer at `Ok` is this
abbrev pub Says : Turn → Result Turn Which → Type 0
Says is result = IfOk result (λ turn. turn ≡ is)

-- A turn does the first of the four steps that can be made, or nothing where none can.
abbrev pub IsTurn : {L B : Type 0} (of_log : L → State) (of_backing : B → State) (old new : EngineContent L B) → Result Turn Which → Type 0
IsTurn of_log of_backing old new result =
    (MayLog old.geometry old.numbers × LogsNext of_log of_backing old new result × Says turn.Logged result)
    ⊎ ((MayLog old.geometry old.numbers → ⊥) × MaySync old.numbers × SyncsLog of_log of_backing old new result × Says turn.Synced result)
    ⊎ ((MayLog old.geometry old.numbers → ⊥) × (MaySync old.numbers → ⊥) × MayBack old.numbers
    × WritesBack of_log of_backing old new result × Says turn.Backed result)
    ⊎ ((MayLog old.geometry old.numbers → ⊥) × (MaySync old.numbers → ⊥) × (MayBack old.numbers → ⊥) × MayRecord old.numbers
    × PutsRecord of_log of_backing old new result × Says turn.Recorded result)
    ⊎ ((MayLog old.geometry old.numbers → ⊥) × (MaySync old.numbers → ⊥) × (MayBack old.numbers → ⊥) × (MayRecord old.numbers → ⊥)
    × (result ≡ Ok turn.Idle) × (new ≡ old))

-- so many turns are made at most until there is nothing to do
abbrev pub turns_left : Numbers → ℕ
turns_left e = 4 * (e.sealed - e.logged) + 3 * (e.logged - e.stable) + 2 * (e.stable - e.back) + (e.back - e.recorded)

-- ---- in memory

-- the oldest sealed segment is in the log, and nothing else changed
pub record IsFrontKept {L B : Type 0} (old new : EngineContent L B) : Type 0 where
  pub numbers : new.numbers ≡ written old.numbers
  pub sealed : new.memory.sealed ≡ drop 1 old.memory.sealed
  pub logged : (front : Segment) (rest : List Segment) → old.memory.sealed ≡ front ∷ rest
      → (new.memory.logged.kept ≡ old.memory.logged.kept ++ metas_of front.blocks ∷ []) × (new.memory.logged.first + length old.memory.logged.kept ≡ front.id)
  pub current : new.memory.current ≡ old.memory.current
  pub kept : IsOffDevices old new
  pub absorbed : new.absorbed ≡ old.absorbed

-- what is written back is recorded, and nothing is kept of it
pub record IsRecordedGone {L B : Type 0} (old new : EngineContent L B) : Type 0 where
  pub numbers : new.numbers ≡ recording old.numbers
  pub sealed : new.memory.sealed ≡ old.memory.sealed
  pub logged : new.memory.logged.kept ≡ drop (old.numbers.back + 1 - old.memory.logged.first) old.memory.logged.kept
  pub last : new.memory.logged.first + length new.memory.logged.kept ≡ old.memory.logged.first + length old.memory.logged.kept
  pub current : new.memory.current ≡ old.memory.current
  pub kept : IsOffDevices old new
  pub absorbed : new.absorbed ≡ old.absorbed
