-- Why an engine isn't opened, what recovery did then, and what an engine is once it was opened.
use Rattle.std.specs.Prelude.{ℕ, ◌≡◌, ◌⊎◌, ◌+◌, ◌-◌, ◌*◌, ◌<◌, ◌≤◌, ◌^◌, IsSome, None, Some, List, [], length}
use Rattle.wb_geometry.specs.Image.{Image}
use Rattle.wb_geometry.specs.Device.{State, ContentPasses, NothingPending, OnlyRead, IsUncalled, IsSameDevice}
use Rattle.wb_geometry.specs.Layout.{places, slot_sectors}
use Rattle.wb_geometry.specs.declared.geometry.Geometry.{Geometry}
use Rattle.wb_super.specs.Found.{IsSuper, Refuses}
use Rattle.wb_super.specs.Recording.{Records}
use Rattle.wb_super.specs.declared.reading.Super.{Super}
use Rattle.wb_super.specs.declared.reading.SuperRefused.TheVariants.{Fault}
use Rattle.wb_crash.specs.Crash.{CrashInRecover, MakesOfContents}
use Rattle.wb_crash.specs.Numbers.{all_at}
use Rattle.wb_crash.specs.Safety.{IsFresh}
use Rattle.wb_replay.specs.Replaying.{GoesInTurn, IsAllPut, MakesOf}
use Rattle.wb_replay.specs.Stopping.{HasNoStray, RefusesSlots, StopsInTurn}
use Rattle.wb_replay.specs.declared.replaying.ReplayStop.{ReplayStop}
use Rattle.wb_replay.specs.declared.replaying.ReplayStop.TheVariants as stop
use Rattle.wb_memory.specs.Memory.{MemoryContent}
use Rattle.wb_engine.specs.Content.{EngineContent}
use Rattle.wb_engine.specs.Standing.{Standing, Told, IsSynced}
use Rattle.wb_engine.specs.declared.opening.OpenCause.{OpenCause}
use Rattle.wb_engine.specs.declared.opening.OpenCause.TheVariants as cause

-- the greatest record that leaves ids for a session
abbrev pub most_recorded : (slots : ℕ) → ℕ
most_recorded slots = 2 ^ 48 - 2 * slots

-- the superblock is this, it leaves ids for a session, and the backing device has the sectors that it names
pub record MayOpen (log : State) (has : ℕ) (found : Super) : Type 0 where
  pub super : IsSuper log found
  pub ids : found.recorded ≤ most_recorded found.geometry.slots
  pub fits : found.geometry.backing_sectors ≤ has

-- the record once a log with this superblock is recovered, behind which the ids of the session begin
abbrev pub recovered_to : Super → ℕ
recovered_to found = found.recorded + found.geometry.slots

-- What a recovery by this superblock did to both devices, wherever it ended: where the log tells its content nothing but the
-- record changed there, and that not before all was put. So a crash in its course, and recovery of the contents behind it,
-- make what it would have made.
pub record Goes (found : Super) (log new_log backing new_backing : State) : Type 0 where
  pub may : MayOpen log backing.sectors found
  pub in_turn : (x : Image) → log.content ≡ Some x → GoesInTurn found.geometry x log new_log backing new_backing
  pub crash : (x y z : Image) → MakesOf found.geometry x y z log backing → NothingPending log → NothingPending backing
      → CrashInRecover found.geometry x z log new_log backing new_backing
  pub contents : (x y z : Image) → MakesOf found.geometry x y z log backing → MakesOfContents found.geometry z new_log new_backing
  pub same_log : IsSameDevice log new_log
  pub same_backing : IsSameDevice backing new_backing

-- It ended well: the backing device has what recovery makes of its content, the log has the new record, with which an engine
-- may begin, and a crash leaves both so.
pub record HasRecovered (found : Super) (log new_log backing new_backing : State) : Type 0 where
  pub went : Goes found log new_log backing new_backing
  pub no_stray : HasNoStray found.geometry (recovered_to found) log
  pub all_put : (x : Image) → log.content ≡ Some x → IsAllPut found.geometry x backing new_backing
  pub records : ContentPasses (Records (recovered_to found)) log new_log
  pub fresh : (x : Image) → new_log.content ≡ Some x → IsFresh found.geometry (recovered_to found) x
  pub durable : NothingPending new_log × NothingPending new_backing

-- It stopped, for a slot or by a device.
pub record HasStopped (why : ReplayStop) (log new_log backing new_backing : State) : Type 0 where
  pub found : Super
  pub went : Goes found log new_log backing new_backing
  pub refused : RefusesSlots found.geometry (recovered_to found) log why
  pub so_far : StopsInTurn why log new_log backing new_backing

-- nothing was done but that the log was read
pub record IsUnbegun (log new_log backing new_backing : State) : Type 0 where
  pub only_read : OnlyRead log new_log
  pub uncalled : IsUncalled backing new_backing

-- Why it isn't opened, before recovery is begun: the first of these causes that applies. Where memory was wanting none of
-- the others does.
abbrev pub RefusesLog : (log : State) (has : ℕ) → OpenCause → Type 0
RefusesLog log has (cause.Super refused) = Refuses log refused
RefusesLog log has (cause.IdsSpent recorded) = (found : Super) × IsSuper log found × (found.recorded ≡ recorded)
    × (most_recorded found.geometry.slots < recorded)
RefusesLog log has (cause.Backing needs found_has) = (found : Super) × IsSuper log found × (found.recorded ≤ most_recorded found.geometry.slots)
    × (needs ≡ found.geometry.backing_sectors) × (found_has ≡ has) × (has < needs)
RefusesLog log has cause.Memory = (found : Super) × MayOpen log has found
RefusesLog log has cause.LogFault = ⊥
RefusesLog log has cause.BackingFault = ⊥
RefusesLog log has (cause.Stray slot id) = ⊥

-- the cause of a recovery that stopped
abbrev pub cause_of : ReplayStop → OpenCause
cause_of (stop.Stray slot id) = cause.Stray slot id
cause_of stop.LogFault = cause.LogFault
cause_of stop.BackingFault = cause.BackingFault

-- why the engine isn't opened, and what was done: recovery wasn't begun, or it stopped
abbrev pub RefusesOpening : OpenCause → (log new_log backing new_backing : State) → Type 0
RefusesOpening why log new_log backing new_backing = (RefusesLog log backing.sectors why × IsUnbegun log new_log backing new_backing)
    ⊎ ((stopped : ReplayStop) × (why ≡ cause_of stopped) × HasStopped stopped log new_log backing new_backing)

-- the cause says that the log failed
abbrev pub SaysLog : OpenCause → Type 0
SaysLog why = (why ≡ cause.Super Fault) ⊎ (why ≡ cause.LogFault)

-- the image is the only one that is told, if any is
pub record IsOnly (base : Image) (Tells : Image → Type 0) : Type 0 where
  pub only : (y : Image) → Tells y → y ≡ base

-- An engine that was just opened over these devices: they are recovered, its numbers begin at the record, and it stands for
-- what is on the backing device now, with nothing absorbed.
pub record IsOpened {L B : Type 0} (of_log : L → State) (of_backing : B → State) (log backing : State) (e : EngineContent L B) : Type 0 where
  pub found : Super
  pub recovered : HasRecovered found log (of_log e.log) backing (of_backing e.backing)
  pub geometry : e.geometry ≡ found.geometry
  pub numbers : e.numbers ≡ all_at (recovered_to found)
  pub absorbed : e.absorbed ≡ 0
  pub up : e.down ≡ None
  pub stands : (base : Image) → IsOnly base (Told (of_backing e.backing)) → IsSome log.content → Standing of_log of_backing e base []
  pub synced : IsSynced of_log of_backing e
  pub log_faults : (of_log e.log).faults ≡ log.faults
  pub backing_faults : (of_backing e.backing).faults ≡ backing.faults

-- what is ready for an engine over a log with this superblock
pub record IsReady (found : Super) (g : Geometry) (recorded : ℕ) (memory : MemoryContent) (plan_room : ℕ) (bytes : List ℕ) : Type 0 where
  pub geometry : g ≡ found.geometry
  pub number : recorded ≡ recovered_to found
  pub each : memory.places ≡ places g
  pub segments : memory.segments ≡ g.ram
  pub slots : memory.logged.slots ≡ g.slots
  pub kept : memory.logged.kept ≡ []
  pub sealed : memory.sealed ≡ []
  pub id : memory.current.id ≡ recovered_to found + 1
  pub blocks : memory.current.blocks ≡ []
  pub plan : 8 * places g ≤ plan_room
  pub scratch : length bytes ≡ 512 * slot_sectors g
