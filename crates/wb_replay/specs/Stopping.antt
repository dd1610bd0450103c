-- Why recovery stops before its end, and how far it has come then.
use Rattle.std.specs.Prelude.{ℕ, ◌≡◌, ◌⊎◌, ◌+◌, ◌*◌, ◌<◌, ◌≤◌, IfSome}
use Rattle.wb_geometry.specs.Device.{State, NothingPending, OnlyRead, IsUncalled, next_count}
use Rattle.wb_geometry.specs.declared.geometry.Geometry.{Geometry}
use Rattle.wb_super.specs.Found.{IsSuper, Refuses}
use Rattle.wb_super.specs.Superblock.{header_id}
use Rattle.wb_super.specs.declared.reading.Super.{Super}
use Rattle.wb_replay.specs.Replaying.{IsOnlySynced}
use Rattle.wb_replay.specs.declared.replaying.ReplayStop.{ReplayStop}
use Rattle.wb_replay.specs.declared.replaying.ReplayStop.TheVariants as stop
use Rattle.wb_replay.specs.declared.recovering.RecoverStop.{RecoverStop}
use Rattle.wb_replay.specs.declared.recovering.RecoverStop.TheVariants as cause

-- no slot has an id above the limit
abbrev pub HasNoStray : Geometry → (limit : ℕ) → State → Type 0
HasNoStray g limit log = IfSome log.content (λ x. (slot : ℕ) → slot < g.slots → header_id g x slot ≤ limit)

-- the slot is the first whose id is above the limit
abbrev pub IsFirstStray : Geometry → (limit : ℕ) → State → (slot id : ℕ) → Type 0
IsFirstStray g limit log slot id = (slot < g.slots) × (limit < id)
    × IfSome log.content (λ x. (header_id g x slot ≡ id) × ((earlier : ℕ) → earlier < slot → header_id g x earlier ≤ limit))

-- Why it stops behind the superblock. Where a device failed nothing is said of the ids.
abbrev pub RefusesSlots : Geometry → (limit : ℕ) → State → ReplayStop → Type 0
RefusesSlots g limit log (stop.Stray slot id) = IsFirstStray g limit log slot id
RefusesSlots g limit log stop.LogFault = Unit {0}
RefusesSlots g limit log stop.BackingFault = Unit {0}

-- How far it has come then: the log is synced before the backing device is called, and both before the ids are read; and
-- the record isn't written where the backing device failed.
abbrev pub StopsInTurn : ReplayStop → (log new_log backing new_backing : State) → Type 0
StopsInTurn (stop.Stray slot id) log new_log backing new_backing =
    IsOnlySynced log new_log × NothingPending new_log × IsOnlySynced backing new_backing × NothingPending new_backing
StopsInTurn stop.LogFault log new_log backing new_backing = IsUncalled backing new_backing ⊎ (next_count backing.syncs ≤ new_backing.syncs)
StopsInTurn stop.BackingFault log new_log backing new_backing = IsOnlySynced log new_log × NothingPending new_log

-- the log is read so many times at most and the backing device never, and both are synced twice at most
pub record CallsAtMost (most : ℕ) (log new_log backing new_backing : State) : Type 0 where
  pub log_reads : new_log.reads ≤ log.reads + most
  pub log_syncs : new_log.syncs ≤ log.syncs + 2
  pub reads : new_backing.reads ≡ backing.reads
  pub syncs : new_backing.syncs ≤ backing.syncs + 2

-- the superblock is this, and the backing device has the sectors that it names
pub record MayRecover (log : State) (has : ℕ) (found : Super) : Type 0 where
  pub super : IsSuper log found
  pub fits : found.geometry.backing_sectors ≤ has

-- Why recovery stops: the first of these causes that applies.
abbrev pub RefusesRecovery : (log : State) (has : ℕ) → RecoverStop → Type 0
RefusesRecovery log has (cause.Super refused) = Refuses log refused
RefusesRecovery log has (cause.Backing needs found_has) = (found : Super) × IsSuper log found
    × (needs ≡ found.geometry.backing_sectors) × (found_has ≡ has) × (has < needs)
RefusesRecovery log has cause.Memory = (found : Super) × MayRecover log has found
RefusesRecovery log has (cause.Stray slot id) = (found : Super) × MayRecover log has found
    × IsFirstStray found.geometry (found.recorded + found.geometry.slots) log slot id
RefusesRecovery log has cause.LogFault = (found : Super) × MayRecover log has found
RefusesRecovery log has cause.BackingFault = (found : Super) × MayRecover log has found

-- How far it has come then. No device is written or synced before the memory is there.
abbrev pub RecoverStopsInTurn : RecoverStop → (log new_log backing new_backing : State) → Type 0
RecoverStopsInTurn (cause.Super refused) log new_log backing new_backing = OnlyRead log new_log × IsUncalled backing new_backing
RecoverStopsInTurn (cause.Backing needs has) log new_log backing new_backing = OnlyRead log new_log × IsUncalled backing new_backing
RecoverStopsInTurn cause.Memory log new_log backing new_backing = OnlyRead log new_log × IsUncalled backing new_backing
RecoverStopsInTurn (cause.Stray slot id) log new_log backing new_backing = StopsInTurn (stop.Stray slot id) log new_log backing new_backing
RecoverStopsInTurn cause.LogFault log new_log backing new_backing = StopsInTurn stop.LogFault log new_log backing new_backing
RecoverStopsInTurn cause.BackingFault log new_log backing new_backing = StopsInTurn stop.BackingFault log new_log backing new_backing

-- the cause as one of recovery
abbrev pub stop_of : ReplayStop → RecoverStop
stop_of (stop.Stray slot id) = cause.Stray slot id
stop_of stop.LogFault = cause.LogFault
stop_of stop.BackingFault = cause.BackingFault

-- the cause comes before either device is synced
abbrev pub IsEarly : RecoverStop → Type 0
IsEarly (cause.Super refused) = Unit {0}
IsEarly (cause.Backing needs has) = Unit {0}
IsEarly cause.Memory = Unit {0}
IsEarly (cause.Stray slot id) = ⊥
IsEarly cause.LogFault = ⊥
IsEarly cause.BackingFault = ⊥

-- the superblock was good
abbrev pub IsBehindSuper : RecoverStop → Type 0
IsBehindSuper (cause.Super refused) = ⊥
IsBehindSuper (cause.Backing needs has) = Unit {0}
IsBehindSuper cause.Memory = Unit {0}
IsBehindSuper (cause.Stray slot id) = Unit {0}
IsBehindSuper cause.LogFault = Unit {0}
IsBehindSuper cause.BackingFault = Unit {0}

-- the log is read twice for the superblock, and twice for each slot that it names, at most
abbrev pub CallsFew : (log new_log backing new_backing : State) → Type 0
CallsFew log new_log backing new_backing = (found : Super) × IsSuper log found × CallsAtMost (2 + 2 * found.geometry.slots) log new_log backing new_backing
