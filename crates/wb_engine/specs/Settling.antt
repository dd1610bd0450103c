-- What making entries stable leaves.
use Rattle.std.specs.Prelude.{ℕ, ◌≡◌, ◌+◌, ◌-◌, ◌*◌, ◌/◌, ◌≤◌, List, None, Some, Result, OnOk, IfErr}
use Rattle.wb_geometry.specs.Image.{Image}
use Rattle.wb_geometry.specs.Device.{State, CountsFaultsWhere, next_count}
use Rattle.wb_geometry.specs.History.{HistoryEntry}
use Rattle.wb_geometry.specs.Layout.{places}
use Rattle.wb_geometry.specs.declared.which.Which.{Which}
use Rattle.wb_geometry.specs.declared.which.Which.TheVariants.{Log, Backing}
use Rattle.wb_crash.specs.Crash.{CrashNow}
use Rattle.wb_engine.specs.Content.{EngineContent}
use Rattle.wb_engine.specs.Standing.{Standing, line}
use Rattle.wb_engine.specs.Stepping.{Moves}

-- of the session's places the first so many are stable
abbrev pub stable_places : {L B : Type 0} → EngineContent L B → ℕ
stable_places e = places e.geometry * (e.numbers.stable - e.numbers.first)

-- the last segment that has a place below this one, which is a multiple of the places of a segment
abbrev pub last_below : {L B : Type 0} → EngineContent L B → (place : ℕ) → ℕ
last_below e place = e.numbers.first + place / places e.geometry

-- in the slot of that segment is none that recovery may still need
abbrev pub HasSlot : {L B : Type 0} → EngineContent L B → (place : ℕ) → Type 0
HasSlot e place = last_below e place ≤ e.numbers.recorded + e.geometry.slots

-- The backing device wasn't called, and the log was synced once at most.
pub record IsOneSync {L B : Type 0} (of_log : L → State) (old new : EngineContent L B) : Type 0 where
  pub backing : new.backing ≡ old.backing
  pub syncs : (of_log new.log).syncs ≤ next_count (of_log old.log).syncs

-- The engine went on, and its devices with it: it stands for what it stood for, and a crash now loses nothing that was stable
-- before. It is up still, or else down by the device that failed, and no other device did.
pub record IsSettled {L B T : Type 0} (of_log : L → State) (of_backing : B → State) (old new : EngineContent L B) (result : Result T Which) : Type 0 where
  pub moves : Moves of_log of_backing old new
  pub logged : old.numbers.logged ≤ new.numbers.logged
  pub crash : (base : Image) (history : List HistoryEntry) → Standing of_log of_backing old base history
      → CrashNow old.geometry (line old base history) old.numbers.stable new.numbers.tried (of_log new.log) (of_backing new.backing)
  pub ok : OnOk result (new.down ≡ None)
  pub failed : IfErr result (λ which. new.down ≡ Some which)
  pub log_cause : CountsFaultsWhere (new.down ≡ Some Log) (of_log old.log).faults (of_log new.log).faults
  pub backing_cause : CountsFaultsWhere (new.down ≡ Some Backing) (of_backing old.backing).faults (of_backing new.backing).faults
