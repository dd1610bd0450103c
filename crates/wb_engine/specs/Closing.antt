-- What the end of an engine leaves.
use Rattle.std.specs.Prelude.{ℕ, ◌≡◌, ◌+◌, ◌-◌, ◌/◌, Some, None}
use Rattle.wb_geometry.specs.Device.{State, CountsFaultsWhere}
use Rattle.wb_geometry.specs.Layout.{places}
use Rattle.wb_geometry.specs.declared.which.Which.TheVariants.{Log, Backing}
use Rattle.wb_engine.specs.Content.{EngineContent}
use Rattle.wb_engine.specs.Stepping.{Moves}

-- the id of the last segment that has an entry, or of the last before the session
abbrev pub last_id : {L B : Type 0} → EngineContent L B → ℕ
last_id e = e.numbers.first + (e.absorbed + places e.geometry - 1) / places e.geometry

-- all sealed segments were written back and recorded, unless the engine went down
pub record IsDrained {L B : Type 0} (of_log : L → State) (of_backing : B → State) (old new : EngineContent L B) : Type 0 where
  pub moves : Moves of_log of_backing old new
  pub done : new.down ≡ None → new.numbers.recorded ≡ new.numbers.sealed
  pub log_cause : CountsFaultsWhere (new.down ≡ Some Log) (of_log old.log).faults (of_log new.log).faults
  pub backing_cause : CountsFaultsWhere (new.down ≡ Some Backing) (of_backing old.backing).faults (of_backing new.backing).faults
