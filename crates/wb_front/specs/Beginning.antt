-- How a front begins.
use Rattle.std.specs.Prelude.{ℕ, ◌≡◌, ◌⊎◌, true, List, [], length, None}
use Rattle.wb_geometry.specs.Device.{State}
use Rattle.wb_super.specs.declared.reading.Super.{Super}
use Rattle.wb_steps.specs.Rule.{shape_of, cells}
use Rattle.wb_steps.specs.Views.{beginning}
use Rattle.wb_steps.specs.declared.view.Role.TheVariants.{Drain as TheDrain}
use Rattle.wb_intake.specs.Carried.{Carried}
use Rattle.wb_intake.specs.Passes.{name_of, numbers_of, drain_name, drain_view, AreNewcomers}
use Rattle.wb_intake.specs.declared.board.Intake.{Intake}
use Rattle.wb_intake.specs.declared.pass.Drain.{Drain}
use Rattle.wb_intake.specs.declared.pass.Pass.{Pass}
use Rattle.wb_crash.specs.Numbers.{all_at}
use Rattle.wb_engine.specs.Content.{EngineContent}
use Rattle.wb_engine.specs.Standing.{Standing, Told, IsSynced}
use Rattle.wb_engine.specs.Opening.{IsOpened, HasRecovered, RefusesOpening}
use Rattle.wb_engine.specs.declared.opening.OpenCause.{OpenCause}
use Rattle.wb_engine.specs.declared.opening.OpenCause.TheVariants.{Memory}
use Rattle.wb_front.specs.declared.opening.Ready.{Ready}

-- what is ready: the engine, the intake and its drain
abbrev pub engine_of : {L B : Type 0} → Ready L B → EngineContent L B
engine_of r = r.engine

abbrev pub intake_of : {L B : Type 0} → Ready L B → Intake
intake_of r = r.intake

abbrev pub drain_of : {L B : Type 0} → Ready L B → Drain
drain_of r = r.drain

-- an intake for the engine, and its drain, of so many clients: nothing was put yet
pub record IsNewIntake {L B : Type 0} (clients : ℕ) (r : Ready L B) : Type 0 where
  pub shape : numbers_of (intake_of r) ≡ shape_of (engine_of r).geometry (engine_of r).numbers.first
  pub drain : drain_name (drain_of r) ≡ name_of (intake_of r)
  pub view : drain_view (drain_of r) ≡ beginning TheDrain clients (cells (numbers_of (intake_of r)))

-- an engine that was just opened over these devices, with a new intake and a pass for each client
pub record IsReadied {L B : Type 0} (of_log : L → State) (of_backing : B → State) (log backing : State) (clients : ℕ) (r : Ready L B) (owners : List Pass) : Type 0 where
  pub engine : IsOpened of_log of_backing log backing (engine_of r)
  pub intake : IsNewIntake clients r
  pub count : length owners ≡ clients
  pub passes : AreNewcomers (name_of (intake_of r)) (cells (numbers_of (intake_of r))) owners

-- why nothing is ready: the engine isn't opened, or it was recovered and there was no memory for the intake
abbrev pub RefusesReady : OpenCause → (log new_log backing new_backing : State) → Type 0
RefusesReady why log new_log backing new_backing = RefusesOpening why log new_log backing new_backing
    ⊎ ((why ≡ Memory) × ((found : Super) × HasRecovered found log new_log backing new_backing))

-- The name carries what is ready: its intake, the numbers of its engine, the image for which that stands, and what each device
-- counted of faults and told of its content.
pub record Carries {L B : Type 0} (of_log : L → State) (of_backing : B → State) (t : Carried) (r : Ready L B) : Type 0 where
  pub intake : name_of (intake_of r) ≡ t.intake
  pub geometry : (engine_of r).geometry ≡ t.geometry
  pub first : (engine_of r).numbers.first ≡ t.first
  pub log_faults : (of_log (engine_of r).log).faults ≡ t.log_faults
  pub backing_faults : (of_backing (engine_of r).backing).faults ≡ t.backing_faults
  pub stands : t.log_told ≡ true → Standing of_log of_backing (engine_of r) t.base []
  pub told : t.backing_told ≡ true → Told (of_backing (engine_of r).backing) t.base

-- an engine that was just opened
pub record IsFreshEngine {L B : Type 0} (of_log : L → State) (of_backing : B → State) (e : EngineContent L B) : Type 0 where
  pub numbers : e.numbers ≡ all_at e.numbers.first
  pub absorbed : e.absorbed ≡ 0
  pub up : e.down ≡ None
  pub synced : IsSynced of_log of_backing e
