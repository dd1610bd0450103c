-- What the lock of a front keeps: the engine and the drain are one, with what their name carries.
use Rattle.std.specs.Prelude.{◌≡◌, true, List, length}
use Rattle.wb_geometry.specs.Device.{State}
use Rattle.wb_geometry.specs.History.{HistoryEntry, PutsPartly}
use Rattle.wb_geometry.specs.Image.{Image}
use Rattle.wb_geometry.specs.declared.which.Which.TheVariants.{Log, Backing}
use Rattle.wb_steps.specs.Rule.{shape_of}
use Rattle.wb_steps.specs.declared.view.Faults.{Faults}
use Rattle.wb_intake.specs.Carried.{Carried}
use Rattle.wb_intake.specs.Passes.{name_of, numbers_of, drain_name, drain_view}
use Rattle.wb_intake.specs.declared.board.Intake.{Intake}
use Rattle.wb_intake.specs.declared.pass.Drain.{Drain}
use Rattle.wb_engine.specs.Content.{EngineContent, limit_of}
use Rattle.wb_engine.specs.Settling.{stable_places}
use Rattle.wb_engine.specs.Standing.{Standing, Told, IsSynced}
use Rattle.wb_front.specs.Words.{faults_of, TellsFaults}

-- what the lock holds, as contracts see it
pub record CoreContent (L B : Type 0) : Type 0 where
  pub engine : EngineContent L B
  pub drain : Drain

-- the history: the entries that were drained
abbrev pub drained : {L B : Type 0} → CoreContent L B → List HistoryEntry
drained c = (drain_view c.drain).known

-- what the fault word says
abbrev pub fault_of : {L B : Type 0} → CoreContent L B → Faults
fault_of c = (drain_view c.drain).seen.fault

-- the intake is that of the name
abbrev pub IsIntakeOf : Carried → Intake → Type 0
IsIntakeOf t intake = (name_of intake ≡ t.intake) × (numbers_of intake ≡ shape_of t.geometry t.first)

-- The drain is that of the name's intake, and the engine has absorbed what was drained. Where the log told its content at the
-- opening the engine stands for the drained history over the base image; where the backing device did too, each of its sectors is
-- as it was there or as an entry writes it. The words of the intake tell the engine's limit, how many places are stable, by which
-- device the engine is down, and of each device how many reads failed on it, by which it shows whether its faults rose.
pub record IsJoined {L B : Type 0} (of_log : L → State) (of_backing : B → State) (t : Carried) (c : CoreContent L B) : Type 0 where
  pub own : drain_name c.drain ≡ t.intake
  pub geometry : c.engine.geometry ≡ t.geometry
  pub first : c.engine.numbers.first ≡ t.first
  pub clients : (drain_view c.drain).client ≡ t.clients
  pub absorbed : length (drained c) ≡ c.engine.absorbed
  pub stands : t.log_told ≡ true → Standing of_log of_backing c.engine t.base (drained c)
  pub changed : t.log_told ≡ true → t.backing_told ≡ true → (image : Image) × Told (of_backing c.engine.backing) image × PutsPartly (drained c) t.base image
  pub synced : IsSynced of_log of_backing c.engine
  pub limit : (drain_view c.drain).seen.limit ≡ limit_of c.engine.geometry c.engine.numbers
  pub stable : (drain_view c.drain).seen.stable ≡ stable_places c.engine
  pub fault : (drain_view c.drain).seen.fault
      ≡ faults_of c.engine.down (drain_view c.drain).seen.fault.log_reads (drain_view c.drain).seen.fault.backing_reads
  pub log_faults : TellsFaults Log (drain_view c.drain).seen.fault t.log_faults (of_log c.engine.log).faults
  pub backing_faults : TellsFaults Backing (drain_view c.drain).seen.fault t.backing_faults (of_backing c.engine.backing).faults
