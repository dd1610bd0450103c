-- What a run has come to before a session.
use Rattle.std.specs.Prelude.{ℕ, ◌≡◌, ◌≤◌, Bool, List, []}
use Rattle.std.specs.Io.KnownBytes.{IsAtEnd}
use Rattle.wb_geometry.specs.Device.{State, IsDevice, OnlyRead}
use Rattle.wb_super.specs.declared.reading.Super.{Super}
use Rattle.wb_script.specs.Content.{ScriptContent}
use Rattle.wb_script.specs.Valid.{IsValid}
use Rattle.wb_tool.specs.declared.command.WorkloadNumbers.{WorkloadNumbers}
use Rattle.wb_tool.specs.declared.running.Stage.{Stage}
use Rattle.wb_tool.specs.declared.running.Stage.TheVariants.{Ended, Serve, Workload}
use Rattle.wb_tool.specs.Run.{Lent, Run, IsUntouched, HasNotFailed, Spells, run_of}
use Rattle.wb_tool.specs.Commands.{IsServe, IsWorkload}
use Rattle.wb_tool.specs.Stages.{IsGood}
use Rattle.wb_tool.specs.Workload.{script_of, region_of}
use Rattle.wb_tool.specs.Account.{IsAccounted, IsComplete}

-- the source held this script for a cache of so many sectors, and nothing is left in it
pub record HoldsScript (sectors : ℕ) (source : Lent) (script : ScriptContent) : Type 0 where
  pub kept : HasNotFailed source
  pub spelled : Spells sectors source script
  pub valid : IsValid script
  pub made_for : script.sectors ≡ sectors
  pub at_end : IsAtEnd source.after

-- Both devices are good for a session of this script, and nothing was done with them but that the log was read.
pub record IsReady (sink : Lent) (log_before log_now backing : State) (found : Super) (script : ScriptContent) : Type 0 where
  pub good : IsGood sink log_before log_now backing.sectors found
  pub read : OnlyRead log_before log_now
  pub on_log : IsDevice log_before
  pub on_backing : IsDevice backing
  pub valid : IsValid script

-- so they are, and the source held the script
pub record HasBegunServing (source sink : Lent) (log_before log_now backing : State) (script : ScriptContent) : Type 0 where
  pub found : Super
  pub ready : IsReady sink log_before log_now backing found script
  pub holds : HoldsScript found.geometry.backing_sectors source script

-- so they are, and the script is the workload of these numbers
pub record HasBegunWorkload (numbers : WorkloadNumbers) (sink : Lent) (log_before log_now backing : State) (script : ScriptContent) : Type 0 where
  pub found : Super
  pub ready : IsReady sink log_before log_now backing found script
  pub some : 32 ≤ found.geometry.backing_sectors
  pub made : script ≡ script_of numbers (region_of found.geometry.backing_sectors)

-- a run of these words answers for all that it is to answer for
abbrev pub AnswersFor : List (List ℕ) → Run → Type 0
AnswersFor words run = IsAccounted words run × IsComplete words run

-- What these words, this source and these devices have come to: an end, in whatever way clients would have been served; or a
-- script that is to be served.
abbrev pub HasBegun : {L B : Type 0} → (of_log : L → State) → (of_backing : B → State) → (words : List (List ℕ)) → (source sink : Lent) → (log : L) → (backing : B) → Stage L B → Type 0
HasBegun of_log of_backing words source sink log backing (Ended end) = (in_turn : Bool)
    → AnswersFor words (run_of in_turn source sink (of_log log) (of_log end.log) (of_backing backing) (of_backing end.backing) end.status end.transcripts.items end.places)
HasBegun of_log of_backing words source sink log backing (Serve begun) =
    IsServe words × (begun.backing ≡ backing) × HasBegunServing source sink (of_log log) (of_log begun.log) (of_backing backing) begun.script
HasBegun of_log of_backing words source sink log backing (Workload begun numbers) =
    IsWorkload numbers words × IsUntouched source × (begun.backing ≡ backing) × HasBegunWorkload numbers sink (of_log log) (of_log begun.log) (of_backing backing) begun.script

-- it is an end with this status, without a session
abbrev pub IsEndedAt : {L B : Type 0} → (status : ℕ) → L → B → Stage L B → Type 0
IsEndedAt status log backing (Ended end) = (end.status ≡ status) × (end.transcripts.items ≡ []) × (end.places ≡ 0) × (end.log ≡ log) × (end.backing ≡ backing)
IsEndedAt status log backing (Serve begun) = ⊥
IsEndedAt status log backing (Workload begun numbers) = ⊥
