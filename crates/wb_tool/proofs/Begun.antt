-- What a run answers for whose session was begun, from what its last stage leaves.
use Rattle.std.proofs.Common.{◌≡◌, ◌≤◌, ◌∙◌, sym, subst, List, [], ℕ, Bool, Option}
use Rattle.wb_geometry.specs.Device.{State, IsDevice, OnlyRead}
use Rattle.wb_super.specs.declared.reading.Super.{Super}
use Rattle.wb_script.specs.Content.{ScriptContent}
use Rattle.wb_script.specs.declared.transcript.Line.{Line}
use Rattle.wb_tool.specs.declared.command.Command.TheVariants.{Serve, Workload}
use Rattle.wb_tool.specs.declared.command.WorkloadNumbers.{WorkloadNumbers}
use Rattle.wb_tool.specs.Commands.{IsServe, IsWorkload}
use Rattle.wb_tool.specs.Run.{Lent, Run, run_of, lent, IsUntouched}
use Rattle.wb_tool.specs.Served.{Served}
use Rattle.wb_tool.specs.Ends.{Leaves, IsLeftBy, EndsServing}
use Rattle.wb_script.specs.Valid.{IsValid}
use Rattle.wb_tool.specs.declared.running.Begun.{Begun}
use Rattle.wb_tool.specs.declared.running.Stage.{Stage}
use Rattle.wb_tool.specs.declared.running.Stage.TheVariants.{Ended}
use Rattle.wb_tool.specs.declared.running.Stage.TheVariants as stage
use Rattle.wb_tool.specs.Stages.{IsGood}
use Rattle.wb_tool.specs.Workload.{ServedWorkload, script_of, region_of}
use Rattle.wb_tool.specs.Begun.{HoldsScript, IsReady, AnswersFor, HasBegunServing, HasBegunWorkload, HasBegun, IsEndedAt}
use Rattle.wb_tool.specs.Account.{IsAccounted}
use Rattle.wb_tool.proofs.Accounts.{accounted}
use Rattle.wb_tool.proofs.Completeness.{complete}
use Rattle.wb_tool.proofs.Earlier.{are_devices, serve_account, workload_account}
use Rattle.wb_tool.proofs.Sources.{script_leaves}
use Rattle.wb_tool.proofs.Regions.{generated_leaves}

abbrev Known : Type 0
Known = Option (List ℕ)

-- nothing was told behind the judging either
good_behind : (old mid new : Known) (old_faults mid_faults new_faults : ℕ) (before now : State) (sectors : ℕ) (found : Super) → IsGood (lent old mid old_faults mid_faults) before now sectors found
    → IsUntouched (lent mid new mid_faults new_faults) → IsGood (lent old new old_faults new_faults) before now sectors found
good_behind old mid new old_faults mid_faults new_faults before now sectors found good still = record {
  super = good.super;
  ids = good.ids;
  room = good.room;
  faults = good.faults;
  untold = record { bytes = still.bytes ∙ good.untold.bytes; faults = still.faults ∙ good.untold.faults };
}

module _ {L B : Type 0} (of_log : L → State) (of_backing : B → State) (old mid new : Known) (old_faults mid_faults new_faults : ℕ) (log_before : State) (log : L) (backing : B) (found : Super) (begun : Begun L B) where
  -- what was begun has these devices, and nothing was told for it
  abbrev pub IsKept : Type 0
  IsKept = (begun.log ≡ log) × (begun.backing ≡ backing) × IsUntouched (lent mid new mid_faults new_faults)

  ready : IsDevice log_before → IsDevice (of_backing backing) → IsGood (lent old mid old_faults mid_faults) log_before (of_log log) (of_backing backing).sectors found → OnlyRead log_before (of_log log) → IsValid begun.script → IsKept
      → IsReady (lent old new old_faults new_faults) log_before (of_log begun.log) (of_backing backing) found begun.script
  ready on_log on_backing good read valid kept =
      subst (λ (l : L). IsReady (lent old new old_faults new_faults) log_before (of_log l) (of_backing backing) found begun.script) (sym kept.0)
      (record { good = good_behind old mid new old_faults mid_faults new_faults log_before (of_log log) (of_backing backing).sectors found good kept.2; read = read; on_log = on_log; on_backing = on_backing; valid = valid })

  pub script_begun : (source : Lent) → IsDevice log_before → IsDevice (of_backing backing) → IsGood (lent old mid old_faults mid_faults) log_before (of_log log) (of_backing backing).sectors found → OnlyRead log_before (of_log log)
      → HoldsScript found.geometry.backing_sectors source begun.script → IsKept
      → HasBegunServing source (lent old new old_faults new_faults) log_before (of_log begun.log) (of_backing backing) begun.script
  script_begun source on_log on_backing good read holds kept = record { found = found; ready = ready on_log on_backing good read holds.valid kept; holds = holds }

  pub workload_begun : (numbers : WorkloadNumbers) → IsDevice log_before → IsDevice (of_backing backing) → IsGood (lent old mid old_faults mid_faults) log_before (of_log log) (of_backing backing).sectors found → OnlyRead log_before (of_log log)
      → IsValid begun.script × (32 ≤ found.geometry.backing_sectors) × (begun.script ≡ script_of numbers (region_of found.geometry.backing_sectors)) → IsKept
      → HasBegunWorkload numbers (lent old new old_faults new_faults) log_before (of_log begun.log) (of_backing backing) begun.script
  workload_begun numbers on_log on_backing good read (valid, some, made) kept = record { found = found; ready = ready on_log on_backing good read valid kept; some = some; made = made }

pub answers_for : (words : List (List ℕ)) (run : Run) → IsDevice run.before.log → IsAccounted words run → AnswersFor words run
answers_for words run device account = (account, complete words run device account)

-- a run that ended without a session
pub ended_begun : {L B : Type 0} (of_log : L → State) (of_backing : B → State) (words : List (List ℕ)) (source sink : Lent) (log : L) (backing : B) (status : ℕ) (new_log : L) (new_backing : B) (stage : Stage L B)
    → IsDevice (of_log log) → IsEndedAt status new_log new_backing stage → ((in_turn : Bool) → IsAccounted words (run_of in_turn source sink (of_log log) (of_log new_log) (of_backing backing) (of_backing new_backing) status [] 0))
    → HasBegun of_log of_backing words source sink log backing stage
ended_begun of_log of_backing words source sink log backing status new_log new_backing (Ended end) device (status_is, transcripts, places, log_is, backing_is) account =
    λ in_turn. rw (log_is, backing_is, status_is, transcripts, places) (answers_for words _ device (account in_turn))
ended_begun of_log of_backing words source sink log backing status new_log new_backing (stage.Serve begun) device none account = absurd none
ended_begun of_log of_backing words source sink log backing status new_log new_backing (stage.Workload begun numbers) device none account = absurd none

module _ (words : List (List ℕ)) (in_turn : Bool) (source : Lent) (old mid new : Known) (old_faults mid_faults new_faults : ℕ) (script : ScriptContent) (log_before log_now backing log_after backing_after : State)
    (status : ℕ) (transcripts : List (List Line)) (places : ℕ) where
  -- the last stage alone, and the whole run
  abbrev last : Run
  last = run_of in_turn source (lent mid new mid_faults new_faults) log_now log_after backing backing_after status transcripts places

  abbrev whole : Run
  whole = run_of in_turn source (lent old new old_faults new_faults) log_before log_after backing backing_after status transcripts places

  pub answers_accounted : IsServe words → HasBegunServing source (lent old mid old_faults mid_faults) log_before log_now backing script
      → Leaves (EndsServing (Served script) script.sectors) (IsLeftBy script) last → AnswersFor words whole
  answers_accounted form begun leaves =
      let good = begun.ready.good in
      let are = are_devices begun.ready.read begun.ready.on_log begun.ready.on_backing in
      answers_for words whole begun.ready.on_log (accounted Serve words whole form (serve_account log_before _ begun.found _ are good (script_leaves begun.found.geometry.backing_sectors script _ begun.holds (rw (good.untold.bytes, good.untold.faults) at leaves))))

  pub sum_accounted : (numbers : WorkloadNumbers) → IsWorkload numbers words → IsUntouched source
      → HasBegunWorkload numbers (lent old mid old_faults mid_faults) log_before log_now backing script
      → Leaves (EndsServing (ServedWorkload numbers script.sectors) script.sectors) (IsLeftBy script) last → AnswersFor words whole
  sum_accounted numbers form unread begun leaves =
      let good = begun.ready.good in
      let are = are_devices begun.ready.read begun.ready.on_log begun.ready.on_backing in
      answers_for words whole begun.ready.on_log (accounted (Workload numbers) words whole form (record {
        unread = record { bytes = unread.bytes; faults = unread.faults };
        account = workload_account numbers log_before _ begun.found _ are good
            (generated_leaves numbers begun.found.geometry.backing_sectors script _ begun.some begun.made (rw (good.untold.bytes, good.untold.faults) at leaves));
      }))
