-- How `workload` ends before its session.
use Rattle.std.proofs.Common.{◌≡◌, ◌⊎◌, ◌<◌, ◌≤◌, [], ℕ, refl, sym, ap, subst, ◌∙◌, arith, inl, inr, Bool}
use Rattle.wb_geometry.specs.Device.{State}
use Rattle.wb_geometry.specs.declared.which.Which.TheVariants.{Backing}
use Rattle.wb_geometry.proofs.Moments.{only_read, uncalled}
use Rattle.wb_script.specs.Content.{ScriptContent}
use Rattle.wb_script.specs.Workload.{workload}
use Rattle.wb_tool.specs.declared.command.WorkloadNumbers.{WorkloadNumbers}
use Rattle.wb_tool.specs.Run.{Lent, Run, run_of, Took}
use Rattle.wb_tool.specs.Texts.{small_line}
use Rattle.wb_tool.specs.Ends.{Leaves, IsLeftBy, EndsServing}
use Rattle.wb_tool.specs.Workload.{EndsWorkload, ServedWorkload, IsLeftByWorkload, script_of, region_of}
use Rattle.wb_tool.proofs.Accounts.{faults_kept, status_not_6, either_status}

-- the cache is too small
pub region_leaves : (numbers : WorkloadNumbers) (sectors status : ℕ) (in_turn : Bool) (source sink : Lent) (log backing : State) → sectors < 32
    → (status ≡ 1) ⊎ ((status ≡ 9) × Took sink (small_line Backing sectors 32))
    → Leaves (EndsWorkload numbers sectors) (IsLeftByWorkload numbers sectors) (run_of in_turn source sink log log backing backing status [] 0)
region_leaves numbers sectors status in_turn source sink log backing few ended = record {
  log_faults = λ _. faults_kept status log.faults log.faults (status_not_6 status 9 (λ e. omega arith) (either_status status 9 (Took sink (small_line Backing sectors 32)) ended)) refl;
  backing_faults = λ some _. record {
    later = omega arith;
    failed = elim ended [
      | inl one ↦ λ seven. absurd (some one)
      | inr at ↦ λ seven. absurd (let nine = at.0 in omega arith)
    ];
    kept = λ _. refl;
  };
  wanting = λ _. inl (only_read log, uncalled backing);
  ends = elim ended [
    | inl one ↦ inl one
    | inr at ↦ inr (inl (
      record { no_session = record { transcripts = refl; places = refl }; backing = uncalled backing; log = only_read log },
      record { few = few; ended = at.0; told = at.1 },
    ))
  ];
}

-- there is no memory for its script
pub unmade_leaves : (numbers : WorkloadNumbers) (sectors : ℕ) (in_turn : Bool) (source sink : Lent) (log backing : State)
    → Leaves (EndsWorkload numbers sectors) (IsLeftByWorkload numbers sectors) (run_of in_turn source sink log log backing backing 1 [] 0)
unmade_leaves numbers sectors in_turn source sink log backing = record {
  log_faults = λ some. absurd (some refl);
  backing_faults = λ some. absurd (some refl);
  wanting = λ _. inl (only_read log, uncalled backing);
  ends = inl refl;
}

-- and is served
made_leaves : (numbers : WorkloadNumbers) (sectors : ℕ) (run : Run) → 32 ≤ sectors
    → Leaves (EndsServing (ServedWorkload numbers (region_of sectors)) (region_of sectors)) (IsLeftBy (script_of numbers (region_of sectors))) run
    → Leaves (EndsWorkload numbers sectors) (IsLeftByWorkload numbers sectors) run
made_leaves numbers sectors run some leaves = record {
  log_faults = leaves.log_faults;
  backing_faults = leaves.backing_faults;
  wanting = λ one. inr (leaves.wanting one);
  ends = elim leaves.ends [
    | inl one ↦ inl one
    | inr ends ↦ inr (inr (some, ends))
  ];
}

-- the script that was made is the workload of the region
pub generated_leaves : (numbers : WorkloadNumbers) (sectors : ℕ) (script : ScriptContent) (run : Run) → 32 ≤ sectors → script ≡ script_of numbers (region_of sectors)
    → Leaves (EndsServing (ServedWorkload numbers script.sectors) script.sectors) (IsLeftBy script) run
    → Leaves (EndsWorkload numbers sectors) (IsLeftByWorkload numbers sectors) run
generated_leaves numbers sectors script run some made leaves =
    made_leaves numbers sectors run some (subst (λ (s : ScriptContent). Leaves (EndsServing (ServedWorkload numbers s.sectors) s.sectors) (IsLeftBy s) run) made leaves)

-- so it is the workload of its own sectors
pub made_sectors : (numbers : WorkloadNumbers) (region : ℕ) (script : ScriptContent) → script ≡ script_of numbers region → script ≡ script_of numbers script.sectors
made_sectors numbers region script made = made ∙ ap (workload numbers.seed numbers.count) (sym (ap (λ (s : ScriptContent). s.sectors) made))
