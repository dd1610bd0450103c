-- How `serve` ends from the source on.
use Rattle.std.proofs.Common.{◌≡◌, ◌≢◌, ◌⊎◌, List, [], ℕ, refl, arith, inl, inr, Bool}
use Rattle.wb_geometry.specs.Device.{State}
use Rattle.wb_script.specs.Content.{ScriptContent}
use Rattle.wb_geometry.proofs.Moments.{only_read, uncalled}
use Rattle.wb_script.specs.declared.refusal.Cause.{Cause}
use Rattle.wb_tool.specs.Run.{Lent, Run, run_of, HasFailed, HasNotFailed, Refuses, Took}
use Rattle.wb_tool.specs.Reads.{IsRead}
use Rattle.wb_tool.specs.Texts.{source_line, refused_line}
use Rattle.wb_tool.specs.Served.{Served}
use Rattle.wb_tool.specs.Ends.{Leaves, IsUnbegun, IsLeftBy, EndsServing}
use Rattle.wb_tool.specs.Serve.{EndsReading, IsLeftFrom}
use Rattle.wb_tool.specs.Begun.{HoldsScript}
use Rattle.wb_tool.proofs.Accounts.{faults_kept}

-- nothing was done with the devices, and the status is of no fault
quiet_leaves : (Ends Wants : Run → Type 0) (in_turn : Bool) (source sink : Lent) (log backing : State) (status : ℕ) → status ≢ 6 → status ≢ 7 → status ≢ 1
    → (IsUnbegun (run_of in_turn source sink log log backing backing status [] 0) → Ends (run_of in_turn source sink log log backing backing status [] 0))
    → Leaves Ends Wants (run_of in_turn source sink log log backing backing status [] 0)
quiet_leaves Ends Wants in_turn source sink log backing status not_6 not_7 not_1 ends = record {
  log_faults = λ _. faults_kept status log.faults log.faults not_6 refl;
  backing_faults = λ _ _. record { later = omega arith; failed = λ seven. absurd (not_7 seven); kept = λ _. refl };
  wanting = λ one. absurd (not_1 one);
  ends = inr (ends (record { no_session = record { transcripts = refl; places = refl }; backing = uncalled backing; log = only_read log }));
}

-- the source failed
pub source_leaves : (sectors : ℕ) (in_turn : Bool) (source sink : Lent) (log backing : State) → HasFailed source → Took sink source_line
    → Leaves (EndsReading sectors) (IsLeftFrom sectors) (run_of in_turn source sink log log backing backing 4 [] 0)
source_leaves sectors in_turn source sink log backing failed told =
    quiet_leaves (EndsReading sectors) (IsLeftFrom sectors) in_turn source sink log backing 4 (λ six. omega arith) (λ seven. omega arith) (λ one. omega arith)
    (λ unbegun. inl (unbegun, inl (record { failed = failed; ended = refl; told = told })))

-- the script is refused
pub refusal_leaves : (sectors : ℕ) (in_turn : Bool) (source sink : Lent) (log backing : State) → HasNotFailed source → (line : ℕ) (cause : Cause) → Refuses sectors source line cause
    → Took sink (refused_line line cause) → (bytes : List ℕ) → IsRead source.before source.after bytes
    → Leaves (EndsReading sectors) (IsLeftFrom sectors) (run_of in_turn source sink log log backing backing 3 [] 0)
refusal_leaves sectors in_turn source sink log backing kept line cause why told bytes read =
    quiet_leaves (EndsReading sectors) (IsLeftFrom sectors) in_turn source sink log backing 3 (λ six. omega arith) (λ seven. omega arith) (λ one. omega arith)
    (λ unbegun. inl (
      unbegun,
      inr (record {
        kept = kept;
        bytes = bytes;
        read = read.taken;
        few = read.few;
        line = line;
        cause = cause;
        refused = why;
        ended = refl;
        told = told;
      }),
    ))

scripted_ends : (sectors : ℕ) (script : ScriptContent) (run : Run) → HoldsScript sectors run.source script
    → (run.status ≡ 1) ⊎ EndsServing (Served script) script.sectors run → (run.status ≡ 1) ⊎ EndsReading sectors run
scripted_ends sectors script run holds (inl one) = inl one
scripted_ends sectors script run holds (inr ends) =
    inr (inr (record { kept = holds.kept; script = script; spelled = holds.spelled; valid = holds.valid; made_for = holds.made_for; at_end = holds.at_end; ends = ends }))

-- the source held a script
pub script_leaves : (sectors : ℕ) (script : ScriptContent) (run : Run) → HoldsScript sectors run.source script
    → Leaves (EndsServing (Served script) script.sectors) (IsLeftBy script) run → Leaves (EndsReading sectors) (IsLeftFrom sectors) run
script_leaves sectors script run holds leaves = record {
  log_faults = leaves.log_faults;
  backing_faults = leaves.backing_faults;
  wanting = λ one. inr (script, holds.spelled, leaves.wanting one);
  ends = scripted_ends sectors script run holds leaves.ends;
}
