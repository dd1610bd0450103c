-- What a session leaves, and how it ends.
use Rattle.std.specs.Prelude.{ℕ, ◌≡◌, ◌⊎◌, Bool, true, false, List, ◌++◌}
use Rattle.wb_geometry.specs.declared.which.Which.TheVariants.{Log, Backing}
use Rattle.wb_super.specs.declared.reading.Super.{Super}
use Rattle.wb_script.specs.Content.{ScriptContent}
use Rattle.wb_script.specs.Output.{session_text}
use Rattle.wb_script.specs.Transcripts.{covered}
use Rattle.wb_serve.specs.Session.{Report, IsSession, AreInTurn}
use Rattle.wb_tool.specs.Run.{Lent, Run, ServesInTurn, Took, EndsTelling}
use Rattle.wb_tool.specs.Texts.{failed_line, spent_line}

-- neither device failed
abbrev pub IsFine : (log_failed backing_failed : Bool) → Type 0
IsFine log_failed backing_failed = (log_failed ≡ false) × (backing_failed ≡ false)

-- The text is told. Or, behind the front, a line where the log device failed, or else the backing device did, or else a write
-- found no id.
abbrev pub EndsSession : (sink : Lent) (status : ℕ) (front text : List ℕ) (places : ℕ) (ids log_failed backing_failed : Bool) → Type 0
EndsSession sink status front text places ids log_failed backing_failed =
    ((log_failed ≡ true) × (status ≡ 6) × Took sink (front ++ failed_line Log))
    ⊎ ((log_failed ≡ false) × (backing_failed ≡ true) × (status ≡ 7) × Took sink (front ++ failed_line Backing))
    ⊎ (IsFine log_failed backing_failed × (ids ≡ true) × (status ≡ 10) × Took sink (front ++ spent_line places))
    ⊎ (IsFine log_failed backing_failed × (ids ≡ false) × EndsTelling sink status text)

-- what a run tells of its session, with these flags
abbrev pub report_by : Run → (ids log_failed backing_failed : Bool) → Report
report_by run ids log_failed backing_failed = record {
  transcripts = run.transcripts;
  taken = run.places;
  covered = covered run.transcripts;
  ids = ids;
  log_failed = log_failed;
  backing_failed = backing_failed;
}

-- A session of this script, which began, and ended by telling this text, or a fault line behind this front. At the statuses
-- 0, 5 and 10 neither device failed, so the whole history is put.
pub record ServedTelling (front text : List ℕ) (script : ScriptContent) (run : Run) : Type 0 where
  pub found : Super
  pub ids : Bool
  pub log_failed : Bool
  pub backing_failed : Bool
  pub session : IsSession found script run.before run.after (report_by run ids log_failed backing_failed)
  -- what its clients leave beside where they were served one after another
  pub turns : ServesInTurn run.in_turn script → AreInTurn found script run.before run.after (report_by run ids log_failed backing_failed) session.history
  pub ends : EndsSession run.sink run.status front text run.places ids log_failed backing_failed

-- The same of a session that tells its answers, which stand before a fault line too.
abbrev pub Served : ScriptContent → Run → Type 0
Served script run =
    let text = session_text script run.transcripts run.places in
    ServedTelling text text script run
