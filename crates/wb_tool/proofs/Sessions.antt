-- How the last stage of a command ends with a session.
use Rattle.std.proofs.Common.{◌≡◌, ◌≢◌, ◌⊎◌, List, ℕ, Bool, true, false, sym, ◌∙◌, arith, inl, inr}
use Rattle.wb_geometry.specs.Device.{CountsFaultsWhere}
use Rattle.wb_super.specs.declared.reading.Super.{Super}
use Rattle.wb_script.specs.Content.{ScriptContent}
use Rattle.wb_serve.specs.Session.{Report, IsSession, AreInTurn}
use Rattle.wb_serve.proofs.Servings.{cut_nowhere}
use Rattle.wb_tool.specs.Run.{Lent, Run, ServesInTurn, EndsTelling}
use Rattle.wb_tool.specs.Served.{EndsSession, ServedTelling, report_by}
use Rattle.wb_tool.specs.Ends.{Leaves, IsLeftBy, EndsServing}
use Rattle.wb_tool.proofs.Accounts.{telling_not_6}

-- faults are counted where either happened
pub counts_same : (A B : Type 0) (before now : ℕ) → (A → B) → (B → A) → CountsFaultsWhere A before now → CountsFaultsWhere B before now
counts_same A B before now to back counts = record { later = counts.later; failed = λ b. counts.failed (back b); kept = λ none. counts.kept (λ a. none (to a)) }

apart : (b : Bool) (P : Type 0) → b ≡ true → b ≡ false → P
apart b P is not = absurd (let both : true ≡ false = sym is ∙ not in cc)

telling_not_7 : (sink : Lent) (status : ℕ) (text : List ℕ) → EndsTelling sink status text → status ≢ 7
telling_not_7 sink status text (inl done) seven = absurd (omega (arith, done.0))
telling_not_7 sink status text (inr cut) seven = absurd (omega (arith, cut.0))

log_at_6 : (sink : Lent) (status : ℕ) (front text : List ℕ) (places : ℕ) (ids log_failed backing_failed : Bool)
    → (status ≡ 1) ⊎ EndsSession sink status front text places ids log_failed backing_failed → status ≡ 6 → log_failed ≡ true
log_at_6 sink status front text places ids log_failed backing_failed (inl one) six = absurd (omega arith)
log_at_6 sink status front text places ids log_failed backing_failed (inr (inl (failed, at, took))) six = failed
log_at_6 sink status front text places ids log_failed backing_failed (inr (inr (inl (fine, failed, seven, took)))) six = absurd (omega arith)
log_at_6 sink status front text places ids log_failed backing_failed (inr (inr (inr (inl (fine, spent, ten, took))))) six = absurd (omega arith)
log_at_6 sink status front text places ids log_failed backing_failed (inr (inr (inr (inr (fine, left, telling))))) six = absurd (telling_not_6 sink status text telling six)

log_is_6 : (sink : Lent) (status : ℕ) (front text : List ℕ) (places : ℕ) (ids log_failed backing_failed : Bool) → status ≢ 1
    → (status ≡ 1) ⊎ EndsSession sink status front text places ids log_failed backing_failed → log_failed ≡ true → status ≡ 6
log_is_6 sink status front text places ids log_failed backing_failed some (inl one) is = absurd (some one)
log_is_6 sink status front text places ids log_failed backing_failed some (inr (inl (failed, at, took))) is = at
log_is_6 sink status front text places ids log_failed backing_failed some (inr (inr (inl (fine, failed, seven, took)))) is = apart log_failed (status ≡ 6) is fine
log_is_6 sink status front text places ids log_failed backing_failed some (inr (inr (inr (inl (fine, spent, ten, took))))) is = apart log_failed (status ≡ 6) is fine.0
log_is_6 sink status front text places ids log_failed backing_failed some (inr (inr (inr (inr (fine, left, telling))))) is = apart log_failed (status ≡ 6) is fine.0

backing_at_7 : (sink : Lent) (status : ℕ) (front text : List ℕ) (places : ℕ) (ids log_failed backing_failed : Bool)
    → (status ≡ 1) ⊎ EndsSession sink status front text places ids log_failed backing_failed → status ≡ 7 → backing_failed ≡ true
backing_at_7 sink status front text places ids log_failed backing_failed (inl one) seven = absurd (omega arith)
backing_at_7 sink status front text places ids log_failed backing_failed (inr (inl (failed, at, took))) seven = absurd (omega arith)
backing_at_7 sink status front text places ids log_failed backing_failed (inr (inr (inl (fine, failed, at, took)))) seven = failed
backing_at_7 sink status front text places ids log_failed backing_failed (inr (inr (inr (inl (fine, spent, ten, took))))) seven = absurd (omega arith)
backing_at_7 sink status front text places ids log_failed backing_failed (inr (inr (inr (inr (fine, left, telling))))) seven = absurd (telling_not_7 sink status text telling seven)

backing_is_7 : (sink : Lent) (status : ℕ) (front text : List ℕ) (places : ℕ) (ids log_failed backing_failed : Bool) → status ≢ 1 → status ≢ 6
    → (status ≡ 1) ⊎ EndsSession sink status front text places ids log_failed backing_failed → backing_failed ≡ true → status ≡ 7
backing_is_7 sink status front text places ids log_failed backing_failed some other (inl one) is = absurd (some one)
backing_is_7 sink status front text places ids log_failed backing_failed some other (inr (inl (failed, at, took))) is = absurd (other at)
backing_is_7 sink status front text places ids log_failed backing_failed some other (inr (inr (inl (fine, failed, at, took)))) is = at
backing_is_7 sink status front text places ids log_failed backing_failed some other (inr (inr (inr (inl (fine, spent, ten, took))))) is = apart backing_failed (status ≡ 7) is fine.1
backing_is_7 sink status front text places ids log_failed backing_failed some other (inr (inr (inr (inr (fine, left, telling))))) is = apart backing_failed (status ≡ 7) is fine.1

module _ (front text : List ℕ) (script : ScriptContent) (run : Run) (found : Super) (ids log_failed backing_failed : Bool) where
  abbrev told : Report
  told = report_by run ids log_failed backing_failed

  session_ends : (Ends : Run → Type 0) → (ServedTelling front text script run → Ends run) → (session : IsSession found script run.before run.after told)
      → (ServesInTurn run.in_turn script → AreInTurn found script run.before run.after told session.history)
      → (run.status ≡ 1) ⊎ EndsSession run.sink run.status front text run.places ids log_failed backing_failed → (run.status ≡ 1) ⊎ EndsServing Ends script.sectors run
  session_ends Ends served session turns (inl one) = inl one
  session_ends Ends served session turns (inr ends) =
      inr (inr (inr (served (record { found = found; ids = ids; log_failed = log_failed; backing_failed = backing_failed; session = session; turns = turns; ends = ends }))))

  pub session_leaves : (Ends : Run → Type 0) → (ServedTelling front text script run → Ends run) → (session : IsSession found script run.before run.after told)
      → (ServesInTurn run.in_turn script → AreInTurn found script run.before run.after told session.history)
      → (run.status ≡ 1) ⊎ EndsSession run.sink run.status front text run.places ids log_failed backing_failed → Leaves (EndsServing Ends script.sectors) (IsLeftBy script) run
  session_leaves Ends served session turns ends = record {
    log_faults = λ some. counts_same (log_failed ≡ true) (run.status ≡ 6) run.before.log.faults run.after.log.faults
        (log_is_6 run.sink run.status front text run.places ids log_failed backing_failed some ends) (log_at_6 run.sink run.status front text run.places ids log_failed backing_failed ends) session.leaves.log_cause;
    backing_faults = λ some other. counts_same (backing_failed ≡ true) (run.status ≡ 7) run.before.backing.faults run.after.backing.faults
        (backing_is_7 run.sink run.status front text run.places ids log_failed backing_failed some other ends)
        (backing_at_7 run.sink run.status front text run.places ids log_failed backing_failed ends) session.leaves.backing_cause;
    wanting = λ is. inr (inr (inl (found, cut_nowhere session)));
    ends = session_ends Ends served session turns ends;
  }
