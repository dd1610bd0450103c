-- The log is synced.
use Rattle.std.proofs.Common.{◌≡◌, List, Some, None, IsSome, inl, refl, sym, ◌∙◌, subst}
use Rattle.wb_geometry.specs.Image.{Image}
use Rattle.wb_geometry.specs.Device.{State, Passes, NothingPending, IsSameDevice, IsDevice}
use Rattle.wb_geometry.specs.History.{HistoryEntry}
use Rattle.wb_geometry.specs.declared.which.Which.TheVariants.{Log}
use Rattle.wb_crash.specs.Numbers.{synced}
use Rattle.wb_crash.proofs.Shown.{shown_before, shown_content}
use Rattle.wb_crash.proofs.Halves.{safe_synced, safe_log_kept}
use Rattle.wb_crash.proofs.Crash.{sync_log_word}
use Rattle.wb_memory.specs.Memory.{MemoryContent}
use Rattle.wb_engine.specs.Content.{EngineContent, IsEngine}
use Rattle.wb_engine.specs.Standing.{Standing}
use Rattle.wb_engine.specs.Stepping.{IsStep}
use Rattle.wb_engine.proofs.Records.{record_up}
use Rattle.wb_engine.proofs.Steps.{IsStepTo, standing_to, step_on_log, failed_step}

-- the log's content stays, and what a crash leaves comes from what one left
module _ {L B : Type 0} {of_log : L → State} {of_backing : B → State} (old new : EngineContent L B) (l : L) (is : IsEngine of_log of_backing old) (up : old.down ≡ None) (memory : new.memory ≡ old.memory)
    (content : (of_log l).content ≡ (of_log old.log).content) (pass : Passes (λ x y. y ≡ x) (of_log old.log) (of_log l)) (same : IsSameDevice (of_log old.log) (of_log l)) (log_device : IsDevice (of_log old.log))
    (backing_device : IsDevice (of_backing old.backing)) where
  level : old.numbers.tried ≡ old.numbers.logged
  level = is.up up

  -- ---- it is answered `Ok`

  standing_synced : IsStepTo old new l (synced old.numbers) None → NothingPending (of_log l) → (base : Image) (history : List HistoryEntry)
      → Standing of_log of_backing old base history → Standing of_log of_backing new base history
  standing_synced to nothing base history stands =
      standing_to old new l (synced old.numbers) None base history to
      (subst (λ (m : MemoryContent). Standing of_log of_backing (record {
        geometry = old.geometry;
        numbers = synced old.numbers;
        absorbed = old.absorbed;
        down = None;
        log = l;
        backing = old.backing;
        memory = m;
      }) base history)
      (sym memory) (record {
        told = subst IsSome (sym content) stands.told;
        places = stands.places;
        memory = stands.memory;
        logged = stands.logged;
        safe = safe_synced stands.safe level nothing content;
        record_is = λ x shows. inl (record_up stands up x (inl (sym content ∙ shown_content nothing x shows)));
      }))

  pub synced_step : IsStepTo old new l (synced old.numbers) None → NothingPending (of_log l) → IsStep of_log of_backing old new
  synced_step to nothing =
      step_on_log old new l (synced old.numbers) None to refl refl is.ordered.stable same (standing_synced to nothing)
      (λ was. record { written_back = λ _. was.written_back up; written = λ _ _. nothing })
      (λ base history stands. sync_log_word stands.safe log_device backing_device pass)

  -- ---- it isn't

  pub unsynced_step : IsStepTo old new l old.numbers (Some Log) → IsStep of_log of_backing old new
  unsynced_step to =
      failed_step old new old.numbers.tried l to memory same (subst IsSome (sym content)) (λ base history stands. safe_log_kept stands.safe pass content)
      (λ base history stands x shows. inl (record_up stands up x (shown_before pass content x shows)))
      (λ base history stands. sync_log_word stands.safe log_device backing_device pass)
