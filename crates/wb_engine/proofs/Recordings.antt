-- The record is written: what is written back needn't be read again.
use Rattle.std.proofs.Common.{ℕ, ◌≡◌, ◌+◌, ◌-◌, ◌<◌, ◌≤◌, List, ◌∷◌, ◌++◌, [], length, drop, Some, None, inl, inr, refl, ap, ◌∙◌, sym, subst, arith}
use Rattle.wb_geometry.specs.Image.{Image}
use Rattle.wb_geometry.specs.Device.{State, Passes, ContentPasses, NothingPending, IsSameDevice, IsDevice}
use Rattle.wb_geometry.specs.History.{HistoryEntry}
use Rattle.wb_geometry.specs.declared.which.Which.TheVariants.{Log}
use Rattle.wb_header.specs.Segments.{Segment}
use Rattle.wb_header.specs.declared.sealed.Meta.{Meta}
use Rattle.wb_super.specs.Superblock.{record_of}
use Rattle.wb_super.specs.Recording.{Records, RecordsOrNot}
use Rattle.wb_log.specs.Kept.{metas_at}
use Rattle.wb_log.proofs.Metas.{metas_behind}
use Rattle.wb_crash.specs.Numbers.{recording}
use Rattle.wb_crash.specs.Safety.{Shows}
use Rattle.wb_crash.proofs.Shown.{shown_from, shown_content}
use Rattle.wb_crash.proofs.Halves.{safe_record_tried, safe_recorded}
use Rattle.wb_crash.proofs.Crash.{put_record_word}
use Rattle.wb_memory.specs.Memory.{MemoryContent, live}
use Rattle.wb_engine.specs.Content.{EngineContent, IsEngine}
use Rattle.wb_engine.specs.Standing.{Standing, IsListed, line}
use Rattle.wb_engine.specs.Stepping.{IsStep}
use Rattle.wb_engine.proofs.Held.{AreHeld}
use Rattle.wb_engine.proofs.Records.{IsOldOrNext, record_up}
use Rattle.wb_engine.proofs.Steps.{IsStepTo, standing_to, step_on_log, failed_step, still_told}
use Rattle.wb_engine.proofs.Logging.{logged_there}

-- the segments up to one are forgotten of those in the log, and those in memory stay
pub record AreForgotten (id : ℕ) (old new : MemoryContent) : Type 0 where
  pub sealed : new.sealed ≡ old.sealed
  pub current : new.current ≡ old.current
  pub kept : new.logged.kept ≡ drop (id + 1 - old.logged.first) old.logged.kept
  pub last : new.logged.first + length new.logged.kept ≡ old.logged.first + length old.logged.kept

live_kept : (id : ℕ) (old new : MemoryContent) → AreForgotten id old new → live new ≡ live old
live_kept id old new forgotten =
    ap (λ (segments : List Segment). segments ++ new.current ∷ []) forgotten.sealed ∙ ap (λ (current : Segment). old.sealed ++ current ∷ []) forgotten.current

-- the log has the record, or may have it
module _ {L B : Type 0} {of_log : L → State} {of_backing : B → State} (old new : EngineContent L B) (l : L) (is : IsEngine of_log of_backing old) (up : old.down ≡ None) (pass : Passes (RecordsOrNot old.numbers.back) (of_log old.log) (of_log l))
    (same : IsSameDevice (of_log old.log) (of_log l)) (log_device : IsDevice (of_log old.log)) (backing_device : IsDevice (of_backing old.backing)) where
  -- ---- it is answered `Ok`

  -- what is kept of the segments behind the record stands for them
  listed : (m : MemoryContent) (list : ℕ → List HistoryEntry) → AreForgotten old.numbers.back old.memory m
      → ((s : ℕ) → old.numbers.recorded < s → s ≤ old.numbers.logged → IsListed (metas_at old.memory.logged s) (list s))
      → (s : ℕ) → old.numbers.back < s → s ≤ old.numbers.logged → IsListed (metas_at m.logged s) (list s)
  listed m list forgotten was s low high =
      let above : old.numbers.recorded < s = omega (arith, low, is.ordered.recorded) in
      let there = metas_behind old.memory.logged m.logged old.numbers.back s forgotten.kept forgotten.last (logged_there old s is above high) low in
      subst (λ (metas : List Meta). IsListed metas (list s)) (sym there.1) (was s above high)

  standing_recorded : IsStepTo old new l (recording old.numbers) None → AreForgotten old.numbers.back old.memory new.memory → ContentPasses (Records old.numbers.back) (of_log old.log) (of_log l) → NothingPending (of_log l)
      → (base : Image) (history : List HistoryEntry) → Standing of_log of_backing old base history → Standing of_log of_backing new base history
  standing_recorded to forgotten content nothing base history stands =
      standing_to old new l (recording old.numbers) None base history to (record {
        told = still_told content stands.told;
        places = stands.places;
        memory = subst (AreHeld (line old base history).list) (sym (live_kept old.numbers.back old.memory new.memory forgotten)) stands.memory;
        logged = listed new.memory (line old base history).list forgotten stands.logged;
        safe = safe_recorded stands.safe nothing content;
        record_is = λ y shows. inl (content.from y (shown_content nothing y shows)).2.number;
      })

  pub recorded_step : IsStepTo old new l (recording old.numbers) None → AreForgotten old.numbers.back old.memory new.memory → ContentPasses (Records old.numbers.back) (of_log old.log) (of_log l) → NothingPending (of_log l)
      → IsStep of_log of_backing old new
  recorded_step to forgotten content nothing =
      step_on_log old new l (recording old.numbers) None to refl refl (omega arith) same (standing_recorded to forgotten content nothing)
      (λ was. record { written_back = λ _. was.written_back up; written = λ _ _. nothing })
      (λ base history stands. put_record_word stands.safe log_device backing_device pass)

  -- ---- it isn't

  -- the record is the old one, or that of the write
  old_or_next : ContentPasses (RecordsOrNot old.numbers.back) (of_log old.log) (of_log l) → (base : Image) (history : List HistoryEntry) → Standing of_log of_backing old base history
      → (y : Image) → Shows (of_log l) y → IsOldOrNext old.numbers y
  old_or_next content base history stands y shows =
      let was = shown_from pass content y shows in
      elim was.2 [
        | inl same ↦ inl (ap record_of same ∙ record_up stands up was.0 was.1)
        | inr records ↦ inr records.number
      ]

  pub unrecorded_step : IsStepTo old new l old.numbers (Some Log) → new.memory ≡ old.memory → ContentPasses (RecordsOrNot old.numbers.back) (of_log old.log) (of_log l) → IsStep of_log of_backing old new
  unrecorded_step to memory content =
      failed_step old new old.numbers.tried l to memory same (still_told content) (λ base history stands. safe_record_tried stands.safe pass content)
      (old_or_next content)
      (λ base history stands. put_record_word stands.safe log_device backing_device pass)
