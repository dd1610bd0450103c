-- What recovery makes of what is left in the course of a call, and at its end.
use Rattle.std.proofs.Common.{ℕ, ◌≡◌, ◌+◌, ◌-◌, ◌<◌, ◌≤◌, List, inr, subst, arith}
use Rattle.wb_geometry.specs.Image.{Image, IsPartlyWritten}
use Rattle.wb_geometry.specs.Device.{State, Passes, LeavesOnly, IsDevice}
use Rattle.wb_geometry.specs.History.{HistoryEntry, PutsPartly}
use Rattle.wb_geometry.specs.Line.{Line, span}
use Rattle.wb_geometry.specs.declared.geometry.Geometry.{Geometry}
use Rattle.wb_super.specs.Recording.{RecordsOrNot}
use Rattle.wb_crash.specs.Chain.{IsRecovered, SumHolds}
use Rattle.wb_crash.specs.Images.{IsOrdered, IsLogImage, IsBackingImage}
use Rattle.wb_crash.specs.Numbers.{trying}
use Rattle.wb_crash.specs.Safety.{IsBackingSafe, IsSafe}
use Rattle.wb_crash.specs.Crash.{RecoversBetween, CrashInCall, CrashNow, IsNextText, WritesAlike}
use Rattle.wb_crash.specs.declared.numbers.Numbers.{Numbers}
use Rattle.wb_crash.proofs.Recover.{recovers}
use Rattle.wb_crash.proofs.Chains.{has_recovered}
use Rattle.wb_crash.proofs.Again.{tidy_log}
use Rattle.wb_crash.proofs.Steps.{ordered_trying, backing_at_trying, kept_leaves, write_leaves, record_leaves, back_leaves}

-- checksums that hold for more segments hold for fewer
pub sums_between : {g : Geometry} {line : Line} {x : Image} {a b c d : ℕ} → SumHolds g line x a d → a ≤ b → c ≤ d → SumHolds g line x b c
sums_between sums low high = record { whole = λ s text from until. sums.whole s text (omega (arith, low, from)) (omega (arith, high, until)) }

pub images_recover : (g : Geometry) (line : Line) (e : Numbers) (low high : ℕ) (x y : Image) → line.first ≡ e.first → IsOrdered g e → low ≤ e.stable → e.tried ≤ high
    → IsLogImage g line e x → IsBackingImage line e y → RecoversBetween g line low high x y
images_recover g line e low high x y start ordered from until logs backs = record {
  super = logs.super;
  tidy = tidy_log g line e x ordered logs;
  makes = λ sums.
      let of_these = sums_between sums from until in
      let made = has_recovered g line e x y logs of_these in
      let cut = recovers g line e x y start ordered logs backs of_these made.0 made.1 in
      (cut.0, omega (arith, from, cut.1), omega (arith, until, cut.2), subst (IsRecovered g x y) cut.3 made.1);
}

-- where each image that either device leaves in the course of a call is one of an engine with these numbers
pub call_word : {g : Geometry} {line : Line} {log new_log backing new_backing : State} (e : Numbers) (low high : ℕ) → line.first ≡ e.first → IsOrdered g e → low ≤ e.stable → e.tried ≤ high
    → LeavesOnly (IsLogImage g line e) log new_log → LeavesOnly (IsBackingImage line e) backing new_backing → CrashInCall g line low high log new_log backing new_backing
call_word {g} {line} e low high start ordered from until logs backs =
    record { each = λ x y left left_back. images_recover g line e low high x y start ordered from until (logs.each x left) (backs.each y left_back) }

-- where the backing device isn't called
stays_leaves : {line : Line} {e : Numbers} {backing : State} → IsDevice backing → IsBackingSafe line e backing → LeavesOnly (IsBackingImage line e) backing backing
stays_leaves device safe = record { each = λ y left. safe.shown y (inr (device.only_now y left)) }

-- a sync of the log, and any other call of it that leaves what was left before
pub sync_log_word : {g : Geometry} {line : Line} {e : Numbers} {log backing new : State} → IsSafe g line e log backing → IsDevice log → IsDevice backing
    → Passes (λ x y. y ≡ x) log new → CrashInCall g line e.stable e.tried log new backing backing
sync_log_word {e = e} safe log_device device pass =
    call_word e e.stable e.tried safe.start safe.ordered (omega arith) (omega arith) (kept_leaves safe.on_log log_device pass) (stays_leaves device safe.on_backing)

-- a write of the next segment to the log
pub log_next_word : {g : Geometry} {line : Line} {e : Numbers} {log backing new : State} {at : ℕ} {text : Image} → IsNextText g line e at text → IsSafe g line e log backing
    → IsDevice log → IsDevice backing → e.tried ≡ e.logged → e.tried < e.sealed → Passes (IsPartlyWritten at text) log new
    → CrashInCall g line e.stable (e.tried + 1) log new backing backing
log_next_word {e = e} next safe log_device device up sealed pass =
    call_word (trying e) e.stable (e.tried + 1) safe.start (ordered_trying safe.ordered up sealed next.room) (omega arith) (omega arith) (write_leaves next safe.ordered safe.on_log log_device pass)
    (stays_leaves device (backing_at_trying safe.on_backing))

-- a write of the record
pub put_record_word : {g : Geometry} {line : Line} {e : Numbers} {log backing new : State} → IsSafe g line e log backing → IsDevice log → IsDevice backing
    → Passes (RecordsOrNot e.back) log new → CrashInCall g line e.stable e.tried log new backing backing
put_record_word {e = e} safe log_device device pass =
    call_word e e.stable e.tried safe.start safe.ordered (omega arith) (omega arith) (record_leaves safe.ordered safe.on_log log_device pass) (stays_leaves device safe.on_backing)

-- writing segments back, for which the log is read
pub back_batch_word : {g : Geometry} {line : Line} {e : Numbers} {log new_log backing new : State} (k : ℕ) (entries : List HistoryEntry) → IsSafe g line e log backing → e.back ≤ k → k ≤ e.stable
    → WritesAlike entries (span line.list e.back (k - e.back)) → IsDevice log → IsDevice backing → Passes (λ x y. y ≡ x) log new_log → Passes (PutsPartly entries) backing new
    → CrashInCall g line e.stable e.tried log new_log backing new
back_batch_word {e = e} k entries safe from until alike log_device device log_pass pass =
    call_word e e.stable e.tried safe.start safe.ordered (omega arith) (omega arith) (kept_leaves safe.on_log log_device log_pass)
    (back_leaves k entries safe.ordered safe.on_backing from until alike device pass)

-- At an exit of any call, for the numbers of an engine there: from `low`, which may be an earlier engine's stable number,
-- to `high`.
pub exit_crash : {g : Geometry} {line : Line} {e : Numbers} {log backing : State} (low high : ℕ) → IsSafe g line e log backing → low ≤ e.stable → e.tried ≤ high
    → CrashNow g line low high log backing
exit_crash {g} {line} {e} {log} {backing} low high safe from until =
    record { each = λ x y log_now now. images_recover g line e low high x y safe.start safe.ordered from until (safe.on_log.shown x (inr log_now)) (safe.on_backing.shown y (inr now)) }
