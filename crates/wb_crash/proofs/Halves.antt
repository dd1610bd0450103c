-- The steps keep an engine safe: of each, the half of the device that it calls, and the other half as it follows the numbers.
use Rattle.std.proofs.Common.{ℕ, ◌≡◌, ◌-◌, ◌<◌, ◌≤◌, List}
use Rattle.wb_geometry.specs.Image.{Image, overlay, IsPartlyWritten}
use Rattle.wb_geometry.specs.Device.{State, NothingPending, Passes, ContentPasses}
use Rattle.wb_geometry.specs.History.{HistoryEntry, after, PutsPartly}
use Rattle.wb_geometry.specs.Line.{Line, span}
use Rattle.wb_geometry.specs.declared.geometry.Geometry.{Geometry}
use Rattle.wb_super.specs.Recording.{Records, RecordsOrNot}
use Rattle.wb_crash.specs.Numbers.{trying, written, synced, put_up_to, recording}
use Rattle.wb_crash.specs.Safety.{IsLogSafe, IsBackingSafe, IsSafe}
use Rattle.wb_crash.specs.Crash.{IsNextText, WritesAlike}
use Rattle.wb_crash.specs.declared.numbers.Numbers.{Numbers}
use Rattle.wb_crash.proofs.Steps.{
  ordered_trying,
  ordered_written,
  ordered_synced,
  ordered_put,
  ordered_recording,
  log_kept,
  backing_kept,
  log_synced,
  backing_at_sync,
  log_tried,
  backing_at_trying,
  log_wrote,
  backing_at_written,
  record_tried,
  record_put,
  backing_at_record,
  back_tried,
  put_back,
  log_at_back,
}

-- ---- the numbers stay

-- the log is another one, which is safe too
pub with_log : {g : Geometry} {line : Line} {e : Numbers} {log backing new : State} → IsSafe g line e log backing → IsLogSafe g line e new → IsSafe g line e new backing
with_log safe on_log = record { ordered = safe.ordered; start = safe.start; on_log = on_log; on_backing = safe.on_backing }

-- the backing device is
pub with_backing : {g : Geometry} {line : Line} {e : Numbers} {log backing new : State} → IsSafe g line e log backing → IsBackingSafe line e new → IsSafe g line e log new
with_backing safe on_backing = record { ordered = safe.ordered; start = safe.start; on_log = safe.on_log; on_backing = on_backing }

-- a read of the log, or a sync of it that isn't answered `Ok`
pub safe_log_kept : {g : Geometry} {line : Line} {e : Numbers} {log backing new : State} → IsSafe g line e log backing
    → Passes (λ x y. y ≡ x) log new → new.content ≡ log.content → IsSafe g line e new backing
safe_log_kept safe pass kept = with_log safe (log_kept safe.on_log pass kept)

-- a read of the backing device, or a sync of it that isn't answered `Ok`
pub safe_backing_kept : {g : Geometry} {line : Line} {e : Numbers} {log backing new : State} → IsSafe g line e log backing
    → Passes (λ x y. y ≡ x) backing new → new.content ≡ backing.content → IsSafe g line e log new
safe_backing_kept safe pass kept = with_backing safe (backing_kept safe.on_backing pass kept)

-- a write of the record, however it ends
pub safe_record_tried : {g : Geometry} {line : Line} {e : Numbers} {log backing new : State} → IsSafe g line e log backing
    → Passes (RecordsOrNot e.back) log new → ContentPasses (RecordsOrNot e.back) log new → IsSafe g line e new backing
safe_record_tried safe pass content = with_log safe (record_tried safe.ordered safe.on_log pass content)

-- writing segments back, however it ends
pub safe_back_tried : {g : Geometry} {line : Line} {e : Numbers} {log backing new : State} (k : ℕ) (entries : List HistoryEntry) → IsSafe g line e log backing → e.back ≤ k → k ≤ e.stable
    → WritesAlike entries (span line.list e.back (k - e.back))
    → Passes (PutsPartly entries) backing new → ContentPasses (PutsPartly entries) backing new → IsSafe g line e log new
safe_back_tried k entries safe from until alike pass content = with_backing safe (back_tried k entries safe.ordered safe.on_backing from until alike pass content)

-- ---- the numbers move

-- a sync of the log that is answered `Ok`
pub safe_synced : {g : Geometry} {line : Line} {e : Numbers} {log backing new : State} → IsSafe g line e log backing → e.tried ≡ e.logged
    → NothingPending new → new.content ≡ log.content → IsSafe g line (synced e) new backing
safe_synced safe up nothing kept = record {
  ordered = ordered_synced safe.ordered;
  start = safe.start;
  on_log = log_synced safe.ordered up safe.on_log nothing kept;
  on_backing = backing_at_sync safe.ordered safe.on_backing;
}

-- a write of the next segment to the log, however it ends
pub safe_tried : {g : Geometry} {line : Line} {e : Numbers} {log backing new : State} {at : ℕ} {text : Image} → IsNextText g line e at text → IsSafe g line e log backing
    → e.tried ≡ e.logged → e.tried < e.sealed → Passes (IsPartlyWritten at text) log new → ContentPasses (IsPartlyWritten at text) log new
    → IsSafe g line (trying e) new backing
safe_tried next safe up sealed pass content = record {
  ordered = ordered_trying safe.ordered up sealed next.room;
  start = safe.start;
  on_log = log_tried next safe.ordered up safe.on_log pass content;
  on_backing = backing_at_trying safe.on_backing;
}

-- where it is answered `Ok`
pub safe_wrote : {g : Geometry} {line : Line} {e : Numbers} {log backing new : State} {at : ℕ} {text : Image} → IsNextText g line e at text → IsSafe g line e log backing
    → e.tried ≡ e.logged → e.tried < e.sealed → Passes (IsPartlyWritten at text) log new → ContentPasses (λ x y. y ≡ overlay at text x) log new
    → IsSafe g line (written e) new backing
safe_wrote next safe up sealed pass content = record {
  ordered = ordered_written safe.ordered up sealed next.room;
  start = safe.start;
  on_log = log_wrote next safe.ordered up safe.on_log pass content;
  on_backing = backing_at_written safe.on_backing;
}

-- a write of the record that is answered `Ok`
pub safe_recorded : {g : Geometry} {line : Line} {e : Numbers} {log backing new : State} → IsSafe g line e log backing
    → NothingPending new → ContentPasses (Records e.back) log new → IsSafe g line (recording e) new backing
safe_recorded safe nothing content = record {
  ordered = ordered_recording safe.ordered;
  start = safe.start;
  on_log = record_put safe.ordered safe.on_log nothing content;
  on_backing = backing_at_record safe.ordered safe.on_backing;
}

-- segments are written back, which is answered `Ok`
pub safe_back : {g : Geometry} {line : Line} {e : Numbers} {log backing new : State} (k : ℕ) (entries : List HistoryEntry) → IsSafe g line e log backing → e.back ≤ k → k ≤ e.stable
    → WritesAlike entries (span line.list e.back (k - e.back))
    → NothingPending new → ContentPasses (λ x y. y ≡ after x entries) backing new → IsSafe g line (put_up_to k e) log new
safe_back k entries safe from until alike nothing content = record {
  ordered = ordered_put k safe.ordered from until;
  start = safe.start;
  on_log = log_at_back k from safe.on_log;
  on_backing = put_back k entries safe.start safe.ordered safe.on_backing from until alike nothing content;
}
