-- What closing a front leaves.
use Rattle.std.specs.Prelude.{ℕ, ◌≡◌, ◌+◌, ◌-◌, ◌*◌, ◌/◌, ◌^◌, ◌<◌, ◌≤◌, min, true, List, [], length, slice_get, All, Option, Some, None, IfSome}
use Rattle.wb_geometry.specs.Image.{Image}
use Rattle.wb_geometry.specs.Device.{State, CountsFaultsWhere, NothingPending}
use Rattle.wb_geometry.specs.History.{HistoryEntry, client_of, after, PutsPartly}
use Rattle.wb_geometry.specs.Layout.{places}
use Rattle.wb_geometry.specs.Line.{line_of}
use Rattle.wb_geometry.specs.declared.which.Which.{Which}
use Rattle.wb_geometry.specs.declared.which.Which.TheVariants.{Log, Backing}
use Rattle.wb_super.specs.Superblock.{SuperText, record_of}
use Rattle.wb_crash.specs.Chain.{IsChain}
use Rattle.wb_crash.specs.Crash.{CrashNow}
use Rattle.wb_steps.specs.Faults.{IsPartwiseAtMost}
use Rattle.wb_steps.specs.Views.{IsPrefix, placed}
use Rattle.wb_steps.specs.declared.view.Faults.{Faults}
use Rattle.wb_steps.specs.declared.view.View.{View}
use Rattle.wb_intake.specs.Belongs.{Saw}
use Rattle.wb_intake.specs.Carried.{Carried}
use Rattle.wb_intake.specs.Passes.{pass_name, client_of_pass, view_of}
use Rattle.wb_intake.specs.Sights.{AreAlike}
use Rattle.wb_intake.specs.declared.pass.Pass.{Pass}
use Rattle.wb_engine.specs.Standing.{Told}
use Rattle.wb_front.specs.Words.{faults_of, reads_part, HasFailed, TellsFaults}
use Rattle.wb_front.specs.declared.closing.Finished.{Finished}

-- the id of the last segment that has one of so many places
abbrev pub last_segment : Carried → (taken : ℕ) → ℕ
last_segment t taken = t.first + (taken + places t.geometry - 1) / places t.geometry

-- the passes of all clients, of which there is one at least, in order, none with a place to fill
pub record AreAllPasses (t : Carried) (passes : List Pass) : Type 0 where
  pub some : 1 ≤ t.clients
  pub count : length passes ≡ t.clients
  pub each : (i : ℕ) (p : Pass) → slice_get passes i ≡ Some p → (pass_name p ≡ t.intake) × (client_of_pass p ≡ i) × ((view_of p).unfilled ≡ [])

-- A pass is legal for the history, of which so many places are stable: it knows a beginning, it names just its client's
-- entries, and what it has seen is no more than there is. A device of which it has seen that it failed has failed. The notes
-- that it heard are alike.
pub record IsLegalFor {L B : Type 0} (of_log : L → State) (of_backing : B → State) (t : Carried) (history : List HistoryEntry) (done : ℕ) (f : Finished L B) (v : View) : Type 0 where
  pub known : IsPrefix v.known history
  pub mine : v.mine ≡ placed v.client 0 history
  pub cursor : v.seen.cursor ≤ length history
  pub stable : v.seen.stable ≤ done
  pub log_failed : HasFailed Log v.seen.fault → f.log_failed ≡ true
  pub backing_failed : HasFailed Backing v.seen.fault → f.backing_failed ≡ true
  pub log_reads : min (t.log_faults + reads_part Log v.seen.fault) (2 ^ 64 - 1) ≤ (of_log f.log).faults
  pub backing_reads : min (t.backing_faults + reads_part Backing v.seen.fault) (2 ^ 64 - 1) ≤ (of_backing f.backing).faults
  pub alike : AreAlike v.heard

-- Why a front is closed with this fault, or with none, over devices that then count so many faults, where the fault word told so
-- much once all was drained. By a device by which the engine was down then it is closed, and no device is called; else by the
-- one that fails in the engine's close, whose faults rise.
pub record IsFaultFor (t : Carried) (word : Faults) (fault : Option Which) (log_now backing_now : ℕ) : Type 0 where
  pub down : Option Which
  pub log_before : ℕ
  pub backing_before : ℕ
  pub says : word ≡ faults_of down word.log_reads word.backing_reads
  pub log : TellsFaults Log word t.log_faults log_before
  pub backing : TellsFaults Backing word t.backing_faults backing_before
  pub stays : IfSome down (λ which. (fault ≡ Some which) × (log_now ≡ log_before) × (backing_now ≡ backing_before))
  pub log_fails : down ≡ None → CountsFaultsWhere (fault ≡ Some Log) log_before log_now
  pub backing_fails : down ≡ None → CountsFaultsWhere (fault ≡ Some Backing) backing_before backing_now

-- The history has an entry for each place that was taken, of the clients that there are. What was stable is recovered after any
-- crash now. Where no device failed in a write, a sync or a writeback all of it is on the backing device, and the log has
-- nothing that isn't. The fault is the device by which the engine was or went down, as a fault word tells of which no pass has
-- seen more. The flags say of each device whether its faults rose since the opening.
pub record IsFinished {L B : Type 0} (of_log : L → State) (of_backing : B → State) (t : Carried) (passes : List Pass) (f : Finished L B) : Type 0 where
  pub history : List HistoryEntry
  pub stable : ℕ
  pub taken : f.places ≡ length history
  pub first : f.first ≡ t.first
  pub clients : All (λ e. client_of e < t.clients) history
  pub ids : f.places ≤ places t.geometry * (2 ^ 48 - t.first)
  pub legal : (i : ℕ) (p : Pass) → slice_get passes i ≡ Some p → IsLegalFor of_log of_backing t history stable f (view_of p)
  -- no sector of the base image changes but to what an entry of the history writes
  pub changed : t.log_told ≡ true → t.backing_told ≡ true → (image : Image) × Told (of_backing f.backing) image × PutsPartly history t.base image
  -- recovery makes of whatever a crash now leaves the image after exactly the first segments, up to some segment, which is
  -- none before the last that has a place below a number of stable ones
  pub crash : t.log_told ≡ true → (through : ℕ) → through ≤ stable
      → CrashNow t.geometry (line_of (places t.geometry) t.first t.base history) (last_segment t through) (last_segment t f.places) (of_log f.log) (of_backing f.backing)
  pub content : f.fault ≡ None → t.log_told ≡ true → t.backing_told ≡ true → Told (of_backing f.backing) (after t.base history)
  pub empty : f.fault ≡ None → t.log_told ≡ true → (x : Image) → Told (of_log f.log) x
      → IsChain t.geometry x [] × (record_of x ≡ last_segment t f.places) × SuperText x t.geometry 1
  pub durable : f.fault ≡ None → NothingPending (of_log f.log) × NothingPending (of_backing f.backing)
  pub word : Faults
  pub seen : (i : ℕ) (p : Pass) → slice_get passes i ≡ Some p → IsPartwiseAtMost (view_of p).seen.fault word
  pub fault : IsFaultFor t word f.fault (of_log f.log).faults (of_backing f.backing).faults
  pub log_down : f.fault ≡ Some Log → f.log_failed ≡ true
  pub backing_down : f.fault ≡ Some Backing → f.backing_failed ≡ true
  pub log_cause : CountsFaultsWhere (f.log_failed ≡ true) t.log_faults (of_log f.log).faults
  pub backing_cause : CountsFaultsWhere (f.backing_failed ≡ true) t.backing_faults (of_backing f.backing).faults

-- ---- on the way

-- a pass looked, and so many places are no fewer than it has seen then
pub record IsReached (reached : ℕ) (before now : Pass) : Type 0 where
  pub own : pass_name now ≡ pass_name before
  pub saw : Saw (view_of before) (view_of now)
  pub below : (view_of now).seen.cursor ≤ reached

-- What a pass knows and names is what the drain has of it, and nothing that it has seen is above what the drain has seen and drained.
-- The notes that it heard are alike.
pub record IsShown (drain pass : View) : Type 0 where
  pub known : IsPrefix pass.known drain.known
  pub mine : pass.mine ≡ placed pass.client 0 drain.known
  pub cursor : pass.seen.cursor ≤ length drain.known
  pub stable : pass.seen.stable ≤ drain.seen.stable
  pub fault : IsPartwiseAtMost pass.seen.fault drain.seen.fault
  pub alike : AreAlike pass.heard

-- the drain saw more of the cursor alone
pub record HasLooked (v w : View) : Type 0 where
  pub known : w.known ≡ v.known
  pub stable : w.seen.stable ≡ v.seen.stable
  pub fault : w.seen.fault ≡ v.seen.fault
