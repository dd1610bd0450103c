-- What a front that was closed leaves of the devices, as it is said of a session.
use Rattle.std.proofs.Common.{ℕ, ◌≡◌, ◌+◌, ◌-◌, ◌*◌, ◌/◌, ◌^◌, ◌<◌, ◌≤◌, Bool, true, false, List, [], length, Option, Some, None, refl, ap, sym, ◌∙◌, subst, arith}
use Rattle.std.specs.Prelude.{All, IsSome}
use Rattle.wb_geometry.specs.Image.{Image}
use Rattle.wb_geometry.specs.History.{HistoryEntry, client_of, after, PutsPartly}
use Rattle.wb_geometry.specs.Layout.{places}
use Rattle.wb_geometry.specs.Line.{line_of}
use Rattle.wb_geometry.specs.Device.{State, CountsFaultsWhere}
use Rattle.wb_geometry.specs.declared.geometry.Geometry.{Geometry}
use Rattle.wb_geometry.specs.declared.which.Which.{Which}
use Rattle.wb_geometry.specs.declared.which.Which.TheVariants.{Log, Backing}
use Rattle.wb_super.specs.Superblock.{record_of}
use Rattle.wb_super.specs.declared.reading.Super.{Super}
use Rattle.wb_crash.specs.Chain.{IsChain}
use Rattle.wb_crash.specs.Crash.{CrashNow}
use Rattle.wb_intake.specs.Carried.{Carried}
use Rattle.wb_intake.specs.declared.pass.Pass.{Pass}
use Rattle.wb_engine.specs.Opening.{recovered_to}
use Rattle.wb_front.specs.Closing.{IsFinished}
use Rattle.wb_front.specs.declared.closing.Finished.{Finished}
use Rattle.wb_script.specs.Content.{ScriptContent}
use Rattle.wb_serve.specs.Session.{Devices, devices, IsBase, SessionLeaves, covered_segment, last_segment}
use Rattle.wb_threads.specs.Threads.{BeginsFrom, HasEndedEarly, IsLeftEarly}

-- where neither flag says that a device failed there is no fault
no_fault : (fault : Option Which) (log_failed backing_failed : Bool) → (fault ≡ Some Log → log_failed ≡ true) → (fault ≡ Some Backing → backing_failed ≡ true)
    → log_failed ≡ false → backing_failed ≡ false → fault ≡ None
no_fault None log_failed backing_failed log backing log_fine fine = refl
no_fault (Some Log) log_failed backing_failed log backing log_fine fine = absurd (let both : true ≡ false = sym (log refl) ∙ log_fine in cc)
no_fault (Some Backing) log_failed backing_failed log backing log_fine fine = absurd (let both : true ≡ false = sym (backing refl) ∙ fine in cc)

module _ {L B : Type 0} (of_log : L → State) (of_backing : B → State) (found : Super) (script : ScriptContent) (before : Devices) (t : Carried) (passes : List Pass) (f : Finished L B)
    (begins : BeginsFrom found script before t) (closed : IsFinished of_log of_backing t passes f) where
  abbrev h : List HistoryEntry
  h = closed.history

  fine : f.log_failed ≡ false → f.backing_failed ≡ false → f.fault ≡ None
  fine = no_fault f.fault f.log_failed f.backing_failed closed.log_down closed.backing_down

  changed : (base : Image) → IsBase found before base → (image : Image) × ((of_backing f.backing).content ≡ Some image) × PutsPartly h base image
  changed base is =
      let told = begins.based base is in
      let by = closed.changed told.0 told.1 in
      (by.0, by.1, subst (λ (image : Image). PutsPartly h image by.0) told.2 by.2)

  crash : (through : ℕ) → through ≤ closed.stable → (base : Image) → IsBase found before base
      → CrashNow found.geometry (line_of (places found.geometry) (recovered_to found) base h) (covered_segment found through) (last_segment found f.places) (of_log f.log) (of_backing f.backing)
  crash through low base is =
      let told = begins.based base is in
      let Recovers : Geometry × ℕ × Image → Type 0 = λ x.
      CrashNow x.0 (line_of (places x.0) x.1 x.2 h) (x.1 + (through + places x.0 - 1) / places x.0) (x.1 + (f.places + places x.0 - 1) / places x.0) (of_log f.log) (of_backing f.backing) in
      subst Recovers (λ i. (begins.geometry i, begins.first i, told.2 i)) (closed.crash told.0 through low)

  content : f.log_failed ≡ false → f.backing_failed ≡ false → (base : Image) → IsBase found before base → (of_backing f.backing).content ≡ Some (after base h)
  content log_fine backing_fine base is =
      let told = begins.based base is in
      closed.content (fine log_fine backing_fine) told.0 told.1 ∙ ap (λ (image : Image). Some (after image h)) told.2

  empty : f.log_failed ≡ false → f.backing_failed ≡ false → (x : Image) → IsSome before.log.content → (of_log f.log).content ≡ Some x
      → IsChain found.geometry x [] × (record_of x ≡ last_segment found f.places)
  empty log_fine backing_fine x some told =
      let none = closed.empty (fine log_fine backing_fine) (begins.log_told some) x told in
      let Has : Geometry × ℕ → Type 0 = λ p. IsChain p.0 x [] × (record_of x ≡ p.1 + (f.places + places p.0 - 1) / places p.0) in
      subst Has (λ i. (begins.geometry i, begins.first i)) (none.0, none.1)

  pub left_behind : (through : ℕ) → through ≤ closed.stable → SessionLeaves found before (devices (of_log f.log) (of_backing f.backing)) h through f.places f.log_failed f.backing_failed
  left_behind through low = record {
    changed = changed;
    crash = crash through low;
    content = content;
    empty = empty;
    durable = λ log_fine backing_fine. closed.durable (fine log_fine backing_fine);
    log_cause = subst (λ (n : ℕ). CountsFaultsWhere (f.log_failed ≡ true) n (of_log f.log).faults) begins.log_faults closed.log_cause;
    backing_cause = subst (λ (n : ℕ). CountsFaultsWhere (f.backing_failed ≡ true) n (of_backing f.backing).faults) begins.backing_faults closed.backing_cause;
  }

  -- the places are no more than the ids allow
  abbrev Few : ℕ × Geometry × ℕ → Type 0
  Few p = p.0 ≤ places p.1 * (2 ^ 48 - p.2)

  -- the same where nothing is told of the session
  pub left_early : IsLeftEarly found script before (devices (of_log f.log) (of_backing f.backing))
  left_early = record {
    opened = begins.opened;
    no_stray = begins.no_stray;
    fits = begins.fits;
    history = h;
    clients = subst (λ (n : ℕ). All (λ e. client_of e < n) h) begins.clients closed.clients;
    few = subst Few (λ i. (closed.taken i, begins.geometry i, begins.first i)) closed.ids;
    log_failed = f.log_failed;
    backing_failed = f.backing_failed;
    leaves = subst (λ (n : ℕ). SessionLeaves found before (devices (of_log f.log) (of_backing f.backing)) h 0 n f.log_failed f.backing_failed) closed.taken (left_behind 0 (omega arith));
  }

-- that of clients of which nothing is told
pub ended_early : {L B : Type 0} (of_log : L → State) (of_backing : B → State) (found : Super) (script : ScriptContent) (before : Devices) (t : Carried) (log : L) (backing : B)
    → BeginsFrom found script before t → HasEndedEarly of_log of_backing t log backing → IsLeftEarly found script before (devices (of_log log) (of_backing backing))
ended_early {L} {B} of_log of_backing found script before t log backing begins early =
    let Is : L × B → Type 0 = λ d. IsLeftEarly found script before (devices (of_log d.0) (of_backing d.1)) in
    subst Is (λ i. (early.devices.0 i, early.devices.1 i)) (left_early of_log of_backing found script before t early.passes early.finished begins early.closed)
