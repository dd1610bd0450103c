-- The session of clients that were served on threads.
use Rattle.std.proofs.Common.{ℕ, ◌≡◌, ◌+◌, ◌-◌, ◌*◌, ◌/◌, ◌^◌, ◌<◌, ◌≤◌, Bool, true, false, min, List, [], length, Option, Some, None, inl, refl, ap, sym, ◌∙◌, subst, arith}
use Rattle.std.specs.Prelude.{IsSome, IfSome}
use Rattle.std.specs.List.{All}
use Rattle.std.proofs.lemmas.List.Elements.{All-from_get_or}
use Rattle.wb_geometry.specs.Image.{Image}
use Rattle.wb_geometry.specs.History.{HistoryEntry, after, PutsPartly}
use Rattle.wb_geometry.specs.Layout.{places}
use Rattle.wb_geometry.specs.Line.{line_of}
use Rattle.wb_geometry.specs.Device.{State, CountsFaultsWhere}
use Rattle.wb_geometry.specs.declared.geometry.Geometry.{Geometry}
use Rattle.wb_geometry.specs.declared.which.Which.{Which}
use Rattle.wb_geometry.specs.declared.which.Which.TheVariants.{Log, Backing}
use Rattle.wb_geometry.proofs.Geometries.{places_few}
use Rattle.wb_super.specs.Superblock.{record_of}
use Rattle.wb_super.specs.declared.reading.Super.{Super}
use Rattle.wb_crash.specs.Chain.{IsChain}
use Rattle.wb_crash.specs.Crash.{CrashNow}
use Rattle.wb_steps.specs.Rule.{shape_of, cells}
use Rattle.wb_steps.specs.declared.shape.Shape.{Shape}
use Rattle.wb_intake.specs.Carried.{Carried}
use Rattle.wb_engine.specs.Opening.{recovered_to}
use Rattle.wb_front.specs.Closing.{IsLegalFor}
use Rattle.wb_front.specs.declared.closing.Finished.{Finished}
use Rattle.wb_script.specs.Content.{ScriptContent}
use Rattle.wb_script.specs.Transcripts.{IsHistory, failures, covered}
use Rattle.wb_script.specs.declared.transcript.Line.{Line}
use Rattle.wb_script.specs.declared.transcript.Stop.TheVariants.{Down, Ids}
use Rattle.wb_client.specs.Ended.{HaveEnded}
use Rattle.wb_client.specs.Client.{IsBaseOf}
use Rattle.wb_client.proofs.Ending.{legal_all, history_all, history_only}
use Rattle.wb_client.proofs.Causes.{few_all, stopped_down_all, stopped_ids_all, undone_all, failed_each, covered_all, all_spent}
use Rattle.wb_serve.specs.Session.{Devices, devices, IsBase, IsSession, IsStopped, IsUndone, RoseBy, SessionLeaves, report_of}
use Rattle.wb_serve.specs.declared.serving.Session.{Session}
use Rattle.wb_threads.specs.Threads.{BeginsFrom, HasServed}
use Rattle.wb_threads.proofs.Clients.{there_is}
use Rattle.wb_threads.proofs.Left.{left_behind}

module _ {L B : Type 0} (of_log : L → State) (of_backing : B → State) (found : Super) (script : ScriptContent) (before : Devices) (t : Carried) (log : L) (backing : B) (session : Session)
    (begins : BeginsFrom found script before t) (served : HasServed of_log of_backing t script log backing session) where
  abbrev f : Finished L B
  f = served.finished

  abbrev h : List HistoryEntry
  h = served.closed.history

  abbrev lines : List (List Line)
  lines = session.transcripts.items

  abbrev shape : Shape
  shape = shape_of t.geometry t.first

  -- the devices as the front left them
  abbrev left : Devices
  left = devices (of_log f.log) (of_backing f.backing)

  taken : session.places ≡ length h
  taken = served.tells.numbers.0 ∙ served.closed.taken

  have : HaveEnded None shape (cells shape) script.requests lines served.played served.ended h
  have = served.have None tt

  -- what the last pass of a client has seen
  legal_of : (client : ℕ) → client < length script.requests → IsLegalFor of_log of_backing t h served.closed.stable f (served.ended client)
  legal_of client within =
      let pass = there_is served.passes client (omega (arith, within, served.count)) in
      subst (IsLegalFor of_log of_backing t h served.closed.stable f) (sym (served.last client pass.0 pass.1)) (served.closed.legal client pass.0 pass.1)

  based : (content : Option Image) → IfSome content (IsBase found before) → IfSome content (IsBaseOf t)
  based None is = tt
  based (Some image) is = let told = begins.based image is in (told.0, told.1, sym told.2)

  -- ---- the failures of reads

  log_rose : All (λ own. RoseBy (min (failures Log own) (2 ^ 31 - 1)) before.log.faults (of_log f.log).faults) lines
  log_rose = All-from_get_or (λ own. RoseBy (min (failures Log own) (2 ^ 31 - 1)) before.log.faults (of_log f.log).faults) lines [] (λ client low.
      let within : client < length script.requests = omega (arith, low, have.count) in
      let seen = failed_each None shape (cells shape) script.requests lines served.played served.ended h have Log client within in
      let told = (legal_of client within).log_reads in
      omega (arith, seen, told, begins.log_faults))

  backing_rose : All (λ own. RoseBy (min (failures Backing own) (2 ^ 31 - 1)) before.backing.faults (of_backing f.backing).faults) lines
  backing_rose = All-from_get_or (λ own. RoseBy (min (failures Backing own) (2 ^ 31 - 1)) before.backing.faults (of_backing f.backing).faults) lines [] (λ client low.
      let within : client < length script.requests = omega (arith, low, have.count) in
      let seen = failed_each None shape (cells shape) script.requests lines served.played served.ended h have Backing client within in
      let told = (legal_of client within).backing_reads in
      omega (arith, seen, told, begins.backing_faults))

  -- ---- what stopped writes and flushes

  full : (device : Which) → IsStopped (Down device) lines → places found.geometry * found.geometry.ram ≤ session.places
  full device some =
      let all = (stopped_down_all None shape (cells shape) script.requests lines served.played served.ended h have device some).0 in
      let same : cells shape ≡ found.geometry.ram * places found.geometry = ap (λ (g : Geometry). g.ram * places g) begins.geometry in
      omega (arith, all, same, taken)

  down_log : IsStopped (Down Log) lines → session.log_failed ≡ true
  down_log some =
      let seen = (stopped_down_all None shape (cells shape) script.requests lines served.played served.ended h have Log some).1 in
      served.tells.flags.0 ∙ (legal_of seen.0 seen.1).log_failed (inl seen.2)

  down_backing : IsStopped (Down Backing) lines → session.backing_failed ≡ true
  down_backing some =
      let seen = (stopped_down_all None shape (cells shape) script.requests lines served.played served.ended h have Backing some).1 in
      served.tells.flags.1 ∙ (legal_of seen.0 seen.1).backing_failed (inl seen.2)

  undone_log : IsUndone Log lines → session.log_failed ≡ true
  undone_log some =
      let seen = undone_all None shape (cells shape) script.requests lines served.played served.ended h have Log some in
      served.tells.flags.0 ∙ (legal_of seen.0 seen.1).log_failed (inl seen.2)

  undone_backing : IsUndone Backing lines → session.backing_failed ≡ true
  undone_backing some =
      let seen = undone_all None shape (cells shape) script.requests lines served.played served.ended h have Backing some in
      served.tells.flags.1 ∙ (legal_of seen.0 seen.1).backing_failed (inl seen.2)

  spent : IsStopped Ids lines → session.places ≡ places found.geometry * (2 ^ 48 - recovered_to found)
  spent some =
      let few : length h ≤ places t.geometry * (2 ^ 48 - t.first) = subst (λ (n : ℕ). n ≤ places t.geometry * (2 ^ 48 - t.first)) served.closed.taken served.closed.ids in
      let low : t.first ≤ 2 ^ 48 = omega (arith, begins.opened.ids, found.geometry.slots_fit.1, begins.first) in
      let none = stopped_ids_all None shape (cells shape) script.requests lines served.played served.ended h have some in
      let all : length h ≡ places t.geometry * (2 ^ 48 - t.first) = all_spent shape (length h) (places_few t.geometry).0 low few none in
      taken ∙ all ∙ ap (λ (g : Geometry). places g * (2 ^ 48 - t.first)) begins.geometry ∙ ap (λ (n : ℕ). places found.geometry * (2 ^ 48 - n)) begins.first

  -- ---- the devices

  leaves : SessionLeaves found before left h (covered lines) session.places session.log_failed session.backing_failed
  leaves =
      let low : covered lines ≤ served.closed.stable =
      covered_all None shape (cells shape) script.requests lines served.played served.ended h have served.closed.stable (λ client within. (legal_of client within).stable) in
      let Left : ℕ × Bool × Bool → Type 0 = λ told. SessionLeaves found before left h (covered lines) told.0 told.1 told.2 in
      subst Left (λ i. (sym served.tells.numbers.0 i, sym served.tells.flags.0 i, sym served.tells.flags.1 i))
      (left_behind of_log of_backing found script before t served.passes f begins served.closed (covered lines) low)

  -- ---- the session

  session_left : IsSession found script before left (report_of session)
  session_left = record {
    opened = begins.opened;
    no_stray = begins.no_stray;
    fits = begins.fits;
    history = h;
    printed = subst (λ (n : ℕ). IsHistory script lines n h) (sym taken) (history_all None shape (cells shape) script lines served.played served.ended h have);
    only = λ other is. history_only None shape (cells shape) script lines served.played served.ended h have other (subst (λ (n : ℕ). IsHistory script lines n other) taken is);
    few = let most = few_all None shape (cells shape) script.requests lines served.played served.ended h have in omega (arith, most, taken);
    legal = λ content is. legal_all content shape (cells shape) script.requests lines served.played served.ended h (served.have content (based content is));
    log_failures = log_rose;
    backing_failures = backing_rose;
    down_full = full;
    down_log = down_log;
    down_backing = down_backing;
    undone_log = undone_log;
    undone_backing = undone_backing;
    ids_told = served.tells.ids.0;
    ids_spent = λ some. (served.tells.ids.1 some, spent some);
    leaves = leaves;
  }

  pub session_threads : IsSession found script before (devices (of_log log) (of_backing backing)) (report_of session) × (session.first ≡ recovered_to found)
  session_threads =
      let Is : L × B → Type 0 = λ d. IsSession found script before (devices (of_log d.0) (of_backing d.1)) (report_of session) in
      (subst Is (λ i. (served.devices.0 i, served.devices.1 i)) session_left, served.tells.numbers.1 ∙ served.closed.first ∙ begins.first)
