-- What a session leaves: the engine is opened, the requests are played, and it is closed.
use Rattle.std.proofs.Common.{ℕ, ◌≡◌, ◌+◌, ◌-◌, ◌*◌, ◌/◌, ◌≤◌, ◌^◌, Bool, true, false, ◌||◌, min, List, length, [], ◌∷◌, All, Option, Some, None, Result, Ok, Err, IfOk, IfErr, refl, ap, sym, ◌∙◌, subst, arith}
use Rattle.std.specs.List.{slice_index_or}
use Rattle.std.proofs.Math.Nat.{div-mul-le_self}
use Rattle.std.proofs.lemmas.Nat.{le-div}
use Rattle.std.proofs.lemmas.List.{take_all}
use Rattle.std.proofs.lemmas.List.Elements.{All-nil, All-cons}
use Rattle.std.proofs.lemmas.List.Sums.{sum-map, sum_by-cons}
use Rattle.std.specs.declared.alloc.AllocError.{AllocError}
use Rattle.wb_geometry.specs.History.{HistoryEntry}
use Rattle.wb_geometry.specs.Layout.{places}
use Rattle.wb_geometry.specs.Device.{State, CountsFaultsWhere}
use Rattle.wb_geometry.specs.declared.geometry.Geometry.{Geometry}
use Rattle.wb_geometry.proofs.Geometries.{places_few}
use Rattle.wb_geometry.specs.declared.which.Which.{Which}
use Rattle.wb_geometry.specs.declared.which.Which.TheVariants.{Log, Backing}
use Rattle.wb_script.specs.Content.{ScriptContent}
use Rattle.wb_super.specs.declared.reading.Super.{Super}
use Rattle.wb_script.specs.Transcripts.{failures, all_failures, covered}
use Rattle.wb_script.proofs.Sessions.{one_history}
use Rattle.wb_script.proofs.Clients.{AreServed-history}
use Rattle.wb_script.specs.declared.request.Request.{Request}
use Rattle.wb_script.specs.declared.transcript.Line.{Line}
use Rattle.wb_crash.specs.declared.numbers.Numbers.{Numbers}
use Rattle.wb_engine.specs.Content.{EngineContent}
use Rattle.wb_engine.specs.Opening.{IsOpened, recovered_to}
use Rattle.wb_engine.specs.declared.opening.OpenCause.TheVariants as opening
use Rattle.wb_serve.specs.Session.{Devices, devices, Report, RoseBy, report_of, covered_segment, last_segment, IsSession, EndFlushes, AreInTurn, IsServed, IsCutShort}
use Rattle.wb_engine.specs.Settling.{stable_places}
use Rattle.wb_serve.specs.Playing.{AreAllPlayed, AreAllPlayedInPart, Tally, tally_of}
use Rattle.wb_serve.specs.Ending.{is_down_by, TellsOf}
use Rattle.wb_serve.specs.declared.serving.AllPlayed.{AllPlayed}
use Rattle.wb_serve.specs.declared.serving.Session.{Session}
use Rattle.wb_serve.specs.declared.serving.ServeStop.{ServeStop}
use Rattle.wb_serve.specs.declared.serving.ServeStop.TheVariants as stop
use Rattle.wb_serve.proofs.Crashes.{crash_around}
use Rattle.wb_serve.proofs.Faults.{some_of, down_is, no_fault, either_false, second_true, end_later, cause_told}
use Rattle.wb_serve.proofs.Openings.{some_opened, base_opened, told_opened}
use Rattle.wb_serve.proofs.Closed.{IsCacheOf, Closes, end_changed, end_content, end_empty, end_crash}

-- ---- the failures of reads

-- where a count rose by those of all clients it rose by those of each
failures_each : (device : Which) (before now : ℕ) (transcripts : List (List Line)) → RoseBy (all_failures device transcripts) before now
    → All (λ lines. RoseBy (min (failures device lines) (2 ^ 31 - 1)) before now) transcripts
failures_each device before now [] rose = All-nil (λ lines. RoseBy (min (failures device lines) (2 ^ 31 - 1)) before now)
failures_each device before now (lines ∷ transcripts) rose =
    let sums : all_failures device (lines ∷ transcripts) ≡ failures device lines + all_failures device transcripts =
    omega (arith, sum-map (failures device) (lines ∷ transcripts), sum-map (failures device) transcripts, sum_by-cons (failures device) lines transcripts) in
    All-cons (λ own. RoseBy (min (failures device own) (2 ^ 31 - 1)) before now) lines transcripts (omega (arith, rose, sums)) (failures_each device before now transcripts (omega (arith, rose, sums)))

-- ---- the session

-- what is told of the answers, with these flags, of whose flushes so much is said to be covered
abbrev pub report_all : Tally → (taken covers : ℕ) → (log_failed backing_failed : Bool) → Report
report_all all taken covers log_failed backing_failed = record {
  transcripts = all.transcripts;
  taken = taken;
  covered = covers;
  ids = all.ids;
  log_failed = log_failed;
  backing_failed = backing_failed;
}

module _ {L B : Type 0} {of_log : L → State} {of_backing : B → State} {fault : Option Which} {log log_end backing backing_end : State} {start e : EngineContent L B} where
  pub session_all : {h : List HistoryEntry} {all : Tally}
      (script : ScriptContent) (covers : ℕ) (log_failed backing_failed : Bool)
      → (opens : IsOpened of_log of_backing log backing start) → script.sectors ≤ start.geometry.backing_sectors
      → AreAllPlayed of_log of_backing script.requests start e all h → covers ≤ stable_places e → Closes of_log of_backing fault log_end backing_end e
      → log_failed ≡ (all.log_failed || is_down_by Log fault) → backing_failed ≡ (all.backing_failed || is_down_by Backing fault)
      → (is : IsSession opens.found script (devices log backing) (devices log_end backing_end) (report_all all (length h) covers log_failed backing_failed)) × (is.history ≡ h)
  session_all {h} {all} script covers log_failed backing_failed opens fits p low closes log_flag backing_flag =
      let transcripts : List (List Line) = all.transcripts in
      let found = opens.found in
      let come = p.come in
      let printed = AreServed-history None h script transcripts (p.served None tt) in
      let places_are : length h ≡ e.absorbed = come.places in
      let geometry : e.geometry ≡ found.geometry = come.kept.geometry ∙ opens.geometry in
      let number : e.numbers.first ≡ recovered_to found = come.kept.first ∙ ap (λ (n : Numbers). n.first) opens.numbers in
      let cache : IsCacheOf found (length h) e = record { geometry = geometry; first = number; absorbed = sym places_are } in
      let none : log_failed ≡ false → backing_failed ≡ false → fault ≡ None = λ log_fine fine.
      no_fault fault (either_false all.log_failed (is_down_by Log fault) (sym log_flag ∙ log_fine)).1 (either_false all.backing_failed (is_down_by Backing fault) (sym backing_flag ∙ fine)).1 in
      let log_by : e.down ≡ Some Log → log_failed ≡ true = λ down.
      log_flag ∙ second_true all.log_failed (is_down_by Log fault) (down_is Log fault (some_of _ closes.log_faults.was_down down).0) in
      let backing_by : e.down ≡ Some Backing → backing_failed ≡ true = λ down.
      backing_flag ∙ second_true all.backing_failed (is_down_by Backing fault) (down_is Backing fault (some_of _ closes.backing_faults.was_down down).0) in
      let log_later = end_later closes.log_faults in
      let backing_later = end_later closes.backing_faults in (
        record {
          opened = opens.recovered.went.may;
          no_stray = opens.recovered.no_stray;
          fits = subst (λ (g : Geometry). script.sectors ≤ g.backing_sectors) opens.geometry fits;
          history = h;
          printed = printed;
          only = λ other is. one_history script transcripts (length h) other h is printed;
          few = p.few;
          legal = λ content is. (p.served content (told_opened opens content is)).legal;
          log_failures = failures_each Log log.faults log_end.faults transcripts (omega (arith, come.log_faults.failed, log_later, opens.log_faults));
          backing_failures = failures_each Backing backing.faults backing_end.faults transcripts (omega (arith, come.backing_faults.failed, backing_later, opens.backing_faults));
          down_full = λ device some.
              let full = (p.stopped_down device some).full in
              let room : places e.geometry * e.geometry.ram ≡ places found.geometry * found.geometry.ram = ap (λ (g : Geometry). places g * g.ram) geometry in
              omega (arith, full, room, places_are);
          down_log = λ some. log_by (p.stopped_down Log some).down;
          down_backing = λ some. backing_by (p.stopped_down Backing some).down;
          undone_log = λ some. log_by (p.undone Log some);
          undone_backing = λ some. backing_by (p.undone Backing some);
          ids_told = p.tells.told;
          ids_spent = λ some.
              let spent = p.stopped_ids some in
              let left : places e.geometry * (2 ^ 48 - e.numbers.first) ≡ places found.geometry * (2 ^ 48 - recovered_to found) =
              ap (λ (g : Geometry). places g * (2 ^ 48 - e.numbers.first)) geometry ∙ ap (λ (n : ℕ). places found.geometry * (2 ^ 48 - n)) number in
              (p.tells.stopped some, places_are ∙ spent ∙ left);
          leaves = record {
            changed = λ base is. end_changed base come closes (base_opened opens base is);
            crash = λ base is. end_crash found (length h) covers base cache low come closes (base_opened opens base is);
            content = λ log_fine fine base is. end_content base come closes (base_opened opens base is) (none log_fine fine);
            empty = λ log_fine fine x some told. end_empty found (length h) cache come closes (some_opened opens some) (none log_fine fine) x told;
            durable = λ log_fine fine. closes.durable (none log_fine fine) come.synced;
            log_cause = subst (λ (before : ℕ). CountsFaultsWhere (log_failed ≡ true) before log_end.faults) opens.log_faults
                (cause_told all.log_failed log_failed come.log_faults closes.log_faults p.tells.log_fails p.tells.log_fine log_flag);
            backing_cause = subst (λ (before : ℕ). CountsFaultsWhere (backing_failed ≡ true) before backing_end.faults) opens.backing_faults
                (cause_told all.backing_failed backing_failed come.backing_faults closes.backing_faults p.tells.backing_fails p.tells.backing_fine backing_flag);
          };
        },
        refl,
      )

  -- what the order of the clients says beside
  in_turn_all : {h : List HistoryEntry} {all : Tally} (script : ScriptContent) (covers : ℕ) (log_failed backing_failed : Bool) → (opens : IsOpened of_log of_backing log backing start)
      → AreAllPlayed of_log of_backing script.requests start e all h → All (EndFlushes e.geometry e.down (stable_places e)) all.transcripts → Closes of_log of_backing fault log_end backing_end e
      → AreInTurn opens.found script (devices log backing) (devices log_end backing_end) (report_all all (length h) covers log_failed backing_failed) h
  in_turn_all {h} {all} script covers log_failed backing_failed opens p ends closes =
      let come = p.come in
      let geometry : e.geometry ≡ opens.found.geometry = come.kept.geometry ∙ opens.geometry in
      record {
        once = (p.served None tt).once;
        down = e.down;
        stable = stable_places e;
        flushed = subst (λ (g : Geometry). All (EndFlushes g e.down (stable_places e)) all.transcripts) geometry ends;
        stopped = λ device some.
            let by = p.stopped_down device some in
            let full = by.full in
            let room : places e.geometry * e.geometry.ram ≡ places opens.found.geometry * opens.found.geometry.ram = ap (λ (g : Geometry). places g * g.ram) geometry in
            (by.down, omega (arith, full, room, come.places));
        log_failures = let later = end_later closes.log_faults in omega (arith, come.log_faults.failed, later, opens.log_faults);
        backing_failures = let later = end_later closes.backing_faults in omega (arith, come.backing_faults.failed, later, opens.backing_faults);
        log_down = λ down.
            let rose = come.log_faults.goes_down (λ none. cc) down in let later = end_later closes.log_faults in
            omega (arith, rose, later, opens.log_faults);
        backing_down = λ down.
            let rose = come.backing_faults.goes_down (λ none. cc) down in let later = end_later closes.backing_faults in
            omega (arith, rose, later, opens.backing_faults);
      }

  -- as it is told
  pub session_told : (script : ScriptContent) (first taken : ℕ) (played : Result AllPlayed AllocError) (session : Session)
      → (opens : IsOpened of_log of_backing log backing start) → script.sectors ≤ start.geometry.backing_sectors
      → IfOk played (λ p. (h : List HistoryEntry) × AreAllPlayed of_log of_backing script.requests start e (tally_of p) h × (covered p.transcripts.items ≤ stable_places e)
      × All (EndFlushes e.geometry e.down (stable_places e)) p.transcripts.items)
      → Closes of_log of_backing fault log_end backing_end e → first ≡ e.numbers.first → taken ≡ e.absorbed → TellsOf played first taken fault session
      → IsServed opens.found script (devices log backing) (devices log_end backing_end) session
  session_told script first taken (Err none) session opens fits p closes first_is count tells = absurd tells
  session_told script first taken (Ok all) session opens fits p closes first_is count (written, places_are, record_is, ids_are, log_flag, backing_flag) =
      let before : Devices = devices log backing in
      let after : Devices = devices log_end backing_end in
      let Serves : Report → Type 0 = λ report. (is : IsSession opens.found script before after report) × AreInTurn opens.found script before after report is.history in
      let (is, of_h) = session_all script (covered all.transcripts.items) session.log_failed session.backing_failed opens fits p.1 p.2 closes log_flag backing_flag in
      let turn = in_turn_all script (covered all.transcripts.items) session.log_failed session.backing_failed opens p.1 p.3 closes in
      let report : Report = report_all (tally_of all) (length p.0) (covered all.transcripts.items) session.log_failed session.backing_failed in
      let (served, in_turn) = subst Serves same (is, subst (AreInTurn opens.found script before after report) (sym of_h) turn) in
      record {
        is = served;
        in_turn = in_turn;
        first = record_is ∙ first_is ∙ p.1.come.kept.first ∙ ap (λ (n : Numbers). n.first) opens.numbers;
      }
    where
      same : report_all (tally_of all) (length p.0) (covered all.transcripts.items) session.log_failed session.backing_failed ≡ report_of session
      same =
          ap (λ (t : List (List Line)). record (report_all (tally_of all) (length p.0) (covered all.transcripts.items) session.log_failed session.backing_failed) { transcripts = t; covered = covered t }) (sym written)
          ∙ ap (λ (n : ℕ). record (report_of session) { taken = n; ids = all.ids }) (p.1.come.places ∙ sym count ∙ sym places_are)
          ∙ ap (λ (ids : Bool). record (report_of session) { ids = ids }) (sym ids_are)

  -- where memory was wanting behind some answers
  pub session_cut : (script : ScriptContent)
      → (opens : IsOpened of_log of_backing log backing start) → script.sectors ≤ start.geometry.backing_sectors
      → AreAllPlayedInPart of_log of_backing script.requests start e → Closes of_log of_backing fault log_end backing_end e
      → IsCutShort opens.found script (devices log backing) (devices log_end backing_end)
  session_cut script opens fits part closes =
      let log_failed : Bool = part.all.log_failed || is_down_by Log fault in
      let backing_failed : Bool = part.all.backing_failed || is_down_by Backing fault in
      record {
        answered = part.answered;
        cut = part.cut;
        report = report_all part.all (length part.history) 0 log_failed backing_failed;
        none = refl;
        session = (session_all (record script { requests = part.answered }) 0 log_failed backing_failed opens fits part.is (omega arith) closes refl refl).0;
      }

-- a session whose flushes cover nothing, for all that is said
uncovered : {found : Super} {script : ScriptContent} {before after : Devices} {report : Report} → IsSession found script before after report → IsSession found script before after (record report { covered = 0 })
uncovered {found} {script} {before} {after} {report} session = record {
  opened = session.opened;
  no_stray = session.no_stray;
  fits = session.fits;
  history = session.history;
  printed = session.printed;
  only = session.only;
  few = session.few;
  legal = session.legal;
  log_failures = session.log_failures;
  backing_failures = session.backing_failures;
  down_full = session.down_full;
  down_log = session.down_log;
  down_backing = session.down_backing;
  undone_log = session.undone_log;
  undone_backing = session.undone_backing;
  ids_told = session.ids_told;
  ids_spent = session.ids_spent;
  leaves = record {
    changed = session.leaves.changed;
    crash = λ base is. crash_around (covered_segment found 0) (last_segment found report.taken) (fewer found report.covered) (omega arith) (session.leaves.crash base is);
    content = session.leaves.content;
    empty = session.leaves.empty;
    durable = session.leaves.durable;
    log_cause = session.leaves.log_cause;
    backing_cause = session.leaves.backing_cause;
  };
}
  where
    fewer : (found : Super) (covers : ℕ) → covered_segment found 0 ≤ covered_segment found covers
    fewer found covers =
        let n : ℕ = places found.geometry in
        let less : (0 + n - 1) / n ≤ (covers + n - 1) / n = le-div ((0 + n - 1) / n) (covers + n - 1) n (places_few found.geometry).0 (omega (arith, div-mul-le_self (0 + n - 1) n)) in
        omega (arith, less)

-- a whole session is one of all requests
pub cut_nowhere : {found : Super} {script : ScriptContent} {before after : Devices} {report : Report} → IsSession found script before after report → IsCutShort found script before after
cut_nowhere {script = script} {report = report} session = record {
  answered = script.requests;
  cut = record {
    clients = refl;
    each = λ client below. let all : List Request = slice_index_or script.requests client [] in (length all, sym (take_all (length all) all (omega arith)));
  };
  report = record report { covered = 0 };
  none = refl;
  session = uncovered session;
}

-- what the answer says of a device's faults, unless it says that memory was wanting
pub says_fault : (Says : Result Session ServeStop → Type 0) (answer : Result Session ServeStop) (before now : ℕ) → IfOk answer (λ s. CountsFaultsWhere (Says (Ok s)) before now)
    → IfErr answer (λ why. why ≡ stop.Open opening.Memory) → (answer ≡ Err (stop.Open opening.Memory) → ⊥) → CountsFaultsWhere (Says answer) before now
says_fault Says (Ok session) before now told memory other = told
says_fault Says (Err why) before now told memory other = absurd (other (ap (λ (w : ServeStop). Err w) memory))

-- a call that may also end in another way that is said otherwise
pub counts_same : (P Q : Type 0) (before now : ℕ) → (P → Q) → (Q → P) → CountsFaultsWhere P before now → CountsFaultsWhere Q before now
counts_same P Q before now there back counts = record {
  later = counts.later;
  failed = λ q. counts.failed (back q);
  kept = λ never. counts.kept (λ p. never (there p));
}
