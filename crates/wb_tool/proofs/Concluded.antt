-- How `workload` ends behind its session.
use Rattle.std.proofs.Common.{◌≡◌, ◌⊎◌, ◌≤◌, ℕ, List, [], Bool, true, false, ◌-◌, ◌^◌, min, Some, refl, sym, ap, subst, ◌∙◌, arith, inl, inr}
use Rattle.std.proofs.lemmas.List.Elements.{All-weaker}
use Rattle.wb_geometry.specs.declared.which.Which.TheVariants.{Backing}
use Rattle.wb_geometry.specs.Device.{State, Rose, OnlyRead, CountsFaultsWhere, NothingPending}
use Rattle.wb_geometry.specs.History.{HistoryEntry}
use Rattle.wb_geometry.specs.Image.{Image, bytes_at}
use Rattle.wb_geometry.specs.Line.{Line}
use Rattle.wb_sum.specs.Crc32c.{sum_of}
use Rattle.wb_geometry.specs.declared.geometry.Geometry.{Geometry}
use Rattle.wb_super.specs.declared.reading.Super.{Super}
use Rattle.wb_crash.specs.Crash.{CrashNow, RecoversBetween}
use Rattle.wb_script.specs.Content.{ScriptContent}
use Rattle.wb_script.specs.Transcripts.{failures, covered}
use Rattle.wb_script.specs.declared.transcript.Line as answer
use Rattle.wb_serve.specs.Session.{Devices, devices, Report, RoseBy, IsSession, AreInTurn}
use Rattle.wb_tool.specs.declared.command.WorkloadNumbers.{WorkloadNumbers}
use Rattle.wb_tool.specs.Run.{Lent, Run, run_of, IsUntouched}
use Rattle.wb_tool.specs.Served.{IsFine, EndsSession, ServedTelling}
use Rattle.wb_tool.specs.Ends.{Leaves, IsLeftBy, EndsServing}
use Rattle.wb_tool.specs.Stages.{IsSessionBy, TellsFault, IsUnread, IsSummed}
use Rattle.wb_tool.specs.Workload.{ServedWorkload, TellsLine, script_of, line_of}
use Rattle.wb_tool.proofs.Sessions.{session_leaves}

-- ---- a session behind which the backing device was read

crash_read : {g : Geometry} {line : Line} {low high : ℕ} {log mid after : State} → OnlyRead mid after → CrashNow g line low high log mid → CrashNow g line low high log after
crash_read {g} {line} {low} {high} read crash = record {
  each = λ x y left_x left_y.
      let from = read.crash.now y left_y in
      subst (RecoversBetween g line low high x) (sym from.2) (crash.each x from.0 left_x from.1);
}

pending_read : {mid after : State} → OnlyRead mid after → NothingPending mid → NothingPending after
pending_read read nothing = record {
  only = λ x left.
      let from = read.crash.now x left in
      read.content ∙ nothing.only from.0 from.1 ∙ ap Some (sym from.2);
}

module _ (found : Super) (script : ScriptContent) (before : Devices) (log mid after : State) (transcripts : List (List answer.Line)) (places : ℕ) (ids log_failed : Bool) where
  abbrev told : Bool → Report
  told failed = record { transcripts = transcripts; taken = places; covered = covered transcripts; ids = ids; log_failed = log_failed; backing_failed = failed }

  abbrev session_read : (was failed : Bool) → OnlyRead mid after → mid.faults ≤ after.faults → (was ≡ true → failed ≡ true) → (failed ≡ false → was ≡ false)
      → CountsFaultsWhere (failed ≡ true) before.backing.faults after.faults
      → IsSession found script before (devices log mid) (told was) → IsSession found script before (devices log after) (told failed)
  session_read was failed read later to from counts session = record {
    opened = session.opened;
    no_stray = session.no_stray;
    fits = session.fits;
    history = session.history;
    printed = session.printed;
    only = session.only;
    few = session.few;
    legal = session.legal;
    log_failures = session.log_failures;
    backing_failures = All-weaker (λ lines. RoseBy (min (failures Backing lines) (2 ^ 31 - 1)) before.backing.faults mid.faults)
        (λ lines. RoseBy (min (failures Backing lines) (2 ^ 31 - 1)) before.backing.faults after.faults) (λ lines rose. omega (arith, rose, later)) transcripts session.backing_failures;
    down_full = session.down_full;
    down_log = session.down_log;
    down_backing = λ is. to (session.down_backing is);
    undone_log = session.undone_log;
    undone_backing = λ is. to (session.undone_backing is);
    ids_told = session.ids_told;
    ids_spent = session.ids_spent;
    leaves = record {
      changed = λ base is. let by = session.leaves.changed base is in (by.0, read.content ∙ by.1, by.2);
      crash = λ base is. crash_read read (session.leaves.crash base is);
      content = λ log_fine fine base is. read.content ∙ session.leaves.content log_fine (from fine) base is;
      empty = λ log_fine fine. session.leaves.empty log_fine (from fine);
      durable = λ log_fine fine. let nothing = session.leaves.durable log_fine (from fine) in (nothing.0, pending_read read nothing.1);
      log_cause = session.leaves.log_cause;
      backing_cause = counts;
    };
  }

  turn_read : (was failed : Bool) (h : List HistoryEntry) → mid.faults ≤ after.faults
      → AreInTurn found script before (devices log mid) (told was) h → AreInTurn found script before (devices log after) (told failed) h
  turn_read was failed h later turn = record {
    once = turn.once;
    down = turn.down;
    stable = turn.stable;
    flushed = turn.flushed;
    stopped = turn.stopped;
    log_failures = turn.log_failures;
    backing_failures = let rose = turn.backing_failures in omega (arith, rose, later);
    log_down = turn.log_down;
    backing_down = λ down. let rose = turn.backing_down down in omega (arith, rose, later);
  }

-- where its text was told neither device failed
told_fine : (sink : Lent) (status : ℕ) (front text : List ℕ) (places : ℕ) (ids log_failed backing_failed : Bool)
    → EndsSession sink status front text places ids log_failed backing_failed → (status ≡ 0) ⊎ (status ≡ 5) → IsFine log_failed backing_failed
told_fine sink status front text places ids log_failed backing_failed (inl (failed, six, took)) (inl zero) = absurd (omega arith)
told_fine sink status front text places ids log_failed backing_failed (inl (failed, six, took)) (inr five) = absurd (omega arith)
told_fine sink status front text places ids log_failed backing_failed (inr (inl (fine, failed, seven, took))) (inl zero) = absurd (omega arith)
told_fine sink status front text places ids log_failed backing_failed (inr (inl (fine, failed, seven, took))) (inr five) = absurd (omega arith)
told_fine sink status front text places ids log_failed backing_failed (inr (inr (inl (fine, spent, ten, took)))) (inl zero) = absurd (omega arith)
told_fine sink status front text places ids log_failed backing_failed (inr (inr (inl (fine, spent, ten, took)))) (inr five) = absurd (omega arith)
told_fine sink status front text places ids log_failed backing_failed (inr (inr (inr (fine, left, telling)))) tells = fine

module _ (numbers : WorkloadNumbers) (region : ℕ) (in_turn : Bool) (source sink : Lent) (log_before log_after backing_before mid after : State) (status : ℕ)
    (transcripts : List (List answer.Line)) (places : ℕ) (ids log_failed backing_failed : Bool) (found : Super) where
  abbrev run : Run
  run = run_of in_turn source sink log_before log_after backing_before after status transcripts places

  abbrev script : ScriptContent
  script = script_of numbers region

  abbrev was : Report
  was = record { transcripts = transcripts; taken = places; covered = covered transcripts; ids = ids; log_failed = log_failed; backing_failed = backing_failed }

  -- the checksum is told of a session whose image was read
  served_of : (sum : ℕ) → (TellsLine run → (image : Image) → after.content ≡ Some image → sum ≡ sum_of (bytes_at image 0 region)) → ServedTelling [] (line_of numbers region sum) script run → ServedWorkload numbers region run
  served_of sum device served = record {
    sum = sum;
    served = served;
    history = λ tells base is.
        let fine = told_fine sink status [] (line_of numbers region sum) places served.ids served.log_failed served.backing_failed served.ends tells in
        device tells _ (served.session.leaves.content fine.0 fine.1 base is);
    device = device;
  }

  unread_leaves : IsSessionBy in_turn found script run.before (devices log_after mid) was → OnlyRead mid after → IsUnread sink mid after status log_failed backing_failed
      → Leaves (EndsServing (ServedWorkload numbers region) region) (IsLeftBy script) run
  unread_leaves (session, turns) read unread =
      let fine = unread.fine in
      let kept = session.leaves.backing_cause.kept (λ failed. absurd (let both : true ≡ false = sym failed ∙ fine.1 in cc)) in
      let rose : Rose backing_before.faults after.faults = subst (λ (n : ℕ). Rose n after.faults) kept unread.rose in
      let counts : CountsFaultsWhere (true ≡ true) backing_before.faults after.faults =
      record { later = omega (arith, unread.later, kept); failed = λ _. rose; kept = λ none. absurd (none refl) } in
      let ended : status ≡ 7 = unread.ended in
      session_leaves [] (line_of numbers region 0) script run found ids log_failed true (ServedWorkload numbers region)
      (served_of 0 (λ tells. absurd (elim tells [ inl zero ↦ omega (arith, zero, ended) | inr five ↦ omega (arith, five, ended) ])))
      (session_read found script run.before log_after mid after transcripts places ids log_failed backing_failed true read unread.later (λ _. refl) (λ no. absurd (cc)) counts session)
      (λ so. turn_read found script run.before log_after mid after transcripts places ids log_failed backing_failed true session.history unread.later (turns so))
      (inr (inr (inl (fine.0, refl, unread.ended, unread.told))))

  summed_leaves : IsSessionBy in_turn found script run.before (devices log_after mid) was → OnlyRead mid after
      → IsSummed (line_of numbers region) region sink mid after status places ids log_failed backing_failed
      → Leaves (EndsServing (ServedWorkload numbers region) region) (IsLeftBy script) run
  summed_leaves (session, turns) read summed =
      session_leaves [] (line_of numbers region summed.sum) script run found ids log_failed backing_failed (ServedWorkload numbers region)
      (served_of summed.sum (λ tells image told. summed.device tells image (sym read.content ∙ told)))
      (session_read found script run.before log_after mid after transcripts places ids log_failed backing_failed backing_failed read (omega (arith, summed.faults)) (λ is. is) (λ is. is)
      (let kept = summed.faults in rw kept session.leaves.backing_cause) session)
      (λ so. turn_read found script run.before log_after mid after transcripts places ids log_failed backing_failed backing_failed session.history (omega (arith, summed.faults)) (turns so))
      summed.ends

  pub concluded_leaves : IsSessionBy in_turn found script run.before (devices log_after mid) was → OnlyRead mid after
      → IsUnread sink mid after status log_failed backing_failed ⊎ IsSummed (line_of numbers region) region sink mid after status places ids log_failed backing_failed
      → Leaves (EndsServing (ServedWorkload numbers region) region) (IsLeftBy script) run
  concluded_leaves by read (inl unread) = unread_leaves by read unread
  concluded_leaves by read (inr summed) = summed_leaves by read summed

-- The same of a script that is known to be the workload.
pub generated_concluded : (numbers : WorkloadNumbers) (script : ScriptContent) (in_turn : Bool) (source sink : Lent) (log_before log_after backing_before mid after : State) (status : ℕ)
    (transcripts : List (List answer.Line)) (places : ℕ) (ids log_failed backing_failed : Bool) (found : Super) → script ≡ script_of numbers script.sectors
    → IsSessionBy in_turn found script (devices log_before backing_before) (devices log_after mid)
    (record { transcripts = transcripts; taken = places; covered = covered transcripts; ids = ids; log_failed = log_failed; backing_failed = backing_failed })
    → OnlyRead mid after
    → IsUnread sink mid after status log_failed backing_failed ⊎ IsSummed (line_of numbers script.sectors) script.sectors sink mid after status places ids log_failed backing_failed
    → Leaves (EndsServing (ServedWorkload numbers script.sectors) script.sectors) (IsLeftBy script) (run_of in_turn source sink log_before log_after backing_before after status transcripts places)
generated_concluded numbers script in_turn source sink log_before log_after backing_before mid after status transcripts places ids log_failed backing_failed found generated by read ends =
    let before = devices log_before backing_before in
    let told : Report = record { transcripts = transcripts; taken = places; covered = covered transcripts; ids = ids; log_failed = log_failed; backing_failed = backing_failed } in
    let run : Run = run_of in_turn source sink log_before log_after backing_before after status transcripts places in
    let made = subst (λ (s : ScriptContent). IsSessionBy in_turn found s before (devices log_after mid) told) generated by in
    subst (λ (s : ScriptContent). Leaves (EndsServing (ServedWorkload numbers script.sectors) script.sectors) (IsLeftBy s) run) (sym generated)
    (concluded_leaves numbers script.sectors in_turn source sink log_before log_after backing_before mid after status transcripts places ids log_failed backing_failed found made read ends)

-- what stands where nothing was told of a session
pub told_nothing : (sink : Lent) (status places : ℕ) (ids log_failed backing_failed : Bool) → (status ≡ 1) ⊎ TellsFault sink status places ids log_failed backing_failed → status ≡ 0
    → IsFine log_failed backing_failed × (ids ≡ false) × IsUntouched sink
told_nothing sink status places ids log_failed backing_failed (inl one) zero = absurd (omega arith)
told_nothing sink status places ids log_failed backing_failed (inr (inl (failed, six, took))) zero = absurd (omega arith)
told_nothing sink status places ids log_failed backing_failed (inr (inr (inl (fine, failed, seven, took)))) zero = absurd (omega arith)
told_nothing sink status places ids log_failed backing_failed (inr (inr (inr (inl (fine, spent, ten, took))))) zero = absurd (omega arith)
told_nothing sink status places ids log_failed backing_failed (inr (inr (inr (inr (fine, left, done, untold))))) zero = (fine, left, untold)
