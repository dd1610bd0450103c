-- What is said of a log holds of it before it was read.
use Rattle.std.proofs.Common.{◌≡◌, ◌≤◌, ℕ, List, subst, ◌∙◌, refl, Option, Some, None, IfSome, Bool, length}
use Rattle.wb_geometry.specs.History.{HistoryEntry}
use Rattle.wb_geometry.specs.Image.{Image}
use Rattle.wb_geometry.specs.Device.{State, IsDevice, OnlyRead}
use Rattle.wb_geometry.specs.Layout.{log_sectors}
use Rattle.wb_geometry.specs.declared.geometry.Geometry.{Geometry}
use Rattle.wb_super.specs.Superblock.{SuperText, record_of}
use Rattle.wb_super.specs.Found.{IsSuper, Refuses, IsFormattedFor}
use Rattle.wb_super.specs.declared.reading.Super.{Super}
use Rattle.wb_super.specs.declared.reading.SuperRefused.{SuperRefused}
use Rattle.wb_super.specs.declared.reading.SuperRefused.TheVariants as refused
use Rattle.wb_script.specs.Content.{ScriptContent}
use Rattle.wb_replay.specs.declared.replaying.ReplayStop.{ReplayStop}
use Rattle.wb_engine.specs.Opening.{MayOpen, Goes, HasRecovered, HasStopped}
use Rattle.wb_engine.proofs.Openings.{goes_opened, recovered_opened, stopped_opened}
use Rattle.wb_serve.specs.Session.{Devices, Report, IsBase, SessionLeaves, IsSession, AreInTurn, IsCutShort}
use Rattle.wb_threads.specs.Threads.{IsLeftEarly}
use Rattle.wb_tool.specs.Run.{Run}
use Rattle.wb_tool.specs.Served.{ServedTelling}

-- what holds of each content
if_told : {P : Image → Type 0} (content : Option Image) → ((x : Image) → content ≡ Some x → P x) → IfSome content P
if_told None holds = tt
if_told (Some x) holds = holds x refl

-- the superblock

formatted_before : (old mid : State) → mid.sectors ≡ old.sectors → mid.content ≡ old.content → (g : Geometry) → IsFormattedFor mid g → IsFormattedFor old g
formatted_before old mid size same g formatted = record {
  room = subst (λ (n : ℕ). log_sectors g ≤ n) size formatted.room;
  text = subst (λ (content : Option Image). IfSome content (λ x. SuperText x g 1)) same formatted.text;
}

pub super_before : (old mid : State) → OnlyRead old mid → (found : Super) → IsSuper mid found → IsSuper old found
super_before old mid read found super = record {
  version = super.version;
  formatted = formatted_before old mid read.same.size read.content found.geometry super.formatted;
  number = subst (λ (content : Option Image). IfSome content (λ x. record_of x ≡ found.recorded)) read.content super.number;
  bounded = super.bounded;
}

pub refuses_before : (old mid : State) → mid.sectors ≡ old.sectors → mid.content ≡ old.content → (cause : SuperRefused) → Refuses mid cause → Refuses old cause
refuses_before old mid size same (refused.Small needs has) why = rw (size, same) at why
refuses_before old mid size same refused.Fault why = rw size at why
refuses_before old mid size same refused.Magic why = rw (size, same) at why
refuses_before old mid size same (refused.Version found) why = rw (size, same) at why
refuses_before old mid size same (refused.Sum stored computed) why = rw (size, same) at why
refuses_before old mid size same refused.Geometry why = rw (size, same) at why
refuses_before old mid size same (refused.Record found) why = (why.0, (why.1.0, formatted_before old mid size same why.1.0 why.1.1), rw same at why.2)

-- the opening

pub may_before : (old mid : State) (has : ℕ) → OnlyRead old mid → (found : Super) → MayOpen mid has found → MayOpen old has found
may_before old mid has read found may = record { super = super_before old mid read found may.super; ids = may.ids; fits = may.fits }

-- the devices before, of which the log was read since
abbrev pub earlier : State → Devices → Devices
earlier old mid = record { log = old; backing = mid.backing }

-- both devices, of which the log was read before
pub record AreDevices (old : State) (mid : Devices) : Type 0 where
  pub read : OnlyRead old mid.log
  pub on_log : IsDevice old
  pub on_backing : IsDevice mid.backing

goes_before : {old : State} {mid after : Devices} (found : Super) → AreDevices old mid → Goes found mid.log after.log mid.backing after.backing → Goes found old after.log mid.backing after.backing
goes_before {old} {mid} found are went =
    goes_opened found (may_before old mid.log mid.backing.sectors are.read found went.may) are.read are.on_log are.on_backing (λ super. went.in_turn) went.same_log went.same_backing

pub recovered_before : {old : State} {mid after : Devices} (found : Super) → AreDevices old mid → HasRecovered found mid.log after.log mid.backing after.backing
    → HasRecovered found old after.log mid.backing after.backing
recovered_before found are recovered =
    recovered_opened found (goes_before found are recovered.went) are.read recovered.no_stray (λ super. recovered.all_put) recovered.records
    (λ super. if_told _ recovered.fresh) recovered.durable

pub stopped_before : {old : State} {mid after : Devices} (why : ReplayStop) → AreDevices old mid → HasStopped why mid.log after.log mid.backing after.backing
    → HasStopped why old after.log mid.backing after.backing
stopped_before why are stopped = stopped_opened stopped.found why (goes_before stopped.found are stopped.went) are.read stopped.refused stopped.so_far

-- what recovery makes of the contents is the same
pub base_after : (old : State) (mid : Devices) (found : Super) (base : Image) → OnlyRead old mid.log → IsBase found (earlier old mid) base → IsBase found mid base
base_after old mid found base read (x, y, of) = (x, y, record { log_told = read.content ∙ of.log_told; told = of.told; makes = of.makes })

pub bases_after : (old : State) (mid : Devices) (found : Super) (content : Option Image) → OnlyRead old mid.log → IfSome content (IsBase found (earlier old mid)) → IfSome content (IsBase found mid)
bases_after old mid found None read is = tt
bases_after old mid found (Some base) read is = base_after old mid found base read is

-- a session

abbrev leaves_before : (old : State) (mid after : Devices) (found : Super) (h : List HistoryEntry) (covers taken : ℕ) (log_failed backing_failed : Bool) → OnlyRead old mid.log
    → mid.log.faults ≡ old.faults → SessionLeaves found mid after h covers taken log_failed backing_failed → SessionLeaves found (earlier old mid) after h covers taken log_failed backing_failed
leaves_before old mid after found h covers taken log_failed backing_failed read kept leaves = record {
  changed = λ base is. leaves.changed base (base_after old mid found base read is);
  crash = λ base is. leaves.crash base (base_after old mid found base read is);
  content = λ log_fine fine base is. leaves.content log_fine fine base (base_after old mid found base read is);
  empty = rw read.content at leaves.empty;
  durable = leaves.durable;
  log_cause = rw kept at leaves.log_cause;
  backing_cause = leaves.backing_cause;
}

abbrev session_before : (old : State) (mid after : Devices) (found : Super) (script : ScriptContent) (report : Report) → OnlyRead old mid.log → mid.log.faults ≡ old.faults
    → IsSession found script mid after report → IsSession found script (earlier old mid) after report
session_before old mid after found script report read kept session = record {
  opened = may_before old mid.log mid.backing.sectors read found session.opened;
  no_stray = rw read.content at session.no_stray;
  fits = session.fits;
  history = session.history;
  printed = session.printed;
  only = session.only;
  few = session.few;
  legal = λ content is. session.legal content (bases_after old mid found content read is);
  log_failures = rw kept at session.log_failures;
  backing_failures = session.backing_failures;
  down_full = session.down_full;
  down_log = session.down_log;
  down_backing = session.down_backing;
  undone_log = session.undone_log;
  undone_backing = session.undone_backing;
  ids_told = session.ids_told;
  ids_spent = session.ids_spent;
  leaves = leaves_before old mid after found session.history report.covered report.taken report.log_failed report.backing_failed read kept session.leaves;
}

abbrev turn_before : (old : State) (mid after : Devices) (found : Super) (script : ScriptContent) (report : Report) (h : List HistoryEntry) → mid.log.faults ≡ old.faults
    → AreInTurn found script mid after report h → AreInTurn found script (earlier old mid) after report h
turn_before old mid after found script report h kept turn = record {
  once = turn.once;
  down = turn.down;
  stable = turn.stable;
  flushed = turn.flushed;
  stopped = turn.stopped;
  log_failures = rw kept at turn.log_failures;
  backing_failures = turn.backing_failures;
  log_down = rw kept at turn.log_down;
  backing_down = turn.backing_down;
}

pub cut_before : (old : State) (mid after : Devices) (found : Super) (script : ScriptContent) → OnlyRead old mid.log → mid.log.faults ≡ old.faults → IsCutShort found script mid after
    → IsCutShort found script (earlier old mid) after
cut_before old mid after found script read kept short = record {
  answered = short.answered;
  cut = short.cut;
  report = short.report;
  none = short.none;
  session = session_before old mid after found (record script { requests = short.answered }) short.report read kept short.session;
}

pub early_before : (old : State) (mid after : Devices) (found : Super) (script : ScriptContent) → OnlyRead old mid.log → mid.log.faults ≡ old.faults → IsLeftEarly found script mid after
    → IsLeftEarly found script (earlier old mid) after
early_before old mid after found script read kept early = record {
  opened = may_before old mid.log mid.backing.sectors read found early.opened;
  no_stray = rw read.content at early.no_stray;
  fits = early.fits;
  history = early.history;
  clients = early.clients;
  few = early.few;
  log_failed = early.log_failed;
  backing_failed = early.backing_failed;
  leaves = leaves_before old mid after found early.history 0 (length early.history) early.log_failed early.backing_failed read kept early.leaves;
}

abbrev pub served_before : (front text : List ℕ) (script : ScriptContent) (old : State) (run : Run) → OnlyRead old run.before.log → run.before.log.faults ≡ old.faults
    → ServedTelling front text script run → ServedTelling front text script (record run { before = earlier old run.before })
served_before front text script old run read kept served = record {
  found = served.found;
  ids = served.ids;
  log_failed = served.log_failed;
  backing_failed = served.backing_failed;
  session = session_before old run.before run.after served.found script _ read kept served.session;
  turns = λ so. turn_before old run.before run.after served.found script _ served.session.history kept (served.turns so);
  ends = served.ends;
}
