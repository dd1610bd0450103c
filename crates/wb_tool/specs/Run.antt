-- A run of the program, as it is seen from outside.
use Rattle.std.specs.Prelude.{ℕ, ◌≡◌, ◌≢◌, ◌⊎◌, ◌*◌, ◌/◌, ◌^◌, ◌+◌, Bool, true, false, List, [], take, min, Option, IfSome}
use Rattle.std.specs.Io.KnownBytes.{Appends}
use Rattle.wb_geometry.specs.Device.{State, Rose, IsUncalled}
use Rattle.wb_device.specs.Streams.{AppendsFront}
use Rattle.wb_script.specs.Content.{ScriptContent}
use Rattle.wb_script.specs.Grammar.{most_bytes, IsTheScript, IsTheRefusal}
use Rattle.wb_script.specs.declared.refusal.Cause.{Cause}
use Rattle.wb_script.specs.declared.transcript.Line.{Line}
use Rattle.wb_serve.specs.Session.{Devices, devices}

-- a source or a sink that a run is lent: the bytes that it told, and how often it had failed, at entry and at exit
pub record Lent : Type 0 where
  pub before : Option (List ℕ)
  pub after : Option (List ℕ)
  pub faults_before : ℕ
  pub faults_after : ℕ

abbrev pub lent : (before after : Option (List ℕ)) (faults_before faults_after : ℕ) → Lent
lent before after faults_before faults_after =
    record { before = before; after = after; faults_before = faults_before; faults_after = faults_after }

-- its faults rose in the run, or stand at their last value
abbrev pub HasFailed : Lent → Type 0
HasFailed object = Rose object.faults_before object.faults_after

abbrev pub HasNotFailed : Lent → Type 0
HasNotFailed object = object.faults_after ≡ object.faults_before

-- its bytes and its faults are as they were
pub record IsUntouched (object : Lent) : Type 0 where
  pub bytes : object.after ≡ object.before
  pub faults : HasNotFailed object

-- Whether the clients of each script are served one after another, be there one or many, what was lent, both devices at entry
-- and at exit, and what came out.
pub record Run : Type 1 where
  pub in_turn : Bool
  pub source : Lent
  pub sink : Lent
  pub before : Devices
  pub after : Devices
  pub status : ℕ
  pub transcripts : List (List Line)
  pub places : ℕ

abbrev pub run_of : (in_turn : Bool) → (source sink : Lent) → (log_before log_after backing_before backing_after : State)
    → (status : ℕ) → List (List Line) → (places : ℕ) → Run
run_of in_turn source sink log_before log_after backing_before backing_after status transcripts places = record {
  in_turn = in_turn;
  source = source;
  sink = sink;
  before = devices log_before backing_before;
  after = devices log_after backing_after;
  status = status;
  transcripts = transcripts;
  places = places;
}

-- the clients of this script are served one after another: so is one alone
abbrev pub ServesInTurn : (in_turn : Bool) → ScriptContent → Type 0
ServesInTurn in_turn script = (in_turn ≡ true) ⊎ (script.clients ≡ 1)

-- several clients of this script may be served at once
abbrev pub ServesAtOnce : (in_turn : Bool) → ScriptContent → Type 0
ServesAtOnce in_turn script = (in_turn ≡ false) × (script.clients ≢ 1)

abbrev pub LogHasFailed : Run → Type 0
LogHasFailed run = Rose run.before.log.faults run.after.log.faults

abbrev pub BackingHasFailed : Run → Type 0
BackingHasFailed run = Rose run.before.backing.faults run.after.backing.faults

abbrev pub BackingHasNotFailed : Run → Type 0
BackingHasNotFailed run = run.after.backing.faults ≡ run.before.backing.faults

-- no session began: there is no transcript and no place
pub record NoSession (run : Run) : Type 0 where
  pub transcripts : run.transcripts ≡ []
  pub places : run.places ≡ 0

-- the backing device wasn't called
abbrev pub BackingIsUncalled : Run → Type 0
BackingIsUncalled run = IsUncalled run.before.backing run.after.backing

-- the sectors that can be served of a backing device of so many: whole blocks of eight, and 2 ^ 40 sectors at most
abbrev pub usable : ℕ → ℕ
usable sectors = min (8 * (sectors / 8)) (2 ^ 40)

-- what is read of the source: all of it, or one byte more than a script may have
unfoldable pub script_bytes : List ℕ → List ℕ
script_bytes input = take (most_bytes + 1) input

-- the source, where it tells its bytes, held this script for a cache of so many backing sectors
abbrev pub Spells : (sectors : ℕ) → Lent → ScriptContent → Type 0
Spells sectors source script = IfSome source.before (λ input. IsTheScript sectors (script_bytes input) script)

-- the source, where it tells its bytes, held what is refused at this line for this cause
abbrev pub Refuses : (sectors : ℕ) → Lent → ℕ → Cause → Type 0
Refuses sectors source line cause = IfSome source.before (λ input. IsTheRefusal sectors (script_bytes input) line cause)

-- the sink took the text, or failed and took a front of it
abbrev pub Took : Lent → List ℕ → Type 0
Took sink text = (Appends sink.before sink.after text × HasNotFailed sink) ⊎ (AppendsFront sink.before sink.after text × HasFailed sink)

-- the run ends by telling the text: at 0 the sink took it, and at 5 it failed and took a front of it
abbrev pub EndsTelling : Lent → (status : ℕ) → List ℕ → Type 0
EndsTelling sink status text =
    ((status ≡ 0) × HasNotFailed sink × Appends sink.before sink.after text)
    ⊎ ((status ≡ 5) × HasFailed sink × AppendsFront sink.before sink.after text)
