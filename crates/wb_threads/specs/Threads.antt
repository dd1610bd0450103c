-- What serving a script on threads leaves.
use Rattle.std.specs.Prelude.{ℕ, ◌≡◌, ◌⊎◌, ◌+◌, ◌-◌, ◌*◌, ◌<◌, ◌≤◌, ◌^◌, Bool, true, List, [], ◌++◌, length, map, slice_get, slice_index_or, Contains, All, Any, Option, Some, None, IsSome, IfSome}
use Rattle.std.specs.Vec.{vec_capacity}
use Rattle.wb_geometry.specs.Image.{Image}
use Rattle.wb_geometry.specs.History.{HistoryEntry, client_of}
use Rattle.wb_geometry.specs.Layout.{places}
use Rattle.wb_geometry.specs.Device.{State}
use Rattle.wb_steps.specs.Rule.{shape_of, cells}
use Rattle.wb_steps.specs.Views.{IsPrefix, beginning}
use Rattle.wb_steps.specs.declared.view.Role.TheVariants.{Owner}
use Rattle.wb_steps.specs.declared.view.View.{View}
use Rattle.wb_intake.specs.Carried.{Carried}
use Rattle.wb_intake.specs.Passes.{client_of_pass, view_of}
use Rattle.wb_intake.specs.declared.pass.Pass.{Pass}
use Rattle.wb_front.specs.Requests.{IsPassOf}
use Rattle.wb_front.specs.Closing.{IsFinished}
use Rattle.wb_front.specs.declared.closing.Finished.{Finished}
use Rattle.wb_script.specs.Content.{ScriptContent}
use Rattle.wb_script.specs.Transcripts.{HasStop}
use Rattle.wb_script.specs.declared.request.Request.{Request}
use Rattle.wb_script.specs.declared.transcript.Line.{Line}
use Rattle.wb_script.specs.declared.transcript.Stop.TheVariants.{Ids}
use Rattle.wb_client.specs.Played.{HasSeenMore}
use Rattle.wb_client.specs.Ended.{HaveEnded}
use Rattle.wb_client.specs.Client.{IsBaseOf, IsPlayedBy}
use Rattle.wb_super.specs.declared.reading.Super.{Super}
use Rattle.wb_replay.specs.Stopping.{HasNoStray}
use Rattle.wb_engine.specs.Opening.{MayOpen, HasRecovered, recovered_to}
use Rattle.wb_engine.specs.declared.opening.OpenCause.TheVariants.{Memory}
use Rattle.wb_front.specs.Beginning.{RefusesReady}
use Rattle.wb_serve.specs.Session.{Devices, IsBase, SessionLeaves}
use Rattle.wb_serve.specs.declared.serving.Session.{Session}
use Rattle.wb_serve.specs.declared.serving.ServeStop.{ServeStop}
use Rattle.wb_serve.specs.declared.serving.ServeStop.TheVariants as stop
use Rattle.wb_threads.specs.declared.jobs.Job.{Job}
use Rattle.wb_threads.specs.declared.jobs.Room.{Room}

-- ---- jobs

-- there is room for so many clients
pub record IsRoomFor (clients : ℕ) (room : Room) : Type 0 where
  pub none : (room.jobs.items ≡ []) × (room.passes.items ≡ []) × (room.transcripts.items ≡ [])
  pub jobs : clients ≤ vec_capacity room.jobs
  pub passes : clients ≤ vec_capacity room.passes
  pub transcripts : clients ≤ vec_capacity room.transcripts

-- the job of a client that has done nothing yet
abbrev pub new_job : Pass → Job
new_job pass = record { pass = pass; transcript = None }

-- the pass is of the name's intake and of this client, has nothing to fill, and told and heard no note yet
pub record IsNewPass (t : Carried) (client : ℕ) (pass : Pass) : Type 0 where
  pub own : IsPassOf t pass
  pub client_is : client_of_pass pass ≡ client
  pub told : (view_of pass).told ≡ []
  pub heard : (view_of pass).heard ≡ []

-- A client was served. Where it has a transcript this answers its requests, as its pass shows.
pub record HasRun (t : Carried) (all : List (List Request)) (client : ℕ) (old new : Job) : Type 0 where
  pub own : IsPassOf t new.pass
  pub client_is : client_of_pass new.pass ≡ client_of_pass old.pass
  pub played : IfSome new.transcript (IsPlayedBy t all client (view_of old.pass) (view_of new.pass))
  pub few : IfSome new.transcript (λ lines. length (view_of new.pass).told < 2 ^ 63)

-- ---- last notes

-- the pass is of the name's intake, of this client, and has nothing to fill
abbrev pub IsOwnOf : Carried → (client : ℕ) → Pass → Type 0
IsOwnOf t client pass = IsPassOf t pass × (client_of_pass pass ≡ client)

-- it told so many notes more, at most
abbrev pub HasToldFew : ℕ → (old new : Pass) → Type 0
HasToldFew most old new = length (view_of new).told ≤ length (view_of old).told + most

-- The pass of a client heard a note of each lower one, with all that this had told before, and did nothing else but tell.
pub record HasHeardLast (t : Carried) (before : List Pass) (client : ℕ) (old new : Pass) : Type 0 where
  pub own : IsPassOf t new
  pub client_is : client_of_pass new ≡ client_of_pass old
  pub more : HasSeenMore (view_of old) (view_of new)
  pub mine : (view_of new).mine ≡ (view_of old).mine
  pub heard : IsPrefix (view_of old).heard (view_of new).heard
  pub told : IsPrefix (view_of old).told (view_of new).told
  pub last : (teller : ℕ) (d : Pass) → teller < client → (more : List ℕ) × Contains (view_of new).heard (teller, (view_of (slice_index_or before teller d)).told ++ more)

-- ---- the session

-- All clients were served, and their passes heard the last notes: these are the passes then, and what they were before.
pub record HaveAllPlayed (t : Carried) (all : List (List Request)) (passes : List Pass) (transcripts : List (List Line)) : Type 0 where
  pub before : List Pass
  pub same : length before ≡ length passes
  pub count : length transcripts ≡ length passes
  pub each : (client : ℕ) (d : Pass) → client < length passes
      → IsPlayedBy t all client (beginning Owner client (cells (shape_of t.geometry t.first))) (view_of (slice_index_or before client d)) (slice_index_or transcripts client [])
  pub last : (client : ℕ) (d : Pass) → client < length passes → HasHeardLast t before client (slice_index_or before client d) (slice_index_or passes client d)

-- the session tells what the front left that was closed
pub record TellsOf {L B : Type 0} (finished : Finished L B) (session : Session) : Type 0 where
  pub numbers : (session.places ≡ finished.places) × (session.first ≡ finished.first)
  pub flags : (session.log_failed ≡ finished.log_failed) × (session.backing_failed ≡ finished.backing_failed)
  pub ids : (session.ids ≡ true → Any (Any (HasStop Ids)) session.transcripts.items) × (Any (Any (HasStop Ids)) session.transcripts.items → session.ids ≡ true)

-- A session over a front that was started for this name: its clients ended, and the front was closed with their passes.
pub record HasServed {L B : Type 0} (of_log : L → State) (of_backing : B → State) (t : Carried) (script : ScriptContent) (log : L) (backing : B) (session : Session) : Type 0 where
  pub passes : List Pass
  pub finished : Finished L B
  pub closed : IsFinished of_log of_backing t passes finished
  pub played : ℕ → View
  pub ended : ℕ → View
  pub last : (client : ℕ) (pass : Pass) → slice_get passes client ≡ Some pass → ended client ≡ view_of pass
  pub count : length passes ≡ length script.requests
  pub have : (base : Option Image) → IfSome base (IsBaseOf t)
      → HaveEnded base (shape_of t.geometry t.first) (cells (shape_of t.geometry t.first)) script.requests session.transcripts.items played ended closed.history
  pub devices : (finished.log ≡ log) × (finished.backing ≡ backing)
  pub tells : TellsOf finished session

-- What a session begins with: the cache had this superblock, and it was recovered. The name carries its numbers, and what both
-- devices counted of faults and told before.
pub record BeginsFrom (found : Super) (script : ScriptContent) (before : Devices) (t : Carried) : Type 0 where
  pub opened : MayOpen before.log before.backing.sectors found
  pub no_stray : HasNoStray found.geometry (recovered_to found) before.log
  pub fits : script.sectors ≤ found.geometry.backing_sectors
  pub geometry : t.geometry ≡ found.geometry
  pub first : t.first ≡ recovered_to found
  pub clients : t.clients ≡ script.clients
  pub log_faults : t.log_faults ≡ before.log.faults
  pub backing_faults : t.backing_faults ≡ before.backing.faults
  pub log_told : IsSome before.log.content → t.log_told ≡ true
  pub based : (base : Image) → IsBase found before base → (t.log_told ≡ true) × (t.backing_told ≡ true) × (t.base ≡ base)

-- The front was closed with the passes of clients of which nothing is told, for want of memory.
pub record HasEndedEarly {L B : Type 0} (of_log : L → State) (of_backing : B → State) (t : Carried) (log : L) (backing : B) : Type 0 where
  pub passes : List Pass
  pub finished : Finished L B
  pub closed : IsFinished of_log of_backing t passes finished
  pub devices : (finished.log ≡ log) × (finished.backing ≡ backing)

-- A session that ended for want of memory. Nothing is told of it, but the devices are as some history of its clients leaves
-- them, of which nothing is said to be covered. The flags say of each device whether it failed.
pub record IsLeftEarly (found : Super) (script : ScriptContent) (before now : Devices) : Type 0 where
  pub opened : MayOpen before.log before.backing.sectors found
  pub no_stray : HasNoStray found.geometry (recovered_to found) before.log
  pub fits : script.sectors ≤ found.geometry.backing_sectors
  pub history : List HistoryEntry
  pub clients : All (λ e. client_of e < script.clients) history
  pub few : length history ≤ places found.geometry * (2 ^ 48 - recovered_to found)
  pub log_failed : Bool
  pub backing_failed : Bool
  pub leaves : SessionLeaves found before now history 0 (length history) log_failed backing_failed

-- Why no session was served, and what was done then. Want of memory comes before the cache was opened, or behind that, or behind
-- some answers, of which nothing is told. A cache that is smaller than its script was recovered.
abbrev pub IsUnservedOnThreads : ScriptContent → (before now : Devices) → ServeStop → Type 0
IsUnservedOnThreads script before now (stop.Open cause) =
    ((cause ≡ Memory) × ((found : Super) × IsLeftEarly found script before now))
    ⊎ RefusesReady cause before.log now.log before.backing now.backing
IsUnservedOnThreads script before now (stop.Changed parsed found) =
    (parsed ≡ script.sectors) × (found < parsed)
    × ((super : Super) × HasRecovered super before.log now.log before.backing now.backing × (found ≡ super.geometry.backing_sectors))
