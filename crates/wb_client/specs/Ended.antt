-- What is known once all clients have ended, and each pass heard a last note of every lower client.
use Rattle.std.specs.Prelude.{ℕ, ◌≡◌, ◌<◌, ◌≤◌, List, [], length, ◌++◌, slice_index_or, Contains, All, Option}
use Rattle.wb_geometry.specs.Image.{Image}
use Rattle.wb_geometry.specs.History.{HistoryEntry, client_of}
use Rattle.wb_steps.specs.Views.{IsPrefix, placed, beginning}
use Rattle.wb_steps.specs.declared.shape.Shape.{Shape}
use Rattle.wb_steps.specs.declared.view.Role.TheVariants.{Owner}
use Rattle.wb_steps.specs.declared.view.View.{View}
use Rattle.wb_intake.specs.Sights.{AreAlike}
use Rattle.wb_script.specs.Valid.{requests_at}
use Rattle.wb_script.specs.Transcripts.{covered_by}
use Rattle.wb_script.specs.declared.request.Request.{Request}
use Rattle.wb_script.specs.declared.transcript.Line.{Line}
use Rattle.wb_client.specs.Played.{HasSeenMore, hearers_of, AreInOrder, HasPlayed}

-- the lines of a client
abbrev pub lines_at : List (List Line) → ℕ → List Line
lines_at transcripts client = slice_index_or transcripts client []

-- A client played its requests, by which its pass came to played client, and then came to ended client by the notes that it
-- heard last. Its posted flushes are awaited, and it left notes for higher clients alone. In the end its pass knows a beginning of the history, names just its
-- client's entries, and has seen no place behind it.
pub record HasEnded (base : Option Image) (shape : Shape) (limit : ℕ) (all : List (List Request)) (transcripts : List (List Line)) (played ended : ℕ → View) (history : List HistoryEntry) (client : ℕ) : Type 0 where
  pub plays : HasPlayed base shape client (beginning Owner client limit) (played client) (played client).heard (played client).told (requests_at all client) (lines_at transcripts client)
  pub covered : covered_by (lines_at transcripts client) ≤ (played client).seen.stable
  pub upward : All (λ other. client < other) (hearers_of (requests_at all client))
  pub in_order : AreInOrder all client (played client).heard
  pub more : HasSeenMore (played client) (ended client)
  pub same_mine : (ended client).mine ≡ (played client).mine
  pub heard_more : IsPrefix (played client).heard (ended client).heard
  pub heard_last : (teller : ℕ) → teller < client → (more : List ℕ) × Contains (ended client).heard (teller, (played teller).told ++ more)
  pub alike : AreAlike (ended client).heard
  pub known : IsPrefix (ended client).known history
  pub mine : (ended client).mine ≡ placed client 0 history
  pub cursor : (ended client).seen.cursor ≤ length history

-- so did all clients of the script, and the history has entries of no other
pub record HaveEnded (base : Option Image) (shape : Shape) (limit : ℕ) (all : List (List Request)) (transcripts : List (List Line)) (played ended : ℕ → View) (history : List HistoryEntry) : Type 0 where
  pub count : length transcripts ≡ length all
  pub owned : All (λ e. client_of e < length all) history
  pub each : (client : ℕ) → client < length all → HasEnded base shape limit all transcripts played ended history client
