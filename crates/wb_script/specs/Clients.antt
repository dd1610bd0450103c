-- What clients leave that are served one after another.
use Rattle.std.specs.Prelude.{ℕ, suc, ◌≡◌, ◌<◌, ◌≤◌, List, [], ◌∷◌, ◌++◌, length, Option, All}
use Rattle.std.specs.List.{enumerate_from}
use Rattle.wb_geometry.specs.Image.{Image}
use Rattle.wb_geometry.specs.History.{HistoryEntry, client_of}
use Rattle.wb_script.specs.Transcripts.{printed, all_printed, first_seen, seen_after_all, left_by_all, AnswersAll, AreLegal, Notes, no_notes, with_notes}
use Rattle.wb_script.specs.declared.request.Request.{Request}
use Rattle.wb_script.specs.declared.transcript.Line.{Line}

-- the notes that are left after the clients from this one on, beside those that lower clients left
abbrev pub notes_after : Notes → ℕ → List (List Request) → List (List Line) → Notes
notes_after notes client (requests ∷ rest) (lines ∷ transcripts) = notes_after (with_notes notes client requests lines) (suc client) rest transcripts
notes_after notes client [] transcripts = notes
notes_after notes client (requests ∷ rest) [] = notes

-- all entries are the client's
abbrev pub AreOf : ℕ → List HistoryEntry → Type 0
AreOf client entries = All (λ entry. client_of entry ≡ client) entries

-- A client was answered beside the notes that are left for it, and printed its entries in order, which are the last of the
-- history. What it has seen, and what its own notes hand on, is inside the history.
pub record IsAnswered (base : Option Image) (before own : List HistoryEntry) (client : ℕ) (notes : ℕ → List ℕ) (requests : List Request) (lines : List Line) : Type 0 where
  pub answers : AnswersAll base (before ++ own) client (first_seen notes) requests lines
  pub owned : AreOf client own
  pub once : printed client requests lines ≡ enumerate_from (length before) own
  pub inside : (seen_after_all (first_seen notes) requests lines).number ≤ length (before ++ own)
  pub left : (hearer : ℕ) → All (λ number. number ≤ length (before ++ own)) (left_by_all (first_seen notes) requests lines hearer)

-- The clients from client 0 on were answered one after another, and printed the history in order.
pub record AreServed (base : Option Image) (history : List HistoryEntry) (all : List (List Request)) (transcripts : List (List Line)) : Type 0 where
  pub legal : AreLegal base history 0 no_notes all transcripts
  pub once : all_printed 0 all transcripts ≡ enumerate_from 0 history
  pub owned : All (λ entry. client_of entry < length all) history
  pub left : (hearer teller : ℕ) → All (λ number. number ≤ length history) (notes_after no_notes 0 all transcripts hearer teller)
