-- The notes that clients leave for one another and hear: how many they are, and which are left.
use Rattle.std.proofs.Common.{ℕ, zero, suc, ◌≡◌, ◌≢◌, ◌+◌, ◌<◌, List, [], ◌∷◌, ◌++◌, length, get_or, drop, eqb, Bool, true, false, cond, Option, inl, inr, refl, ap, sym, ◌∙◌, subst, arith}
use Rattle.std.specs.List.{filter}
use Rattle.std.proofs.lemmas.Bool.{cond-true, cond-false, eq-eqb, ne_eqb, cases_eq}
use Rattle.std.proofs.lemmas.List.{drop-drop, drop_more}
use Rattle.wb_geometry.specs.Image.{Image}
use Rattle.wb_geometry.specs.History.{HistoryEntry}
use Rattle.wb_script.specs.Valid.{tells_to, hears_of, told_to, heard_of, requests_at}
use Rattle.wb_script.specs.Clients.{notes_after}
use Rattle.wb_script.specs.Transcripts.{Seen, first_seen, seen_after, seen_after_all, left_by, left_by_all, Answers, AnswersAll, AreLegal, Notes, with_notes}
use Rattle.wb_script.proofs.Sessions.{length-answers}
use Rattle.wb_script.specs.declared.request.Request.{Request}
use Rattle.wb_script.specs.declared.request.Request.TheVariants.{Write, Read, ReadSum, Flush, Defer, Tell, Hear}
use Rattle.wb_script.specs.declared.transcript.Line.{Line}
use Rattle.wb_script.specs.declared.transcript.Line.TheVariants.{Wrote, Forced, Got, Summed, Failed, Flushed, Deferred, Told, Heard}

-- ---- notes that are left

told_or_not : {X : Type 0} (b : Bool) (n : ℕ) (x : X) (rest : List ℕ) (xs : List X) → length rest ≡ length xs → length ((cond b (n ∷ []) []) ++ rest) ≡ length (cond b (x ∷ xs) xs)
told_or_not true n x rest xs same = ap suc same
told_or_not false n x rest xs same = same

told_more : (seen : Seen) (request : Request) (hearer : ℕ) (rest : List ℕ) (requests : List Request) → length rest ≡ told_to hearer requests → length (left_by seen request hearer ++ rest) ≡ told_to hearer (request ∷ requests)
told_more seen (Write sector count pattern fua) hearer rest requests same = same
told_more seen (Read sector count) hearer rest requests same = same
told_more seen (ReadSum sector count) hearer rest requests same = same
told_more seen Flush hearer rest requests same = same
told_more seen Defer hearer rest requests same = same
told_more seen (Tell other) hearer rest requests same = told_or_not (eqb other hearer) seen.number (Tell other) rest (filter (tells_to hearer) requests) same
told_more seen (Hear other) hearer rest requests same = same

-- a client leaves as many notes as its requests say
pub length-left_by_all : (seen : Seen) (requests : List Request) (lines : List Line) (hearer : ℕ) → length lines ≡ length requests → length (left_by_all seen requests lines hearer) ≡ told_to hearer requests
length-left_by_all seen [] lines hearer same = refl
length-left_by_all seen (request ∷ requests) [] hearer same = cc
length-left_by_all seen (request ∷ requests) (line ∷ lines) hearer same =
    told_more seen request hearer (left_by_all (seen_after seen request line) requests lines hearer) requests
    (length-left_by_all (seen_after seen request line) requests lines hearer (omega arith))

-- the notes of other clients stay, and its own are what it leaves
pub with_notes-other : (notes : Notes) (client : ℕ) (requests : List Request) (lines : List Line) (hearer teller : ℕ) → teller ≢ client → with_notes notes client requests lines hearer teller ≡ notes hearer teller
with_notes-other notes client requests lines hearer teller other = cond-false (eqb teller client) _ _ (ne_eqb teller client other)

pub with_notes-own : (notes : Notes) (client : ℕ) (requests : List Request) (lines : List Line) (hearer : ℕ) → with_notes notes client requests lines hearer client ≡ left_by_all (first_seen (notes client)) requests lines hearer
with_notes-own notes client requests lines hearer = cond-true (eqb client client) _ _ (eq-eqb client client refl)

-- the notes of a client stay as later clients leave theirs
pub notes_after-lower : (notes : Notes) (client : ℕ) (all : List (List Request)) (transcripts : List (List Line)) (hearer teller : ℕ) → teller < client → notes_after notes client all transcripts hearer teller ≡ notes hearer teller
notes_after-lower notes client [] transcripts hearer teller lower = refl
notes_after-lower notes client (requests ∷ all) [] hearer teller lower = refl
notes_after-lower notes client (requests ∷ all) (lines ∷ transcripts) hearer teller lower =
    notes_after-lower (with_notes notes client requests lines) (suc client) all transcripts hearer teller (omega arith)
    ∙ with_notes-other notes client requests lines hearer teller (λ same. omega arith)

-- after clients from `client` on, the client at this index of them has left as many notes as its requests say
pub length-notes_after : (base : Option Image) (history : List HistoryEntry) (notes : Notes) (client : ℕ) (all : List (List Request)) (transcripts : List (List Line)) (hearer teller index : ℕ) → teller ≡ client + index → index < length all → AreLegal base history client notes all transcripts → length (notes_after notes client all transcripts hearer teller) ≡ told_to hearer (requests_at all index)
length-notes_after base history notes client [] transcripts hearer teller index at within legal = absurd (omega arith)
length-notes_after base history notes client (requests ∷ all) [] hearer teller index at within legal = absurd legal
length-notes_after base history notes client (requests ∷ all) (lines ∷ transcripts) hearer teller zero at within legal =
    let same : teller ≡ client = omega arith in
    ap length
    (notes_after-lower (with_notes notes client requests lines) (suc client) all transcripts hearer teller (omega arith)
    ∙ ap (λ (t : ℕ). with_notes notes client requests lines hearer t) same ∙ with_notes-own notes client requests lines hearer)
    ∙ length-left_by_all (first_seen (notes client)) requests lines hearer (length-answers base history client (first_seen (notes client)) requests lines legal.0.answers)
length-notes_after base history notes client (requests ∷ all) (lines ∷ transcripts) hearer teller (suc index) at within legal =
    length-notes_after base history (with_notes notes client requests lines) (suc client) all transcripts hearer teller index (omega arith) (omega arith) legal.1

-- ---- notes that are heard

none_heard : (teller : ℕ) (request : Request) (notes : List ℕ) → hears_of teller request ≡ false → notes ≡ drop (cond (hears_of teller request) 1 0) notes
none_heard teller request notes none = rw none refl

heard_one : (seen : Seen) (other teller : ℕ) → (seen_after seen (Hear other) Heard).notes teller ≡ drop (cond (eqb other teller) 1 0) (seen.notes teller)
heard_one seen other teller =
    elim (cases_eq other teller) [
      | inl same ↦ rw (eq-eqb other teller same, eq-eqb teller other (sym same)) refl
      | inr differ ↦ rw (ne_eqb other teller differ, ne_eqb teller other (λ e. differ (sym e))) refl
    ]

-- a line that answers hears just that
heard_line : (base : Option Image) (history : List HistoryEntry) (client : ℕ) (seen : Seen) (request : Request) (line : Line) (teller : ℕ) → Answers base history client seen request line → (seen_after seen request line).notes teller ≡ drop (cond (hears_of teller request) 1 0) (seen.notes teller)
heard_line base history client seen request (Wrote places stop) teller answers = none_heard teller request (seen.notes teller) (ap (hears_of teller) answers.0.3)
heard_line base history client seen request (Forced places flush stop) teller answers = none_heard teller request (seen.notes teller) (ap (hears_of teller) answers.0.3)
heard_line base history client seen request (Got point shown) teller answers = none_heard teller request (seen.notes teller) (ap (hears_of teller) answers.2)
heard_line base history client seen request (Summed point sum) teller answers = none_heard teller request (seen.notes teller) (ap (hears_of teller) answers.2)
heard_line base history client seen request (Failed device) teller answers =
    elim answers.2 [
      | inl read ↦ none_heard teller request (seen.notes teller) (ap (hears_of teller) read)
      | inr read ↦ none_heard teller request (seen.notes teller) (ap (hears_of teller) read)
    ]
heard_line base history client seen request (Flushed ended) teller answers = none_heard teller request (seen.notes teller) (ap (hears_of teller) answers.0)
heard_line base history client seen request (Deferred ended) teller answers = none_heard teller request (seen.notes teller) (ap (hears_of teller) answers.0)
heard_line base history client seen request Told teller answers = none_heard teller request (seen.notes teller) (ap (hears_of teller) answers.1)
heard_line base history client seen request Heard teller answers =
    let P : Request → Type 0 = λ r. (seen_after seen r Heard).notes teller ≡ drop (cond (hears_of teller r) 1 0) (seen.notes teller) in
    subst P (sym answers.1) (heard_one seen answers.0 teller)

heard_count : {X : Type 0} (b : Bool) (x : X) (xs : List X) → cond b 1 0 + length xs ≡ length (cond b (x ∷ xs) xs)
heard_count true x xs = omega arith
heard_count false x xs = omega arith

-- the notes that a client hasn't heard are those behind the ones that its requests hear
pub notes-seen_after_all : (base : Option Image) (history : List HistoryEntry) (client : ℕ) (seen : Seen) (requests : List Request) (lines : List Line) (teller : ℕ) → AnswersAll base history client seen requests lines → (seen_after_all seen requests lines).notes teller ≡ drop (heard_of teller requests) (seen.notes teller)
notes-seen_after_all base history client seen [] [] teller answers = refl
notes-seen_after_all base history client seen [] (line ∷ lines) teller answers = absurd answers
notes-seen_after_all base history client seen (request ∷ requests) [] teller answers = absurd answers
notes-seen_after_all base history client seen (request ∷ requests) (line ∷ lines) teller answers =
    notes-seen_after_all base history client (seen_after seen request line) requests lines teller answers.1
    ∙ ap (drop (heard_of teller requests)) (heard_line base history client seen request line teller answers.0)
    ∙ drop-drop (heard_of teller requests) (cond (hears_of teller request) 1 0) (seen.notes teller)
    ∙ ap (λ (n : ℕ). drop n (seen.notes teller)) (heard_count (hears_of teller request) request (filter (hears_of teller) requests))

-- a note is heard where fewer were heard than are left
pub Answers-heard : (base : Option Image) (history : List HistoryEntry) (client : ℕ) (notes : ℕ → List ℕ) (requests : List Request) (lines : List Line) (teller : ℕ) → AnswersAll base history client (first_seen notes) requests lines → heard_of teller requests < length (notes teller) → Answers base history client (seen_after_all (first_seen notes) requests lines) (Hear teller) Heard
Answers-heard base history client notes requests lines teller answers fewer = (
  teller,
  refl,
  get_or (notes teller) (heard_of teller requests) 0,
  drop (heard_of teller requests + 1) (notes teller),
  notes-seen_after_all base history client (first_seen notes) requests lines teller answers ∙ drop_more (notes teller) (heard_of teller requests) 0 fewer,
)
