-- Clients that are served one after another: one more request of a client, and one more client.
use Rattle.std.proofs.Common.{ℕ, ◌≡◌, ◌+◌, ◌<◌, ◌≤◌, List, [], ◌∷◌, ◌++◌, length, map, eqb, Option, refl, ap, sym, ◌∙◌, subst, zero-add, arith}
use Rattle.std.specs.Prelude.{slice_index_or}
use Rattle.std.specs.List.{All, enumerate_from}
use Rattle.std.proofs.lemmas.Bool.{cond_both}
use Rattle.std.proofs.lemmas.List.{append_assoc, length-append}
use Rattle.std.proofs.lemmas.List.Elements.{All-nil, All-cons, All-head, All-append, All-weaker, All-drop}
use Rattle.wb_geometry.specs.Image.{Image}
use Rattle.wb_geometry.specs.History.{HistoryEntry, client_of}
use Rattle.wb_geometry.specs.declared.which.Which.{Which}
use Rattle.wb_script.specs.Content.{ScriptContent}
use Rattle.wb_script.specs.Keeping.{marked}
use Rattle.wb_script.specs.Valid.{heard_of}
use Rattle.wb_script.specs.Clients.{notes_after, AreOf, IsAnswered, AreServed}
use Rattle.wb_script.specs.Transcripts.{printed_line, printed, IsHistory, Seen, first_seen, seen_after, seen_after_all, left_by, left_by_all, Answers, AnswersAll, no_notes}
use Rattle.wb_script.proofs.Sessions.{NoneIsOf, AnswersAll-longer, length-answers, AnswersAll_push, seen_push, left_push, printed_push, enumerate_from-append, IsLegal-last, length-legal, AreLegal-longer, AreLegal_push, notes_after_push, all_printed_push, IsHistory-in_order}
use Rattle.wb_script.proofs.Marks.{AnswersAll-marked, seen_after_all-marked, left_by_all-marked, printed-marked}
use Rattle.wb_script.proofs.NotesLeft.{notes-seen_after_all}
use Rattle.wb_script.specs.declared.request.Request.{Request}
use Rattle.wb_script.specs.declared.request.Request.TheVariants.{Write, Read, ReadSum, Flush, Defer, Tell, Hear}
use Rattle.wb_script.specs.declared.transcript.Line.{Line}
use Rattle.wb_script.specs.declared.transcript.Line.TheVariants.{Heard}

-- ---- a client

-- before its first request
pub IsAnswered-none : (base : Option Image) (before : List HistoryEntry) (client : ℕ) (notes : ℕ → List ℕ) → IsAnswered base before [] client notes [] []
IsAnswered-none base before client notes = record {
  answers = tt;
  owned = All-nil (λ (entry : HistoryEntry). client_of entry ≡ client);
  once = refl;
  inside = omega arith;
  left = λ hearer. All-nil (λ (number : ℕ). number ≤ length (before ++ []));
}

-- a note hands on what its client has seen
left_inside : (seen : Seen) (request : Request) (hearer most : ℕ) → seen.number ≤ most → All (λ number. number ≤ most) (left_by seen request hearer)
left_inside seen (Write sector count pattern fua) hearer most le = All-nil (λ (number : ℕ). number ≤ most)
left_inside seen (Read sector count) hearer most le = All-nil (λ (number : ℕ). number ≤ most)
left_inside seen (ReadSum sector count) hearer most le = All-nil (λ (number : ℕ). number ≤ most)
left_inside seen Flush hearer most le = All-nil (λ (number : ℕ). number ≤ most)
left_inside seen Defer hearer most le = All-nil (λ (number : ℕ). number ≤ most)
left_inside seen (Tell other) hearer most le =
    cond_both (eqb other hearer) (seen.number ∷ []) [] (All (λ number. number ≤ most))
    (λ _. All-cons (λ (number : ℕ). number ≤ most) seen.number [] le (All-nil (λ (number : ℕ). number ≤ most)))
    (λ _. All-nil (λ (number : ℕ). number ≤ most))
left_inside seen (Hear other) hearer most le = All-nil (λ (number : ℕ). number ≤ most)

-- one more request with its line, which prints `more`
pub IsAnswered_push : (base : Option Image) (before own more : List HistoryEntry) (client : ℕ) (notes : ℕ → List ℕ) (requests : List Request) (lines : List Line) (request : Request) (line : Line) → IsAnswered base before own client notes requests lines → Answers base (before ++ (own ++ more)) client (seen_after_all (first_seen notes) requests lines) request line → AreOf client more → printed_line client request line ≡ enumerate_from (length (before ++ own)) more → (seen_after (seen_after_all (first_seen notes) requests lines) request line).number ≤ length (before ++ (own ++ more)) → IsAnswered base before (own ++ more) client notes (requests ++ request ∷ []) (lines ++ line ∷ [])
IsAnswered_push base before own more client notes requests lines request line so_far answers owned once inside =
    let P : List HistoryEntry → Type 0 = λ history. AnswersAll base history client (first_seen notes) requests lines in
    let longer : length (before ++ own) ≤ length (before ++ (own ++ more)) = omega (arith, length-append before own, length-append before (own ++ more), length-append own more) in
    let same : length lines ≡ length requests = length-answers base (before ++ own) client (first_seen notes) requests lines so_far.answers in
    record {
      answers =
          AnswersAll_push base (before ++ (own ++ more)) client (first_seen notes) requests lines request line
          (subst P (append_assoc before own more) (AnswersAll-longer base (before ++ own) more client (first_seen notes) requests lines so_far.answers)) answers;
      owned = All-append (λ (entry : HistoryEntry). client_of entry ≡ client) own more so_far.owned owned;
      once =
          printed_push client requests lines request line same
          ∙ ap (λ (ps : List (ℕ × HistoryEntry)). ps ++ printed_line client request line) so_far.once
          ∙ ap (λ (ps : List (ℕ × HistoryEntry)). enumerate_from (length before) own ++ ps) (once ∙ ap (λ (n : ℕ). enumerate_from n more) (length-append before own))
          ∙ sym (enumerate_from-append (length before) own more);
      inside = subst (λ (s : Seen). s.number ≤ length (before ++ (own ++ more))) (sym (seen_push (first_seen notes) requests lines request line same)) inside;
      left = λ hearer.
          subst (All (λ number. number ≤ length (before ++ (own ++ more)))) (sym (left_push (first_seen notes) requests lines request line hearer same))
          (All-append (λ (number : ℕ). number ≤ length (before ++ (own ++ more))) (left_by_all (first_seen notes) requests lines hearer) (left_by (seen_after_all (first_seen notes) requests lines) request hearer)
          (All-weaker (λ (number : ℕ). number ≤ length (before ++ own)) (λ (number : ℕ). number ≤ length (before ++ (own ++ more))) (λ number le. omega arith) (left_by_all (first_seen notes) requests lines hearer) (so_far.left hearer))
          (left_inside (seen_after_all (first_seen notes) requests lines) request hearer (length (before ++ (own ++ more))) (omega (arith, so_far.inside))));
    }

first_inside : (notes : List ℕ) (most : ℕ) → All (λ number. number ≤ most) notes → slice_index_or notes 0 0 ≤ most
first_inside [] most all = omega arith
first_inside (number ∷ notes) most all = All-head (λ (n : ℕ). n ≤ most) number notes all

-- what it has seen stays inside where it hears a note that is
pub heard_inside : (base : Option Image) (history : List HistoryEntry) (client : ℕ) (notes : ℕ → List ℕ) (requests : List Request) (lines : List Line) (teller most : ℕ) → AnswersAll base history client (first_seen notes) requests lines → All (λ number. number ≤ most) (notes teller) → (seen_after_all (first_seen notes) requests lines).number ≤ most → (seen_after (seen_after_all (first_seen notes) requests lines) (Hear teller) Heard).number ≤ most
heard_inside base history client notes requests lines teller most answers all inside =
    let note : slice_index_or ((seen_after_all (first_seen notes) requests lines).notes teller) 0 0 ≤ most =
    first_inside ((seen_after_all (first_seen notes) requests lines).notes teller) most
    (subst (All (λ number. number ≤ most)) (sym (notes-seen_after_all base history client (first_seen notes) requests lines teller answers))
    (All-drop (λ (number : ℕ). number ≤ most) (heard_of teller requests) (notes teller) all))
    in
    omega (arith, note, inside)

-- posted flushes are marked as not done
pub IsAnswered-marked : (stable : ℕ) (device : Which) (base : Option Image) (before own : List HistoryEntry) (client : ℕ) (notes : ℕ → List ℕ) (requests : List Request) (lines : List Line) → IsAnswered base before own client notes requests lines → IsAnswered base before own client notes requests (map (marked stable device) lines)
IsAnswered-marked stable device base before own client notes requests lines answered = record {
  answers = AnswersAll-marked stable device base (before ++ own) client (first_seen notes) requests lines answered.answers;
  owned = answered.owned;
  once = printed-marked stable device client requests lines ∙ answered.once;
  inside = subst (λ (s : Seen). s.number ≤ length (before ++ own)) (sym (seen_after_all-marked stable device (first_seen notes) requests lines)) answered.inside;
  left = λ hearer. subst (All (λ number. number ≤ length (before ++ own))) (sym (left_by_all-marked stable device (first_seen notes) requests lines hearer)) (answered.left hearer);
}

-- ---- the clients

-- before the first
pub AreServed-none : (base : Option Image) → AreServed base [] [] []
AreServed-none base = record {
  legal = tt;
  once = refl;
  owned = All-nil (λ (entry : HistoryEntry). client_of entry < 0);
  left = λ hearer teller. All-nil (λ (number : ℕ). number ≤ 0);
}

-- one more client, whose entries come behind the history
pub AreServed_push : (base : Option Image) (history own : List HistoryEntry) (all : List (List Request)) (transcripts : List (List Line)) (requests : List Request) (lines : List Line) → AreServed base history all transcripts → IsAnswered base history own (length all) (notes_after no_notes 0 all transcripts (length all)) requests lines → AreServed base (history ++ own) (all ++ requests ∷ []) (transcripts ++ lines ∷ [])
AreServed_push base history own all transcripts requests lines served answered =
    let same : length transcripts ≡ length all = length-legal base history 0 no_notes all transcripts served.legal in
    let at : length all ≡ 0 + length all = omega arith in
    let more : length (all ++ requests ∷ []) ≡ length all + 1 = length-append all (requests ∷ []) in
    let longer : length history ≤ length (history ++ own) = omega (arith, length-append history own) in
    let none : NoneIsOf (length all) history =
    All-weaker (λ (e : HistoryEntry). client_of e < length all) (λ (e : HistoryEntry). client_of e ≡ length all → ⊥) (λ e lt is. omega arith) history served.owned
    in
    let later : All (λ entry. 0 + length all ≤ client_of entry) own =
    All-weaker (λ (e : HistoryEntry). client_of e ≡ length all) (λ (e : HistoryEntry). 0 + length all ≤ client_of e) (λ e is. omega arith) own answered.owned
    in
    record {
      legal =
          AreLegal_push base (history ++ own) 0 no_notes all transcripts (length all) requests lines at (AreLegal-longer base history own 0 no_notes all transcripts later served.legal)
          (IsLegal-last base history own (length all) (notes_after no_notes 0 all transcripts (length all)) requests lines answered.answers none answered.owned answered.once);
      once =
          all_printed_push 0 all transcripts (length all) requests lines at same
          ∙ ap (λ (ps : List (ℕ × HistoryEntry)). ps ++ printed (length all) requests lines) served.once
          ∙ ap (λ (ps : List (ℕ × HistoryEntry)). enumerate_from 0 history ++ ps) (answered.once ∙ ap (λ (n : ℕ). enumerate_from n own) (sym (zero-add (length history))))
          ∙ sym (enumerate_from-append 0 history own);
      owned =
          All-append (λ (e : HistoryEntry). client_of e < length (all ++ requests ∷ [])) history own
          (All-weaker (λ (e : HistoryEntry). client_of e < length all) (λ (e : HistoryEntry). client_of e < length (all ++ requests ∷ [])) (λ e lt. omega arith) history served.owned)
          (All-weaker (λ (e : HistoryEntry). client_of e ≡ length all) (λ (e : HistoryEntry). client_of e < length (all ++ requests ∷ [])) (λ e is. omega arith) own answered.owned);
      left = λ hearer teller.
          subst (All (λ number. number ≤ length (history ++ own))) (sym (ap (λ (notes : ℕ → ℕ → List ℕ). notes hearer teller) (notes_after_push no_notes 0 all transcripts (length all) requests lines at same)))
          (cond_both (eqb teller (length all)) (left_by_all (first_seen (notes_after no_notes 0 all transcripts (length all))) requests lines hearer) (notes_after no_notes 0 all transcripts hearer teller) (All (λ number. number ≤ length (history ++ own)))
          (λ _. answered.left hearer)
          (λ _. All-weaker (λ (number : ℕ). number ≤ length history) (λ (number : ℕ). number ≤ length (history ++ own)) (λ number le. omega arith) (notes_after no_notes 0 all transcripts hearer teller) (served.left hearer teller)));
    }

-- they print one history
pub AreServed-history : (base : Option Image) (history : List HistoryEntry) (script : ScriptContent) (transcripts : List (List Line)) → AreServed base history script.requests transcripts → IsHistory script transcripts (length history) history
AreServed-history base history script transcripts served = IsHistory-in_order script transcripts history served.once
