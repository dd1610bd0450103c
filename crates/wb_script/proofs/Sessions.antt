-- Legal transcripts and the history that they print: one more line, a longer history, one more client.
use Rattle.std.proofs.Common.{ℕ, zero, suc, ◌≡◌, ◌≢◌, ◌+◌, ◌-◌, ◌<◌, ◌≤◌, List, [], ◌∷◌, ◌++◌, length, get_or, take, map, replicate, eqb, ◌==◌, Option, Some, None, refl, ap, sym, ◌∙◌, subst, zero-add, arith}
use Rattle.std.specs.Prelude.{max, zip}
use Rattle.std.specs.List.{All, filter, sum_by, enumerate_from, range_with_len}
use Rattle.std.specs.List.Sorted.{IsPermutation}
use Rattle.std.proofs.lemmas.Option.{IfSome_then}
use Rattle.std.proofs.lemmas.List.Sums.{sum-map, sum_by-append, fold_push}
use Rattle.std.proofs.lemmas.Bool.{cond-true, cond-false, eq-eqb, ne_eqb}
use Rattle.std.proofs.lemmas.List.{append-nil, append_assoc, length-append, take-append-le, ext_get_or, get_or_default}
use Rattle.std.proofs.lemmas.List.Elements.{Contains-get_or, All-head, All-tail, All-weaker, filter-append}
use Rattle.std.proofs.lemmas.List.Sorted.{IsPermutation-refl, IsPermutation-sym, IsPermutation-trans, Contains-permutation}
use Rattle.std.proofs.lemmas.List.FromFn.{length-enumerate_from, get_or-enumerate_from}
use Rattle.wb_geometry.specs.Image.{Image, bytes_at}
use Rattle.wb_geometry.specs.History.{HistoryEntry, Void, client_of, after}
use Rattle.wb_geometry.specs.declared.which.Which.{Which}
use Rattle.wb_script.specs.Content.{ScriptContent}
use Rattle.wb_script.specs.Transcripts.{printed_line, printed, all_printed, voids_of, IsHistory, placed, Seen, seen_after, seen_after_all, left_by, left_by_all, above, Rises, IsFlush, IsForced, IsShown, Answers, AnswersAll, IsLegal, AreLegal, Notes, with_notes, covered_line, covered_by, covered, is_failure, failures, all_failures}
use Rattle.wb_script.specs.Clients.{notes_after, AreOf}
use Rattle.wb_script.specs.declared.request.Request.{Request}
use Rattle.wb_script.specs.declared.transcript.Ended.{Ended}
use Rattle.wb_script.specs.declared.transcript.Stop.{Stop}
use Rattle.wb_script.specs.declared.transcript.Stop.TheVariants.{Whole, Down, Ids}
use Rattle.wb_script.specs.declared.transcript.Line.{Line}
use Rattle.wb_script.specs.declared.transcript.Line.TheVariants.{Wrote, Forced, Got, Summed, Failed, Flushed, Deferred, Told, Heard}

-- ---- a longer history

-- a flush has its number inside a longer history
pub IsFlush-longer : {seen places : ℕ} {ended : Ended} (more : ℕ) → places ≤ more → IsFlush seen places ended → IsFlush seen more ended
IsFlush-longer more le flush = record { after_seen = flush.after_seen; inside = omega arith }

pub IsForced-longer : (seen places more : ℕ) (stop : Stop) (flush : Option Ended) → places ≤ more → IsForced seen places stop flush → IsForced seen more stop flush
IsForced-longer seen places more Whole None le forced = absurd forced
IsForced-longer seen places more Whole (Some ended) le forced = IsFlush-longer more le forced
IsForced-longer seen places more (Down device) None le forced = tt
IsForced-longer seen places more (Down device) (Some ended) le forced = absurd forced
IsForced-longer seen places more Ids None le forced = tt
IsForced-longer seen places more Ids (Some ended) le forced = absurd forced

-- bytes that were shown at a point of the history are shown at it in a longer one
pub IsShown-longer : {base : Option Image} {history : List HistoryEntry} {seen point sector count : ℕ} {bytes : List ℕ} (more : List HistoryEntry) → IsShown base history seen point sector count bytes → IsShown base (history ++ more) seen point sector count bytes
IsShown-longer {base} {history} {seen} {point} {sector} {count} {bytes} more shown = record {
  later = shown.later;
  inside = omega (arith, shown.inside, length-append history more);
  size = shown.size;
  are = IfSome_then base shown.are (λ image is. is ∙ ap (λ (es : List HistoryEntry). bytes_at (after image es) sector count) (sym (take-append-le point history more shown.inside)));
}

-- a line that answers a request still does over a longer history
pub Answers-longer : (base : Option Image) (history more : List HistoryEntry) (client : ℕ) (seen : Seen) (request : Request) (line : Line) → Answers base history client seen request line → Answers base (history ++ more) client seen request line
Answers-longer base history more client seen request (Wrote places stop) answers = answers
Answers-longer base history more client seen request (Forced places flush stop) answers =
    (answers.0, answers.1, answers.2, IsForced-longer _ (length history) (length (history ++ more)) stop flush (omega (arith, length-append history more)) answers.3)
Answers-longer base history more client seen request (Got point shown) answers = (answers.0, answers.1, answers.2, IsShown-longer more answers.3)
Answers-longer base history more client seen request (Summed point sum) answers =
    (answers.0, answers.1, answers.2, (answers.3.0, answers.3.1, IsShown-longer more answers.3.2))
Answers-longer base history more client seen request (Failed device) answers = answers
Answers-longer base history more client seen request (Flushed ended) answers = (answers.0, IsFlush-longer (length (history ++ more)) (omega (arith, length-append history more)) answers.1)
Answers-longer base history more client seen request (Deferred ended) answers = (answers.0, IsFlush-longer (length (history ++ more)) (omega (arith, length-append history more)) answers.1)
Answers-longer base history more client seen request Told answers = answers
Answers-longer base history more client seen request Heard answers = answers

-- so do lines that answer requests
pub AnswersAll-longer : (base : Option Image) (history more : List HistoryEntry) (client : ℕ) (seen : Seen) (requests : List Request) (lines : List Line) → AnswersAll base history client seen requests lines → AnswersAll base (history ++ more) client seen requests lines
AnswersAll-longer base history more client seen [] [] answers = tt
AnswersAll-longer base history more client seen [] (line ∷ lines) answers = absurd answers
AnswersAll-longer base history more client seen (request ∷ requests) [] answers = absurd answers
AnswersAll-longer base history more client seen (request ∷ requests) (line ∷ lines) answers =
    (Answers-longer base history more client seen request line answers.0, AnswersAll-longer base history more client (seen_after seen request line) requests lines answers.1)

-- ---- one more line

-- there is a line for each request
pub length-answers : (base : Option Image) (history : List HistoryEntry) (client : ℕ) (seen : Seen) (requests : List Request) (lines : List Line) → AnswersAll base history client seen requests lines → length lines ≡ length requests
length-answers base history client seen [] [] answers = refl
length-answers base history client seen [] (line ∷ lines) answers = absurd answers
length-answers base history client seen (request ∷ requests) [] answers = absurd answers
length-answers base history client seen (request ∷ requests) (line ∷ lines) answers = ap suc (length-answers base history client (seen_after seen request line) requests lines answers.1)

-- one more request with the line that answers it, after all that the client has seen in the lines before
pub AnswersAll_push : (base : Option Image) (history : List HistoryEntry) (client : ℕ) (seen : Seen) (requests : List Request) (lines : List Line) (request : Request) (line : Line) → AnswersAll base history client seen requests lines → Answers base history client (seen_after_all seen requests lines) request line → AnswersAll base history client seen (requests ++ request ∷ []) (lines ++ line ∷ [])
AnswersAll_push base history client seen [] [] request line answers next = (next, tt)
AnswersAll_push base history client seen [] (l ∷ lines) request line answers next = absurd answers
AnswersAll_push base history client seen (r ∷ requests) [] request line answers next = absurd answers
AnswersAll_push base history client seen (r ∷ requests) (l ∷ lines) request line answers next =
    (answers.0, AnswersAll_push base history client (seen_after seen r l) requests lines request line answers.1 next)

-- what the client has seen after one more line
pub seen_push : (seen : Seen) (requests : List Request) (lines : List Line) (request : Request) (line : Line) → length lines ≡ length requests → seen_after_all seen (requests ++ request ∷ []) (lines ++ line ∷ []) ≡ seen_after (seen_after_all seen requests lines) request line
seen_push seen [] [] request line same = refl
seen_push seen [] (l ∷ lines) request line same = cc
seen_push seen (r ∷ requests) [] request line same = cc
seen_push seen (r ∷ requests) (l ∷ lines) request line same = seen_push (seen_after seen r l) requests lines request line (omega arith)

-- the notes that are left after one more line
pub left_push : (seen : Seen) (requests : List Request) (lines : List Line) (request : Request) (line : Line) (hearer : ℕ) → length lines ≡ length requests → left_by_all seen (requests ++ request ∷ []) (lines ++ line ∷ []) hearer ≡ left_by_all seen requests lines hearer ++ left_by (seen_after_all seen requests lines) request hearer
left_push seen [] [] request line hearer same = append-nil (left_by seen request hearer)
left_push seen [] (l ∷ lines) request line hearer same = cc
left_push seen (r ∷ requests) [] request line hearer same = cc
left_push seen (r ∷ requests) (l ∷ lines) request line hearer same =
    ap (λ (ns : List ℕ). left_by seen r hearer ++ ns) (left_push (seen_after seen r l) requests lines request line hearer (omega arith))
    ∙ sym (append_assoc (left_by seen r hearer) (left_by_all (seen_after seen r l) requests lines hearer) (left_by (seen_after_all (seen_after seen r l) requests lines) request hearer))

-- one more line prints its places behind those of the others
pub printed_push : (client : ℕ) (requests : List Request) (lines : List Line) (request : Request) (line : Line) → length lines ≡ length requests → printed client (requests ++ request ∷ []) (lines ++ line ∷ []) ≡ printed client requests lines ++ printed_line client request line
printed_push client [] [] request line same = append-nil (printed_line client request line)
printed_push client [] (l ∷ lines) request line same = cc
printed_push client (r ∷ requests) [] request line same = cc
printed_push client (r ∷ requests) (l ∷ lines) request line same =
    ap (λ (ps : List (ℕ × HistoryEntry)). printed_line client r l ++ ps) (printed_push client requests lines request line (omega arith))
    ∙ sym (append_assoc (printed_line client r l) (printed client requests lines) (printed_line client request line))

-- the failures in one more line
pub failures_push : (which : Which) (lines : List Line) (line : Line) → failures which (lines ++ line ∷ []) ≡ failures which lines + is_failure which line
failures_push which lines line =
    sum-map (is_failure which) (lines ++ line ∷ [])
    ∙ sum_by-append (is_failure which) lines (line ∷ [])
    ∙ (let z : sum_by (is_failure which) lines + (0 + is_failure which line) ≡ sum_by (is_failure which) lines + is_failure which line = omega arith in z)
    ∙ ap (λ (n : ℕ). n + is_failure which line) (sym (sum-map (is_failure which) lines))

-- the greatest number of a flush after one more line
pub covered_push : (lines : List Line) (line : Line) → covered_by (lines ++ line ∷ []) ≡ max (covered_by lines) (covered_line line)
covered_push lines line = fold_push (λ (most : ℕ) (l : Line). max most (covered_line l)) 0 lines line

-- ---- entries with their places

-- of two lists
pub enumerate_from-append : {X : Type 0} (n : ℕ) (xs ys : List X) → enumerate_from n (xs ++ ys) ≡ enumerate_from n xs ++ enumerate_from (n + length xs) ys
enumerate_from-append n [] ys = ap (λ (i : ℕ). enumerate_from i ys) (let e : n ≡ n + 0 = omega arith in e)
enumerate_from-append {X} n (x ∷ xs) ys =
    ap (λ (ps : List (ℕ × X)). (n, x) ∷ ps)
    (enumerate_from-append (n + 1) xs ys
    ∙ ap (λ (i : ℕ). enumerate_from (n + 1) xs ++ enumerate_from i ys) (let e : n + 1 + length xs ≡ n + suc (length xs) = omega arith in e))

-- the first so many of a list, with places that follow one another
pub zip-range_with_len : {X : Type 0} (n count : ℕ) (xs : List X) → zip (range_with_len n count) xs ≡ enumerate_from n (take count xs)
zip-range_with_len n zero xs = refl
zip-range_with_len n (suc count) [] = refl
zip-range_with_len {X} n (suc count) (x ∷ xs) = ap (λ (ps : List (ℕ × X)). (n, x) ∷ ps) (zip-range_with_len (n + 1) count xs)

-- places that follow one another rise
pub Rises-range_with_len : (number n count : ℕ) → number ≤ n → Rises number (range_with_len n count)
Rises-range_with_len number n zero le = tt
Rises-range_with_len number n (suc count) le = (le, Rises-range_with_len (n + 1) (n + 1) count (omega arith))

-- the number above them
pub above-range_with_len : (number n count : ℕ) → 0 < count → above number (range_with_len n count) ≡ n + count
above-range_with_len number n zero some = absurd (omega arith)
above-range_with_len number n (suc zero) some = omega arith
above-range_with_len number n (suc (suc count)) some = above-range_with_len (n + 1) (n + 1) (suc count) (omega arith) ∙ (let e : n + 1 + suc count ≡ n + suc (suc count) = omega arith in e)

voids_from : (client n count : ℕ) → map (λ place. (place, Void client)) (range_with_len n count) ≡ enumerate_from n (replicate count (Void client))
voids_from client n zero = refl
voids_from client n (suc count) = ap (λ (ps : List (ℕ × HistoryEntry)). (n, Void client) ∷ ps) (voids_from client (n + 1) count)

-- the places that a flush took
pub voids-enumerate_from : (client : ℕ) (ended : Ended) → voids_of client ended ≡ enumerate_from (ended.through - ended.voids) (replicate ended.voids (Void client))
voids-enumerate_from client ended = voids_from client (ended.through - ended.voids) ended.voids

-- ---- the entries of a client

-- no entry is the client's
abbrev pub NoneIsOf : ℕ → List HistoryEntry → Type 0
NoneIsOf client entries = All (λ entry. client_of entry ≢ client) entries

own_from : (client n : ℕ) (entries : List HistoryEntry) → AreOf client entries → filter (λ p. client_of p.1 == client) (enumerate_from n entries) ≡ enumerate_from n entries
own_from client n [] own = refl
own_from client n (entry ∷ entries) own =
    cond-true (eqb (client_of entry) client) _ _ (eq-eqb (client_of entry) client (All-head (λ (e : HistoryEntry). client_of e ≡ client) entry entries own))
    ∙ ap (λ (ps : List (ℕ × HistoryEntry)). (n, entry) ∷ ps) (own_from client (n + 1) entries (All-tail (λ (e : HistoryEntry). client_of e ≡ client) entry entries own))

none_from : (client n : ℕ) (entries : List HistoryEntry) → NoneIsOf client entries → filter (λ p. client_of p.1 == client) (enumerate_from n entries) ≡ []
none_from client n [] none = refl
none_from client n (entry ∷ entries) none =
    cond-false (eqb (client_of entry) client) _ _ (ne_eqb (client_of entry) client (All-head (λ (e : HistoryEntry). client_of e ≢ client) entry entries none))
    ∙ none_from client (n + 1) entries (All-tail (λ (e : HistoryEntry). client_of e ≢ client) entry entries none)

-- its entries in a longer history
placed-append : (client : ℕ) (history more : List HistoryEntry) → placed client (history ++ more) ≡ placed client history ++ filter (λ p. client_of p.1 == client) (enumerate_from (length history) more)
placed-append client history more =
    ap (filter (λ p. client_of p.1 == client)) (enumerate_from-append 0 history more)
    ∙ filter-append (λ (p : ℕ × HistoryEntry). client_of p.1 == client) (enumerate_from 0 history) (enumerate_from (0 + length history) more)
    ∙ ap (λ (n : ℕ). placed client history ++ filter (λ p. client_of p.1 == client) (enumerate_from n more)) (zero-add (length history))

-- they stay where no more is its own
pub placed-others : (client : ℕ) (history more : List HistoryEntry) → NoneIsOf client more → placed client (history ++ more) ≡ placed client history
placed-others client history more none =
    placed-append client history more
    ∙ ap (λ (ps : List (ℕ × HistoryEntry)). placed client history ++ ps) (none_from client (length history) more none)
    ∙ append-nil (placed client history)

-- where its entries stand one after another
pub placed-own : (client : ℕ) (before own : List HistoryEntry) → NoneIsOf client before → AreOf client own → placed client (before ++ own) ≡ enumerate_from (length before) own
placed-own client before own none all =
    placed-append client before own
    ∙ ap (λ (ps : List (ℕ × HistoryEntry)). ps ++ filter (λ p. client_of p.1 == client) (enumerate_from (length before) own)) (none_from client 0 before none)
    ∙ own_from client (length before) own all

-- and others behind them
pub placed-between : (client : ℕ) (before own behind : List HistoryEntry) → NoneIsOf client before → AreOf client own → NoneIsOf client behind → placed client (before ++ own ++ behind) ≡ enumerate_from (length before) own
placed-between client before own behind none all others =
    placed-others client (before ++ own) behind others ∙ placed-own client before own none all

-- ---- a legal transcript

-- lines that answer, and print the client's own entries where they stand, the last of the history
pub IsLegal-last : (base : Option Image) (before own : List HistoryEntry) (client : ℕ) (notes : ℕ → List ℕ) (requests : List Request) (lines : List Line) → AnswersAll base (before ++ own) client (record { number = 0; notes = notes }) requests lines → NoneIsOf client before → AreOf client own → printed client requests lines ≡ enumerate_from (length before) own → IsLegal base (before ++ own) client notes requests lines
IsLegal-last base before own client notes requests lines answers none all once = record {
  answers = answers;
  own = once ∙ sym (placed-own client before own none all);
}

-- it stays legal where others' entries come behind the history
pub IsLegal-longer : (base : Option Image) (history more : List HistoryEntry) (client : ℕ) (notes : ℕ → List ℕ) (requests : List Request) (lines : List Line) → NoneIsOf client more → IsLegal base history client notes requests lines → IsLegal base (history ++ more) client notes requests lines
IsLegal-longer base history more client notes requests lines none legal = record {
  answers = AnswersAll-longer base history more client (record { number = 0; notes = notes }) requests lines legal.answers;
  own = legal.own ∙ sym (placed-others client history more none);
}

-- ---- the clients one after another

-- there is a transcript for each client
pub length-legal : (base : Option Image) (history : List HistoryEntry) (client : ℕ) (notes : Notes) (all : List (List Request)) (transcripts : List (List Line)) → AreLegal base history client notes all transcripts → length transcripts ≡ length all
length-legal base history client notes [] [] legal = refl
length-legal base history client notes [] (lines ∷ transcripts) legal = absurd legal
length-legal base history client notes (requests ∷ all) [] legal = absurd legal
length-legal base history client notes (requests ∷ all) (lines ∷ transcripts) legal =
    ap suc (length-legal base history (suc client) (with_notes notes client requests lines) all transcripts legal.1)

-- they stay legal where entries of later clients come behind the history
pub AreLegal-longer : (base : Option Image) (history more : List HistoryEntry) (client : ℕ) (notes : Notes) (all : List (List Request)) (transcripts : List (List Line)) → All (λ entry. client + length all ≤ client_of entry) more → AreLegal base history client notes all transcripts → AreLegal base (history ++ more) client notes all transcripts
AreLegal-longer base history more client notes [] [] later legal = tt
AreLegal-longer base history more client notes [] (lines ∷ transcripts) later legal = absurd legal
AreLegal-longer base history more client notes (requests ∷ all) [] later legal = absurd legal
AreLegal-longer base history more client notes (requests ∷ all) (lines ∷ transcripts) later legal = (
  IsLegal-longer base history more client (notes client) requests lines
      (All-weaker (λ (e : HistoryEntry). client + length (requests ∷ all) ≤ client_of e) (λ (e : HistoryEntry). client_of e ≢ client) (λ e le same. omega arith) more later) legal.0,
  AreLegal-longer base history more (suc client) (with_notes notes client requests lines) all transcripts
      (All-weaker (λ (e : HistoryEntry). client + length (requests ∷ all) ≤ client_of e) (λ (e : HistoryEntry). suc client + length all ≤ client_of e) (λ e le. omega arith) more later) legal.1,
)

-- one more client, whose transcript is legal beside the notes that those before it left
pub AreLegal_push : (base : Option Image) (history : List HistoryEntry) (client : ℕ) (notes : Notes) (all : List (List Request)) (transcripts : List (List Line)) (last : ℕ) (requests : List Request) (lines : List Line) → last ≡ client + length all → AreLegal base history client notes all transcripts → IsLegal base history last (notes_after notes client all transcripts last) requests lines → AreLegal base history client notes (all ++ requests ∷ []) (transcripts ++ lines ∷ [])
AreLegal_push base history client notes [] [] last requests lines at legal next =
    let e : last ≡ client = omega arith in
    let P : ℕ → Type 0 = λ n. IsLegal base history n (notes n) requests lines in
    (subst P e next, tt)
AreLegal_push base history client notes [] (l ∷ transcripts) last requests lines at legal next = absurd legal
AreLegal_push base history client notes (r ∷ all) [] last requests lines at legal next = absurd legal
AreLegal_push base history client notes (r ∷ all) (l ∷ transcripts) last requests lines at legal next =
    (legal.0, AreLegal_push base history (suc client) (with_notes notes client r l) all transcripts last requests lines (omega arith) legal.1 next)

-- the notes that are left after one more client
pub notes_after_push : (notes : Notes) (client : ℕ) (all : List (List Request)) (transcripts : List (List Line)) (last : ℕ) (requests : List Request) (lines : List Line) → last ≡ client + length all → length transcripts ≡ length all → notes_after notes client (all ++ requests ∷ []) (transcripts ++ lines ∷ []) ≡ with_notes (notes_after notes client all transcripts) last requests lines
notes_after_push notes client [] [] last requests lines at same =
    let e : client ≡ last = omega arith in
    ap (λ (n : ℕ). with_notes notes n requests lines) e
notes_after_push notes client [] (l ∷ transcripts) last requests lines at same = cc
notes_after_push notes client (r ∷ all) [] last requests lines at same = cc
notes_after_push notes client (r ∷ all) (l ∷ transcripts) last requests lines at same =
    notes_after_push (with_notes notes client r l) (suc client) all transcripts last requests lines (omega arith) (omega arith)

-- the entries that one more client prints stand behind those of the others
pub all_printed_push : (client : ℕ) (all : List (List Request)) (transcripts : List (List Line)) (last : ℕ) (requests : List Request) (lines : List Line) → last ≡ client + length all → length transcripts ≡ length all → all_printed client (all ++ requests ∷ []) (transcripts ++ lines ∷ []) ≡ all_printed client all transcripts ++ printed last requests lines
all_printed_push client [] [] last requests lines at same =
    let e : client ≡ last = omega arith in
    append-nil (printed client requests lines) ∙ ap (λ (n : ℕ). printed n requests lines) e
all_printed_push client [] (l ∷ transcripts) last requests lines at same = cc
all_printed_push client (r ∷ all) [] last requests lines at same = cc
all_printed_push client (r ∷ all) (l ∷ transcripts) last requests lines at same =
    ap (λ (ps : List (ℕ × HistoryEntry)). printed client r l ++ ps) (all_printed_push (suc client) all transcripts last requests lines (omega arith) (omega arith))
    ∙ sym (append_assoc (printed client r l) (all_printed (suc client) all transcripts) (printed last requests lines))

-- the failures of one more client
pub all_failures_push : (which : Which) (transcripts : List (List Line)) (lines : List Line) → all_failures which (transcripts ++ lines ∷ []) ≡ all_failures which transcripts + failures which lines
all_failures_push which transcripts lines =
    sum-map (failures which) (transcripts ++ lines ∷ [])
    ∙ sum_by-append (failures which) transcripts (lines ∷ [])
    ∙ (let z : sum_by (failures which) transcripts + (0 + failures which lines) ≡ sum_by (failures which) transcripts + failures which lines = omega arith in z)
    ∙ ap (λ (n : ℕ). n + failures which lines) (sym (sum-map (failures which) transcripts))

-- the greatest number of a flush after one more client
pub covered_all_push : (transcripts : List (List Line)) (lines : List Line) → covered (transcripts ++ lines ∷ []) ≡ max (covered transcripts) (covered_by lines)
covered_all_push transcripts lines = fold_push (λ (most : ℕ) (own : List Line). max most (covered_by own)) 0 transcripts lines

-- ---- the history

-- transcripts that print a history in order
pub IsHistory-in_order : (script : ScriptContent) (transcripts : List (List Line)) (history : List HistoryEntry) → all_printed 0 script.requests transcripts ≡ enumerate_from 0 history → IsHistory script transcripts (length history) history
IsHistory-in_order script transcripts history once = record {
  count = refl;
  once = subst (λ (ps : List (ℕ × HistoryEntry)). IsPermutation ps (enumerate_from 0 history)) (sym once) (IsPermutation-refl (enumerate_from 0 history));
}

same_place : (a b : List HistoryEntry) → length a ≡ length b → IsPermutation (enumerate_from 0 a) (enumerate_from 0 b) → (k : ℕ) → k < length a → get_or a k (Void 0) ≡ get_or b k (Void 0)
same_place a b same moved k lt =
    let nothing : ℕ × HistoryEntry = (0, Void 0) in
    let la : k < length (enumerate_from 0 a) = rw length-enumerate_from lt in
    let here : get_or (enumerate_from 0 a) k nothing ≡ (k, get_or a k (Void 0)) = get_or-enumerate_from 0 a k nothing lt ∙ ap (λ (i : ℕ). (i, get_or a k (Void 0))) (let z : 0 + k ≡ k = omega arith in z) in
    let there = Contains-permutation (enumerate_from 0 a) (enumerate_from 0 b) (get_or (enumerate_from 0 a) k nothing) moved (Contains-get_or (enumerate_from 0 a) k nothing la) in
    let j : ℕ = there.0 in
    let lb : j < length b = rw length-enumerate_from at there.1 in
    let pair : (0 + j, get_or b j (get_or (enumerate_from 0 a) k nothing).1) ≡ (k, get_or a k (Void 0)) = sym (get_or-enumerate_from 0 b j (get_or (enumerate_from 0 a) k nothing) lb) ∙ there.2 ∙ here in
    let place : j ≡ k = sym (zero-add j) ∙ ap (λ (p : ℕ × HistoryEntry). p.0) pair in
    sym (ap (λ (p : ℕ × HistoryEntry). p.1) pair)
    ∙ get_or_default b j (get_or (enumerate_from 0 a) k nothing).1 (Void 0) lb
    ∙ ap (λ (i : ℕ). get_or b i (Void 0)) place

-- the transcripts print one history
pub one_history : (script : ScriptContent) (transcripts : List (List Line)) (places : ℕ) (a b : List HistoryEntry) → IsHistory script transcripts places a → IsHistory script transcripts places b → a ≡ b
one_history script transcripts places a b first second =
    let same : length a ≡ length b = first.count ∙ sym second.count in
    let moved : IsPermutation (enumerate_from 0 a) (enumerate_from 0 b) = IsPermutation-trans _ _ _ (IsPermutation-sym _ _ first.once) second.once in
    ext_get_or (Void 0) a b same (λ k lt. same_place a b same moved k lt)
