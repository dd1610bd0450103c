-- Requests and lines behind others, and the notes of both.
use Rattle.std.proofs.Common.{ℕ, zero, suc, ◌≡◌, ◌+◌, ◌≤◌, Bool, true, false, cond, eqb, List, [], ◌∷◌, ◌++◌, length, map, filter, fold, drop, max, Option, ◌⊎◌, inl, inr, refl, ap, sym, ◌∙◌, arith}
use Rattle.std.specs.List.{Any, All, zip}
use Rattle.std.proofs.lemmas.List.{append_assoc, length-append, map-append}
use Rattle.std.proofs.lemmas.List.Elements.{filter-append, All-nil, All-cons, All-head, All-tail, All-append}
use Rattle.std.proofs.lemmas.List.Sums.{sum-map, sum_by-append}
use Rattle.wb_geometry.specs.Image.{Image}
use Rattle.wb_geometry.specs.History.{HistoryEntry}
use Rattle.wb_geometry.specs.declared.which.Which.{Which}
use Rattle.wb_script.specs.Valid.{heard_of, hears_of, told_to, tells_to}
use Rattle.wb_script.specs.Transcripts.{Seen, seen_after, seen_after_all, AnswersAll, printed, printed_line, left_by, left_by_all, failures, is_failure}
use Rattle.wb_script.specs.declared.request.Request.{Request}
use Rattle.wb_script.specs.declared.request.Request.TheVariants.{Write, Read, ReadSum, Flush, Defer, Tell, Hear}
use Rattle.wb_script.specs.declared.transcript.Line.{Line}
use Rattle.wb_client.specs.Played.{values_of, AreWithin, hearer_of, hearers_of, told_for, awaited_line, awaited_by, RoseTo}

-- ---- numbers within others

pub within_first : (left front behind : List ℕ) → AreWithin left (front ++ behind) → AreWithin left front
within_first left [] behind within = tt
within_first [] (number ∷ front) behind within = absurd within
within_first (note ∷ left) (number ∷ front) behind within = (within.0, within_first left front behind within.1)

pub within_rest : (left front behind : List ℕ) → AreWithin left (front ++ behind) → AreWithin (drop (length front) left) behind
within_rest left [] behind within = within
within_rest [] (number ∷ front) behind within = absurd within
within_rest (note ∷ left) (number ∷ front) behind within = within_rest left front behind within.1

pub within_both : (left more front behind : List ℕ) → length left ≡ length front → AreWithin left front → AreWithin more behind → AreWithin (left ++ more) (front ++ behind)
within_both [] more [] behind same a b = b
within_both [] more (number ∷ front) behind same a b = absurd a
within_both (note ∷ left) more [] behind same a b = absurd (omega arith)
within_both (note ∷ left) more (number ∷ front) behind same a b = (a.0, within_both left more front behind (omega arith) a.1 b)

-- ---- values with clients

module _ {X : Type 0} where
  pub values_append : (client : ℕ) (front behind : List (ℕ × X)) → values_of client (front ++ behind) ≡ values_of client front ++ values_of client behind
  values_append client front behind =
      ap (map (λ (p : ℕ × X). p.1)) (filter-append (λ (p : ℕ × X). eqb p.0 client) front behind)
      ∙ map-append (λ (p : ℕ × X). p.1) (filter (λ p. eqb p.0 client) front) (filter (λ p. eqb p.0 client) behind)

  pub zip_append : (front behind : List ℕ) (values more : List X) → length values ≡ length front → zip (front ++ behind) (values ++ more) ≡ zip front values ++ zip behind more
  zip_append [] behind [] more same = refl
  zip_append [] behind (value ∷ values) more same = absurd (omega arith)
  zip_append (key ∷ front) behind [] more same = absurd (omega arith)
  zip_append (key ∷ front) behind (value ∷ values) more same = ap (λ (l : List (ℕ × X)). (key, value) ∷ l) (zip_append front behind values more (omega arith))

-- ---- requests

pub hearers_append : (requests rest : List Request) → hearers_of (requests ++ rest) ≡ hearers_of requests ++ hearers_of rest
hearers_append [] rest = refl
hearers_append (request ∷ requests) rest =
    ap (λ (l : List ℕ). hearer_of request ++ l) (hearers_append requests rest) ∙ sym (append_assoc (hearer_of request) (hearers_of requests) (hearers_of rest))

pub told_append : (hearer : ℕ) (requests rest : List Request) (told more : List ℕ) → length told ≡ length (hearers_of requests) → told_for hearer (requests ++ rest) (told ++ more) ≡ told_for hearer requests told ++ told_for hearer rest more
told_append hearer requests rest told more same =
    ap (λ (l : List ℕ). values_of hearer (zip l (told ++ more))) (hearers_append requests rest)
    ∙ ap (values_of hearer) (zip_append (hearers_of requests) (hearers_of rest) told more same)
    ∙ values_append hearer (zip (hearers_of requests) told) (zip (hearers_of rest) more)

one_told : (b : Bool) (hearer other number : ℕ) (requests : List Request) (pairs : List (ℕ × ℕ)) → length (values_of hearer pairs) ≡ told_to hearer requests
    → length (map (λ (p : ℕ × ℕ). p.1) (cond b ((other, number) ∷ filter (λ p. eqb p.0 hearer) pairs) (filter (λ p. eqb p.0 hearer) pairs)))
    ≡ length (cond b (Tell other ∷ filter (tells_to hearer) requests) (filter (tells_to hearer) requests))
one_told true hearer other number requests pairs same = ap suc same
one_told false hearer other number requests pairs same = same

-- a client tells another as often as its requests say
pub length-told_for : (hearer : ℕ) (requests : List Request) (told : List ℕ) → length told ≡ length (hearers_of requests) → length (told_for hearer requests told) ≡ told_to hearer requests
length-told_for hearer [] told same = refl
length-told_for hearer (Write sector count pattern fua ∷ requests) told same = length-told_for hearer requests told same
length-told_for hearer (Read sector count ∷ requests) told same = length-told_for hearer requests told same
length-told_for hearer (ReadSum sector count ∷ requests) told same = length-told_for hearer requests told same
length-told_for hearer (Flush ∷ requests) told same = length-told_for hearer requests told same
length-told_for hearer (Defer ∷ requests) told same = length-told_for hearer requests told same
length-told_for hearer (Tell other ∷ requests) [] same = absurd (omega arith)
length-told_for hearer (Tell other ∷ requests) (number ∷ told) same =
    one_told (eqb other hearer) hearer other number requests (zip (hearers_of requests) told) (length-told_for hearer requests told (omega arith))
length-told_for hearer (Hear other ∷ requests) told same = length-told_for hearer requests told same

pub heard_append : (teller : ℕ) (requests rest : List Request) → heard_of teller (requests ++ rest) ≡ heard_of teller requests + heard_of teller rest
heard_append teller requests rest = ap length (filter-append (hears_of teller) requests rest) ∙ length-append (filter (hears_of teller) requests) (filter (hears_of teller) rest)

-- ---- lines that answer them

pub seen_append : (seen : Seen) (requests rest : List Request) (lines behind : List Line) → length lines ≡ length requests
    → seen_after_all seen (requests ++ rest) (lines ++ behind) ≡ seen_after_all (seen_after_all seen requests lines) rest behind
seen_append seen [] rest [] behind same = refl
seen_append seen [] rest (line ∷ lines) behind same = absurd (omega arith)
seen_append seen (request ∷ requests) rest [] behind same = absurd (omega arith)
seen_append seen (request ∷ requests) rest (line ∷ lines) behind same = seen_append (seen_after seen request line) requests rest lines behind (omega arith)

pub left_append : (seen : Seen) (requests rest : List Request) (lines behind : List Line) (hearer : ℕ) → length lines ≡ length requests
    → left_by_all seen (requests ++ rest) (lines ++ behind) hearer ≡ left_by_all seen requests lines hearer ++ left_by_all (seen_after_all seen requests lines) rest behind hearer
left_append seen [] rest [] behind hearer same = refl
left_append seen [] rest (line ∷ lines) behind hearer same = absurd (omega arith)
left_append seen (request ∷ requests) rest [] behind hearer same = absurd (omega arith)
left_append seen (request ∷ requests) rest (line ∷ lines) behind hearer same =
    ap (λ (l : List ℕ). left_by seen request hearer ++ l) (left_append (seen_after seen request line) requests rest lines behind hearer (omega arith))
    ∙ sym (append_assoc (left_by seen request hearer) (left_by_all (seen_after seen request line) requests lines hearer) (left_by_all (seen_after_all (seen_after seen request line) requests lines) rest behind hearer))

pub printed_append : (client : ℕ) (requests rest : List Request) (lines behind : List Line) → length lines ≡ length requests
    → printed client (requests ++ rest) (lines ++ behind) ≡ printed client requests lines ++ printed client rest behind
printed_append client [] rest [] behind same = refl
printed_append client [] rest (line ∷ lines) behind same = absurd (omega arith)
printed_append client (request ∷ requests) rest [] behind same = absurd (omega arith)
printed_append client (request ∷ requests) rest (line ∷ lines) behind same =
    ap (λ (l : List (ℕ × HistoryEntry)). printed_line client request line ++ l) (printed_append client requests rest lines behind (omega arith))
    ∙ sym (append_assoc (printed_line client request line) (printed client requests lines) (printed client rest behind))

pub answers_append : (base : Option Image) (history : List HistoryEntry) (client : ℕ) (seen : Seen) (requests rest : List Request) (lines behind : List Line)
    → AnswersAll base history client seen requests lines → AnswersAll base history client (seen_after_all seen requests lines) rest behind
    → AnswersAll base history client seen (requests ++ rest) (lines ++ behind)
answers_append base history client seen [] rest [] behind a b = b
answers_append base history client seen [] rest (line ∷ lines) behind a b = absurd a
answers_append base history client seen (request ∷ requests) rest [] behind a b = absurd a
answers_append base history client seen (request ∷ requests) rest (line ∷ lines) behind a b =
    (a.0, answers_append base history client (seen_after seen request line) requests rest lines behind a.1 b)

-- ---- what is counted of lines

pub failures_append : (device : Which) (lines behind : List Line) → failures device (lines ++ behind) ≡ failures device lines + failures device behind
failures_append device lines behind =
    sum-map (is_failure device) (lines ++ behind) ∙ sum_by-append (is_failure device) lines behind
    ∙ (let a = sum-map (is_failure device) lines in let b = sum-map (is_failure device) behind in omega arith)

pub rose_on : (times more before between now : ℕ) → RoseTo times before between → RoseTo more between now → RoseTo (times + more) before now
rose_on times more before between now a b = omega (arith, a, b)

-- the most of the lines by some number of each, or so much at the start
module _ (f : Line → ℕ) where
  pub most_each : (bound least : ℕ) (lines : List Line) → fold (λ most line. max most (f line)) least lines ≤ bound → (least ≤ bound) × All (λ line. f line ≤ bound) lines
  most_each bound least [] le = (le, All-nil (λ line. f line ≤ bound))
  most_each bound least (line ∷ lines) le =
      let rest = most_each bound (max least (f line)) lines le in
      (omega (arith, rest.0), All-cons (λ line. f line ≤ bound) line lines (omega (arith, rest.0)) rest.1)

  pub most_below : (bound least : ℕ) (lines : List Line) → least ≤ bound → All (λ line. f line ≤ bound) lines → fold (λ most line. max most (f line)) least lines ≤ bound
  most_below bound least [] le all = le
  most_below bound least (line ∷ lines) le all =
      most_below bound (max least (f line)) lines (omega (arith, le, All-head (λ (l : Line). f l ≤ bound) line lines all)) (All-tail (λ (l : Line). f l ≤ bound) line lines all)

pub awaited_append : (stable : ℕ) (lines behind : List Line) → awaited_by lines ≤ stable → awaited_by behind ≤ stable → awaited_by (lines ++ behind) ≤ stable
awaited_append stable lines behind a b =
    most_below awaited_line stable 0 (lines ++ behind) (omega arith)
    (All-append (λ line. awaited_line line ≤ stable) lines behind (most_each awaited_line stable 0 lines a).1 (most_each awaited_line stable 0 behind b).1)

pub any_append : (P : Line → Type 0) (lines behind : List Line) → Any P (lines ++ behind) → Any P lines ⊎ Any P behind
any_append P [] behind some = inr some
any_append P (line ∷ lines) behind (zero, x, lt, is, holds) = inl (zero, x, omega arith, is, holds)
any_append P (line ∷ lines) behind (suc k, x, lt, is, holds) =
    elim (any_append P lines behind (k, x, omega (arith, lt), is, holds)) [
      | inl before ↦ inl (suc before.0, before.1, omega (arith, before.2), before.3, before.4)
      | inr last ↦ inr last
    ]
