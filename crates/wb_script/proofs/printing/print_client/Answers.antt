-- The invariant says what was printed so far, and that the lines from the index on are the rest.
use Rattle.std.proofs.Common.{◌≡◌, ◌++◌, ◌∷◌, ◌+◌, ◌<◌, ◌≤◌, [], ◌∙◌, sym, ap, refl, List, ℕ, length, drop, get_or, Some, None, append_assoc, append-nil, inl, inr}
use Rattle.std.specs.List.{slice_get}
use Rattle.std.specs.String.{string_bytes}
use Rattle.std.proofs.lemmas.List.{drop_more, drop_all}
use Rattle.std.proofs.lemmas.Option.{slice_get_within, slice_get-get_or, get_or_from_slice_get}
use Rattle.std.proofs.lemmas.Bool.{cases_lt}
use Rattle.std.proofs.lemmas.Result.{err_from_is_err_and}
use Rattle.wb_script.specs.Output.{line_text, transcript_text}
use Rattle.wb_script.specs.declared.request.Request.{Request}
use Rattle.wb_script.specs.declared.transcript.Line.{Line}
use Rattle.wb_script.specs.declared.transcript.Line.TheVariants as line
use Rattle.wb_script.proofs.Pieces.{printed_held, printed_then, printed_moved, printed_same, prints_ok, prints_memory, prints_stopped}
use Rattle.wb_script.proofs.printing.print_client.Goals as goal

-- one line more
lines_more : {whole : List ℕ} (client : ℕ) (requests : List Request) (lines : List Line) (index : ℕ) (request : Request) (line : Line) (done : List ℕ) → index < length requests → get_or requests index request ≡ request → slice_get lines index ≡ Some line → done ++ transcript_text client (drop index requests) (drop index lines) ≡ whole → (done ++ line_text client request line) ++ transcript_text client (drop (index + 1) requests) (drop (index + 1) lines) ≡ whole
lines_more client requests lines index request line done within here there e =
    let own : drop index requests ≡ request ∷ drop (index + 1) requests = drop_more requests index request within ∙ ap (λ (r : Request). r ∷ drop (index + 1) requests) here in
    let answer : drop index lines ≡ line ∷ drop (index + 1) lines = drop_more lines index line (slice_get_within lines index line there) ∙ ap (λ (l : Line). l ∷ drop (index + 1) lines) (get_or_from_slice_get lines index line line there) in
    append_assoc done (line_text client request line) (transcript_text client (drop (index + 1) requests) (drop (index + 1) lines))
    ∙ ap (λ t. done ++ t) (rw (own, answer) refl)
    ∙ e

-- no line is left where the requests have ended
lines_end : {whole : List ℕ} (client : ℕ) (requests : List Request) (lines : List Line) (index : ℕ) (done : List ℕ) → length requests ≤ index → done ++ transcript_text client (drop index requests) (drop index lines) ≡ whole → done ≡ whole
lines_end client requests lines index done ended e = sym (append-nil done) ∙ ap (λ t. done ++ t) (rw (drop_all index requests ended) refl) ∙ e

text_none : (client : ℕ) (requests : List Request) → transcript_text client requests [] ≡ []
text_none client [] = refl
text_none client (request ∷ requests) = refl

-- or the lines
lines_none : {whole : List ℕ} (client : ℕ) (requests : List Request) (lines : List Line) (index : ℕ) (done : List ℕ) → length lines ≤ index → done ++ transcript_text client (drop index requests) (drop index lines) ≡ whole → done ≡ whole
lines_none client requests lines index done ended e =
    sym (append-nil done) ∙ ap (λ t. done ++ t) (rw (drop_all index lines ended) (sym (text_none client (drop index requests)))) ∙ e

ended : (lines : List Line) (index : ℕ) → slice_get lines index ≡ None → length lines ≤ index
ended lines index none =
    elim (cases_lt index (length lines)) [
      | inl within ↦ cc (slice_get-get_or lines index line.Told within, none)
      | inr past ↦ past
    ]

pub loop-index-init : goal.loop-index-init
loop-index-init g c = record {
  done = [];
  printed = printed_held (string_bytes c.args.text.now) [] (sym (append-nil (string_bytes c.args.text.now)));
  rest = refl;
}

pub returns-in_err-push_line : goal.returns-in_err-push_line
returns-in_err-push_line g c =
    let p = err_from_is_err_and c.from_residual.result c.from_residual.ensures.1 in
    rw (p.1, p.2)
    (prints_memory (transcript_text c.args.client (drop c.loop-index.index c.args.requests.now) (drop c.loop-index.index c.args.transcript.now)) c.loop-index.invariant.printed c.loop-index.invariant.rest)

pub returns-in_err-write_if_full : goal.returns-in_err-write_if_full
returns-in_err-write_if_full g c =
    let p = err_from_is_err_and c.from_residual-in_err-write_if_full.result c.from_residual-in_err-write_if_full.ensures.1 in
    let text = line_text c.args.client c.index-requests-index.result c.in-Some.line in
    let rest =
    lines_more c.args.client c.args.requests.now c.args.transcript.now c.loop-index.index c.index-requests-index.result c.in-Some.line c.loop-index.invariant.done
    c.loop-index-test.true (sym c.index-requests-index.is) (sym c.get.ensures ∙ c.in-Some.is) c.loop-index.invariant.rest
    in
    rw (p.1, p.2)
    (prints_stopped (transcript_text c.args.client (drop (c.loop-index.index + 1) c.args.requests.now) (drop (c.loop-index.index + 1) c.args.transcript.now))
    (printed_then c.loop-index.invariant.printed (printed_held (string_bytes c.loop-index.text) text c.in_ok-push_line.ensures)) c.in_err-write_if_full.ensures.prints rest)

pub loop-index-preserved : goal.loop-index-preserved
loop-index-preserved g c =
    let text = line_text c.args.client c.index-requests-index.result c.in-Some.line in
    record {
      done = c.loop-index.invariant.done ++ text;
      printed =
          printed_moved (printed_then c.loop-index.invariant.printed (printed_held (string_bytes c.loop-index.text) text c.in_ok-push_line.ensures))
          c.in_ok-write_if_full.ensures.prints.ok;
      rest =
          lines_more c.args.client c.args.requests.now c.args.transcript.now c.loop-index.index c.index-requests-index.result c.in-Some.line c.loop-index.invariant.done
          c.loop-index-test.true (sym c.index-requests-index.is) (sym c.get.ensures ∙ c.in-Some.is) c.loop-index.invariant.rest;
    }

pub returns-in_default : goal.returns-in_default
returns-in_default g c =
    let all : c.loop-index.invariant.done ≡ transcript_text c.args.client c.args.requests.now c.args.transcript.now =
    lines_none c.args.client c.args.requests.now c.args.transcript.now c.loop-index.index c.loop-index.invariant.done
    (ended c.args.transcript.now c.loop-index.index (sym c.get.ensures ∙ c.in_default.is)) c.loop-index.invariant.rest
    in
    prints_ok (printed_same all c.loop-index.invariant.printed)

pub returns : goal.returns
returns g c =
    let all : c.loop-index.invariant.done ≡ transcript_text c.args.client c.args.requests.now c.args.transcript.now =
    lines_end c.args.client c.args.requests.now c.args.transcript.now c.loop-index.index c.loop-index.invariant.done c.loop-index-test.false c.loop-index.invariant.rest
    in
    prints_ok (printed_same all c.loop-index.invariant.printed)
