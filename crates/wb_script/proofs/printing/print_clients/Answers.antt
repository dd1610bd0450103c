-- As for the lines of one client.
use Rattle.std.proofs.Common.{◌≡◌, ◌++◌, ◌∷◌, [], ◌∙◌, sym, ap, refl, List, ℕ, suc, None, append_assoc, append-nil, arith, ◌⊎◌, inl, inr}
use Rattle.std.specs.String.{string_bytes}
use Rattle.std.specs.Slice.Iter.{iter_rest}
use Rattle.std.specs.Iterator.Adapters.{enumerate_source, enumerate_count, zip_first, zip_second}
use Rattle.std.proofs.lemmas.Slice.Zip.{either_empty_from_Zip}
use Rattle.std.proofs.lemmas.Result.{err_from_is_err_and}
use Rattle.wb_script.specs.Output.{transcript_text, transcripts_text}
use Rattle.wb_script.specs.declared.request.Request.{Request}
use Rattle.wb_script.specs.declared.transcript.Line.{Line}
use Rattle.wb_script.proofs.Pieces.{printed_held, printed_then, printed_same, prints_ok, prints_stopped}
use Rattle.wb_script.proofs.printing.print_clients.Goals as goal

-- the lines of one client more
clients_more : {requests requests' : List (List Request)} {transcripts transcripts' : List (List Line)} {own : List Request} {lines : List Line} {whole : List ℕ} (client client' : ℕ) (text done : List ℕ) → (requests ≡ own ∷ requests') × (transcripts ≡ lines ∷ transcripts') → client' ≡ suc client → text ≡ transcript_text client own lines → done ++ transcripts_text client requests transcripts ≡ whole → done ++ (text ++ transcripts_text client' requests' transcripts') ≡ whole
clients_more client client' text done step next same e = ap (λ t. done ++ t) (rw (step.0, step.1, next, same) refl) ∙ e

clients_past : {requests requests' : List (List Request)} {transcripts transcripts' : List (List Line)} {own : List Request} {lines : List Line} {whole : List ℕ} (client client' : ℕ) (text done : List ℕ) → (requests ≡ own ∷ requests') × (transcripts ≡ lines ∷ transcripts') → client' ≡ suc client → text ≡ transcript_text client own lines → done ++ transcripts_text client requests transcripts ≡ whole → (done ++ text) ++ transcripts_text client' requests' transcripts' ≡ whole
clients_past {requests'} {transcripts'} client client' text done step next same e =
    append_assoc done text (transcripts_text client' requests' transcripts') ∙ clients_more client client' text done step next same e

-- no client is left where one of the two lists has ended
clients_end : {whole : List ℕ} (client : ℕ) (requests : List (List Request)) (transcripts : List (List Line)) (done : List ℕ) → (requests ≡ []) ⊎ (transcripts ≡ []) → done ++ transcripts_text client requests transcripts ≡ whole → done ≡ whole
clients_end client [] transcripts done ended e = sym (append-nil done) ∙ e
clients_end client (own ∷ requests) [] done ended e = sym (append-nil done) ∙ e
clients_end client (own ∷ requests) (lines ∷ transcripts) done (inl none) e = cc
clients_end client (own ∷ requests) (lines ∷ transcripts) done (inr none) e = cc

pub loop-client-init : goal.loop-client-init
loop-client-init g c =
    let gives = c.into_iter-client-iterator.ensures.into_iter_gives in
    let source = ap enumerate_source gives ∙ c.enumerate-client-items.ensures.source in
    let requests = ap (λ z. iter_rest (zip_first z)) source ∙ ap iter_rest c.zip.ensures.first ∙ c.iter.ensures.rest in
    let transcripts = ap (λ z. iter_rest (zip_second z)) source ∙ c.zip.ensures.second.0 in
    let count = ap enumerate_count gives ∙ c.enumerate-client-items.ensures.count in
    record {
      done = [];
      printed = printed_held (string_bytes c.args.text.now) [] (sym (append-nil (string_bytes c.args.text.now)));
      rest = rw (requests, transcripts, count) refl;
    }

pub loop-client-preserved : goal.loop-client-preserved
loop-client-preserved g c =
    let step = c.in-Some.ensures.steps in
    let text = transcript_text c.in-Some.client c.as_slice.result.now c.in-Some.transcript.now in
    record {
      done = c.loop-client.invariant.done ++ text;
      printed = printed_then {s = c.loop-client.invariant.done} {t = text} c.loop-client.invariant.printed c.in_ok-print_client.ensures.ok;
      rest =
          clients_past {whole = transcripts_text 0 c.args.requests.now c.args.transcripts.now} (enumerate_count c.loop-client.client-iterator) (enumerate_count c.next.new.self) text c.loop-client.invariant.done step.0 (omega (arith, step.2))
          (rw (c.as_slice.ensures, step.1) refl) c.loop-client.invariant.rest;
    }

pub returns-in_err-print_client : goal.returns-in_err-print_client
returns-in_err-print_client g c =
    let p = err_from_is_err_and c.from_residual.result c.from_residual.ensures.1 in
    let step = c.in-Some.ensures.steps in
    let text = transcript_text c.in-Some.client c.as_slice.result.now c.in-Some.transcript.now in
    rw (p.1, p.2)
    (prints_stopped {s = c.loop-client.invariant.done} {t = text} {whole = transcripts_text 0 c.args.requests.now c.args.transcripts.now} (transcripts_text (enumerate_count c.next.new.self) (iter_rest (zip_first (enumerate_source c.next.new.self))) (iter_rest (zip_second (enumerate_source c.next.new.self)))) c.loop-client.invariant.printed c.in_err-print_client.ensures
    (clients_more {whole = transcripts_text 0 c.args.requests.now c.args.transcripts.now} (enumerate_count c.loop-client.client-iterator) (enumerate_count c.next.new.self) text c.loop-client.invariant.done step.0 (omega (arith, step.2))
    (rw (c.as_slice.ensures, step.1) refl) c.loop-client.invariant.rest))

pub returns : goal.returns
returns g c =
    let ended = either_empty_from_Zip (enumerate_source c.loop-client.client-iterator) (enumerate_source c.next.new.self) None refl c.in-None.ensures.steps.0 in
    let all : c.loop-client.invariant.done ≡ transcripts_text 0 c.args.requests.now c.args.transcripts.now =
    clients_end {whole = transcripts_text 0 c.args.requests.now c.args.transcripts.now} (enumerate_count c.loop-client.client-iterator) _ _ c.loop-client.invariant.done ended c.loop-client.invariant.rest
    in
    prints_ok (printed_same {s = c.loop-client.invariant.done} {t = transcripts_text 0 c.args.requests.now c.args.transcripts.now} all c.loop-client.invariant.printed)
