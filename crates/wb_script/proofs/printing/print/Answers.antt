-- All is printed to the text, which was empty at first, and then the text is written out.
use Rattle.std.proofs.Common.{◌≡◌, ◌++◌, [], refl}
use Rattle.std.proofs.lemmas.Result.{err_from_is_err_and}
use Rattle.std.specs.String.{string_bytes}
use Rattle.wb_script.specs.Output.{count_text, transcripts_text, session_text}
use Rattle.wb_script.proofs.Pieces.{printed_held, printed_then, printed_same, prints_memory, prints_whole}
use Rattle.wb_script.proofs.printing.print.Goals as goal

pub returns-in_err-push_count : goal.returns-in_err-push_count
returns-in_err-push_count g c =
    let p = err_from_is_err_and c.from_residual-in_err-push_count.result c.from_residual-in_err-push_count.ensures.1 in
    let whole : transcripts_text 0 c.requests.result.now c.args.transcripts.now ++ count_text c.args.places ≡ session_text c.args.script.now c.args.transcripts.now c.args.places =
    rw c.requests.ensures refl
    in
    let cut = prints_memory {ends = []} (count_text c.args.places) (rw c.new-text.ensures.bytes at c.in_ok-print_clients.ensures.ok) whole in
    rw (p.1, p.2) (record { ok = tt; err = cut.err; fault = cut.fault; memory = cut.memory })

pub returns : goal.returns
returns g c =
    let whole : transcripts_text 0 c.requests.result.now c.args.transcripts.now ++ count_text c.args.places ≡ session_text c.args.script.now c.args.transcripts.now c.args.places =
    rw c.requests.ensures refl
    in
    prints_whole c.write_out.result
    (printed_same whole (printed_then (rw c.new-text.ensures.bytes at c.in_ok-print_clients.ensures.ok) (printed_held (string_bytes c.print_clients.new.text) (count_text c.args.places) c.in_ok-push_count.ensures)))
    c.write_out.ensures.prints c.write_out.ensures.empty
