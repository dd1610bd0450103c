use Rattle.std.proofs.Common.{◌≡◌, ◌∙◌, sym, rules, tests, arith}
use Rattle.std.proofs.lemmas.Iterator.{YieldsList-from_slice}
use Rattle.std.proofs.lemmas.Iterator.Consumers.{YieldsList-from_filter, count_from_yields_List}
use Rattle.std.proofs.lemmas.List.Sums.{length-filter}
use Rattle.wb_script.proofs.Lines.{is_newline, open_end, length-lines, open_end-from_test}
use Rattle.wb_script.proofs.parsing.lines.line_count.Goals as goal

pub returns : goal.returns
returns c =
    let bytes = c.args.bytes.now in
    let ended = count_from_yields_List _ _ c.count-ended.ensures.ran (YieldsList-from_filter _ is_newline (YieldsList-from_slice bytes cc) c.filter.ensures.closure (λ x r q k. search (rules, tests))) in
    let last = open_end-from_test bytes c.is_open.result c.is_open.ensures in
    let same : c.from.result ≡ open_end bytes = c.from.ensures ∙ sym last in
    omega (arith, ended, same, length-filter is_newline bytes, length-lines bytes)
