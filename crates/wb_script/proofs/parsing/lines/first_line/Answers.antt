use Rattle.std.proofs.Common.{ap, ◌∙◌, sym, rules, tests}
use Rattle.std.proofs.lemmas.Iterator.Splits.{YieldsList-from_slice_split}
use Rattle.wb_script.proofs.Lines.{is_newline, some_parts, first-lines, first_given}
use Rattle.wb_script.proofs.parsing.lines.first_line.Goals as goal

pub returns : goal.returns
returns c =
    let bytes = c.args.bytes.now in
    ap (λ part. part.now) c.unwrap_or.ensures
    ∙ first_given _ c.next.result c.args.bytes
    (YieldsList-from_slice_split {s = c.split.result} _ is_newline bytes c.split.ensures.rest c.split.ensures.done c.split.ensures.closure (λ x r q k. search (rules, tests)))
    (some_parts bytes) c.next.ensures.steps
    ∙ sym (first-lines bytes)
