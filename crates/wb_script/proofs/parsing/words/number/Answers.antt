use Rattle.std.proofs.Common.{sym, ◌∙◌}
use Rattle.std.proofs.lemmas.Fmt.{IsAscii-decimal}
use Rattle.std.proofs.lemmas.Str.{IsUtf8-from_ascii}
use Rattle.wb_script.proofs.Numbers.{IsPlain-decimal, value_of, error_of, read_as}
use Rattle.wb_script.proofs.parsing.words.number.Goals as goal

pub returns-then-not-is_plain : goal.returns-then-not-is_plain
returns-then-not-is_plain c = λ n small same. let plain = c.is_plain.ensures.1 (rw same (IsPlain-decimal n small)) in cc

pub returns-in_err-ok : goal.returns-in_err-ok
returns-in_err-ok c =
    rw c.from_residual.ensures (λ n small same.
    let wrong = error_of _ _ c.from_utf8.result (sym c.ok.ensures.value ∙ c.in_err-ok.was) c.from_utf8.ensures.cases in
    wrong.1.0 (rw same (IsUtf8-from_ascii _ (IsAscii-decimal n small))))

pub returns : goal.returns
returns c =
    let word = c.args.word.now in
    let text = value_of _ _ c.from_utf8.result _ (sym c.ok.ensures.value ∙ c.in_ok-ok.was) c.from_utf8.ensures.cases in
    rw c.ok-2.ensures.value (read_as word _ (rw text.0 at c.parse.ensures.value.0) (c.is_plain.ensures.0 c.if-not-is_plain.false))
