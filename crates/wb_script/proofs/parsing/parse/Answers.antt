use Rattle.std.proofs.Common.{◌≡◌, ◌<◌, ◌⊎◌, inl, inr, length, subst, sym, arith}
use Rattle.wb_script.specs.Grammar.{lines, most_bytes, most_lines, words_at}
use Rattle.wb_script.specs.Refused.{HasRefusal}
use Rattle.wb_script.specs.declared.refusal.Cause.TheVariants.{Size, Header}
use Rattle.wb_script.specs.declared.refusal.ParseStop.TheVariants.{Refused}
use Rattle.wb_script.proofs.Grammars.{IsRefused-size, IsRefused-header, the_refusal}
use Rattle.wb_script.proofs.parsing.parse.Goals as goal

pub returns-then-bytes-gt-MOST_BYTES-clause-refused :
    goal.returns-then-bytes-gt-MOST_BYTES-clause-refused
returns-then-bytes-gt-MOST_BYTES-clause-refused c =
    let bytes = c.args.bytes.now in
    let counted = c.line_count-count.ensures in
    let many : (most_bytes < length bytes) ⊎ (most_lines < length (lines bytes)) = elim c.then-bytes-gt-MOST_BYTES.either [
      | inl long ↦ inl long
      | inr more ↦ inr (omega (arith, more.1))
    ] in
    let refusal : c.refused.result ≡ Refused (record { line = 0; cause = Size (length bytes) (length (lines bytes)) }) = cc in
    subst (HasRefusal c.args.g.now.backing_sectors bytes) (sym refusal) (the_refusal _ bytes 0 _ (omega arith) (IsRefused-size _ bytes many))

pub returns-in_default-clause-refused : goal.returns-in_default-clause-refused
unfolding words_at
returns-in_default-clause-refused c =
    let bytes = c.args.bytes.now in
    let none = rw c.first_line.ensures at c.in_default.ensures in
    subst (HasRefusal c.args.g.now.backing_sectors bytes) (sym c.refused-in_default.ensures)
    (the_refusal _ bytes 1 Header (omega arith) (IsRefused-header _ bytes (omega arith) (omega (arith, c.line_count-count.ensures)) none))

pub read_script-requires-clause-header : goal.read_script-requires-clause-header
unfolding words_at
read_script-requires-clause-header c = rw c.first_line.ensures at c.in-Some.ensures
