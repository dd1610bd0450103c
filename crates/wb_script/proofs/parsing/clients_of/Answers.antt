use Rattle.std.proofs.Common.{◌≡◌, sym, ap, ◌∙◌, arith}
use Rattle.std.specs.Fmt.{decimal}
use Rattle.std.proofs.lemmas.Fmt.{decimal_injective}
use Rattle.wb_script.specs.Commands.{word}
use Rattle.wb_script.proofs.parsing.clients_of.Goals as goal

pub returns-else-clients-ge1 : goal.returns-else-clients-ge1
returns-else-clients-ge1 c = λ clients header.
    let found = c.in_ok-clients.ensures in
    let second : c.get-2.result.now ≡ decimal clients = c.get-2.ensures ∙ ap (λ all. word all 1) (c.of-words.ensures ∙ header.spelled) in
    let e : c.in_ok-clients.clients ≡ clients = decimal_injective _ _ found.0 (omega arith) (sym found.1 ∙ second) in
    omega arith
