use Rattle.std.proofs.Common.{◌≡◌, sym, ◌∙◌, arith}
use Rattle.std.proofs.lemmas.Fmt.{decimal_injective}
use Rattle.wb_script.proofs.parsing.requests.client_of.Goals as goal

pub returns-else-client-from : goal.returns-else-client-from
returns-else-client-from c = λ client below same.
    let found = c.in_ok-client.ensures in
    let e : c.in_ok-client.client ≡ client = decimal_injective _ _ found.0 (omega arith) (sym found.1 ∙ same) in
    omega arith
