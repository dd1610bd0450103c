-- What the requests of a client of a valid script ask.
use Rattle.std.proofs.Common.{ℕ, ◌≡◌, ◌+◌, ◌<◌, ◌≤◌, List, [], length, get_or, All, ap, ◌∙◌, subst, arith}
use Rattle.std.specs.List.{enumerate_from}
use Rattle.std.proofs.lemmas.List.FromFn.{get_or-enumerate_from, length-enumerate_from}
use Rattle.wb_script.specs.Content.{ScriptContent}
use Rattle.wb_script.specs.Valid.{IsValid, IsAsked, requests_at}
use Rattle.wb_script.specs.declared.request.Request.{Request}
use Rattle.wb_script.specs.declared.request.Request.TheVariants.{Write, Read, ReadSum, Flush, Defer, Tell, Hear}

-- a request that may be made of a device may be made of a larger one
pub asked_more : (sectors more clients client : ℕ) (request : Request) → sectors ≤ more → IsAsked sectors clients client request → IsAsked more clients client request
asked_more sectors more clients client (Write sector count pattern fua) le (within, fills) = (record { some = within.some; few = within.few; inside = omega (arith, le, within.inside) }, fills)
asked_more sectors more clients client (Read sector count) le within = record { some = within.some; few = within.few; inside = omega (arith, le, within.inside) }
asked_more sectors more clients client (ReadSum sector count) le within = record { some = within.some; few = within.few; inside = omega (arith, le, within.inside) }
asked_more sectors more clients client Flush le asked = tt
asked_more sectors more clients client Defer le asked = tt
asked_more sectors more clients client (Tell other) le asked = asked
asked_more sectors more clients client (Hear other) le asked = asked

-- what the requests of this client are asked of
pub asked_at : (script : ScriptContent) (client : ℕ) → IsValid script → client < length script.requests → All (IsAsked script.sectors script.clients client) (requests_at script.requests client)
asked_at script client valid below =
    let is : get_or (enumerate_from 0 script.requests) client (0, []) ≡ (client, requests_at script.requests client) =
    get_or-enumerate_from 0 script.requests client (0, []) below ∙ ap (λ (n : ℕ). (n, requests_at script.requests client)) (let z : 0 + client ≡ client = omega arith in z) in
    subst (λ (own : ℕ × List Request). All (IsAsked script.sectors script.clients own.0) own.1) is
    (valid.asked client (0, []) (omega (arith, below, length-enumerate_from 0 script.requests)))
