-- All clients are there, and no note was heard.
use Rattle.std.proofs.Common.{◌≡◌, length, ap, ◌∙◌, arith}
use Rattle.wb_client.proofs.Tellers.{tellers_none}
use Rattle.wb_client.proofs.notes.tellers_of.Goals as goal

pub returns : goal.returns
returns c =
    let inv = c.loop-requests.invariant in
    let all : c.loop-requests.requests-index ≡ length c.args.script.now.requests = omega (arith, c.loop-requests.auto.requests-index-end, c.loop-requests-test.false, ap length c.requests-requests-items.ensures) in
    λ client. tellers_none c.args.script.now.requests client c.loop-requests.tellers.items (inv.count ∙ all) (λ k d lt. inv.each k d (omega (arith, lt, inv.count)))
