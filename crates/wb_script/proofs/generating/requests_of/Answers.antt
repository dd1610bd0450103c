use Rattle.std.proofs.Common.{ℕ, suc, ◌≡◌, ◌+◌, ap, ◌∙◌, arith}
use Rattle.wb_script.specs.Workload.{next_state, state_after, drawn_request}
use Rattle.wb_script.proofs.Workloads.{filled_push}
use Rattle.wb_script.proofs.generating.requests_of.Goals as goal

pub loop-index-preserved : goal.loop-index-preserved
loop-index-preserved c =
    let at = c.loop-index.invariant in
    let index : ℕ = c.loop-index.index in
    let more : suc index ≡ index + 1 = omega arith in
    let state : c.next_state-state.result ≡ state_after c.args.seed c.args.client (index + 1) =
    c.next_state-state.ensures ∙ ap next_state at.state ∙ ap (state_after c.args.seed c.args.client) more in
    record {
      requests = filled_push (λ i. drawn_request c.args.quarter c.args.client i (state_after c.args.seed c.args.client (i + 1))) index _ _ _ at.requests
          (c.in_ok-request_of.ensures ∙ (λ k. drawn_request c.args.quarter (c.from-client.ensures k) index (state k)))
          c.in_ok-push.ensures.ok;
      state = state;
    }
