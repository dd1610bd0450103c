use Rattle.std.proofs.Common.{◌≡◌, ◌*◌, ◌/◌, map, sym, ap, subst, ◌∙◌, arith}
use Rattle.std.specs.List.{All, range_with_len}
use Rattle.wb_script.specs.Valid.{IsValid, requests_at}
use Rattle.wb_script.specs.Workload.{KeepsTo, drawn_requests, workload, workload_clients}
use Rattle.wb_script.proofs.Workloads.{filled_push, workload-valid, workload-kept}
use Rattle.wb_script.proofs.generating.generate.Goals as goal

pub loop-client-preserved : goal.loop-client-preserved
loop-client-preserved c =
    filled_push (drawn_requests c.args.seed c.args.count (c.args.region / 4)) c.loop-client.client _ _ _ c.loop-client.invariant c.in_ok-requests_of.ensures c.in_ok-push.ensures.items

pub returns-clause-valid : goal.returns-clause-valid
returns-clause-valid c =
    let of = drawn_requests c.args.seed c.args.count (c.args.region / 4) in
    let last : c.loop-client.client ≡ workload_clients = omega arith in
    let requests = c.of.ensures.requests ∙ c.loop-client.invariant ∙ ap (λ n. map of (range_with_len 0 n)) last in
    let script : c.of.result ≡ workload c.args.seed c.args.count c.args.region =
    λ i. record { clients = c.of.ensures.clients i; sectors = c.of.ensures.sectors i; requests = requests i } in
    subst IsValid (sym script) (workload-valid c.args.seed c.args.count c.args.region c.requires.region c.requires.quarters)

pub returns-clause-quarters : goal.returns-clause-quarters
returns-clause-quarters c client below =
    let of = drawn_requests c.args.seed c.args.count (c.args.region / 4) in
    let last : c.loop-client.client ≡ workload_clients = omega arith in
    let requests = c.of.ensures.requests ∙ c.loop-client.invariant ∙ ap (λ n. map of (range_with_len 0 n)) last in
    subst (λ all. All (KeepsTo (client * (c.args.region / 4)) (c.args.region / 4)) (requests_at all client)) (sym requests)
    (workload-kept c.args.seed c.args.count c.args.region client c.requires.region below)
