use Rattle.std.proofs.Common.{false}
use Rattle.wb_tool.proofs.Begun.{answers_accounted, sum_accounted}
use Rattle.wb_tool.proofs.running.run.Goals as goal

pub returns-in-Ended-clause-account : goal.returns-in-Ended-clause-account
returns-in-Ended-clause-account g c = (c.in-Ended.ensures false).0

pub returns-in-Ended-clause-complete : goal.returns-in-Ended-clause-complete
returns-in-Ended-clause-complete g c = (c.in-Ended.ensures false).1

pub returns-in-Serve-clause-account : goal.returns-in-Serve-clause-account
returns-in-Serve-clause-account g c =
    let begun = c.in-Serve.ensures in
    let served = c.serve_clients-served.ensures in
    let leaves = c.tell_answers.ensures false _ c.in-Serve.begun.log c.args.backing (rw begun.1 at served) in
    (answers_accounted _ false _ _ _ _ _ _ _ _ _ _ _ _ _ _ _ _ begun.0 begun.2 leaves).0

pub returns-in-Serve-clause-complete : goal.returns-in-Serve-clause-complete
returns-in-Serve-clause-complete g c =
    let begun = c.in-Serve.ensures in
    let served = c.serve_clients-served.ensures in
    let leaves = c.tell_answers.ensures false _ c.in-Serve.begun.log c.args.backing (rw begun.1 at served) in
    (answers_accounted _ false _ _ _ _ _ _ _ _ _ _ _ _ _ _ _ _ begun.0 begun.2 leaves).1

pub returns-in-Workload-clause-account : goal.returns-in-Workload-clause-account
returns-in-Workload-clause-account g c =
    let begun = c.in-Workload.ensures in
    let served = c.serve_clients-served-in-Workload.ensures in
    let leaves = c.tell_sum.ensures false _ c.in-Workload.begun.log c.args.backing (rw begun.2 at served) in
    (sum_accounted _ false _ _ _ _ _ _ _ _ _ _ _ _ _ _ _ _ c.in-Workload.numbers begun.0 begun.1 begun.3 leaves).0

pub returns-in-Workload-clause-complete : goal.returns-in-Workload-clause-complete
returns-in-Workload-clause-complete g c =
    let begun = c.in-Workload.ensures in
    let served = c.serve_clients-served-in-Workload.ensures in
    let leaves = c.tell_sum.ensures false _ c.in-Workload.begun.log c.args.backing (rw begun.2 at served) in
    (sum_accounted _ false _ _ _ _ _ _ _ _ _ _ _ _ _ _ _ _ c.in-Workload.numbers begun.0 begun.1 begun.3 leaves).1
