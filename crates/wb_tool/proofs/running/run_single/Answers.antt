use Rattle.std.proofs.Common.{true}
use Rattle.wb_tool.proofs.Threads.{served_plain}
use Rattle.wb_tool.proofs.Begun.{answers_accounted, sum_accounted}
use Rattle.wb_tool.proofs.running.run_single.Goals as goal

pub returns-in-Ended-clause-account : goal.returns-in-Ended-clause-account
returns-in-Ended-clause-account g c = (c.in-Ended.ensures true).0

pub returns-in-Ended-clause-complete : goal.returns-in-Ended-clause-complete
returns-in-Ended-clause-complete g c = (c.in-Ended.ensures true).1

pub returns-in-Serve-clause-account : goal.returns-in-Serve-clause-account
returns-in-Serve-clause-account g c =
    let begun = c.in-Serve.ensures in
    let served = served_plain true _ _ _ c.serve_plain-served.result.answer c.serve_plain-served.ensures.session c.serve_plain-served.ensures.unserved c.serve_plain-served.ensures.log_cause c.serve_plain-served.ensures.backing_cause in
    let leaves = c.tell_answers.ensures true _ c.in-Serve.begun.log c.args.backing (rw begun.1 at served) in
    (answers_accounted _ true _ _ _ _ _ _ _ _ _ _ _ _ _ _ _ _ begun.0 begun.2 leaves).0

pub returns-in-Serve-clause-complete : goal.returns-in-Serve-clause-complete
returns-in-Serve-clause-complete g c =
    let begun = c.in-Serve.ensures in
    let served = served_plain true _ _ _ c.serve_plain-served.result.answer c.serve_plain-served.ensures.session c.serve_plain-served.ensures.unserved c.serve_plain-served.ensures.log_cause c.serve_plain-served.ensures.backing_cause in
    let leaves = c.tell_answers.ensures true _ c.in-Serve.begun.log c.args.backing (rw begun.1 at served) in
    (answers_accounted _ true _ _ _ _ _ _ _ _ _ _ _ _ _ _ _ _ begun.0 begun.2 leaves).1

pub returns-in-Workload-clause-account : goal.returns-in-Workload-clause-account
returns-in-Workload-clause-account g c =
    let begun = c.in-Workload.ensures in
    let served = served_plain true _ _ _ c.serve_plain-served-in-Workload.result.answer c.serve_plain-served-in-Workload.ensures.session c.serve_plain-served-in-Workload.ensures.unserved c.serve_plain-served-in-Workload.ensures.log_cause c.serve_plain-served-in-Workload.ensures.backing_cause in
    let leaves = c.tell_sum.ensures true _ c.in-Workload.begun.log c.args.backing (rw begun.2 at served) in
    (sum_accounted _ true _ _ _ _ _ _ _ _ _ _ _ _ _ _ _ _ c.in-Workload.numbers begun.0 begun.1 begun.3 leaves).0

pub returns-in-Workload-clause-complete : goal.returns-in-Workload-clause-complete
returns-in-Workload-clause-complete g c =
    let begun = c.in-Workload.ensures in
    let served = served_plain true _ _ _ c.serve_plain-served-in-Workload.result.answer c.serve_plain-served-in-Workload.ensures.session c.serve_plain-served-in-Workload.ensures.unserved c.serve_plain-served-in-Workload.ensures.log_cause c.serve_plain-served-in-Workload.ensures.backing_cause in
    let leaves = c.tell_sum.ensures true _ c.in-Workload.begun.log c.args.backing (rw begun.2 at served) in
    (sum_accounted _ true _ _ _ _ _ _ _ _ _ _ _ _ _ _ _ _ c.in-Workload.numbers begun.0 begun.1 begun.3 leaves).1
