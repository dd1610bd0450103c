use Rattle.std.proofs.lemmas.Result.{IfErr-weaker}
use Rattle.wb_intake.proofs.Results.{if_ok}
use Rattle.wb_tool.specs.Workload.{EndsWorkload, IsLeftByWorkload}
use Rattle.wb_tool.proofs.Earlier.{are_devices, workload_account}
use Rattle.wb_tool.proofs.Begun.{workload_begun}
use Rattle.wb_tool.proofs.Unserved.{bad_account}
use Rattle.wb_tool.proofs.workload.prepare_workload.Goals as goal

pub returns-in-Ok-clause-begun : goal.returns-in-Ok-clause-begun
returns-in-Ok-clause-begun g c =
    if_ok c.make_script.result _ _ _ (λ begun script kept. workload_begun g.L.Device.state g.B.Device.state _ _ _ _ _ _ _ _ _ c.in-Ok.found begun c.args.numbers (g.met.L.Device.sound c.args.log) (g.met.B.Device.sound c.args.backing) c.in-Ok.ensures.good c.judge_devices.ensures.read script kept)
    c.make_script.ensures.script c.make_script.ensures.kept

pub returns-in-Ok-clause-ended : goal.returns-in-Ok-clause-ended
returns-in-Ok-clause-ended g c =
    let good = c.in-Ok.ensures.good in
    let are = are_devices c.judge_devices.ensures.read (g.met.L.Device.sound c.args.log) (g.met.B.Device.sound c.args.backing) in
    IfErr-weaker c.make_script.result _ _
    (λ end leaves in_turn source unread. record {
      unread = record { bytes = unread.bytes; faults = unread.faults };
      account = workload_account c.args.numbers _ _ c.in-Ok.found _ are good (rw (good.untold.bytes, good.untold.faults) at (leaves in_turn source));
    })
    c.make_script.ensures.ended

pub returns-in-Err-clause-ended : goal.returns-in-Err-clause-ended
returns-in-Err-clause-ended g c in_turn source unread =
    let numbers = c.args.numbers in
    let ended = c.without_session.ensures in
    rw (ended.log, ended.backing, ended.status, ended.transcripts, ended.places)
    (record {
      unread = record { bytes = unread.bytes; faults = unread.faults };
      account = bad_account (EndsWorkload numbers) (IsLeftByWorkload numbers) in_turn source _ _ _ _ _ unread c.judge_devices.ensures.read c.in-Err.ensures.bad;
    })
