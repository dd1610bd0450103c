use Rattle.std.proofs.lemmas.Result.{IfErr-weaker}
use Rattle.wb_intake.proofs.Results.{if_ok}
use Rattle.wb_tool.specs.Serve.{EndsReading, IsLeftFrom}
use Rattle.wb_tool.proofs.Accounts.{untouched}
use Rattle.wb_tool.proofs.Earlier.{are_devices, serve_account}
use Rattle.wb_tool.proofs.Begun.{script_begun}
use Rattle.wb_tool.proofs.Unserved.{bad_account}
use Rattle.wb_tool.proofs.serving.prepare_script.Goals as goal

pub returns-in-Ok-clause-begun : goal.returns-in-Ok-clause-begun
returns-in-Ok-clause-begun g c =
    if_ok c.read_script.result _ _ _ (λ begun script kept. script_begun g.L.Device.state g.B.Device.state _ _ _ _ _ _ _ _ _ c.in-Ok.found begun _ (g.met.L.Device.sound c.args.log) (g.met.B.Device.sound c.args.backing) c.in-Ok.ensures.good c.judge_devices.ensures.read script kept)
    c.read_script.ensures.script c.read_script.ensures.kept

pub returns-in-Ok-clause-ended : goal.returns-in-Ok-clause-ended
returns-in-Ok-clause-ended g c =
    let good = c.in-Ok.ensures.good in
    let are = are_devices c.judge_devices.ensures.read (g.met.L.Device.sound c.args.log) (g.met.B.Device.sound c.args.backing) in
    IfErr-weaker c.read_script.result _ _ (λ end leaves in_turn. serve_account _ _ c.in-Ok.found _ are good (rw (good.untold.bytes, good.untold.faults) at (leaves in_turn))) c.read_script.ensures.ended

pub returns-in-Err-clause-ended : goal.returns-in-Err-clause-ended
returns-in-Err-clause-ended g c in_turn =
    let ended = c.without_session.ensures in
    rw (ended.log, ended.backing, ended.status, ended.transcripts, ended.places)
    (bad_account EndsReading IsLeftFrom in_turn _ _ _ _ _ _ (untouched _ _) c.judge_devices.ensures.read c.in-Err.ensures.bad)
