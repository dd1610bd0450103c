use Rattle.wb_tool.specs.Served.{Served}
use Rattle.wb_tool.proofs.Sessions.{session_leaves}
use Rattle.wb_tool.proofs.Threads.{unserved_by_leaves}
use Rattle.wb_tool.proofs.serving.tell_answers.Goals as goal

pub returns-in-Ok : goal.returns-in-Ok
returns-in-Ok g c in_turn source log backing served =
    let session = rw c.in-Ok.is at served.session in
    session_leaves _ _ _ _ _ _ _ _ (Served c.args.script.now) (λ told. told) session.1.0 session.1.1 c.report-status.ensures

pub returns-in-Err : goal.returns-in-Err
returns-in-Err g c in_turn source log backing served =
    let ended = c.without_session.ensures in
    rw (ended.log, ended.backing, ended.status, ended.transcripts, ended.places)
    (unserved_by_leaves (Served c.args.script.now) in_turn source c.args.script.now _ _ _ _ _ c.in-Err.stop c.args.served.answer c.in-Err.is served c.refuse_session-status.ensures)
