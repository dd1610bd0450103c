use Rattle.std.proofs.Common.{Err, ap, ◌∙◌}
use Rattle.wb_script.proofs.Validity.{valid_script}
use Rattle.wb_tool.proofs.Servings.{took_same}
use Rattle.wb_tool.proofs.Accounts.{refuses, spells, script_at_end}
use Rattle.wb_tool.proofs.Sources.{source_leaves, refusal_leaves}
use Rattle.wb_tool.proofs.serving.read_script.Goals as goal

pub returns-in-Err-Fault-clause-ended : goal.returns-in-Err-Fault-clause-ended
returns-in-Err-Fault-clause-ended g c in_turn =
    let ended = c.without_session-in-Err-Fault.ensures in
    let failed = c.in-Err-Fault in
    rw (ended.log, ended.backing, ended.status, ended.transcripts, ended.places)
    (source_leaves _ in_turn _ _ _ _ (failed.ensures.fault (ap Err failed.field-0-is)) c.tell.ensures)

pub returns-in-Ok-parse-clause-script : goal.returns-in-Ok-parse-clause-script
returns-in-Ok-parse-clause-script g c =
    let read = c.in-Ok.ensures.read in
    let parsed = c.in-Ok-parse.ensures.script in record {
      kept = c.in-Ok.ensures.kept;
      spelled = spells _ _ _ _ _ _ read c.as_slice.ensures.value parsed;
      valid = valid_script _ _ _ parsed.is;
      made_for = parsed.is.sectors_are;
      at_end = script_at_end _ _ _ _ _ _ read c.as_slice.ensures.value parsed;
    }

pub returns-clause-ended : goal.returns-clause-ended
returns-clause-ended g c in_turn =
    let ended = c.without_session-in-Err-Refused.ensures in
    let why = c.in-Err-Refused.refused in
    rw (ended.log, ended.backing, ended.status, ended.transcripts, ended.places)
    (refusal_leaves _ in_turn _ _ _ _ c.in-Ok.ensures.kept why.line why.cause
    (refuses _ _ _ _ _ why.line why.cause c.in-Ok.ensures.read c.as_slice.ensures.value (rw c.in-Err-Refused.field-0-is at c.in-Err-Refused.ensures.refused))
    (took_same _ _ _ c.tell-in-Err-Refused.ensures (c.as_str.ensures.value ∙ c.in-Ok-refused_text.ensures))
    _ c.in-Ok.ensures.read)
