use Rattle.std.proofs.Common.{Err, ap, inl, inr}
use Rattle.wb_tool.proofs.Servings.{told_fault, told_cut}
use Rattle.wb_tool.proofs.serving.report.Goals as goal

pub returns-in-Ok : goal.returns-in-Ok
returns-in-Ok g c =
    elim c.tell_fault.ensures [
      | inl short ↦ inl short
      | inr told ↦ inr (rw c.as_slice-transcripts.ensures.value at (told_fault _ _ _ _ _ _ _ _ _ _ _ _ (c.in-Ok.ensures.ok.0) (c.in-Ok.ensures.ok.1) told))
    ]

pub returns-in-Err-Fault : goal.returns-in-Err-Fault
returns-in-Err-Fault g c =
    inr (rw c.as_slice-transcripts.ensures.value at (told_cut _ _ _ _ _ _ c.args.session.now.places _ _ _ (c.in-Err-Fault.ensures.err.0) (c.in-Err-Fault.ensures.fault (ap Err c.in-Err-Fault.field-0-is)) c.cut_status.ensures))
