use Rattle.std.proofs.Common.{inl, inr, refl, ◌∙◌}
use Rattle.wb_tool.proofs.Accounts.{telling_same}
use Rattle.wb_tool.proofs.Concluded.{told_nothing}
use Rattle.wb_tool.proofs.workload.conclude.Goals as goal

pub returns-in_default-clause-ends : goal.returns-in_default-clause-ends
returns-in_default-clause-ends g c =
    let session = c.args.session.now in
    let nothing = told_nothing _ _ session.places session.ids session.log_failed session.backing_failed c.tell_fault-status.ensures c.if-status-ne-DONE.false in
    let untold = nothing.2 in
    inl (record {
      fine = nothing.0;
      rose = c.in_default.ensures.cause.failed;
      later = c.in_default.ensures.cause.later;
      ended = refl;
      told = rw (untold.bytes, untold.faults) at c.tell.ensures;
    })

pub returns-in-Ok-workload_text-clause-ends : goal.returns-in-Ok-workload_text-clause-ends
returns-in-Ok-workload_text-clause-ends g c =
    let session = c.args.session.now in
    let nothing = told_nothing _ _ session.places session.ids session.log_failed session.backing_failed c.tell_fault-status.ensures c.if-status-ne-DONE.false in
    let untold = nothing.2 in
    let telling = telling_same _ _ _ _ c.answer.ensures (c.as_str.ensures.value ∙ c.in-Ok-workload_text.ensures c.args.region) in
    inr (record {
      faults = c.in-Ok.ensures.cause.kept;
      sum = c.in-Ok.sum;
      ends = inr (inr (inr (inr (nothing.0, nothing.1, rw (untold.bytes, untold.faults) at telling))));
      device = λ tells image told. c.in-Ok.ensures.sum image told;
    })
