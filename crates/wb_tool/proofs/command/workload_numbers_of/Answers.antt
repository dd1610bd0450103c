use Rattle.std.proofs.Common.{inl, inr}
use Rattle.wb_tool.proofs.Words.{no_workload}
use Rattle.wb_tool.proofs.command.workload_numbers_of.Goals.{then-count-eq0-via-then-count-eq0, then-count-eq0-via-else-count-eq0+then-count-gt-MOST_REQUESTS}
use Rattle.wb_tool.proofs.command.workload_numbers_of.Goals as goal

pub returns-then-count-eq0 : goal.returns-then-count-eq0
returns-then-count-eq0 c =
    no_workload _ _ c.in_ok-count.count (rw c.as_bytes-2.ensures.value at c.in_ok-count.ensures) (elim c.then-count-eq0.branch [
      | then-count-eq0-via-then-count-eq0 w ↦ inl w.if-count-eq0.true
      | then-count-eq0-via-else-count-eq0+then-count-gt-MOST_REQUESTS w ↦ inr w.if-count-gt-MOST_REQUESTS.true
    ])
