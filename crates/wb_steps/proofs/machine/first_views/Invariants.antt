use Rattle.std.proofs.Common.{◌≡◌}
use Rattle.wb_steps.specs.Steps.{owners}
use Rattle.wb_steps.proofs.machine.first_views.Given as goal

-- so many owners are there
abbrev pub invariant-loop-client : goal.invariant-loop-client
invariant-loop-client l = l.views.items ≡ owners l.client l.limit
