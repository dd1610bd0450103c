use Rattle.std.proofs.Common.{◌≡◌, ◌+◌}
use Rattle.wb_intake.specs.Belongs.{IsOwed}
use Rattle.wb_intake.specs.Passes.{name_of, pass_name, view_of}
use Rattle.wb_intake.proofs.threads.bump_once.Given as goal

-- so many voids are filled, and all others are owed
abbrev pub invariant-loop-filled : goal.invariant-loop-filled
invariant-loop-filled l = record {
  own : pass_name l.pass ≡ name_of l.intake;
  owed : IsOwed (view_of l.pass) l.pass.client l.voids.next l.voids.left;
  left : l.voids.left + l.filled ≡ l.count;
}
