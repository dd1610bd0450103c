use Rattle.std.proofs.Common.{◌≡◌, []}
use Rattle.wb_intake.specs.Passes.{name_of, pass_name, view_of}
use Rattle.wb_intake.proofs.threads.put_all.Given as goal

-- the pass has no unfilled place
abbrev pub invariant-loop-number : goal.invariant-loop-number
invariant-loop-number l = record {
  own : pass_name l.pass ≡ name_of l.intake;
  free : (view_of l.pass).unfilled ≡ [];
}
