use Rattle.std.proofs.Common.{◌≡◌}
use Rattle.wb_intake.specs.Passes.{name_of, drain_name, drain_view}
use Rattle.wb_barrier.proofs.tests.take_out.Given as goal

-- nothing is published
abbrev pub invariant-loop-turn : goal.invariant-loop-turn
invariant-loop-turn l = record {
  own : drain_name l.drain ≡ name_of l.intake;
  none : (drain_view l.drain).seen.stable ≡ 0;
}
