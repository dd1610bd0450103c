use Rattle.std.proofs.Common.{◌≡◌}
use Rattle.wb_intake.specs.Passes.{name_of, drain_name, drain_view}
use Rattle.wb_intake.proofs.threads.take_all.Given as goal

-- the limit is the one that the drain published last
abbrev pub invariant-loop-turn : goal.invariant-loop-turn
invariant-loop-turn l = record {
  own : drain_name l.drain ≡ name_of l.intake;
  limit : (drain_view l.drain).seen.limit ≡ l.limit;
}
