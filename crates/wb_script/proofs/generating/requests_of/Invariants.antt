-- The requests before this one are drawn, and the state is that behind them.
use Rattle.std.proofs.Common.{◌≡◌, ◌+◌, map}
use Rattle.std.specs.List.{range_with_len}
use Rattle.wb_script.specs.Workload.{state_after, drawn_request}
use Rattle.wb_script.proofs.generating.requests_of.Given as goal

abbrev pub invariant-loop-index : goal.invariant-loop-index
invariant-loop-index l = record {
  requests : l.requests ≡ map (λ index. drawn_request l.quarter l.fn.client index (state_after l.seed l.fn.client (index + 1))) (range_with_len 0 l.index);
  state : l.state ≡ state_after l.seed l.fn.client l.index;
}
