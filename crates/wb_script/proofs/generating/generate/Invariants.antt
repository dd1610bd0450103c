-- The clients before this one have their requests.
use Rattle.std.proofs.Common.{◌≡◌, ◌/◌, map}
use Rattle.std.specs.List.{range_with_len}
use Rattle.wb_script.specs.Workload.{drawn_requests}
use Rattle.wb_script.proofs.generating.generate.Given as goal

abbrev pub invariant-loop-client : goal.invariant-loop-client
invariant-loop-client l =
    l.requests.items ≡ map (drawn_requests l.seed l.count (l.region / 4)) (range_with_len 0 l.client)
