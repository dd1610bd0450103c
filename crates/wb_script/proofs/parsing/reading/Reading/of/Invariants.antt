use Rattle.std.proofs.Common.{◌≡◌, [], map}
use Rattle.std.specs.List.{range_with_len}
use Rattle.wb_script.specs.Grammar.{requests_of}
use Rattle.wb_script.proofs.parsing.reading.Reading.of.Given as goal

-- no requests yet, of so many clients
abbrev pub invariant-loop : goal.invariant-loop
invariant-loop l = l.requests.items ≡ map (requests_of []) (range_with_len 0 l.counter)
