-- The pattern was put so often.
use Rattle.std.proofs.Common.{◌≡◌, replicate}
use Rattle.std.specs.List.{concat}
use Rattle.wb_buffers.proofs.buffers.repeat.Given as goal

abbrev pub invariant-loop : goal.invariant-loop
invariant-loop l = l.bytes.items ≡ concat (replicate l.counter l.pattern)
