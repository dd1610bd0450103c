use Rattle.std.proofs.Common.{◌≡◌, drop}
use Rattle.wb_sum.specs.Register.{run}
use Rattle.wb_sum.proofs.register.after_few.Given as goal

-- what is left still leads to the end
abbrev pub invariant-loop-byte : goal.invariant-loop-byte
invariant-loop-byte l = run l.register (drop l.byte-index l.bytes) ≡ run l.start l.bytes
