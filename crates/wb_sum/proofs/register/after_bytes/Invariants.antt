use Rattle.std.proofs.Common.{◌≡◌, ◌+◌, ◌*◌, [], ◌∷◌, length}
use Rattle.wb_sum.specs.Crc32c.{number, message}
use Rattle.wb_sum.specs.Register.{reduce, run, state}
use Rattle.wb_sum.proofs.register.after_bytes.Given as goal

-- the four words and what is left still lead to the end
abbrev pub invariant-loop-rest : goal.invariant-loop-rest
invariant-loop-rest l =
    reduce (256 + 8 * length l.rest) (state (l.first ∷ l.second ∷ l.third ∷ l.fourth ∷ []) (number (message l.rest))) ≡ run l.start l.bytes

abbrev pub decreases-loop-rest : goal.decreases-loop-rest
decreases-loop-rest l = length l.rest
