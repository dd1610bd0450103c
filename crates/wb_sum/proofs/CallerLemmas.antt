-- What callers need of the checksum besides the public clauses.
use Rattle.std.proofs.Common.{ℕ, ◌^◌, ◌<◌, List, arith}
use Rattle.wb_sum.specs.Crc32c.{sum_of}
use Rattle.wb_sum.proofs.Division.{sum_is}

-- a checksum fits 32 bits
pub sum_lt : (bytes : List ℕ) → sum_of bytes < 2 ^ 32
sum_lt bytes = omega (arith, sum_is bytes)
