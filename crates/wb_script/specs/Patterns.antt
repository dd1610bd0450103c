-- Patterns: bytes that are repeated to fill a number of sectors.
use Rattle.std.specs.Prelude.{ℕ, ◌≡◌, ◌/◌, ◌%◌, ◌==◌, ◌&&◌, nat_eq, Bool, List, length, take, find, unwrap_or, replicate}
use Rattle.std.specs.List.{concat, range_with_len}
use Rattle.std.specs.Cmp.Lexicographic.{pointwise}

-- the pattern, repeated to so many bytes, which is a multiple of its length
unfoldable pub repeated : List ℕ → ℕ → List ℕ
repeated pattern size = concat (replicate (size / length pattern) pattern)

-- whether the first n bytes, repeated, are the bytes
unfoldable pub repeats : List ℕ → ℕ → Bool
repeats bytes n = (length bytes % n == 0) && pointwise nat_eq (repeated (take n bytes) (length bytes)) bytes

-- the shortest front of the bytes that, repeated, is the bytes
unfoldable pub shortest_pattern : List ℕ → List ℕ
shortest_pattern bytes = take (unwrap_or (find (repeats bytes) (range_with_len 1 (length bytes))) 0) bytes

-- the pattern, repeated, has so many bytes, and no shorter one is the same bytes
pub record IsShortest (pattern : List ℕ) (size : ℕ) : Type 0 where
  pub fills : length (repeated pattern size) ≡ size
  pub shortest : pattern ≡ shortest_pattern (repeated pattern size)
