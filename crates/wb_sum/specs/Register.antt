-- The division on the number that a list of bits spells. Private clauses alone speak of it.
use Rattle.std.specs.Prelude.{ℕ, zero, suc, ◌+◌, ◌*◌, ◌/◌, ◌%◌, ◌^◌, ◌==◌, ◌&&◌, Bool, true, List, [], ◌∷◌, length}
use Rattle.std.specs.Int.Bits.{bit_xor}

-- one step: the lowest bit, which is the highest coefficient, goes off
abbrev pub reduced : ℕ → ℕ
reduced n = bit_xor (n / 2) (n % 2 * 0x82F63B78)

-- so many steps
unfoldable pub reduce : ℕ → ℕ → ℕ
reduce zero n = n
reduce (suc steps) n = reduce steps (reduced n)

-- a register after bytes
unfoldable pub run : ℕ → List ℕ → ℕ
run register [] = register
run register (byte ∷ bytes) = run (reduce 8 (bit_xor register (byte % 256))) bytes

-- words below a number, the first lowest
unfoldable pub state : List ℕ → ℕ → ℕ
state [] above = above
state (word ∷ words) above = bit_xor word (state words above * 2 ^ 64)

-- these numbers are what so many steps leave of from, from + 1 and so on
unfoldable pub are_remainders : ℕ → ℕ → List ℕ → Bool
are_remainders steps from [] = true
are_remainders steps from (r ∷ rs) = (reduce steps from == r) && are_remainders steps (from + 1) rs

-- these tables are of each byte with so many bytes behind it, and one more in each
unfoldable pub are_tables : ℕ → List (List ℕ) → Bool
are_tables behind [] = true
are_tables behind (t ∷ ts) = (length t == 256) && are_remainders (8 * (behind + 1)) 0 t && are_tables (behind + 1) ts
