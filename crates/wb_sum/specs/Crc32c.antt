-- CRC-32C (Castagnoli): the remainder of the message, read as a polynomial over two elements, by
-- x^32 plus the polynomial 0x1EDC6F41. A polynomial is the list of its coefficients, highest power first.
use Rattle.std.specs.Prelude.{ℕ, zero, suc, ◌≡◌, ◌+◌, ◌-◌, ◌*◌, ◌/◌, ◌%◌, ◌==◌, Bool, true, false, not, if◌then◌else◌, List, [], ◌∷◌, ◌++◌, length, map, take, drop, reverse, replicate}
use Rattle.std.specs.List.{flat_map}

-- the lowest so many bits of a number, the lowest first
unfoldable pub bits : ℕ → ℕ → List Bool
bits zero n = []
bits (suc count) n = (n % 2 == 1) ∷ bits count (n / 2)

-- the number with these bits, the lowest first
unfoldable pub number : List Bool → ℕ
number [] = 0
number (bit ∷ rest) = (if bit then 1 else 0) + 2 * number rest

-- a polynomial and another with the same highest power: their sum, and over two elements also their difference
unfoldable pub plus : List Bool → List Bool → List Bool
plus p [] = p
plus [] q = []
plus (a ∷ p) (b ∷ q) = (if b then not a else a) ∷ plus p q

-- the divisor without its x^32
abbrev pub divisor : List Bool
divisor = reverse (bits 32 0x1EDC6F41)

-- So many steps of a long division: each strikes off the highest power, and takes away the divisor where its coefficient is 1.
unfoldable pub divide : ℕ → List Bool → List Bool
divide zero p = p
divide (suc steps) [] = []
divide (suc steps) (a ∷ p) = divide steps (if a then plus p divisor else p)

-- what is left below x^32
unfoldable pub remainder : List Bool → List Bool
remainder p = divide (length p - 32) p

-- the bits of the bytes, each byte from its lowest bit
unfoldable pub message : List ℕ → List Bool
message bytes = flat_map (bits 8) bytes

-- the first 32 bits inverted
unfoldable pub inverted_front : List Bool → List Bool
inverted_front p = map not (take 32 p) ++ drop 32 p

-- the checksum of bytes
unfoldable pub sum_of : List ℕ → ℕ
sum_of bytes = number (map not (remainder (inverted_front (message bytes ++ replicate 32 false))))

-- what makes it the remainder

-- the product of two polynomials: each coefficient of the first times the second, shifted
unfoldable pub times : List Bool → List Bool → List Bool
times [] q = replicate (length q - 1) false
times (a ∷ p) q = plus (false ∷ times p q) (if a then q else [])

-- r has 32 coefficients, and p is a multiple of the divisor and r
pub record IsRemainder (p r : List Bool) : Type 0 where
  pub below : length r ≡ 32
  pub quotient : List Bool
  pub whole : p ≡ plus (times quotient (true ∷ divisor)) (replicate (length quotient) false ++ r)
