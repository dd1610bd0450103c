-- Why bytes don't begin with a segment's text.
use Rattle.std.specs.Prelude.{ℕ, ◌≡◌, ◌≢◌, ◌⊎◌, ◌+◌, ◌*◌, ◌<◌, ◌≤◌, List, take, slice_index}
use Rattle.wb_sum.specs.Crc32c.{sum_of}
use Rattle.wb_header.specs.Text.{id_in, sum_in, length_in, number_in, bits_in, blanked, IsZeroPlace}
use Rattle.wb_header.specs.declared.checking.Refused.{Refused}
use Rattle.wb_header.specs.declared.checking.Refused.TheVariants as refused

-- the front of the bytes, as long as the length field says
abbrev pub front_of : List ℕ → List ℕ
front_of bytes = take (4096 * (1 + length_in bytes)) bytes

-- What is asked, each after the one before.

abbrev pub HasId : (id : ℕ) → List ℕ → Type 0
HasId id bytes = id_in bytes ≡ id

abbrev pub HasLength : (room id : ℕ) → List ℕ → Type 0
HasLength room id bytes = HasId id bytes × (1 ≤ length_in bytes) × (length_in bytes ≤ room)

abbrev pub IsZeroed : List ℕ → ℕ → Type 0
IsZeroed bytes at = IsZeroPlace (length_in bytes) bytes at → slice_index bytes at ≡ 0

abbrev pub HasZeros : (room id : ℕ) → List ℕ → Type 0
HasZeros room id bytes = HasLength room id bytes × ((at : ℕ) → IsZeroed bytes at)

abbrev pub IsEntry : (limit : ℕ) → List ℕ → ℕ → Type 0
IsEntry limit bytes j = (bits_in bytes j ≢ 0) × (number_in bytes j < limit)

abbrev pub HasEntries : (room limit id : ℕ) → List ℕ → Type 0
HasEntries room limit id bytes = HasZeros room id bytes × ((j : ℕ) → j < length_in bytes → IsEntry limit bytes j)

-- entry j has the number of an earlier one
abbrev pub IsRepeated : List ℕ → ℕ → Type 0
IsRepeated bytes j = (i : ℕ) × (i < j) × (number_in bytes i ≡ number_in bytes j)

abbrev pub HasBlocks : (room limit id : ℕ) → List ℕ → Type 0
HasBlocks room limit id bytes = HasEntries room limit id bytes × ((j : ℕ) → j < length_in bytes → IsRepeated bytes j → ⊥)

-- the first cause, with the least offset or index
abbrev pub Refuses : (room limit id : ℕ) → List ℕ → Refused → Type 0
Refuses room limit id bytes (refused.Id found) = (found ≡ id_in bytes) × (found ≢ id)
Refuses room limit id bytes (refused.Length found) =
    HasId id bytes × (found ≡ length_in bytes) × ((found ≡ 0) ⊎ (room < found))
Refuses room limit id bytes (refused.Zeros at) = HasLength room id bytes
    × IsZeroPlace (length_in bytes) bytes at × (slice_index bytes at ≢ 0) × ((k : ℕ) → k < at → IsZeroed bytes k)
Refuses room limit id bytes (refused.Entry index) = HasZeros room id bytes
    × (index < length_in bytes) × (IsEntry limit bytes index → ⊥) × ((k : ℕ) → k < index → IsEntry limit bytes k)
Refuses room limit id bytes (refused.Repeated index) = HasEntries room limit id bytes
    × (index < length_in bytes) × IsRepeated bytes index × ((k : ℕ) → k < index → IsRepeated bytes k → ⊥)
Refuses room limit id bytes (refused.Sum stored computed) = HasBlocks room limit id bytes
    × (stored ≡ sum_in bytes) × (computed ≡ sum_of (blanked (front_of bytes))) × (stored ≢ computed)
