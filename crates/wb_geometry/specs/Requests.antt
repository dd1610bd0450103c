-- How a request is split into parts, one for each block that it touches, and the entries that it writes.
use Rattle.std.specs.Prelude.{ℕ, ◌+◌, ◌-◌, ◌*◌, ◌/◌, ◌^◌, ◌==◌, List, [], ◌∷◌, ◌++◌, map, take, drop, min, max, replicate, if◌then◌else◌}
use Rattle.std.specs.List.{range_with_len}
use Rattle.wb_geometry.specs.History.{HistoryEntry, Write}
use Rattle.wb_geometry.specs.declared.request.Part.{Part}

-- the sectors of a request that lie in this block
abbrev pub part_in : (sector count block : ℕ) → Part
part_in sector count block =
    let first = max sector (8 * block) in
    record { block = block; from = first - 8 * block; count = min (sector + count) (8 * block + 8) - first }

-- how many blocks a request touches
abbrev pub blocks_touched : (sector count : ℕ) → ℕ
blocks_touched sector count = if count == 0 then 0 else (sector + count - 1) / 8 + 1 - sector / 8

-- the parts of a request, by rising block
abbrev pub parts : (sector count : ℕ) → List Part
parts sector count = map (part_in sector count) (range_with_len (sector / 8) (blocks_touched sector count))

-- the entry of a part with its bytes: in the payload zeros stand where the part has no sector
abbrev pub entry_of : ℕ → Part → List ℕ → HistoryEntry
entry_of client part bytes =
    Write client part.block (2 ^ (part.from + part.count) - 2 ^ part.from)
    (replicate (512 * part.from) 0 ++ bytes ++ replicate (512 * (8 - (part.from + part.count))) 0)

-- the entries of a write: one a part, each with its piece of the bytes
abbrev pub entries_of : ℕ → List Part → List ℕ → List HistoryEntry
entries_of client [] bytes = []
entries_of client (part ∷ more) bytes =
    entry_of client part (take (512 * part.count) bytes) ∷ entries_of client more (drop (512 * part.count) bytes)
