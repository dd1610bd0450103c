-- Where things lie in the log, in sectors (docs/FORMAT.md).
use Rattle.std.specs.Prelude.{ℕ, ◌+◌, ◌-◌, ◌*◌, ◌/◌, ◌%◌, ◌^◌}
use Rattle.wb_geometry.specs.declared.geometry.Geometry.{Geometry}

-- a slot has so many sectors
abbrev pub slot_sectors : Geometry → ℕ
slot_sectors g = 2 ^ g.order

-- where slot i begins, counted from 0
abbrev pub slot_at : Geometry → ℕ → ℕ
slot_at g i = 2048 + slot_sectors g * i

-- the sectors of the log, with all of its slots
abbrev pub log_sectors : Geometry → ℕ
log_sectors g = slot_at g g.slots

-- where the slot of a segment begins: segments are numbered from 1, and take the slots in turn
abbrev pub slot_start : Geometry → ℕ → ℕ
slot_start g id = slot_at g ((id - 1) % g.slots)

-- a segment has so many places: one for each block that fits a slot behind the header
abbrev pub places : Geometry → ℕ
places g = 2 ^ (g.order - 3) - 1

-- the segment that a place of a session belongs to, where `first` was the record at the session's start
abbrev pub segment_of : Geometry → (place first : ℕ) → ℕ
segment_of g place first = first + 1 + place / places g
