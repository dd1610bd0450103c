-- The numbers of a cache, and when they are refused.
use Rattle.std.specs.Prelude.{ℕ, ◌≡◌, ◌≤◌, ◌%◌, ◌^◌}
use Rattle.wb_geometry.specs.declared.geometry.GeometryRefused.{GeometryRefused}
use Rattle.wb_geometry.specs.declared.geometry.GeometryRefused.TheVariants.{Order, Slots, Ram, Backing}

abbrev pub IsOrder : ℕ → Type 0
IsOrder order = (4 ≤ order) × (order ≤ 10)

abbrev pub IsSlots : ℕ → Type 0
IsSlots slots = (2 ≤ slots) × (slots ≤ 16384)

abbrev pub IsRam : ℕ → Type 0
IsRam ram = (2 ≤ ram) × (ram ≤ 64)

-- so many backing sectors are whole blocks of eight, at least one, and no more than 2 ^ 40 sectors
abbrev pub IsBacking : ℕ → Type 0
IsBacking sectors = (8 ≤ sectors) × (sectors ≤ 2 ^ 40) × (sectors % 8 ≡ 0)

-- the first of the numbers that is out of its range, and that number
abbrev pub Refuses : (order slots ram backing : ℕ) → GeometryRefused → Type 0
Refuses order slots ram backing (Order found) = (found ≡ order) × ¬ IsOrder order
Refuses order slots ram backing (Slots found) = (found ≡ slots) × IsOrder order × ¬ IsSlots slots
Refuses order slots ram backing (Ram found) = (found ≡ ram) × IsOrder order × IsSlots slots × ¬ IsRam ram
Refuses order slots ram backing (Backing found) =
    (found ≡ backing) × IsOrder order × IsSlots slots × IsRam ram × ¬ IsBacking backing
