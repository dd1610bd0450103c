-- How many device calls a read of the engine may cost.
use Rattle.std.specs.Prelude.{ℕ, ◌/◌, ◌%◌, length, filter, nat_le, ◌==◌, ◌&&◌}
use Rattle.std.specs.List.{range_with_len}
use Rattle.wb_table.specs.Tables.{BlockTable, spot_in}

-- how many of the sectors have their newest content on the backing device
abbrev pub on_backing : BlockTable → (sector count : ℕ) → ℕ
on_backing lookup sector count = length (filter (λ s. (spot_in lookup (s / 8) (s % 8)).id == 0) (range_with_len sector count))

-- how many of them have it in the log, which has the segments up to this one
abbrev pub in_log : (logged : ℕ) → BlockTable → (sector count : ℕ) → ℕ
in_log logged lookup sector count =
    length (filter (λ s. nat_le 1 (spot_in lookup (s / 8) (s % 8)).id && nat_le (spot_in lookup (s / 8) (s % 8)).id logged) (range_with_len sector count))
