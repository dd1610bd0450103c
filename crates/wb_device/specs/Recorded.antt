-- What was done to a disk, as changes of it.
use Rattle.std.specs.Prelude.{ℕ, ◌≡◌, ◌+◌, ◌/◌, ◌%◌, ◌≤◌, List, length, map, slice_index_or}
use Rattle.std.specs.List.{All}
use Rattle.std.proofs.Common.{sym, subst}
use Rattle.std.proofs.lemmas.List.Elements.{All-map}
use Rattle.wb_geometry.specs.Image.{IsImage, sectors_of}
use Rattle.wb_geometry.proofs.Images.{length-sectors_of, IsImage-sectors_of}
use Rattle.wb_geometry.specs.Disk.{Change, Write, Sync, IsWhole}
use Rattle.wb_device.specs.declared.medium.Recorded.{Recorded}
use Rattle.wb_device.specs.declared.medium.Recorded.TheVariants.{Written, Synced}

abbrev pub change_of : Recorded → Change
change_of (Written at bytes) = Write at (sectors_of bytes.items)
change_of Synced = Sync

abbrev pub changes_of : List Recorded → List Change
changes_of recorded = map change_of recorded

-- the first sector behind what it writes
abbrev pub end_of : Recorded → ℕ
end_of (Written at bytes) = at + length bytes.items / 512
end_of Synced = 0

-- how many bytes it writes behind its whole sectors
abbrev pub rest_of : Recorded → ℕ
rest_of (Written at bytes) = length bytes.items % 512
rest_of Synced = 0

-- it writes whole sectors, within so many
abbrev pub IsWithin : ℕ → Recorded → Type 0
IsWithin sectors r = (rest_of r ≡ 0) × (end_of r ≤ sectors)

-- each writes whole sectors

IsWhole-change : (r : Recorded) → IsWhole (change_of r)
IsWhole-change (Written at bytes) = subst (λ (n : ℕ). IsImage n (sectors_of bytes.items)) (sym (length-sectors_of bytes.items)) (IsImage-sectors_of bytes.items)
IsWhole-change Synced = tt

pub IsWhole-changes : (recorded : List Recorded) → All IsWhole (changes_of recorded)
IsWhole-changes recorded = All-map IsWhole change_of recorded (λ i r below. IsWhole-change (slice_index_or recorded i r))
