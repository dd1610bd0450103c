-- What is told of a slot.
use Rattle.std.specs.Prelude.{ℕ, ◌≡◌, ◌≢◌, ◌⊎◌, ◌-◌, ◌/◌, List, [], ◌∷◌, ◌++◌, codes}
use Rattle.std.specs.List.{flat_map, range_with_len}
use Rattle.std.specs.Fmt.{decimal}
use Rattle.hex.specs.Hex.{encode_lower}
use Rattle.wb_geometry.specs.Image.{Image, bytes_at}
use Rattle.wb_geometry.specs.Layout.{slot_at, slot_sectors}
use Rattle.wb_geometry.specs.declared.geometry.Geometry.{Geometry}
use Rattle.wb_header.specs.Text.{TextBlock, IsText, id_in, sum_in, length_in, number_in, bits_in}
use Rattle.wb_header.specs.Refused.{Refuses, front_of}
use Rattle.wb_header.specs.declared.checking.Refused.{Refused}
use Rattle.wb_header.specs.declared.checking.Refused.TheVariants as refused
use Rattle.wb_script.specs.Output.{newline}
use Rattle.wb_script.specs.Output.{sum_text}

-- the bytes of a slot
abbrev pub slot_bytes : Geometry → ℕ → Image → List ℕ
slot_bytes g slot x = bytes_at x (slot_at g slot) (slot_sectors g)

-- the blocks that a slot has room for, behind its header
abbrev pub room : Geometry → ℕ
room g = slot_sectors g / 8 - 1

-- the blocks of the backing device
abbrev pub blocks : Geometry → ℕ
blocks g = g.backing_sectors / 8

abbrev pub slot_name : ℕ → List ℕ
slot_name slot = codes "slot " ++ decimal slot

-- one line for each entry, with its dirty bits in two hexadecimal digits
abbrev pub entry_line : List ℕ → ℕ → List ℕ
entry_line bytes j = codes "block " ++ decimal (number_in bytes j) ++ codes " bits " ++ encode_lower (bits_in bytes j ∷ []) ++ newline

abbrev pub entries_text : List ℕ → (count : ℕ) → List ℕ
entries_text bytes count = flat_map (entry_line bytes) (range_with_len 0 count)

abbrev pub segment_line : ℕ → List ℕ → List ℕ
segment_line slot bytes = slot_name slot ++ codes " id " ++ decimal (id_in bytes) ++ codes " length " ++ decimal (length_in bytes)
    ++ codes " sum " ++ sum_text (sum_in bytes) ++ newline

-- why bytes don't begin with a segment's text
abbrev pub segment_cause : Refused → List ℕ
segment_cause (refused.Id found) = codes "id " ++ decimal found
segment_cause (refused.Length found) = codes "length " ++ decimal found
segment_cause (refused.Zeros at) = codes "zeros " ++ decimal at
segment_cause (refused.Entry index) = codes "entry " ++ decimal index
segment_cause (refused.Repeated index) = codes "repeated " ++ decimal index
segment_cause (refused.Sum stored computed) = codes "sum " ++ sum_text stored ++ codes " " ++ sum_text computed

abbrev pub refused_slot_line : ℕ → (id : ℕ) → Refused → List ℕ
refused_slot_line slot id cause = slot_name slot ++ codes " id " ++ decimal id ++ codes " refused " ++ segment_cause cause ++ newline

-- the text of a slot with these bytes: it is empty where the id is 0, it begins with the text of a segment, or it is refused
abbrev pub TellsSlot : Geometry → (slot : ℕ) → (bytes text : List ℕ) → Type 0
TellsSlot g slot bytes text =
    ((id_in bytes ≡ 0) × (text ≡ slot_name slot ++ codes " empty" ++ newline))
    ⊎ ((id_in bytes ≢ 0) × ((list : List TextBlock) × IsText (room g) (blocks g) (front_of bytes) (id_in bytes) list
    × (text ≡ segment_line slot (front_of bytes) ++ entries_text (front_of bytes) (length_in (front_of bytes)))))
    ⊎ ((id_in bytes ≢ 0) × ((cause : Refused) × Refuses (room g) (blocks g) (id_in bytes) bytes cause
    × (text ≡ refused_slot_line slot (id_in bytes) cause)))
