-- The fault lines, and the lines that `format`, `inspect` and `workload` answer.
use Rattle.std.specs.Prelude.{ℕ, List, [], ◌++◌, codes}
use Rattle.std.specs.Fmt.{decimal}
use Rattle.wb_geometry.specs.declared.geometry.Geometry.{Geometry}
use Rattle.wb_geometry.specs.declared.which.Which.{Which}
use Rattle.wb_geometry.specs.declared.which.Which.TheVariants.{Log}
use Rattle.wb_super.specs.declared.reading.Super.{Super}
use Rattle.wb_super.specs.declared.reading.SuperRefused.{SuperRefused}
use Rattle.wb_super.specs.declared.reading.SuperRefused.TheVariants as refused
use Rattle.wb_script.specs.Output.{newline, cause_text, device_name, sum_text}
use Rattle.wb_script.specs.declared.refusal.Cause.{Cause}

abbrev pub usage_line : List ℕ
usage_line = codes "wblog: usage" ++ newline

abbrev pub small_line : Which → (has needs : ℕ) → List ℕ
small_line device has needs =
    codes "wblog: " ++ device_name device ++ codes " device has " ++ decimal has ++ codes " sectors, needs " ++ decimal needs ++ newline

abbrev pub source_line : List ℕ
source_line = codes "wblog: source failed" ++ newline

abbrev pub refused_line : ℕ → Cause → List ℕ
refused_line line cause = codes "wblog: script line " ++ decimal line ++ codes ": " ++ cause_text cause ++ newline

abbrev pub failed_line : Which → List ℕ
failed_line device = codes "wblog: " ++ device_name device ++ codes " device failed" ++ newline

-- no ids are left, at the opening or for a place
abbrev pub spent_record_line : ℕ → List ℕ
spent_record_line found = codes "wblog: ids spent, record " ++ decimal found ++ newline

abbrev pub spent_line : ℕ → List ℕ
spent_line place = codes "wblog: ids spent, place " ++ decimal place ++ newline

-- the log has fewer backing sectors than the script was parsed for
abbrev pub changed_line : (parsed found : ℕ) → List ℕ
changed_line parsed found = codes "wblog: log image: changed " ++ decimal parsed ++ codes " " ++ decimal found ++ newline

-- a slot of the log has an id that is too high
abbrev pub stray_line : (slot id : ℕ) → List ℕ
stray_line slot id = codes "wblog: log image: stray slot " ++ decimal slot ++ codes " id " ++ decimal id ++ newline

-- why the bytes of a log image are refused
abbrev pub image_cause : SuperRefused → List ℕ
image_cause refused.Magic = codes "magic"
image_cause (refused.Version version) = codes "version " ++ decimal version
image_cause (refused.Sum stored computed) = codes "sum " ++ sum_text stored ++ codes " " ++ sum_text computed
image_cause refused.Geometry = codes "geometry"
image_cause (refused.Record found) = codes "record " ++ decimal found
image_cause (refused.Small needs has) = []
image_cause refused.Fault = []

abbrev pub image_line : SuperRefused → List ℕ
image_line cause = codes "wblog: log image: " ++ image_cause cause ++ newline

-- the line for a superblock that is refused or can't be read
abbrev pub super_line : SuperRefused → List ℕ
super_line (refused.Small needs has) = small_line Log has needs
super_line refused.Fault = failed_line Log
super_line refused.Magic = image_line refused.Magic
super_line (refused.Version version) = image_line (refused.Version version)
super_line (refused.Sum stored computed) = image_line (refused.Sum stored computed)
super_line refused.Geometry = image_line refused.Geometry
super_line (refused.Record found) = image_line (refused.Record found)

-- and the status
abbrev pub super_status : SuperRefused → ℕ
super_status (refused.Small needs has) = 9
super_status refused.Fault = 6
super_status refused.Magic = 8
super_status (refused.Version version) = 8
super_status (refused.Sum stored computed) = 8
super_status refused.Geometry = 8
super_status (refused.Record found) = 8

-- the line for a slot that the log doesn't have
abbrev pub no_slot_line : (slot slots : ℕ) → List ℕ
no_slot_line slot slots = codes "wblog: slot " ++ decimal slot ++ codes " is not below " ++ decimal slots ++ newline

abbrev pub geometry_text : Geometry → List ℕ
geometry_text g = codes "order " ++ decimal g.order ++ codes " slots " ++ decimal g.slots ++ codes " ram " ++ decimal g.ram
    ++ codes " backing " ++ decimal g.backing_sectors

abbrev pub formatted_line : Geometry → List ℕ
formatted_line g = codes "formatted " ++ geometry_text g ++ codes " record 0" ++ newline

abbrev pub inspected_line : Super → List ℕ
inspected_line found =
    codes "version " ++ decimal found.version ++ codes " " ++ geometry_text found.geometry ++ codes " record " ++ decimal found.recorded ++ newline

-- how many requests a workload has, and how many of these are of each kind
abbrev pub counts_text : (requests writes reads flushes : ℕ) → List ℕ
counts_text requests writes reads flushes =
    codes "requests " ++ decimal requests ++ codes " writes " ++ decimal writes ++ codes " reads " ++ decimal reads ++ codes " flushes " ++ decimal flushes

-- the line of a workload: its seed, how many clients it has, those numbers, and the checksum of what it leaves
abbrev pub workload_line : (seed clients : ℕ) → (counts : List ℕ) → (sum : ℕ) → List ℕ
workload_line seed clients counts sum =
    codes "workload seed " ++ decimal seed ++ codes " clients " ++ decimal clients ++ codes " " ++ counts ++ codes " sum " ++ sum_text sum ++ newline
