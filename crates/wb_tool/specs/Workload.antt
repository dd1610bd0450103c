-- What `workload` answers for.
use Rattle.std.specs.Prelude.{ℕ, ◌≡◌, ◌⊎◌, ◌*◌, ◌/◌, ◌≤◌, Bool, true, false, List, [], Some, min}
use Rattle.std.specs.List.{count_by, sum_by}
use Rattle.wb_geometry.specs.Image.{Image, bytes_at}
use Rattle.wb_geometry.specs.History.{after}
use Rattle.wb_sum.specs.Crc32c.{sum_of}
use Rattle.wb_script.specs.Content.{ScriptContent}
use Rattle.wb_script.specs.Workload.{workload, workload_clients}
use Rattle.wb_script.specs.declared.request.Request.{Request}
use Rattle.wb_script.specs.declared.request.Request.TheVariants.{Write, Read, ReadSum, Flush, Defer, Tell, Hear}
use Rattle.wb_serve.specs.Session.{IsBase}
use Rattle.wb_tool.specs.declared.command.WorkloadNumbers.{WorkloadNumbers}
use Rattle.wb_tool.specs.Run.{Run, IsUntouched}
use Rattle.wb_tool.specs.Texts.{counts_text, workload_line}
use Rattle.wb_tool.specs.Served.{ServedTelling}
use Rattle.wb_tool.specs.Opening.{EndsByBacking}
use Rattle.wb_tool.specs.Ends.{IsUnbegun, IsLeftBy, OnlyLogRead, EndsServing, ServingAccount}

-- the sectors that a workload is for, of a cache of so many: a multiple of 32, and 65,536 at most
abbrev pub region_of : (sectors : ℕ) → ℕ
region_of sectors = min sectors 65536 / 32 * 32

-- the script of these numbers for a region
abbrev pub script_of : WorkloadNumbers → (region : ℕ) → ScriptContent
script_of numbers region = workload numbers.seed numbers.count region

-- ---- its line

abbrev pub is_write : Request → Bool
is_write (Write sector count pattern fua) = true
is_write (Read sector count) = false
is_write (ReadSum sector count) = false
is_write Flush = false
is_write Defer = false
is_write (Tell client) = false
is_write (Hear client) = false

abbrev pub is_read : Request → Bool
is_read (Write sector count pattern fua) = false
is_read (Read sector count) = true
is_read (ReadSum sector count) = true
is_read Flush = false
is_read Defer = false
is_read (Tell client) = false
is_read (Hear client) = false

abbrev pub is_flush : Request → Bool
is_flush (Write sector count pattern fua) = false
is_flush (Read sector count) = false
is_flush (ReadSum sector count) = false
is_flush Flush = true
is_flush Defer = true
is_flush (Tell client) = false
is_flush (Hear client) = false

-- how many requests of a script are of a kind
abbrev pub how_many : (Request → Bool) → ScriptContent → ℕ
how_many is script = sum_by (count_by is) script.requests

-- the numbers of requests in the line of the workload over this region
abbrev pub counts_of : WorkloadNumbers → (region : ℕ) → List ℕ
counts_of numbers region =
    let script = script_of numbers region in
    counts_text (workload_clients * numbers.count) (how_many is_write script) (how_many is_read script) (how_many is_flush script)

-- and its line, with this checksum
abbrev pub line_of : WorkloadNumbers → (region sum : ℕ) → List ℕ
line_of numbers region sum = workload_line numbers.seed workload_clients (counts_of numbers region) sum

-- ---- its ends

-- The line was told, whole or in front.
abbrev pub TellsLine : Run → Type 0
TellsLine run = (run.status ≡ 0) ⊎ (run.status ≡ 5)

-- A session of the workload, which began, and ended by telling its line, or a fault line alone. The checksum is that of the
-- region after the whole history, which the backing device then holds. Where that couldn't be read the backing device failed.
pub record ServedWorkload (numbers : WorkloadNumbers) (region : ℕ) (run : Run) : Type 0 where
  pub sum : ℕ
  pub served : ServedTelling [] (line_of numbers region sum) (script_of numbers region) run
  pub history : TellsLine run → (base : Image) → IsBase served.found run.before base → sum ≡ sum_of (bytes_at (after base served.session.history) 0 region)
  pub device : TellsLine run → (image : Image) → run.after.backing.content ≡ Some image → sum ≡ sum_of (bytes_at image 0 region)

-- the ends over a cache of so many sectors: it is too small for a workload, or the workload is served
abbrev pub EndsWorkload : WorkloadNumbers → (sectors : ℕ) → Run → Type 0
EndsWorkload numbers sectors run =
    (IsUnbegun run × EndsByBacking 32 sectors run.sink run.status)
    ⊎ ((32 ≤ sectors) × EndsServing (ServedWorkload numbers (region_of sectors)) (region_of sectors) run)

-- what want of memory leaves of the devices there
abbrev pub IsLeftByWorkload : WorkloadNumbers → (sectors : ℕ) → Run → Type 0
IsLeftByWorkload numbers sectors run = OnlyLogRead run ⊎ IsLeftBy (script_of numbers (region_of sectors)) run

-- it reads no source
pub record WorkloadAccount (numbers : WorkloadNumbers) (run : Run) : Type 0 where
  pub unread : IsUntouched run.source
  pub account : ServingAccount (EndsWorkload numbers) (IsLeftByWorkload numbers) run
