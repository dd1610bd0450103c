-- What `format` answers for.
use Rattle.std.specs.Prelude.{ℕ, ◌≡◌, ◌⊎◌, ◌<◌, ◌≤◌, Some}
use Rattle.wb_geometry.specs.Image.{Image}
use Rattle.wb_geometry.specs.Layout.{log_sectors}
use Rattle.wb_geometry.specs.Device.{State, IsUncalled, CountsFaultsWhere, NothingPending, ContentPasses, Passes, LeavesOnly}
use Rattle.wb_geometry.specs.declared.geometry.Geometry.{Geometry}
use Rattle.wb_geometry.specs.declared.which.Which.TheVariants.{Log}
use Rattle.wb_super.specs.Formatting.{Formats, FormatsOrNot}
use Rattle.wb_tool.specs.declared.command.Numbers.{Numbers}
use Rattle.wb_tool.specs.Run.{Lent, Run, IsUntouched, NoSession, BackingIsUncalled, Took, EndsTelling, usable}
use Rattle.wb_tool.specs.Texts.{small_line, failed_line, formatted_line}
use Rattle.wb_tool.specs.Opening.{EndsByBacking}

-- the geometry of these numbers and of a backing device of so many sectors
pub record Asks (numbers : Numbers) (sectors : ℕ) (g : Geometry) : Type 0 where
  pub order : g.order ≡ numbers.order
  pub slots : g.slots ≡ numbers.slots
  pub ram : g.ram ≡ numbers.ram
  pub backing : g.backing_sectors ≡ usable sectors

-- the log device has too few sectors, and isn't called
pub record EndsBySmallLog (g : Geometry) (sink : Lent) (before after : State) (status : ℕ) : Type 0 where
  pub few : before.sectors < log_sectors g
  pub ended : status ≡ 9
  pub told : Took sink (small_line Log before.sectors (log_sectors g))
  pub uncalled : IsUncalled before after

-- the log device failed
pub record EndsByFault (g : Geometry) (sink : Lent) (before after : State) (status : ℕ) : Type 0 where
  pub room : log_sectors g ≤ before.sectors
  pub ended : status ≡ 6
  pub told : Took sink (failed_line Log)
  pub content : ContentPasses (FormatsOrNot g) before after

-- the log device is formatted, and a crash leaves it so
pub record EndsFormatted (g : Geometry) (sink : Lent) (before after : State) (status : ℕ) : Type 0 where
  pub room : log_sectors g ≤ before.sectors
  pub told : EndsTelling sink status (formatted_line g)
  pub content : ContentPasses (Formats g) before after
  pub durable : NothingPending after

-- what formatting leaves of the log device and the sink, for a geometry that was asked for
abbrev pub EndsAsked : Geometry → Lent → (before after : State) → (status : ℕ) → Type 0
EndsAsked g sink before after status =
    EndsBySmallLog g sink before after status ⊎ EndsByFault g sink before after status ⊎ EndsFormatted g sink before after status

-- What `format` leaves of them, for a backing device of so many sectors. From nothing pending on, a crash at any moment
-- leaves the log as it was, or refused for its magic, or formatted.
pub record FormatEnds (numbers : Numbers) (sectors : ℕ) (sink : Lent) (before after : State) (status : ℕ) : Type 0 where
  pub faults : CountsFaultsWhere (status ≡ 6) before.faults after.faults
  pub no_memory : status ≡ 1 → IsUncalled before after
  pub crash : (g : Geometry) → Asks numbers sectors g → Passes (FormatsOrNot g) before after
  pub any_moment : (g : Geometry) → Asks numbers sectors g → NothingPending before → (x : Image) → before.content ≡ Some x
      → LeavesOnly (FormatsOrNot g x) before after
  pub ends : (status ≡ 1) ⊎ (EndsByBacking 8 sectors sink status × IsUncalled before after)
      ⊎ ((8 ≤ sectors) × ((g : Geometry) × Asks numbers sectors g × EndsAsked g sink before after status))

pub record FormatAccount (numbers : Numbers) (run : Run) : Type 0 where
  pub no_session : NoSession run
  pub backing : BackingIsUncalled run
  pub unread : IsUntouched run.source
  pub ends : FormatEnds numbers run.before.backing.sectors run.sink run.before.log run.after.log run.status
