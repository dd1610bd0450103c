-- How a command ends where the log or the backing device is refused.
use Rattle.std.specs.Prelude.{ℕ, ◌≡◌, ◌<◌}
use Rattle.wb_geometry.specs.declared.which.Which.TheVariants.{Backing}
use Rattle.wb_geometry.specs.Device.{State}
use Rattle.wb_super.specs.Found.{Refuses}
use Rattle.wb_super.specs.declared.reading.Super.{Super}
use Rattle.wb_super.specs.declared.reading.SuperRefused.{SuperRefused}
use Rattle.wb_tool.specs.Run.{Lent, Took}
use Rattle.wb_engine.specs.Opening.{most_recorded}
use Rattle.wb_tool.specs.Texts.{super_line, super_status, small_line, spent_record_line}

-- the superblock is refused, or can't be read
pub record EndsByLog (sink : Lent) (log : State) (status : ℕ) : Type 0 where
  pub cause : SuperRefused
  pub why : Refuses log cause
  pub ended : status ≡ super_status cause
  pub told : Took sink (super_line cause)

-- the record leaves no ids for a session
pub record EndsByIds (found : Super) (sink : Lent) (status : ℕ) : Type 0 where
  pub spent : most_recorded found.geometry.slots < found.recorded
  pub ended : status ≡ 10
  pub told : Took sink (spent_record_line found.recorded)

-- the backing device has too few sectors
pub record EndsByBacking (needs has : ℕ) (sink : Lent) (status : ℕ) : Type 0 where
  pub few : has < needs
  pub ended : status ≡ 9
  pub told : Took sink (small_line Backing has needs)
