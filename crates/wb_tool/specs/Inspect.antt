-- What `inspect` answers for.
use Rattle.std.specs.Prelude.{ℕ, ◌≡◌, ◌⊎◌}
use Rattle.wb_geometry.specs.Device.{State, OnlyRead, CountsFaultsWhere}
use Rattle.wb_super.specs.Found.{IsSuper}
use Rattle.wb_super.specs.declared.reading.Super.{Super}
use Rattle.wb_tool.specs.Run.{Lent, Run, IsUntouched, NoSession, BackingIsUncalled, EndsTelling}
use Rattle.wb_tool.specs.Texts.{inspected_line}
use Rattle.wb_tool.specs.Opening.{EndsByLog}

-- the superblock is good, and its line was told
pub record EndsInspected (sink : Lent) (log : State) (status : ℕ) : Type 0 where
  pub found : Super
  pub super : IsSuper log found
  pub told : EndsTelling sink status (inspected_line found)

-- What `inspect` leaves of the log device and the sink. The log is only read, and its faults rose exactly at status 6.
pub record InspectEnds (sink : Lent) (before after : State) (status : ℕ) : Type 0 where
  pub log : OnlyRead before after
  pub faults : CountsFaultsWhere (status ≡ 6) before.faults after.faults
  pub ends : (status ≡ 1) ⊎ EndsByLog sink before status ⊎ EndsInspected sink before status

pub record InspectAccount (run : Run) : Type 0 where
  pub no_session : NoSession run
  pub backing : BackingIsUncalled run
  pub unread : IsUntouched run.source
  pub ends : InspectEnds run.sink run.before.log run.after.log run.status
