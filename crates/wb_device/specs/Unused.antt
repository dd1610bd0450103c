-- A device that had no call yet.
use Rattle.std.specs.Prelude.{◌≡◌}
use Rattle.wb_geometry.specs.Device.{State}

-- all its counts are 0
pub record IsUnused (s : State) : Type 0 where
  pub faults : s.faults ≡ 0
  pub syncs : s.syncs ≡ 0
  pub reads : s.reads ≡ 0
