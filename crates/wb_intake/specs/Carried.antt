-- What the name of a value behind a lock carries.
use Rattle.std.specs.Prelude.{ℕ, Bool}
use Rattle.atomic_table.specs.Seated.{TableId}
use Rattle.wb_geometry.specs.Image.{Image}
use Rattle.wb_geometry.specs.declared.geometry.Geometry.{Geometry}

-- Of which intake it is, with its geometry, the id below that of its first segment and the number of clients; the image that
-- the session began with; of each device how many faults it had at the opening, and whether it told its content then.
pub record Carried : Type 0 where
  pub intake : TableId
  pub geometry : Geometry
  pub first : ℕ
  pub clients : ℕ
  pub base : Image
  pub log_faults : ℕ
  pub backing_faults : ℕ
  pub log_told : Bool
  pub backing_told : Bool
