-- The first entries of a map have distinct keys.
use Rattle.std.proofs.Common.{subst}
use Rattle.wb_table.specs.Tables.{IsTable}
use Rattle.wb_table.proofs.Placed.{IsTable-placed}
use Rattle.wb_table.proofs.blocks.Blocks.len.Goals as goal

pub returns-clause-sound : goal.returns-clause-sound
returns-clause-sound c = subst IsTable c.self.view_is (IsTable-placed c.self.inside.entries c.self.inside.live c.self.inside.room c.self.invariant)
