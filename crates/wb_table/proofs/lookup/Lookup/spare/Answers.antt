-- The table is one of blocks that are there.
use Rattle.std.proofs.Common.{subst}
use Rattle.wb_table.specs.Lookup.{IsLookup}
use Rattle.wb_table.specs.Tables.{lookup_of}
use Rattle.wb_table.proofs.Soundness.{lookup_sound}
use Rattle.wb_table.proofs.lookup.Lookup.spare.Goals as goal

pub returns-clause-sound : goal.returns-clause-sound
returns-clause-sound c =
    subst (λ table. IsLookup (lookup_of table)) c.self.view_is (lookup_sound c.self.inside.table c.self.invariant.sound c.self.invariant.filled)
