-- The oldest of the sectors so far.
use Rattle.wb_table.specs.Tables.{IsOldest}
use Rattle.wb_table.proofs.spots.Spots.oldest.Given as goal

abbrev pub invariant-loop-id : goal.invariant-loop-id
invariant-loop-id l = IsOldest l.fn.self.ids l.id-index l.oldest
