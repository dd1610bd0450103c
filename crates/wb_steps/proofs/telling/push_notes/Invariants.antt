use Rattle.std.proofs.Common.{◌≡◌, ◌++◌, take}
use Rattle.wb_steps.proofs.telling.push_notes.Given as goal

-- the first ones were added
abbrev pub invariant-loop-client : goal.invariant-loop-client
invariant-loop-client l = l.into ≡ l.fn.into ++ take l.client-index l.notes
