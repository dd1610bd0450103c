use Rattle.std.proofs.Common.{◌≡◌, ◌++◌, take}
use Rattle.wb_steps.proofs.telling.push_items.Given as goal

-- the first ones were added
abbrev pub invariant-loop-item : goal.invariant-loop-item
invariant-loop-item l = l.into ≡ l.fn.into ++ take l.item-index l.items
