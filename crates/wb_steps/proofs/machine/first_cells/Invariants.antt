use Rattle.std.proofs.Common.{◌≡◌, map, replicate}
use Rattle.std.specs.Prelude.{None}
use mathlib.Core.Option.{some}
use Rattle.wb_steps.specs.Machines.{home_of}
use Rattle.wb_steps.proofs.machine.first_cells.Given as goal

-- so many cells are there, and empty
abbrev pub invariant-loop-cell : goal.invariant-loop-cell
invariant-loop-cell l = map home_of l.cells.items ≡ replicate l.cell (some None)
