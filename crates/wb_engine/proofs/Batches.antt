-- Which segments a batch takes.
use Rattle.std.proofs.Common.{◌+◌, ◌<◌, ◌≤◌, arith}
use Rattle.wb_crash.specs.declared.numbers.Numbers.{Numbers}
use Rattle.wb_engine.specs.Stepping.{MayBack, batch_end}

-- one at least, none above the last that is stable, and eight at most
pub batch_ends : (e : Numbers) → MayBack e → (e.back < batch_end e) × (batch_end e ≤ e.stable) × (batch_end e ≤ e.back + 8)
batch_ends e may = (omega (arith, may), omega arith, omega arith)
