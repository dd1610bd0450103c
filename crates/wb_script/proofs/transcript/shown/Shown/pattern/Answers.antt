-- The pattern is repeated to the number of the bytes that it makes.
use Rattle.std.proofs.Common.{refl}
use Rattle.wb_script.proofs.transcript.shown.Shown.pattern.Goals as goal

pub returns-clause-fills : goal.returns-clause-fills
returns-clause-fills c = rw (← c.self.view_is, c.self.invariant.fills) refl
