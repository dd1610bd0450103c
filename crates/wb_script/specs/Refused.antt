-- What a script's parse answers where there is no script.
use Rattle.std.specs.Prelude.{ℕ, List}
use Rattle.wb_script.specs.Grammar.{IsTheRefusal}
use Rattle.wb_script.specs.declared.refusal.ParseStop.{ParseStop}
use Rattle.wb_script.specs.declared.refusal.ParseStop.TheVariants.{Refused, Memory}

-- the refusal is that of the bytes; for want of memory nothing is said
abbrev pub HasRefusal : (sectors : ℕ) → List ℕ → ParseStop → Type 0
HasRefusal sectors bytes (Refused refused) = IsTheRefusal sectors bytes refused.line refused.cause
HasRefusal sectors bytes Memory = Unit {0}
