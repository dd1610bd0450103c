-- The places of a write, where they stand.
use Rattle.std.specs.Prelude.{ℕ, List}
use Rattle.wb_script.specs.declared.transcript.taken.Held.{Held}
use Rattle.wb_script.specs.declared.transcript.taken.Held.TheVariants.{Own, Lent}

abbrev pub held_places : Held → List ℕ
held_places (Own places) = places
held_places (Lent places) = places.now
