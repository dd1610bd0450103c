-- How a transcript keeps its lines.
use Rattle.std.specs.Prelude.{ℕ, nat_lt, List, [], ◌∷◌, Some, if◌then◌else◌}
use Rattle.wb_geometry.specs.declared.which.Which.{Which}
use Rattle.wb_script.specs.Patterns.{repeated, IsShortest}
use Rattle.wb_script.specs.declared.transcript.Ended.{Ended}
use Rattle.wb_script.specs.declared.transcript.Stop.TheVariants.{Whole}
use Rattle.wb_script.specs.declared.transcript.Line.{Line}
use Rattle.wb_script.specs.declared.transcript.Line.TheVariants as line
use Rattle.wb_script.specs.declared.transcript.kept.KeptPlaces.{KeptPlaces}
use Rattle.wb_script.specs.declared.transcript.kept.KeptPlaces.TheVariants.{One, Many}
use Rattle.wb_script.specs.declared.transcript.kept.Kept.{Kept}
use Rattle.wb_script.specs.declared.transcript.kept.Kept.TheVariants.{Wrote, ForcedOne, Forced, Got, Summed, Failed, Flushed, Deferred, Told, Heard}

-- the places that are kept so
abbrev pub places_of : KeptPlaces → List ℕ
places_of (One place) = place ∷ []
places_of (Many places) = places.items

-- the line that is kept so
abbrev pub line_of : Kept → Line
line_of (Wrote places stop) = line.Wrote (places_of places) stop
line_of (ForcedOne place ended) = line.Forced (place ∷ []) (Some ended) Whole
line_of (Forced forced) = line.Forced (places_of forced.value.places) forced.value.flush forced.value.stop
line_of (Got point pattern bytes) = line.Got point (repeated pattern.items bytes)
line_of (Summed point sum) = line.Summed point sum
line_of (Failed device) = line.Failed device
line_of (Flushed ended) = line.Flushed ended
line_of (Deferred ended) = line.Deferred ended
line_of Told = line.Told
line_of Heard = line.Heard

-- the pattern is the shortest
abbrev pub IsKept : Kept → Type 0
IsKept (Wrote places stop) = Unit {0}
IsKept (ForcedOne place ended) = Unit {0}
IsKept (Forced forced) = Unit {0}
IsKept (Got point pattern bytes) = IsShortest pattern.items bytes
IsKept (Summed point sum) = Unit {0}
IsKept (Failed device) = Unit {0}
IsKept (Flushed ended) = Unit {0}
IsKept (Deferred ended) = Unit {0}
IsKept Told = Unit {0}
IsKept Heard = Unit {0}

-- how a posted flush with this end is answered where the cache is down by the device: with a number above `stable` it wasn't done
abbrev pub marked_end : ℕ → Which → Ended → Ended
marked_end stable device ended =
    if nat_lt stable ended.through then record { through = ended.through; voids = ended.voids; down = Some device } else ended

-- the line, marked so where it is that of a posted flush
abbrev pub marked : ℕ → Which → Line → Line
marked stable device (line.Deferred ended) = line.Deferred (marked_end stable device ended)
marked stable device (line.Wrote places stop) = line.Wrote places stop
marked stable device (line.Forced places flush stop) = line.Forced places flush stop
marked stable device (line.Got point shown) = line.Got point shown
marked stable device (line.Summed point sum) = line.Summed point sum
marked stable device (line.Failed failed) = line.Failed failed
marked stable device (line.Flushed ended) = line.Flushed ended
marked stable device line.Told = line.Told
marked stable device line.Heard = line.Heard
