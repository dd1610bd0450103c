-- What a source and a sink in memory hold, and which of their calls fail.
use Rattle.std.specs.Prelude.{ℕ, ◌≡◌, List, drop, Option, Some}
use Rattle.wb_device.specs.declared.memory.MemorySource.{MemorySource}
use Rattle.wb_device.specs.declared.memory.MemorySink.{MemorySink}

-- the bytes that a source has left
abbrev pub source_left : MemorySource → Option (List ℕ)
source_left s = Some (drop s.start s.bytes.items)

abbrev pub source_faults : MemorySource → ℕ
source_faults s = s.faults

-- the number of the call that fails, and how many calls there were, to 2 ^ 64 - 1 at most
abbrev pub source_failing : MemorySource → Option ℕ
source_failing s = s.failing

abbrev pub source_calls : MemorySource → ℕ
source_calls s = s.calls

-- its next call is the one that fails
abbrev pub SourceFails : MemorySource → Type 0
SourceFails s = source_failing s ≡ Some (source_calls s)

-- the bytes that a sink took
abbrev pub sink_taken : MemorySink → Option (List ℕ)
sink_taken s = Some s.bytes.items

abbrev pub sink_faults : MemorySink → ℕ
sink_faults s = s.faults

-- how many of its calls found no memory
abbrev pub sink_starved : MemorySink → ℕ
sink_starved s = s.starved

-- as for a source

abbrev pub sink_failing : MemorySink → Option ℕ
sink_failing s = s.failing

abbrev pub sink_calls : MemorySink → ℕ
sink_calls s = s.calls

abbrev pub SinkFails : MemorySink → Type 0
SinkFails s = sink_failing s ≡ Some (sink_calls s)
