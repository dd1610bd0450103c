-- What an entry of the code stands for in the history.
use Rattle.wb_geometry.specs.History.{HistoryEntry, Write, Void}
use Rattle.wb_geometry.specs.declared.entry.Entry.{Entry}
use Rattle.wb_geometry.specs.declared.entry.Entry.TheVariants as entry

abbrev pub entered : Entry → HistoryEntry
entered (entry.Write client block payload) = Write client block payload.value.bits payload.value.payload
entered (entry.Void client) = Void client
