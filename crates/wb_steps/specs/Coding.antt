-- A number for each entry, so that seats can know entries.
use Rattle.std.specs.Prelude.{ℕ, ◌≡◌, refl, List, [], ◌==◌, if◌then◌else◌}
use Rattle.std.specs.Coded.{Coded, code_by, coded×, coded_ℕ, coded_list}
use Rattle.wb_geometry.specs.History.{HistoryEntry, Write, Void}

abbrev pub Fields : Type 0
Fields = ℕ × (ℕ × (ℕ × (ℕ × List ℕ)))

abbrev pub fields_of : HistoryEntry → Fields
fields_of (Write client block bits payload) = (1, (client, (block, (bits, payload))))
fields_of (Void client) = (0, (client, (0, (0, []))))

abbrev pub entry_of : Fields → HistoryEntry
entry_of f = if f.0 == 0 then Void f.1.0 else Write f.1.0 f.1.1.0 f.1.1.1.0 f.1.1.1.1

abbrev pub same_entry : (e : HistoryEntry) → entry_of (fields_of e) ≡ e
same_entry (Write client block bits payload) = refl
same_entry (Void client) = refl

abbrev pub entry_code : Coded HistoryEntry
entry_code = code_by Fields (coded× coded_ℕ (coded× coded_ℕ (coded× coded_ℕ (coded× coded_ℕ (coded_list coded_ℕ))))) fields_of entry_of same_entry
