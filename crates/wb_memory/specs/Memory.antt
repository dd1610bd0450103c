-- The live segments, and where the newest content of a sector stands among them.
use Rattle.std.specs.Prelude.{ℕ, ◌≡◌, ◌≢◌, ◌+◌, ◌-◌, ◌*◌, ◌<◌, ◌≤◌, List, [], ◌∷◌, ◌++◌, length, map, Some, ◌==◌, ◌&&◌, if◌then◌else◌, All}
use Rattle.std.specs.List.{slice_index_or, flat_map}
use Rattle.std.specs.Int.{bit_at}
use Rattle.wb_geometry.specs.History.{HistoryEntry, last_write, IsUnwritten}
use Rattle.wb_geometry.specs.declared.spot.Spot.{Spot}
use Rattle.wb_header.specs.Text.{TextBlock, AreDistinct}
use Rattle.wb_header.specs.Segments.{Segment, IsSegment}
use Rattle.wb_header.specs.Standing.{entries_of}
use Rattle.wb_header.specs.declared.sealed.Meta.{Meta}
use Rattle.wb_log.specs.Kept.{Kept}
use Rattle.wb_ram.specs.Merging.{IsOpenSegment}
use Rattle.wb_table.specs.Lookup.{IsLookup, nowhere}
use Rattle.wb_table.specs.Tables.{BlockTable, lookup_of}
use Rattle.wb_memory.specs.declared.memory.Newest.{Newest}
use Rattle.wb_memory.specs.declared.memory.Newest.TheVariants as newest_is

-- The places of a segment and the number of segments in memory; what is kept of the segments in the log; the sealed
-- segments in memory by rising id, and the open one; where the newest content of each sector stands; and the room of each
-- vector that waits to hold a segment.
pub record MemoryContent : Type 0 where
  pub places : ℕ
  pub segments : ℕ
  pub logged : Kept
  pub sealed : List Segment
  pub current : Segment
  pub lookup : BlockTable
  pub waiting : List ℕ

-- all segments in memory, by rising id
abbrev pub live : MemoryContent → List Segment
live m = m.sealed ++ m.current ∷ []

-- a block as far as it is kept of a segment in the log: without its bytes
abbrev pub bare : Meta → TextBlock
bare meta = record { number = meta.block; bits = meta.bits; payload = [] }

-- the segments in the log, the first of which has this id, as far as they are kept
abbrev pub logged_from : (id : ℕ) → List (List Meta) → List Segment
logged_from id [] = []
logged_from id (metas ∷ kept) = record { id = id; blocks = map bare metas; room = 0 } ∷ logged_from (id + 1) kept

-- all live segments, by rising id: those in the log, and those in memory
abbrev pub listed : MemoryContent → List Segment
listed m = logged_from m.logged.first m.logged.kept ++ live m

abbrev pub no_segment : Segment
no_segment = record { id = 0; blocks = []; room = 0 }

abbrev pub segment_at : List Segment → ℕ → Segment
segment_at segments j = slice_index_or segments j no_segment

-- what they keep of the writes that came into them
abbrev pub kept_entries : List Segment → List HistoryEntry
kept_entries segments = flat_map (λ segment. entries_of segment.blocks) segments

-- The spot of a sector in a segment whose blocks these are, the first of which has this index: that of the block, where the
-- sector is dirty.
abbrev pub spot_from : (id index : ℕ) → List TextBlock → (block i : ℕ) → Spot
spot_from id index [] block i = nowhere
spot_from id index (here ∷ blocks) block i =
    if here.number == block && bit_at here.bits i == 1 then record { id = id; index = index }
    else spot_from id (index + 1) blocks block i

-- the spot of a sector in the newest of the segments that has it
abbrev pub newest : List Segment → (block i : ℕ) → Spot
newest [] block i = nowhere
newest (segment ∷ segments) block i =
    if (newest segments block i).id == 0 then spot_from segment.id 0 segment.blocks block i else newest segments block i

-- a sealed segment has a block at least, and no more than its places, for which its vector has room
pub record IsSealed (places : ℕ) (s : Segment) : Type 0 where
  pub is : IsSegment s.id s.blocks
  pub few : length s.blocks ≤ places
  pub room : places ≤ s.room

-- what is kept of a segment in the log names distinct blocks, at least one and no more than its places, each with a dirty
-- bit
pub record IsLogged (places : ℕ) (metas : List Meta) : Type 0 where
  pub some : 1 ≤ length metas
  pub few : length metas ≤ places
  pub distinct : AreDistinct (map bare metas)
  pub dirty : All (λ block. block.bits ≢ 0) (map bare metas)

-- The ids follow one another, up to the open segment's. The lookup table names the newest segment of each sector, and has
-- room for all their blocks. And there is a vector for each segment that may still be sealed.
pub record IsMemory (m : MemoryContent) : Type 0 where
  pub some : 1 ≤ m.places
  pub few : m.places ≤ 127
  pub early : length m.logged.kept + length m.sealed < m.current.id
  pub next : 1 ≤ length m.logged.kept → m.logged.first + length m.logged.kept + length m.sealed ≡ m.current.id
  pub ids : (j : ℕ) → j < length (live m) → (segment_at (live m) j).id ≡ m.current.id - length m.sealed + j
  pub logged : All (IsLogged m.places) m.logged.kept
  pub logged_places : m.logged.places ≡ m.places
  pub logged_few : length m.logged.kept ≤ m.logged.slots
  pub sealed : All (IsSealed m.places) m.sealed
  pub current : IsOpenSegment m.current.id m.current.blocks m.current.room
  pub current_few : length m.current.blocks ≤ m.places
  pub current_room : m.places ≤ m.current.room
  pub table : IsLookup (lookup_of m.lookup)
  pub spots : (block i : ℕ) → i < 8 → (lookup_of m.lookup).spots block i ≡ newest (listed m) block i
  pub lookup_room : (m.logged.slots + m.segments) * m.places ≤ (lookup_of m.lookup).room
  pub waiting : All (λ room. m.places ≤ room) m.waiting
  pub vectors : length m.waiting + length m.sealed ≡ m.segments

-- the id of the last segment in the log
abbrev pub last_logged : MemoryContent → ℕ
last_logged m = m.current.id - length m.sealed - 1

-- Where the newest content of a sector of a block is: in memory, where a segment there has it; else where the table says,
-- which is in the log, or nowhere.
abbrev pub IsNewestIn : MemoryContent → (block i : ℕ) → Newest → Type 0
IsNewestIn m block i (newest_is.Here bytes) = (last_write (8 * block + i) (kept_entries (live m)) ≡ Some bytes.now) × (length bytes.now ≡ 512)
    × (last_logged m < ((lookup_of m.lookup).spots block i).id)
IsNewestIn m block i (newest_is.Logged spot) = IsUnwritten (8 * block + i) (kept_entries (live m)) × (spot ≡ (lookup_of m.lookup).spots block i)
    × (1 ≤ spot.id) × (spot.id ≤ last_logged m) × (spot.index < m.places)
IsNewestIn m block i newest_is.Backing = IsUnwritten (8 * block + i) (kept_entries (live m)) × ((lookup_of m.lookup).spots block i ≡ nowhere)
