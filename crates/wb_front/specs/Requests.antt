-- What the requests of a client tell its pass.
use Rattle.std.specs.Prelude.{ℕ, ◌≡◌, ◌≢◌, ◌+◌, ◌/◌, ◌^◌, ◌<◌, ◌≤◌, List, [], ◌∷◌, ◌++◌, length, map, All, Bool, true, false, None, Result}
use Rattle.wb_geometry.specs.Device.{State}
use Rattle.wb_geometry.specs.History.{HistoryEntry, Write}
use Rattle.wb_geometry.specs.Requests.{parts, entries_of}
use Rattle.wb_geometry.specs.declared.geometry.Geometry.{Geometry}
use Rattle.wb_geometry.specs.declared.which.Which.{Which}
use Rattle.wb_steps.specs.Faults.{parts_of, IsPartwiseAtMost}
use Rattle.wb_steps.specs.Rule.{segment_at}
use Rattle.wb_steps.specs.declared.shape.Shape.{Shape}
use Rattle.wb_steps.specs.declared.view.View.{View}
use Rattle.wb_intake.specs.Carried.{Carried}
use Rattle.wb_intake.specs.Passes.{pass_name, view_of}
use Rattle.wb_intake.specs.Sights.{IsLoaded}
use Rattle.wb_intake.specs.declared.pass.Pass.{Pass}
use Rattle.wb_intake.specs.declared.sight.Loads.{Loads}
use Rattle.wb_engine.specs.Stepping.{IsTurn}
use Rattle.wb_engine.specs.declared.turning.Turn.{Turn}
use Rattle.wb_front.specs.Words.{down_part}
use Rattle.wb_front.specs.Joined.{CoreContent}
use Rattle.wb_front.specs.Moving.{HasDrained}
use Rattle.wb_front.specs.declared.flushing.Down.{Down}
use Rattle.wb_front.specs.declared.writing.Piece.{Piece}
use Rattle.wb_front.specs.declared.writing.WriteCause.{WriteCause}
use Rattle.wb_front.specs.declared.writing.WriteCause.TheVariants as cause

-- the pass is of the name's intake, and has nothing to fill
abbrev pub IsPassOf : Carried → Pass → Type 0
IsPassOf t pass = (pass_name pass ≡ t.intake) × ((view_of pass).unfilled ≡ [])

-- the first entries, each with its place
abbrev pub at_places : List ℕ → List HistoryEntry → List (ℕ × HistoryEntry)
at_places [] entries = []
at_places (p ∷ places) [] = []
at_places (p ∷ places) (e ∷ entries) = (p, e) ∷ at_places places entries

-- the places rise from this number on
abbrev pub Rises : ℕ → List ℕ → Type 0
Rises number [] = Unit {0}
Rises number (p ∷ places) = (number ≤ p) × Rises (p + 1) places

-- The pass names these places besides, in order, for the first of the entries; they are above all that it had seen.
pub record HasPut (v w : View) (places : List ℕ) (entries : List HistoryEntry) : Type 0 where
  pub role : w.role ≡ v.role
  pub client : w.client ≡ v.client
  pub known : w.known ≡ v.known
  pub mine : w.mine ≡ v.mine ++ at_places places entries
  pub unfilled : w.unfilled ≡ []
  pub held : w.held ≡ v.held
  pub told : w.told ≡ v.told
  pub heard : w.heard ≡ v.heard
  pub rises : Rises v.seen.cursor places
  pub below : All (λ p. p < w.seen.cursor) places
  pub cursor : v.seen.cursor ≤ w.seen.cursor
  pub limit : v.seen.limit ≤ w.seen.limit
  pub stable : v.seen.stable ≤ w.seen.stable
  pub fault : IsPartwiseAtMost v.seen.fault w.seen.fault

-- The cursor and the limit that were loaded are one number, and the fault word that was loaded says that the engine is down by
-- this device. The pass has seen them.
pub record IsFullAndDown (before now : Loads) (w : View) (device : Which) : Type 0 where
  pub cursor : IsLoaded before.cursor now.cursor w.seen.cursor
  pub limit : IsLoaded before.limit now.limit w.seen.limit
  pub full : w.seen.cursor ≡ w.seen.limit
  pub word : ℕ
  pub fault : IsLoaded before.fault now.fault word
  pub seen : w.seen.fault ≡ parts_of word
  pub down : down_part device w.seen.fault ≡ 1

-- Why a write was stopped, which took so many places.
abbrev pub IsWriteCause : Shape → (before now : Loads) → View → (taken : ℕ) → WriteCause → Type 0
IsWriteCause k before now w taken cause.Memory = taken ≡ 0
IsWriteCause k before now w taken (cause.IdsSpent cursor) = (2 ^ 48 < segment_at k cursor) × IsLoaded before.cursor now.cursor cursor × (w.seen.cursor ≡ cursor)
IsWriteCause k before now w taken (cause.Down device) = IsFullAndDown before now w device

-- Fewer than so many places were stable, and the engine was down by the device, as the words told that were loaded between the
-- two. The pass has then seen both.
pub record IsShort (before now : Loads) (w : View) (number : ℕ) (d : Down) : Type 0 where
  pub number_is : d.number ≡ number
  pub loaded : IsLoaded before.stable now.stable d.stable
  pub seen : w.seen.stable ≡ d.stable
  pub short : d.stable < number
  pub word : ℕ
  pub fault : IsLoaded before.fault now.fault word
  pub seen_fault : w.seen.fault ≡ parts_of word
  pub down : down_part d.device w.seen.fault ≡ 1

-- A flush of this number isn't done: fewer places are stable, and the engine is down by the device. Both words were loaded twice
-- at least; what the first loads found isn't said.
pub record IsUndone (before now : Loads) (w : View) (number : ℕ) (d : Down) : Type 0 where
  pub between : Loads
  pub seen : View
  pub first : Down
  pub once : IsShort before between seen number first
  pub again : IsShort between now w number d

-- ---- the pieces of a write

-- what a piece puts into the history for this client
abbrev pub written : ℕ → Piece → HistoryEntry
written client piece = Write client piece.block piece.payload.value.bits piece.payload.value.payload

-- its block is inside the backing device, and it has a sector
abbrev pub IsPieceInside : Geometry → Piece → Type 0
IsPieceInside g piece = (piece.block < g.backing_sectors / 8) × (piece.payload.value.bits ≢ 0)

-- The pieces of a write of so many sectors: whoever writes them, they are its entries. Where it is inside a backing device, each of them is.
pub record ArePieces (sector count : ℕ) (bytes : List ℕ) (pieces : List Piece) : Type 0 where
  pub entries : (client : ℕ) → map (written client) pieces ≡ entries_of client (parts sector count) bytes
  pub inside : (g : Geometry) → sector + count ≤ g.backing_sectors → All (IsPieceInside g) pieces
  pub few : length pieces ≤ 33

-- ---- loads and turns

-- no load of these three words was forgotten
pub record IsSince (before now : Loads) : Type 0 where
  pub cursor : before.cursor.count ≤ now.cursor.count
  pub limit : before.limit.count ≤ now.limit.count
  pub fault : before.fault.count ≤ now.fault.count

-- What was filled is drained; and where the engine is up then and a sealed segment waits for the log, a turn was made.
pub record MakesRoom {L B : Type 0} (of_log : L → State) (of_backing : B → State) (old new : CoreContent L B) (turned : Bool) : Type 0 where
  pub between : CoreContent L B
  pub drains : HasDrained old between
  pub turns : turned ≡ true → (between.engine.down ≡ None) × (between.engine.numbers.logged < between.engine.numbers.sealed)
      × ((r : Result Turn Which) × IsTurn of_log of_backing between.engine new.engine r)
  pub rests : turned ≡ false → (new ≡ between) × (between.engine.down ≡ None → between.engine.numbers.sealed ≤ between.engine.numbers.logged)
