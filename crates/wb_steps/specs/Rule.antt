-- The rule of the intake: what holds of its words, its cells and all views between any two steps.
use Rattle.std.specs.Prelude.{ℕ, ◌≡◌, ◌≢◌, ◌+◌, ◌*◌, ◌/◌, ◌%◌, ◌^◌, ◌<◌, ◌≤◌, ◌==◌, suc, List, [], ◌∷◌, length, slice_index, All, Contains, Option, Some, None, if◌then◌else◌}
use mathlib.Core.Option.{some, none}
use mathlib.Core.Option as maybe
use lib.ListN.{get_elem?}
use Rattle.atomic_table.specs.Table.{State}
use Rattle.wb_geometry.specs.Layout.{places}
use Rattle.wb_geometry.specs.History.{HistoryEntry, Write, Void, client_of}
use Rattle.wb_geometry.specs.declared.geometry.Geometry.{Geometry}
use Rattle.wb_steps.specs.Faults.{parts_of, IsPartwiseAtMost}
use Rattle.wb_steps.specs.Views.{IsPrefix, placed}
use Rattle.wb_steps.specs.declared.shape.Shape.{Shape}
use Rattle.wb_steps.specs.declared.view.Faults.{Faults}
use Rattle.wb_steps.specs.declared.view.View.{View}
use Rattle.wb_steps.specs.declared.view.Role.{Role}
use Rattle.wb_steps.specs.declared.view.Role.TheVariants.{Owner, Copy, Drain, Spent}

-- the words, the cells and the views of an intake. A cell is at home with an entry, at home and empty, or with a seat
abbrev pub Intake : Type 0
Intake = State (Option HistoryEntry) View

abbrev pub Home : Type 0
Home = maybe.Option (Option HistoryEntry)

-- the numbers of an intake
abbrev pub shape_of : Geometry → ℕ → Shape
shape_of g first = record { places = places g; ram = g.ram; blocks = g.backing_sectors / 8; first = first }

-- the number of cells. The place p uses the cell p % cells k, whose word stands behind the cursor, the limit, the stable number and the fault
abbrev pub cells : Shape → ℕ
cells k = k.ram * k.places

abbrev pub cell_word : Shape → ℕ → ℕ
cell_word k p = p % cells k + 4

-- the ranges of these numbers
pub record IsShape (k : Shape) : Type 0 where
  pub some_place : 0 < k.places
  pub few_places : k.places ≤ 127
  pub some_segment : 0 < k.ram
  pub few_segments : k.ram ≤ 64
  pub first : k.first ≤ 2 ^ 48

-- the segment of a place
abbrev pub segment_at : Shape → ℕ → ℕ
segment_at k p = k.first + 1 + p / k.places

-- an entry may stand at the place: no id is above 2^48, no block is outside the backing device, a write has a dirty sector, and a segment
-- doesn't begin with a void
abbrev pub MayStand : Shape → ℕ → HistoryEntry → Type 0
MayStand k p (Write client block bits payload) = (segment_at k p ≤ 2 ^ 48) × (block < k.blocks) × (bits ≢ 0)
MayStand k p (Void client) = (segment_at k p ≤ 2 ^ 48) × (p % k.places ≢ 0)

-- How far a place is. A place that is named and not filled has the seat of its owner.
pub data Phase : Type 0 where
  free : Phase
  claimed : ℕ → Phase
  filling : ℕ → Phase
  filled : Phase
  taken : Phase

-- 1 more than the seat whose unfilled place it is
abbrev pub holder : Phase → ℕ
holder free = 0
holder (claimed j) = suc j
holder (filling j) = suc j
holder filled = 0
holder taken = 0

-- the phase of an unfilled place of the seat j, by the place whose cell that seat holds
abbrev pub unfilled_phase : Option ℕ → (j p : ℕ) → Phase
unfilled_phase None j p = claimed j
unfilled_phase (Some q) j p = if q == p then filling j else claimed j

-- what is so of a place whose cell may be in use, by the named entries, the drained list, the word of its cell, and the cell
module _ (log drained : List HistoryEntry) (word : ℕ) (home : maybe.Option Home) (p : ℕ) where
  -- the entry of the place is at home in its cell
  abbrev pub IsIn : Type 0
  IsIn = (e : HistoryEntry) × (get_elem? log p ≡ some e) × (home ≡ some (some (Some e)))

  abbrev pub InPhase : Phase → Type 0
  InPhase free = (length log ≤ p) × (word ≡ 0) × (home ≡ some (some None))
  InPhase (claimed j) = (p < length log) × (word ≡ 0) × (home ≡ some (some None))
  InPhase (filling j) = (p < length log) × (word ≡ 0) × (home ≡ some none)
  InPhase filled = (p < length log) × (word ≡ p + 1) × IsIn
  InPhase taken = (p < length log) × (word ≡ p + 1) × (p ≡ length drained) × (home ≡ some none)

-- What all views are compared with: the entries of all places below the cursor, the drained list, the other words, how many clients there
-- are, the seat of each owner and of the drain, what each client told, and how far each place is.
pub record Truth : Type 0 where
  pub log : List HistoryEntry
  pub drained : List HistoryEntry
  pub limit : ℕ
  pub stable : ℕ
  pub fault : Faults
  pub clients : ℕ
  pub seat : ℕ → ℕ
  pub drain : ℕ
  pub told : ℕ → List ℕ
  pub phase : ℕ → Phase

module _ (t : Truth) (j : ℕ) (v : View) where
  -- what a view has seen, it has seen rightly: no number is above its word, and each list of notes is a beginning of what its client told
  pub record HasSeen : Type 0 where
    pub known : IsPrefix v.known t.drained
    pub short : length v.known ≤ v.seen.cursor
    pub cursor : v.seen.cursor ≤ length t.log
    pub limit : v.seen.limit ≤ t.limit
    pub stable : v.seen.stable ≤ t.stable
    pub fault : IsPartwiseAtMost v.seen.fault t.fault
    pub heard : All (λ h. IsPrefix h.1 (t.told h.0)) v.heard

  -- an owner names just the entries of its client
  pub record Owns : Type 0 where
    pub seen : HasSeen
    pub seat : t.seat v.client ≡ j
    pub client : v.client < t.clients
    pub mine : v.mine ≡ placed v.client 0 t.log
    pub below : All (λ m. m.0 < v.seen.cursor) v.mine
    pub told : v.told ≡ t.told v.client
    pub in_flight : (p : ℕ) → Contains v.unfilled p → (length t.drained ≤ p) × (p < length t.log) × (t.phase p ≡ unfilled_phase v.held j p)
    pub no_other : (p : ℕ) → length t.drained ≤ p → p < length t.log → holder (t.phase p) ≡ suc j → Contains v.unfilled p
    pub holds : (p : ℕ) → v.held ≡ Some p → Contains v.unfilled p

  -- the drain has the drained list, and published the numbers
  pub record Drains : Type 0 where
    pub seen : HasSeen
    pub seat : j ≡ t.drain
    pub clients : v.client ≡ t.clients
    pub known : v.known ≡ t.drained
    pub limit : v.seen.limit ≡ t.limit
    pub stable : v.seen.stable ≡ t.stable
    pub fault : v.seen.fault ≡ t.fault
    pub holds : (p : ℕ) → v.held ≡ Some p → (p ≡ length t.drained) × (t.phase p ≡ taken) × (p < v.seen.cursor) × ((e : HistoryEntry) × (get_elem? t.log p ≡ some e) × (v.mine ≡ (p, e) ∷ []))
    pub rests : v.held ≡ None → t.phase (length t.drained) ≢ taken

  abbrev pub Fits : Role → Type 0
  Fits Owner = Owns
  Fits Copy = HasSeen × (v.mine ≡ [])
  Fits Drain = Drains
  Fits Spent = Unit {0}

-- each client has an owner
abbrev pub IsOwned : List View → (ℕ → ℕ) → ℕ → Type 0
IsOwned views seat client = (v : View) × (get_elem? views (seat client) ≡ some v) × (v.role ≡ Owner) × (v.client ≡ client)

-- the drain has this seat
abbrev pub IsDrainAt : List View → ℕ → Type 0
IsDrainAt views j = (v : View) × (get_elem? views j ≡ some v) × (v.role ≡ Drain)

-- what holds of the words and the cells
pub record IsSound (k : Shape) (t : Truth) (words : List ℕ) (homes : List Home) : Type 0 where
  pub some_cell : 0 < cells k
  pub wide : length words ≡ cells k + 4
  pub deep : length homes ≡ cells k
  pub cursor : slice_index words 0 ≡ length t.log
  pub limit : slice_index words 1 ≡ t.limit
  pub stable : slice_index words 2 ≡ t.stable
  pub fault : parts_of (slice_index words 3) ≡ t.fault
  -- drained places are named, named ones are below the limit, and each place between has a cell of its own
  pub behind : IsPrefix t.drained t.log
  pub below : length t.log ≤ t.limit
  pub room : t.limit ≤ length t.drained + cells k
  pub whole : t.limit % k.places ≡ 0
  pub stable_whole : t.stable % k.places ≡ 0
  pub stable_below : t.stable ≤ length t.drained
  -- each place below the cursor has one entry, of one client. Who hasn't come yet told nothing
  pub each_entry : (p : ℕ) (e : HistoryEntry) → get_elem? t.log p ≡ some e → MayStand k p e
  pub each_owner : All (λ e. client_of e < t.clients) t.log
  pub untold : (c : ℕ) → t.clients ≤ c → t.told c ≡ []
  -- an unfilled place is that of the owner of its entry, and each cell is as far as the place that uses it
  pub each_holder : (p : ℕ) (e : HistoryEntry) (j : ℕ) → length t.drained ≤ p → get_elem? t.log p ≡ some e → holder (t.phase p) ≡ suc j → t.seat (client_of e) ≡ j
  pub each_cell : (p : ℕ) → length t.drained ≤ p → p < length t.drained + cells k
      → InPhase t.log t.drained (slice_index words (cell_word k p)) (get_elem? homes (p % cells k)) p (t.phase p)

-- the rule: there is one truth for the words, the cells and all views
pub record IsLawful (k : Shape) (s : Intake) : Type 0 where
  pub truth : Truth
  pub sound : IsSound k truth s.words s.homes
  pub each_client : (c : ℕ) → c < truth.clients → IsOwned s.views truth.seat c
  pub drained_by : IsDrainAt s.views truth.drain
  pub each_view : (j : ℕ) (v : View) → get_elem? s.views j ≡ some v → Fits truth j v v.role
