-- The engine, as contracts see it.
use Rattle.std.specs.Prelude.{ℕ, ◌≡◌, ◌+◌, ◌-◌, ◌*◌, ◌/◌, ◌%◌, ◌≤◌, ◌^◌, ◌<◌, length, Option, None, All, List}
use Rattle.wb_geometry.specs.Device.{State}
use Rattle.wb_geometry.specs.Layout.{places, log_sectors}
use Rattle.wb_geometry.specs.declared.geometry.Geometry.{Geometry}
use Rattle.wb_geometry.specs.declared.which.Which.{Which}
use Rattle.wb_header.specs.Segments.{Segment}
use Rattle.wb_header.specs.declared.sealed.Meta.{Meta}
use Rattle.wb_crash.specs.Images.{IsOrdered}
use Rattle.wb_crash.specs.declared.numbers.Numbers.{Numbers}
use Rattle.wb_memory.specs.Memory.{MemoryContent, live, segment_at}

-- its numbers, both devices, and what it keeps in memory
pub record EngineContent (L B : Type 0) : Type 0 where
  pub geometry : Geometry
  pub numbers : Numbers
  pub absorbed : ℕ
  pub down : Option Which
  pub log : L
  pub backing : B
  pub memory : MemoryContent

-- places below this one may be taken
abbrev pub limit_of : Geometry → Numbers → ℕ
limit_of g e = places g * (e.logged - e.first + g.ram)

-- Of the places that were absorbed the sealed segments have theirs, and the open one the rest, fewer than a segment has;
-- where it has any, it has a block.
pub record IsFilled {L B : Type 0} (e : EngineContent L B) : Type 0 where
  pub sealed : e.numbers.sealed ≡ e.numbers.first + e.absorbed / places e.geometry
  pub limited : e.absorbed ≤ limit_of e.geometry e.numbers
  pub ids : e.absorbed ≤ places e.geometry * (2 ^ 48 - e.numbers.first)
  pub few : length e.memory.current.blocks ≤ e.absorbed % places e.geometry
  pub some : 1 ≤ e.absorbed % places e.geometry → 1 ≤ length e.memory.current.blocks

-- each block is inside the backing device
abbrev pub IsInsideBacking : Geometry → Segment → Type 0
IsInsideBacking g s = All (λ block. 8 * block.number + 8 ≤ g.backing_sectors) s.blocks

abbrev pub AreMetasInside : (sectors : ℕ) → List Meta → Type 0
AreMetasInside sectors metas = All (λ (meta : Meta). 8 * meta.block + 8 ≤ sectors) metas

-- the segments in memory are those that aren't logged, and of those in the log it is kept what isn't recorded
pub record HoldsLive {L B : Type 0} (e : EngineContent L B) : Type 0 where
  pub places : e.memory.places ≡ places e.geometry
  pub segments : e.memory.segments ≡ e.geometry.ram
  pub slots : e.memory.logged.slots ≡ e.geometry.slots
  pub count : length e.memory.sealed ≡ e.numbers.sealed - e.numbers.logged
  pub ids : (j : ℕ) → j < length (live e.memory) → (segment_at (live e.memory) j).id ≡ e.numbers.logged + 1 + j
  pub inside : All (IsInsideBacking e.geometry) (live e.memory)
  pub logged_count : length e.memory.logged.kept ≡ e.numbers.logged - e.numbers.recorded
  pub logged_first : 1 ≤ length e.memory.logged.kept → e.memory.logged.first ≡ e.numbers.recorded + 1
  pub logged_inside : All (AreMetasInside e.geometry.backing_sectors) e.memory.logged.kept

-- what always holds of an engine
pub record IsEngine {L B : Type 0} (of_log : L → State) (of_backing : B → State) (e : EngineContent L B) : Type 0 where
  pub ordered : IsOrdered e.geometry e.numbers
  -- while it is up no write to the log is under way
  pub up : e.down ≡ None → e.numbers.tried ≡ e.numbers.logged
  pub log_room : log_sectors e.geometry ≤ (of_log e.log).sectors
  pub backing_room : e.geometry.backing_sectors ≤ (of_backing e.backing).sectors
  pub filled : IsFilled e
  pub memory : HoldsLive e
