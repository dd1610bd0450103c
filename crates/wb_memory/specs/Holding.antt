-- How the fields of a memory hold what contracts see of it.
use Rattle.std.specs.Prelude.{ℕ, ◌+◌, ◌≤◌, length, map, vec_capacity}
use Rattle.std.specs.VecDeque.{deque_capacity}
use Rattle.wb_memory.specs.Memory.{MemoryContent, IsMemory}
use Rattle.wb_memory.specs.declared.memory.Memory.TheInside.{Inside}

-- a vector waits for each segment that isn't sealed
abbrev pub segments_of : Inside → ℕ
segments_of m = length m.waiting.items + length m.sealed.items

abbrev pub content_of : Inside → MemoryContent
content_of m = record {
  places = m.places;
  segments = segments_of m;
  logged = m.logged;
  sealed = m.sealed.items;
  current = m.current;
  lookup = m.lookup;
  waiting = map vec_capacity m.waiting.items;
}

-- neither the sealed segments nor the vectors that wait ever need more memory
pub record IsHeld (m : Inside) : Type 0 where
  pub sound : IsMemory (content_of m)
  pub sealed_room : segments_of m ≤ deque_capacity m.sealed
  pub waiting_room : segments_of m ≤ vec_capacity m.waiting
