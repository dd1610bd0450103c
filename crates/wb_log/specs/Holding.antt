-- How the fields of a state hold what contracts see of it.
use Rattle.std.specs.Prelude.{ℕ, ◌+◌, ◌≤◌, length, map, All, vec_capacity}
use Rattle.std.specs.VecDeque.{deque_capacity}
use Rattle.wb_log.specs.Kept.{Kept, IsKept}
use Rattle.wb_log.specs.declared.state.LogState.TheInside.{Inside}

-- a vector waits for each segment that isn't kept yet
abbrev pub slots_of : Inside → ℕ
slots_of state = length state.waiting.items + length state.kept.items

abbrev pub kept_of : Inside → Kept
kept_of state = record {
  slots = slots_of state;
  places = state.places;
  first = state.first;
  kept = map (λ metas. metas.items) state.kept.items;
}

-- neither the run nor one of the vectors ever needs more memory
pub record IsHeld (state : Inside) : Type 0 where
  pub sound : IsKept (kept_of state)
  pub kept_room : slots_of state ≤ deque_capacity state.kept
  pub waiting_room : slots_of state ≤ vec_capacity state.waiting
  pub kept_rooms : All (λ metas. state.places ≤ vec_capacity metas) state.kept.items
  pub rooms : All (λ metas. state.places ≤ vec_capacity metas) state.waiting.items
