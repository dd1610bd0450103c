-- What passes, notes and the drain know, and whose they are.
use Rattle.std.specs.Prelude.{ℕ, ◌≡◌, ◌≢◌, ◌+◌, ◌^◌, ◌<◌, ◌≤◌, ◌-◌, max, map, replicate, List, [], ◌∷◌, ◌++◌, length, Option, None}
use Rattle.std.specs.List.{enumerate_from}
use mathlib.Core.Option.{some}
use lib.ListN.{get_elem?}
use Rattle.wb_geometry.specs.History.{HistoryEntry, Void}
use Rattle.wb_steps.specs.Faults.{IsPartwiseAtMost}
use Rattle.wb_steps.specs.Rule.{cell_word, segment_at}
use Rattle.wb_steps.specs.declared.shape.Shape.{Shape}
use Rattle.wb_intake.specs.Sights.{IsLoaded, IsCellLoaded}
use Rattle.wb_intake.specs.declared.answers.NotFilled.{NotFilled}
use Rattle.wb_intake.specs.declared.answers.NoClaim.{NoClaim}
use Rattle.wb_intake.specs.declared.answers.NoClaim.TheVariants.{IdsSpent, NoRoom, Busy}
use Rattle.wb_steps.specs.declared.view.View.{View}
use Rattle.wb_intake.specs.declared.sight.Loads.{Loads}
use Rattle.wb_intake.specs.declared.sight.Sight.{Sight}
use Rattle.atomic_table.specs.declared.shared.Seat.{Seat}

abbrev pub Place : Type 0
Place = Seat (Option HistoryEntry) Sight

-- what a seat knows, and the loads that it made
abbrev pub sight : Place → Sight
sight s = s.me.0

-- it is the same seat, with the same cells in hand
abbrev pub IsSameSeat : Place → Place → Type 0
IsSameSeat s t = (t.table_id ≡ s.table_id) × (t.id ≡ s.id) × (t.me.1 ≡ s.me.1)

-- nothing changed but the numbers that were seen, of which none fell
pub record Saw (v w : View) : Type 0 where
  pub role : w.role ≡ v.role
  pub client : w.client ≡ v.client
  pub known : w.known ≡ v.known
  pub mine : w.mine ≡ v.mine
  pub unfilled : w.unfilled ≡ v.unfilled
  pub held : w.held ≡ v.held
  pub told : w.told ≡ v.told
  pub heard : w.heard ≡ v.heard
  pub cursor : v.seen.cursor ≤ w.seen.cursor
  pub limit : v.seen.limit ≤ w.seen.limit
  pub stable : v.seen.stable ≤ w.seen.stable
  pub fault : IsPartwiseAtMost v.seen.fault w.seen.fault

-- the place is named for the entry, and is the one that is not filled. All else is as before, but for the cursor and the limit that were seen
pub record HasNamed (v w : View) (p : ℕ) (e : HistoryEntry) : Type 0 where
  pub role : w.role ≡ v.role
  pub client : w.client ≡ v.client
  pub known : w.known ≡ v.known
  pub mine : w.mine ≡ v.mine ++ (p, e) ∷ []
  pub unfilled : w.unfilled ≡ p ∷ []
  pub held : w.held ≡ v.held
  pub told : w.told ≡ v.told
  pub heard : w.heard ≡ v.heard
  pub after : v.seen.cursor ≤ p
  pub cursor : w.seen.cursor ≡ p + 1
  pub limit : v.seen.limit ≤ w.seen.limit
  pub stable : w.seen.stable ≡ v.seen.stable
  pub fault : w.seen.fault ≡ v.seen.fault

-- Why no place was claimed, the first of three causes. Its numbers were loaded in the call, but for the one that the exchange found.
abbrev pub IsCause : Shape → Loads → Loads → NoClaim → Type 0
IsCause k before now (IdsSpent cursor) = (2 ^ 48 < segment_at k cursor) × IsLoaded before.cursor now.cursor cursor
IsCause k before now (NoRoom cursor limit) = (cursor ≡ limit) × (segment_at k cursor ≤ 2 ^ 48) × IsLoaded before.cursor now.cursor cursor × IsLoaded before.limit now.limit limit
IsCause k before now (Busy expected found) = (expected < found) × (segment_at k expected ≤ 2 ^ 48) × (expected < now.limit.last) × IsLoaded before.cursor now.cursor expected × IsLoaded before.limit now.limit now.limit.last

-- the pass has then seen the numbers that the refusal has
abbrev pub HasLearnt : View → NoClaim → Type 0
HasLearnt w (IdsSpent cursor) = w.seen.cursor ≡ cursor
HasLearnt w (NoRoom cursor limit) = (w.seen.cursor ≡ cursor) × (w.seen.limit ≡ limit)
HasLearnt w (Busy expected found) = w.seen.cursor ≡ found

-- why the next place was not taken: the word of its cell was loaded, and is another number. The cursor was loaded too, and is no lower than the place
abbrev pub IsWaiting : Shape → Loads → Loads → NotFilled → Type 0
IsWaiting k before now r = (r.word ≢ r.place + 1) × IsCellLoaded before.cell now.cell (cell_word k r.place) r.word × IsLoaded before.cursor now.cursor r.cursor × (r.place ≤ r.cursor)

-- the drained list grew by the entry. All else is as before, but that the cursor that was seen is above the place
pub record HasDrained (v w : View) (e : HistoryEntry) : Type 0 where
  pub role : w.role ≡ v.role
  pub client : w.client ≡ v.client
  pub known : w.known ≡ v.known ++ e ∷ []
  pub mine : w.mine ≡ []
  pub unfilled : w.unfilled ≡ v.unfilled
  pub held : w.held ≡ None
  pub told : w.told ≡ v.told
  pub cursor : w.seen.cursor ≡ max v.seen.cursor (length v.known + 1)
  pub limit : w.seen.limit ≡ v.seen.limit
  pub stable : w.seen.stable ≡ v.seen.stable
  pub fault : w.seen.fault ≡ v.seen.fault
  pub heard : w.heard ≡ v.heard

-- the place is the one that is not filled, and is named for the entry
abbrev pub HasClaimed : View → ℕ → HistoryEntry → Type 0
HasClaimed v p e = (v.unfilled ≡ p ∷ []) × ((j : ℕ) × (get_elem? v.mine j ≡ some (p, e)))

-- so many places from `next` on are named for voids and not filled, and no other place is unfilled
abbrev pub IsOwed : View → (client next left : ℕ) → Type 0
IsOwed v client next left = (v.unfilled ≡ map (λ m. m.0) (enumerate_from next (replicate left (Void client)))) × ((front : List (ℕ × HistoryEntry)) × (v.mine ≡ front ++ enumerate_from next (replicate left (Void client))))

-- the places from `next` to `through` are named for voids. All else is as before, but for the cursor that was seen
pub record HasBumped (v w : View) (next through : ℕ) : Type 0 where
  pub role : w.role ≡ v.role
  pub client : w.client ≡ v.client
  pub known : w.known ≡ v.known
  pub mine : w.mine ≡ v.mine ++ enumerate_from next (replicate (through - next) (Void v.client))
  pub held : w.held ≡ v.held
  pub told : w.told ≡ v.told
  pub heard : w.heard ≡ v.heard
  pub after : v.seen.cursor ≤ next
  pub cursor : w.seen.cursor ≡ max next through
  pub limit : w.seen.limit ≡ v.seen.limit
  pub stable : w.seen.stable ≡ v.seen.stable
  pub fault : w.seen.fault ≡ v.seen.fault
