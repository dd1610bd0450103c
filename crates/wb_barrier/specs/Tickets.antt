-- What a ticket says of the pass that posted it, and what a poll says of the stable number.
use Rattle.std.specs.Prelude.{ℕ, ◌≡◌, ◌+◌, ◌-◌, ◌<◌, ◌≤◌, [], ◌++◌, replicate}
use Rattle.std.specs.List.{enumerate_from}
use Rattle.wb_geometry.specs.History.{Void}
use Rattle.wb_steps.specs.Steps.{IsRoundedUp}
use Rattle.wb_steps.specs.declared.view.View.{View}
use Rattle.wb_intake.specs.Sights.{IsLoaded}
use Rattle.wb_intake.specs.declared.sight.Load.{Load}
use Rattle.wb_intake.specs.declared.sight.Loads.{Loads}
use Rattle.wb_barrier.specs.declared.tickets.Ticket.{Ticket}
use Rattle.wb_barrier.specs.declared.tickets.Receipt.{Receipt}
use Rattle.wb_barrier.specs.declared.tickets.Pending.{Pending}

-- The number of a ticket is the end of the segment in which the cursor stood as it was loaded, which is no lower than
-- what had been seen. Its voids are no lower than that cursor
pub record IsNumbered (places seen : ℕ) (before now : Load) (t : Ticket) : Type 0 where
  pub cursor : ℕ
  pub loaded : IsLoaded before now cursor
  pub after : seen ≤ cursor
  pub rounded : IsRoundedUp places cursor t.number
  pub behind : cursor + t.voids ≤ t.number

-- no word but the cursor was loaded
pub record LoadsCursorAlone (before now : Loads) : Type 0 where
  pub limit : now.limit ≡ before.limit
  pub stable : now.stable ≡ before.stable
  pub fault : now.fault ≡ before.fault
  pub cell : now.cell ≡ before.cell

-- As many places below the number as the ticket counts are named for voids, and nothing is left to fill. All else is as
-- before, but for the cursor that was seen
pub record HasPosted (v w : View) (t : Ticket) : Type 0 where
  pub role : w.role ≡ v.role
  pub client : w.client ≡ v.client
  pub known : w.known ≡ v.known
  pub mine : w.mine ≡ v.mine ++ enumerate_from (t.number - t.voids) (replicate t.voids (Void v.client))
  pub unfilled : w.unfilled ≡ []
  pub held : w.held ≡ v.held
  pub told : w.told ≡ v.told
  pub heard : w.heard ≡ v.heard
  pub cursor : t.number ≤ w.seen.cursor
  pub limit : w.seen.limit ≡ v.seen.limit
  pub stable : w.seen.stable ≡ v.seen.stable
  pub fault : w.seen.fault ≡ v.seen.fault

-- the receipt is that of the ticket, and so many places are stable
abbrev pub IsDone : Ticket → (stable : ℕ) → Receipt → Type 0
IsDone t stable r = (r.number ≡ t.number) × (r.number ≤ stable)

-- the ticket is handed back, with the number of stable places, which is too low
abbrev pub IsPending : Ticket → (stable : ℕ) → Pending → Type 0
IsPending t stable p = (p.ticket ≡ t) × (p.needs ≡ t.number) × (p.stable ≡ stable) × (stable < p.needs)
