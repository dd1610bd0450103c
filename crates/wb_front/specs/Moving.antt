-- What the calls on the engine and the drain of a front leave.
use Rattle.std.specs.Prelude.{ℕ, ◌≡◌, ◌≤◌, List, length}
use Rattle.wb_geometry.specs.History.{HistoryEntry}
use Rattle.wb_steps.specs.Views.{IsPrefix, placed}
use Rattle.wb_steps.specs.Faults.{IsPartwiseAtMost}
use Rattle.wb_steps.specs.declared.view.Faults.{Faults}
use Rattle.wb_steps.specs.declared.view.View.{View}
use Rattle.wb_engine.specs.Standing.{IsOffDevices}
use Rattle.wb_front.specs.Joined.{CoreContent, drained, fault_of}

-- more was drained and absorbed, by which segments were sealed, and nothing else was done. The fault word is as it was.
pub record HasDrained {L B : Type 0} (old new : CoreContent L B) : Type 0 where
  pub more : IsPrefix (drained old) (drained new)
  pub numbers : new.engine.numbers ≡ record old.engine.numbers { sealed = new.engine.numbers.sealed }
  pub kept : IsOffDevices old.engine new.engine
  pub fault : fault_of new ≡ fault_of old

-- the drain published these numbers
abbrev pub publishing : View → (limit stable : ℕ) → Faults → View
publishing v limit stable fault = record v { seen = record { cursor = v.seen.cursor; limit = limit; stable = stable; fault = fault } }

-- the drain published this fault alone
abbrev pub publishing_fault : View → Faults → View
publishing_fault v fault = record v { seen = record v.seen { fault = fault } }

-- The pass knows the whole history, in which just its client's entries stand that it names, and has forgotten nothing that it
-- had seen. It knows no place at or above the cursor that it has seen.
pub record HasRead (v w : View) (history : List HistoryEntry) : Type 0 where
  pub role : w.role ≡ v.role
  pub client : w.client ≡ v.client
  pub known : w.known ≡ history
  pub more : IsPrefix v.known w.known
  pub few : length w.known ≤ w.seen.cursor
  pub mine : w.mine ≡ v.mine
  pub stands : w.mine ≡ placed w.client 0 w.known
  pub unfilled : w.unfilled ≡ v.unfilled
  pub held : w.held ≡ v.held
  pub told : w.told ≡ v.told
  pub heard : w.heard ≡ v.heard
  pub cursor : v.seen.cursor ≤ w.seen.cursor
  pub limit : v.seen.limit ≤ w.seen.limit
  pub stable : v.seen.stable ≤ w.seen.stable
  pub fault : IsPartwiseAtMost v.seen.fault w.seen.fault

-- the drain published nothing
pub record IsSameDrain (v w : View) : Type 0 where
  pub client : w.client ≡ v.client
  pub limit : w.seen.limit ≡ v.seen.limit
  pub stable : w.seen.stable ≡ v.seen.stable
  pub fault : w.seen.fault ≡ v.seen.fault
