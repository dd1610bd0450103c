-- What a seat knows beside its view, and the rule of the table.
use Rattle.std.specs.Prelude.{ℕ, ◌≡◌, ◌+◌, ◌-◌, ◌<◌, ◌≤◌, zero, suc, List, [], ◌∷◌, ◌++◌, length, map, All, Option, Some, None}
use Rattle.std.specs.List.{Contains}
use mathlib.Core.Option.{some}
use lib.ListN.{get_elem?}
use Rattle.atomic_table.specs.Table.{State}
use Rattle.wb_geometry.specs.History.{HistoryEntry, client_of}
use Rattle.wb_steps.specs.Faults.{IsPartwiseAtMost}
use Rattle.wb_steps.specs.Views.{IsPrefix, placed, beginning}
use Rattle.wb_steps.specs.Rule.{Intake, cells, IsLawful}
use Rattle.wb_steps.specs.declared.shape.Shape.{Shape}
use Rattle.wb_steps.specs.declared.view.View.{View}
use Rattle.wb_steps.specs.declared.view.Role.TheVariants.{Owner, Drain}
use Rattle.wb_intake.specs.declared.sight.Load.{Load}
use Rattle.wb_intake.specs.declared.sight.CellLoad.{CellLoad}
use Rattle.wb_intake.specs.declared.sight.Loads.{Loads}
use Rattle.wb_intake.specs.declared.sight.Meeting.{Meeting}
use Rattle.wb_intake.specs.declared.sight.Sight.{Sight}

-- the state of the intake, without the loads that seats made and whom they met
abbrev pub plain : State (Option HistoryEntry) Sight → Intake
plain s = record { words = s.words; homes = s.homes; views = map (λ x. x.view) s.views }

-- the drain has all that the pass knew, which is of the clients that it counts, and no number that the pass had seen is above its own
pub record IsBehind (drain pass : View) : Type 0 where
  pub known : IsPrefix pass.known drain.known
  pub clients : All (λ e. client_of e < drain.client) drain.known
  pub limit : pass.seen.limit ≤ drain.seen.limit
  pub stable : pass.seen.stable ≤ drain.seen.stable
  pub fault : IsPartwiseAtMost pass.seen.fault drain.seen.fault

-- the drain had all of the pass that it met last
abbrev pub HasMet : Sight → Type 0
HasMet x = (m : Meeting) → x.met ≡ Some m → IsBehind m.drain m.pass

-- the entries of an owner's client in what it knows are the first that it names, and the others that it names stand behind what it knows
abbrev pub IsLegal : View → Type 0
IsLegal v = (later : List (ℕ × HistoryEntry)) × (v.mine ≡ placed v.client 0 v.known ++ later) × All (λ m. length v.known ≤ m.0) later

-- of two notes of one client that were heard, the later has all that the client told up to the other
abbrev pub AreAlike : List (ℕ × List ℕ) → Type 0
AreAlike heard = (client : ℕ) (fewer more : List ℕ) → Contains heard (client, fewer) → Contains heard (client, more) → length fewer ≤ length more → IsPrefix fewer more

-- what an owner names is legal, and stands below the cursor that it has seen; and the notes that it heard are alike
abbrev pub NamesRightly : View → Type 0
NamesRightly v = v.role ≡ Owner → IsLegal v × All (λ m. m.0 < v.seen.cursor) v.mine × AreAlike v.heard

-- the rule of the table is that of the machine, and that each seat had all of whom it met
abbrev pub Holds : Shape → State (Option HistoryEntry) Sight → Type 0
Holds k s = IsLawful k (plain s) × ((j : ℕ) (x : Sight) → get_elem? s.views j ≡ some x → HasMet x)

abbrev pub once_more : Load → ℕ → Load
once_more l n = record { count = l.count + 1; last = n }

-- one load more of one of the first four words, which found n
abbrev pub counted : Loads → (word n : ℕ) → Loads
counted l zero n = record l { cursor = once_more l.cursor n }
counted l (suc zero) n = record l { limit = once_more l.limit n }
counted l (suc (suc zero)) n = record l { stable = once_more l.stable n }
counted l (suc (suc (suc word))) n = record l { fault = once_more l.fault n }

-- one load more of the word of a cell
abbrev pub cell_counted : Loads → (word n : ℕ) → Loads
cell_counted l word n = record l { cell = record { count = l.cell.count + 1; word = word; last = n } }

-- the number was loaded between the two
abbrev pub IsLoaded : Load → Load → ℕ → Type 0
IsLoaded before now n = (before.count < now.count) × (now.last ≡ n)

-- the number was loaded between the two, from this word
abbrev pub IsCellLoaded : CellLoad → CellLoad → (word n : ℕ) → Type 0
IsCellLoaded before now word n = (before.count < now.count) × (now.word ≡ word) × (now.last ≡ n)

abbrev pub no_load : Load
no_load = record { count = 0; last = 0 }

abbrev pub no_loads : Loads
no_loads = record { cursor = no_load; limit = no_load; stable = no_load; fault = no_load; cell = record { count = 0; word = 0; last = 0 } }

-- a view of a seat that made no load and met nobody
abbrev pub fresh : View → Sight
fresh v = record { view = v; loads = no_loads; met = None }

-- the first seat: the drain, which has made no owner yet
abbrev pub founder : Shape → Sight
founder k = fresh (beginning Drain 0 (cells k))

-- the number of the note that a copy is, from 0. A copy that is no note has the number 0
abbrev pub number_in : List (ℕ × List ℕ) → ℕ
number_in [] = 0
number_in (h ∷ hs) = length h.1 - 1
