-- The state that the parts of a machine stand for.
use Rattle.std.specs.Prelude.{ℕ, zero, suc, ◌≡◌, ◌+◌, ◌^◌, ◌<◌, List, [], ◌∷◌, map, slice_index}
use mathlib.Core.Option.{some, none}
use Rattle.wb_geometry.specs.History.{HistoryEntry}
use Rattle.wb_steps.specs.Rule.{Intake, Home, IsShape, IsOwned, IsDrainAt, IsLawful}
use Rattle.wb_steps.specs.Steps.{effect, word_of}
use Rattle.wb_steps.specs.declared.shape.Shape.{Shape}
use Rattle.wb_steps.specs.declared.steps.Kind.{Kind}
use Rattle.wb_steps.specs.declared.steps.Kind.TheVariants as kind
use Rattle.wb_steps.specs.declared.view.View.{View}
use Rattle.wb_steps.specs.declared.parts.Cell.{Cell}
use Rattle.wb_steps.specs.declared.parts.Cell.TheVariants as cell
use Rattle.wb_steps.specs.declared.parts.Parts.{Parts}

-- a cell is out with a seat, or at home
abbrev pub home_of : Cell → Home
home_of cell.Out = none
home_of (cell.Home item) = some item

abbrev pub state_of : Parts → Intake
state_of p = record { words = p.words.items; homes = map home_of p.cells.items; views = p.views.items }

-- the words, the cells and the view are as the effect of the step says
pub record Acts (k : Shape) (words : List ℕ) (cells : List Cell) (v : View) (kind : Kind) (words' : List ℕ) (cells' : List Cell) (w : View) : Type 0 where
  pub words_are : words' ≡ (effect k words (map home_of cells) v (slice_index words (word_of k v kind)) kind).words
  pub cells_are : map home_of cells' ≡ (effect k words (map home_of cells) v (slice_index words (word_of k v kind)) kind).homes
  pub view_is : w ≡ (effect k words (map home_of cells) v (slice_index words (word_of k v kind)) kind).view

-- what an allowed step needs of the view of its seat
abbrev pub Fits : View → Kind → Type 0
Fits v (kind.Claim expected entry) = expected + 1 < 2 ^ 64
Fits v (kind.Bump to) = Unit {0}
Fits v (kind.Fill place) = place + 1 < 2 ^ 64
Fits v (kind.Look word) = word < 4
Fits v kind.Take = Unit {0}
Fits v kind.GiveBack = (p : ℕ) × (e : HistoryEntry) × (v.mine ≡ (p, e) ∷ [])
Fits v (kind.Raise limit) = Unit {0}
Fits v (kind.Stable stable) = Unit {0}
Fits v (kind.Fault fault) = Unit {0}
Fits v kind.Split = Unit {0}
Fits v (kind.Join copy) = Unit {0}

-- a machine as its callers see it: its numbers, how many clients it has, and its state
pub record Standing : Type 0 where
  pub shape : Shape
  pub clients : ℕ
  pub state : Intake

-- what holds of each machine: its numbers are in their ranges, its state keeps the rule, the first seats are the owners of its clients, in order, and the drain is the seat behind them
pub record IsStanding (m : Standing) : Type 0 where
  pub shape : IsShape m.shape
  pub lawful : IsLawful m.shape m.state
  pub owners : (c : ℕ) → c < m.clients → IsOwned m.state.views (λ j. j) c
  pub drain : IsDrainAt m.state.views m.clients

-- what the drain has drained
abbrev pub known_at : List View → ℕ → List HistoryEntry
known_at [] i = []
known_at (v ∷ vs) zero = v.known
known_at (v ∷ vs) (suc i) = known_at vs i

abbrev pub drained_of : Standing → List HistoryEntry
drained_of m = known_at m.state.views m.clients
