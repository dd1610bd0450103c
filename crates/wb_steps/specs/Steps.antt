-- The steps of the machine: where each is allowed, what it does, and what it answers.
use Rattle.std.specs.Prelude.{ℕ, ◌≡◌, ◌≢◌, ◌⊎◌, ◌+◌, ◌-◌, ◌%◌, ◌^◌, ◌<◌, ◌≤◌, ◌==◌, max, suc, zero, List, [], ◌∷◌, ◌++◌, length, replicate, slice_index, slice_set, Contains, Option, Some, None, if◌then◌else◌}
use Rattle.std.specs.List.{find}
use Rattle.std.specs.Option.{option_map}
use mathlib.Core.Option.{some, none}
use mathlib.Core.Option as maybe
use lib.ListN.{get_elem?}
use Rattle.wb_geometry.specs.History.{HistoryEntry, Write, Void}
use Rattle.wb_geometry.specs.Entering.{entered}
use Rattle.wb_steps.specs.Faults.{parts_of, IsPartwiseAtMost}
use Rattle.wb_steps.specs.Views.{naming, filling, taking, draining, telling, copy, note_of, hearing, spent, beginning}
use Rattle.wb_steps.specs.Rule.{Intake, Home, cells, cell_word, MayStand}
use Rattle.wb_steps.specs.declared.shape.Shape.{Shape}
use Rattle.wb_steps.specs.declared.view.View.{View}
use Rattle.wb_steps.specs.declared.view.Role.{Role}
use Rattle.wb_steps.specs.declared.view.Role.TheVariants.{Owner, Copy, Drain, Spent}
use Rattle.wb_steps.specs.declared.steps.Step.{Step}
use Rattle.wb_steps.specs.declared.steps.Reply.{Reply}
use Rattle.wb_steps.specs.declared.steps.Reply.TheVariants.{Found, NotAllowed}
use Rattle.wb_steps.specs.declared.steps.Kind.{Kind}
use Rattle.wb_steps.specs.declared.steps.Kind.TheVariants as kind

-- the least whole number of segments that has the place
abbrev pub IsRoundedUp : (places cursor b : ℕ) → Type 0
IsRoundedUp places cursor b = (b % places ≡ 0) × (cursor ≤ b) × (b < cursor + places)

-- a write of the client
abbrev pub IsWriteOf : ℕ → HistoryEntry → Type 0
IsWriteOf client (Write c block bits payload) = c ≡ client
IsWriteOf client (Void c) = ⊥

-- where a seat with the view v may make the step
abbrev pub Allows : Shape → Intake → View → Kind → Type 0
Allows k s v (kind.Claim expected entry) = (v.role ≡ Owner) × (v.unfilled ≡ []) × (expected < v.seen.limit) × IsWriteOf v.client (entered entry) × MayStand k expected (entered entry)
Allows k s v (kind.Bump to) = (v.role ≡ Owner) × (v.unfilled ≡ []) × IsRoundedUp k.places v.seen.cursor to
Allows k s v (kind.Fill place) = (v.role ≡ Owner) × Contains v.unfilled place
Allows k s v (kind.Look word) = (v.role ≢ Spent) × (word < 4)
Allows k s v kind.Take = v.role ≡ Drain
Allows k s v kind.GiveBack = (v.role ≡ Drain) × (v.held ≢ None)
Allows k s v (kind.Raise limit) = (v.role ≡ Drain) × (limit % k.places ≡ 0) × (v.seen.limit ≤ limit) × (limit ≤ length v.known + cells k)
Allows k s v (kind.Stable stable) = (v.role ≡ Drain) × (stable % k.places ≡ 0) × (v.seen.stable ≤ stable) × (stable ≤ length v.known)
Allows k s v (kind.Fault fault) = (v.role ≡ Drain) × IsPartwiseAtMost v.seen.fault (parts_of fault)
Allows k s v kind.Split = ((v.role ≡ Owner) ⊎ (v.role ≡ Drain)) × (length s.views < 2 ^ 32)
Allows k s v (kind.Join copy) = ((v.role ≡ Owner) ⊎ (v.role ≡ Drain)) × ((w : View) × (get_elem? s.views copy ≡ some w) × (w.role ≡ Copy))

-- the step is allowed: the seat is there, and may make it
abbrev pub IsAllowed : Shape → Intake → Step → Type 0
IsAllowed k s step = (v : View) × (get_elem? s.views step.seat ≡ some v) × Allows k s v step.kind

-- the word that the step reads
abbrev pub word_of : Shape → View → Kind → ℕ
word_of k v (kind.Claim expected entry) = 0
word_of k v (kind.Bump to) = 0
word_of k v (kind.Fill place) = cell_word k place
word_of k v (kind.Look word) = word
word_of k v kind.Take = cell_word k (length v.known)
word_of k v kind.GiveBack = cell_word k (length v.known)
word_of k v (kind.Raise limit) = 1
word_of k v (kind.Stable stable) = 2
word_of k v (kind.Fault fault) = 3
word_of k v kind.Split = 0
word_of k v (kind.Join copy) = 0

-- a look at a word
abbrev pub seeing : View → (word found : ℕ) → View
seeing v zero r = record v { seen = record v.seen { cursor = r } }
seeing v (suc zero) r = record v { seen = record v.seen { limit = r } }
seeing v (suc (suc zero)) r = record v { seen = record v.seen { stable = r } }
seeing v (suc (suc (suc word))) r = record v { seen = record v.seen { fault = parts_of r } }

-- the entry that an owner named for the place
abbrev pub named_for : ℕ → List (ℕ × HistoryEntry) → Option HistoryEntry
named_for p mine = option_map (λ m. m.1) (find (λ m. m.0 == p) mine)

-- what a step makes of the words, the cells and the view of its seat
pub record Effect : Type 0 where
  pub words : List ℕ
  pub homes : List Home
  pub view : View

-- nothing but what the seat knows changes
abbrev pub knows : List ℕ → List Home → View → Effect
knows words homes w = record { words = words; homes = homes; view = w }

-- the drain takes out the entry that is in the cell
abbrev pub take_out : List ℕ → List Home → (cell : ℕ) → View → maybe.Option Home → Effect
take_out words homes cell v none = knows words homes v
take_out words homes cell v (some none) = knows words homes v
take_out words homes cell v (some (some None)) = knows words homes v
take_out words homes cell v (some (some (Some e))) = knows words (slice_set homes cell none) (taking v e)

-- the drain looks at the word of the next place, which is r, and takes its entry out where it is filled
abbrev pub next_out : List ℕ → List Home → (cell : ℕ) → View → (r : ℕ) → Effect
next_out words homes cell v r = if r == length v.known + 1 then take_out words homes cell v (get_elem? homes cell) else knows words homes v

-- what the step of a seat with the view v does, where the word that it reads was r
abbrev pub effect : Shape → List ℕ → List Home → View → (r : ℕ) → Kind → Effect
effect k words homes v r (kind.Claim expected entry) =
    if r == expected then knows (slice_set words 0 (expected + 1)) homes (naming v expected (entered entry ∷ []) (expected + 1)) else knows words homes (seeing v 0 r)
effect k words homes v r (kind.Bump to) = knows (slice_set words 0 (max r to)) homes (naming v r (replicate (to - r) (Void v.client)) (max r to))
effect k words homes v r (kind.Fill place) = knows (slice_set words (cell_word k place) (place + 1)) (slice_set homes (place % cells k) (some (named_for place v.mine))) (filling v place)
effect k words homes v r (kind.Look word) = knows words homes (seeing v word r)
effect k words homes v r kind.Take = next_out words homes (length v.known % cells k) v r
effect k words homes v r kind.GiveBack = knows (slice_set words (cell_word k (length v.known)) 0) (slice_set homes (length v.known % cells k) (some None)) (draining v)
effect k words homes v r (kind.Raise limit) = knows (slice_set words 1 limit) homes (seeing v 1 limit)
effect k words homes v r (kind.Stable stable) = knows (slice_set words 2 stable) homes (seeing v 2 stable)
effect k words homes v r (kind.Fault fault) = knows (slice_set words 3 fault) homes (seeing v 3 fault)
effect k words homes v r kind.Split = knows words homes v
effect k words homes v r (kind.Join copy) = knows words homes v

-- a seat makes a copy of what it has seen, which is the last seat then. The copy of an owner is a note that it tells
abbrev pub split : List View → (seat : ℕ) → View → Role → List View
split views id v Owner = slice_set views id (telling v) ++ note_of v ∷ []
split views id v Copy = views ++ copy v [] ∷ []
split views id v Drain = views ++ copy v [] ∷ []
split views id v Spent = views ++ copy v [] ∷ []

-- a seat receives what another has seen, which is then spent
abbrev pub join : List View → (seat : ℕ) → View → (other : ℕ) → maybe.Option View → List View
join views id v other none = views
join views id v other (some w) = slice_set (slice_set views id (hearing v w)) other spent

-- the views after a step of the seat id, whose own view is w then. No other view changes, but that a copy is made or spent
abbrev pub views_after : List View → (seat : ℕ) → View → View → Kind → List View
views_after views id v w (kind.Claim expected entry) = slice_set views id w
views_after views id v w (kind.Bump to) = slice_set views id w
views_after views id v w (kind.Fill place) = slice_set views id w
views_after views id v w (kind.Look word) = slice_set views id w
views_after views id v w kind.Take = slice_set views id w
views_after views id v w kind.GiveBack = slice_set views id w
views_after views id v w (kind.Raise limit) = slice_set views id w
views_after views id v w (kind.Stable stable) = slice_set views id w
views_after views id v w (kind.Fault fault) = slice_set views id w
views_after views id v w kind.Split = split views id v v.role
views_after views id v w (kind.Join other) = join views id v other (get_elem? views other)

-- what a step makes of the state
abbrev pub stepped : Shape → Intake → (seat : ℕ) → View → (r : ℕ) → Kind → Intake
stepped k s id v r kind =
    let e = effect k s.words s.homes v r kind in record { words = e.words; homes = e.homes; views = views_after s.views id v e.view kind }

-- An allowed step of a seat answers the number that its word held before, and leaves this state.
pub record Makes (k : Shape) (s : Intake) (step : Step) (found : ℕ) (after : Intake) : Type 0 where
  pub view : View
  pub seat : get_elem? s.views step.seat ≡ some view
  pub allowed : Allows k s view step.kind
  pub found_is : found ≡ slice_index s.words (word_of k view step.kind)
  pub after_is : after ≡ stepped k s step.seat view found step.kind

-- what a step answers, and what it leaves: one that is not allowed changes nothing
abbrev pub Answers : Shape → Intake → Step → Reply → Intake → Type 0
Answers k s step (Found found) after = Makes k s step found after
Answers k s step NotAllowed after = ¬ IsAllowed k s step × (after ≡ s)

-- a list of steps leads from the one state to the other, whatever they answer
abbrev pub Leads : Shape → Intake → List Step → Intake → Type 0
Leads k s [] after = after ≡ s
Leads k s (step ∷ steps) after = (reply : Reply) × (between : Intake) × Answers k s step reply between × Leads k between steps after

-- the owners of so many clients, as they begin
abbrev pub owners : (clients limit : ℕ) → List View
owners zero limit = []
owners (suc n) limit = owners n limit ++ beginning Owner n limit ∷ []

-- the state at the start: nothing is named, and the limit is the number of cells. The owners are the first seats, and then comes the drain
abbrev pub start : Shape → (clients : ℕ) → Intake
start k clients = record {
  words = 0 ∷ cells k ∷ 0 ∷ 0 ∷ replicate (cells k) 0;
  homes = replicate (cells k) (some None);
  views = owners clients (cells k) ++ beginning Drain clients (cells k) ∷ [];
}
