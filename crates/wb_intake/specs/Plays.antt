-- What each step tells the seat that makes it.
use Rattle.std.specs.Prelude.{ℕ, ◌≡◌, ◌≢◌, ◌+◌, ◌-◌, ◌<◌, ◌≤◌, ◌%◌, ◌^◌, max, zero, suc, List, [], ◌∷◌, length, replicate, Option, Some, None}
use Rattle.atomic_table.specs.Table.{Me, Step, rest}
use Rattle.wb_geometry.specs.History.{HistoryEntry, Void}
use Rattle.wb_steps.specs.Faults.{parts_of, IsPartwiseAtMost}
use Rattle.wb_steps.specs.Views.{naming, filling, holding, taking, draining, telling, note_of, copy, hearing, spent, beginning}
use Rattle.wb_steps.specs.Steps.{seeing}
use Rattle.wb_steps.specs.Rule.{MayStand}
use Rattle.wb_steps.specs.declared.shape.Shape.{Shape}
use Rattle.wb_steps.specs.declared.view.View.{View}
use Rattle.wb_steps.specs.declared.view.Role.TheVariants.{Owner}
use Rattle.wb_intake.specs.declared.sight.Sight.{Sight}
use Rattle.wb_intake.specs.Sights.{HasMet, NamesRightly, counted, cell_counted, fresh}

abbrev pub Sat : Type 0
Sat = Me (Option HistoryEntry) Sight

abbrev pub At : Type 0
At = Step (Option HistoryEntry)

-- the seat with another view
abbrev pub with_view : Sight → View → Sight
with_view x v = record x { view = v }

-- the seat with another view, by a load of the word that found n
abbrev pub with_load : Sight → View → (word n : ℕ) → Sight
with_load x v word n = record x { view = v; loads = counted x.loads word n }

-- the seat with another view, by a load of the word of a cell that found n
abbrev pub with_cell_load : Sight → View → (word n : ℕ) → Sight
with_cell_load x v word n = record x { view = v; loads = cell_counted x.loads word n }

-- A number that is seen is not below what was seen before. The cursor is at least the length of what is known, and so small that each
-- place has an id; the limit is at least the cursor that was seen
abbrev pub IsUp : View → (word n : ℕ) → Type 0
IsUp v zero n = (v.seen.cursor ≤ n) × (length v.known ≤ n) × (n ≤ 2 ^ 55)
IsUp v (suc zero) n = (v.seen.limit ≤ n) × (v.seen.cursor ≤ n)
IsUp v (suc (suc zero)) n = v.seen.stable ≤ n
IsUp v (suc (suc (suc word))) n = IsPartwiseAtMost v.seen.fault (parts_of n)

-- a look at one of the first four words, by which a seat also learns that it had all of whom it met, and an owner that it names places rightly
abbrev pub sees : At → Sat → ℕ → Sat → Type 0
sees st m n m' = IsUp m.0.view st.word n × HasMet m.0 × NamesRightly m.0.view × (m' ≡ (with_load m.0 (seeing m.0.view st.word n) st.word n, m.1))

-- a claim: the place is named for the entry where the cursor stood there, and else the cursor is seen
abbrev pub claims : HistoryEntry → At → Sat → ℕ → Sat → Type 0
claims e st m n m' = (n ≡ st.first → m' ≡ (with_view m.0 (naming m.0.view n (e ∷ []) (n + 1)), m.1)) × (n ≢ st.first → (m.0.view.seen.cursor ≤ n) × (m' ≡ (with_view m.0 (seeing m.0.view 0 n), m.1)))

-- a bump names the places from the cursor on for voids
abbrev pub bumps : At → Sat → ℕ → Sat → Type 0
bumps st m n m' = (m.0.view.seen.cursor ≤ n) × (m' ≡ (with_view m.0 (naming m.0.view n (replicate (st.first - n) (Void m.0.view.client)) (max n st.first)), m.1))

-- the first of the places that are not filled
abbrev pub first_unfilled : List ℕ → ℕ
first_unfilled [] = 0
first_unfilled (p ∷ ps) = p

-- an owner takes the cell of the first place that it has not filled
abbrev pub enters : At → Sat → ℕ → Sat → Type 0
enters st m n m' = let p = first_unfilled m.0.view.unfilled in m' ≡ (with_view m.0 (holding m.0.view p), (p % st.slots, None) ∷ m.1)

-- an owner fills the place, whose number is the new word less 1
abbrev pub fills : At → Sat → ℕ → Sat → Type 0
fills st m n m' = m' ≡ (with_view m.0 (filling m.0.view (st.first - 1)), rest m.1)

-- the drain finds the next place filled, whose number is so small that it has an id, and which is below the limit, and takes its entry out,
-- which may stand there; or it finds another number in the word
abbrev pub takes_out : Shape → At → Sat → ℕ → Sat → Type 0
takes_out k st m n m' = (n ≡ length m.0.view.known + 1 → (length m.0.view.known + 1 ≤ 2 ^ 55) × (length m.0.view.known < m.0.view.seen.limit) × (e : HistoryEntry) × MayStand k (length m.0.view.known) e × (m' ≡ (with_cell_load m.0 (taking m.0.view e) st.word n, (length m.0.view.known % st.slots, Some e) ∷ m.1)))
    × (n ≢ length m.0.view.known + 1 → m' ≡ (with_cell_load m.0 m.0.view st.word n, m.1))

-- the drain gives the cell back
abbrev pub gives_back : At → Sat → ℕ → Sat → Type 0
gives_back st m n m' = m' ≡ (with_view m.0 (draining m.0.view), rest m.1)

-- the drain publishes a number
abbrev pub publishes : At → Sat → ℕ → Sat → Type 0
publishes st m n m' = m' ≡ (with_view m.0 (seeing m.0.view st.word st.first), m.1)

-- an owner that tells a note, and the note
abbrev pub tells : Sight → Sight
tells x = with_view x (telling x.view)

abbrev pub note : Sight → Sight
note x = fresh (note_of x.view)

-- a copy without a list of notes
abbrev pub shown : Sight → Sight
shown x = fresh (copy x.view [])

-- what a seat knows that has received another
abbrev pub hears : Sight → Sight → Sight
hears x y = with_view x (hearing x.view y.view)

-- the drain meets a pass, of which it receives a copy
abbrev pub meets : Sight → Sight → Sight
meets x y = record x { view = hearing x.view y.view; met = Some (record { drain = x.view; pass = y.view }) }

abbrev pub gone : Sight
gone = fresh spent

-- the drain makes the owner of the next client
abbrev pub counting : Sight → Sight
counting x = with_view x (record x.view { client = x.view.client + 1 })

abbrev pub owner : Sight → Sight
owner x = fresh (record (beginning Owner x.view.client 0) { seen = x.view.seen })
