-- What seats know, and how a step changes it.
use Rattle.std.specs.Prelude.{ℕ, ◌≡◌, ◌+◌, ◌==◌, max, List, [], ◌∷◌, ◌++◌, length, drop, map, filter, not, if◌then◌else◌, Option, Some, None}
use Rattle.std.specs.List.{enumerate_from}
use Rattle.wb_geometry.specs.History.{HistoryEntry, client_of}
use Rattle.wb_steps.specs.Faults.{greater_parts}
use Rattle.wb_steps.specs.declared.view.Seen.{Seen}
use Rattle.wb_steps.specs.declared.view.View.{View}
use Rattle.wb_steps.specs.declared.view.Role.{Role}
use Rattle.wb_steps.specs.declared.view.Role.TheVariants.{Owner, Copy, Drain, Spent}

-- the list begins with these
abbrev pub IsPrefix : {X : Type 0} → List X → List X → Type 0
IsPrefix {X} front xs = (rest : List X) × (xs ≡ front ++ rest)

-- the entries of a client, each with its place, where the first of the list stands at the place p
abbrev pub placed : (client p : ℕ) → List HistoryEntry → List (ℕ × HistoryEntry)
placed client p [] = []
placed client p (e ∷ es) = if client_of e == client then (p, e) ∷ placed client (p + 1) es else placed client (p + 1) es

-- it has named the places from p on for these entries, which makes the cursor that it has seen c
abbrev pub naming : View → (p : ℕ) → List HistoryEntry → (c : ℕ) → View
naming v p es c = record v { mine = v.mine ++ enumerate_from p es; unfilled = map (λ m. m.0) (enumerate_from p es); seen = record v.seen { cursor = c } }

-- all but the place
abbrev pub without : ℕ → List ℕ → List ℕ
without p places = filter (λ q. not (q == p)) places

-- what is held once the cell of the place is given back
abbrev pub released : ℕ → Option ℕ → Option ℕ
released p None = None
released p (Some q) = if q == p then None else Some q

-- it has filled the place
abbrev pub filling : View → ℕ → View
filling v p = record v { unfilled = without p v.unfilled; held = released p v.held }

-- it holds the cell of the place
abbrev pub holding : View → ℕ → View
holding v p = record v { held = Some p }

-- the drain has taken out the entry of the next place
abbrev pub taking : View → HistoryEntry → View
taking v e = record v { mine = (length v.known, e) ∷ []; held = Some (length v.known); seen = record v.seen { cursor = max v.seen.cursor (length v.known + 1) } }

-- the entry that was taken out joins the drained list
abbrev pub draining : View → View
draining v = record v { known = v.known ++ map (λ m. m.1) v.mine; mine = []; held = None }

-- a note is told: the cursor that was seen is told
abbrev pub telling : View → View
telling v = record v { told = v.told ++ v.seen.cursor ∷ [] }

-- a copy of what was seen, with this note
abbrev pub copy : View → List (ℕ × List ℕ) → View
copy v notes = record { role = Copy; client = v.client; known = v.known; mine = []; unfilled = []; held = None; seen = v.seen; told = []; heard = notes }

-- the note of an owner has all that was told up to it
abbrev pub note_of : View → View
note_of v = copy v ((v.client, v.told ++ v.seen.cursor ∷ []) ∷ [])

-- the greater of both
abbrev pub greater_seen : Seen → Seen → Seen
greater_seen a b = record { cursor = max a.cursor b.cursor; limit = max a.limit b.limit; stable = max a.stable b.stable; fault = greater_parts a.fault b.fault }

-- The longer of two lists of which one is the beginning of the other. The first is always a beginning of it.
abbrev pub longer : {X : Type 0} → List X → List X → List X
longer xs ys = xs ++ drop (length xs) ys

-- an owner hears what the copy has of notes
abbrev pub heard_by : Role → List (ℕ × List ℕ) → List (ℕ × List ℕ) → List (ℕ × List ℕ)
heard_by Owner heard more = heard ++ more
heard_by Copy heard more = heard
heard_by Drain heard more = heard
heard_by Spent heard more = heard

-- the receiver has seen what both had seen
abbrev pub hearing : View → View → View
hearing v w = record v { known = longer v.known w.known; seen = greater_seen v.seen w.seen; heard = heard_by v.role v.heard w.heard }

abbrev pub unseen : Seen
unseen = record { cursor = 0; limit = 0; stable = 0; fault = record { log_down = 0; backing_down = 0; log_reads = 0; backing_reads = 0 } }

-- what a seat is left with that gave what it knew to another
abbrev pub spent : View
spent = record { role = Spent; client = 0; known = []; mine = []; unfilled = []; held = None; seen = unseen; told = []; heard = [] }

-- what a seat knows at the start, where the limit is this number
abbrev pub beginning : Role → (client limit : ℕ) → View
beginning role client limit = record { role = role; client = client; known = []; mine = []; unfilled = []; held = None; seen = record unseen { limit = limit }; told = []; heard = [] }
