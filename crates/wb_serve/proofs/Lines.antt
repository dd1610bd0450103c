-- What a line prints, and what a client has seen after it.
use Rattle.std.proofs.Common.{ℕ, zero, suc, ◌≡◌, ◌+◌, ◌-◌, ◌*◌, ◌≤◌, List, [], ◌∷◌, ◌++◌, length, take, drop, All, refl, ap, ◌∙◌, arith, length-append}
use Rattle.std.specs.List.{enumerate_from, range_with_len, zip}
use Rattle.std.proofs.lemmas.List.{take_at}
use Rattle.std.proofs.lemmas.List.FromFn.{length-range_with_len}
use Rattle.std.proofs.lemmas.List.Elements.{All-nil, All-cons, All-head, All-tail}
use Rattle.wb_geometry.specs.History.{HistoryEntry, Void, client_of}
use Rattle.wb_geometry.specs.Requests.{entry_of, entries_of}
use Rattle.wb_geometry.specs.declared.request.Part.{Part}
use Rattle.wb_script.specs.Transcripts.{Rises, HasPlaces, above, voids_of}
use Rattle.wb_script.specs.declared.transcript.Ended.{Ended}
use Rattle.wb_script.specs.declared.transcript.Stop.{Stop}
use Rattle.wb_script.specs.declared.transcript.Stop.TheVariants.{Whole, Down, Ids}
use Rattle.wb_script.proofs.Sessions.{zip-range_with_len, voids-enumerate_from}
use Rattle.wb_serve.specs.Playing.{voids}

-- ---- places one after another

-- each with its entry, where there may be more entries
pub zip_range : (n : ℕ) (taken rest : List HistoryEntry) → zip (range_with_len n (length taken)) (taken ++ rest) ≡ enumerate_from n taken
zip_range n taken rest = zip-range_with_len n (length taken) (taken ++ rest) ∙ ap (enumerate_from n) (take_at taken rest (length taken) refl)

-- they rise
pub rises_range : (m n k : ℕ) → m ≤ n → Rises m (range_with_len n k)
rises_range m n zero le = tt
rises_range m n (suc k) le = (le, rises_range (n + 1) (n + 1) k (omega arith))

-- and what is above them is the next
pub above_range : (m n k : ℕ) → m ≤ n → above m (range_with_len n k) ≤ n + k
above_range m n zero le = omega arith
above_range m n (suc k) le = let rest = above_range (n + 1) (n + 1) k (omega arith) in omega (arith, rest)

-- ---- entries of a client

pub own_entries : (client : ℕ) (parts : List Part) (bytes : List ℕ) → All (λ entry. client_of entry ≡ client) (entries_of client parts bytes)
own_entries client [] bytes = All-nil (λ entry. client_of entry ≡ client)
own_entries client (part ∷ parts) bytes =
    All-cons (λ entry. client_of entry ≡ client) (entry_of client part (take (512 * part.count) bytes)) (entries_of client parts (drop (512 * part.count) bytes)) refl
    (own_entries client parts (drop (512 * part.count) bytes))

-- what holds of all holds of the first
pub All-front : (P : HistoryEntry → Type 0) (xs ys : List HistoryEntry) → All P (xs ++ ys) → All P xs
All-front P [] ys all = All-nil P
All-front P (x ∷ xs) ys all = All-cons P x xs (All-head P x (xs ++ ys) all) (All-front P xs ys (All-tail P x (xs ++ ys) all))

pub own_voids : (client count : ℕ) → All (λ entry. client_of entry ≡ client) (voids client count)
own_voids client zero = All-nil (λ entry. client_of entry ≡ client)
own_voids client (suc count) = All-cons (λ entry. client_of entry ≡ client) (Void client) (voids client count) refl (own_voids client count)

-- ---- the places of a flush

-- the last below its number
pub voids_printed : (client n : ℕ) (ended : Ended) → ended.through ≡ n + ended.voids → voids_of client ended ≡ enumerate_from n (voids client ended.voids)
voids_printed client n ended is =
    let from : ended.through - ended.voids ≡ n = omega (arith, is) in
    voids-enumerate_from client ended ∙ ap (λ (k : ℕ). enumerate_from k (voids client ended.voids)) from

-- ---- how a write ended

pub has_places : (stop : Stop) (n : ℕ) (taken rest all : List HistoryEntry) → all ≡ taken ++ rest → (stop ≡ Whole → rest ≡ []) → ((stop ≡ Whole → ⊥) → 1 ≤ length rest)
    → HasPlaces stop (range_with_len n (length taken)) all
has_places Whole n taken rest all is whole some =
    let none : length rest ≡ 0 = ap length (whole refl) in
    omega (arith, length-range_with_len n (length taken), ap length is, length-append taken rest, none)
has_places (Down device) n taken rest all is whole some =
    let more = some (λ e. cc) in
    omega (arith, length-range_with_len n (length taken), ap length is, length-append taken rest, more)
has_places Ids n taken rest all is whole some =
    let more = some (λ e. cc) in
    omega (arith, length-range_with_len n (length taken), ap length is, length-append taken rest, more)
