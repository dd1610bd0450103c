-- Which scripts are valid: the numbers of their requests are in their ranges, and each note that is heard is left.
use Rattle.std.specs.Prelude.{ℕ, ◌≡◌, ◌+◌, ◌*◌, ◌%◌, ◌<◌, ◌≤◌, ◌==◌, List, [], length, sum, map, filter, slice_index_or, Bool, false, All}
use Rattle.std.specs.List.{enumerate_from}
use Rattle.wb_script.specs.Content.{ScriptContent}
use Rattle.wb_script.specs.declared.request.Request.{Request}
use Rattle.wb_script.specs.declared.request.Request.TheVariants.{Write, Read, ReadSum, Flush, Defer, Tell, Hear}

-- the most clients of a script, the most sectors of a request, and the most that all reads show
abbrev pub most_clients : ℕ
most_clients = 32

abbrev pub most_sectors : ℕ
most_sectors = 256

abbrev pub most_shown : ℕ
most_shown = 262144

-- so many sectors from this one on, at least one, are inside the device
pub record IsWithin (sectors sector count : ℕ) : Type 0 where
  pub some : 1 ≤ count
  pub few : count ≤ most_sectors
  pub inside : sector + count ≤ sectors

-- the pattern, repeated, fills so many sectors
pub record Fills (pattern : List ℕ) (count : ℕ) : Type 0 where
  pub some : 1 ≤ length pattern
  pub whole : 512 * count % length pattern ≡ 0

-- a request that this client, of so many, may make of a device of so many sectors
abbrev pub IsAsked : (sectors clients client : ℕ) → Request → Type 0
IsAsked sectors clients client (Write sector count pattern fua) = IsWithin sectors sector count × Fills pattern count
IsAsked sectors clients client (Read sector count) = IsWithin sectors sector count
IsAsked sectors clients client (ReadSum sector count) = IsWithin sectors sector count
IsAsked sectors clients client Flush = Unit {0}
IsAsked sectors clients client Defer = Unit {0}
IsAsked sectors clients client (Tell other) = (client < other) × (other < clients)
IsAsked sectors clients client (Hear other) = other < client

-- whether it leaves a note for that client, or hears one of that client
abbrev pub tells_to : ℕ → Request → Bool
tells_to hearer (Write sector count pattern fua) = false
tells_to hearer (Read sector count) = false
tells_to hearer (ReadSum sector count) = false
tells_to hearer Flush = false
tells_to hearer Defer = false
tells_to hearer (Tell other) = other == hearer
tells_to hearer (Hear other) = false

abbrev pub hears_of : ℕ → Request → Bool
hears_of teller (Write sector count pattern fua) = false
hears_of teller (Read sector count) = false
hears_of teller (ReadSum sector count) = false
hears_of teller Flush = false
hears_of teller Defer = false
hears_of teller (Tell other) = false
hears_of teller (Hear other) = other == teller

-- how many notes the requests leave for that client, or hear of that client
abbrev pub told_to : ℕ → List Request → ℕ
told_to hearer requests = length (filter (tells_to hearer) requests)

abbrev pub heard_of : ℕ → List Request → ℕ
heard_of teller requests = length (filter (hears_of teller) requests)

-- how many sectors a request shows, and so many requests
abbrev pub shown_by : Request → ℕ
shown_by (Write sector count pattern fua) = 0
shown_by (Read sector count) = count
shown_by (ReadSum sector count) = 0
shown_by Flush = 0
shown_by Defer = 0
shown_by (Tell other) = 0
shown_by (Hear other) = 0

abbrev pub shown_by_all : List Request → ℕ
shown_by_all requests = sum (map shown_by requests)

-- the requests of a client
abbrev pub requests_at : List (List Request) → ℕ → List Request
requests_at all client = slice_index_or all client []

-- Each note that a client hears of a lower one is left for it: the j-th that it hears is the j-th that the other leaves.
abbrev pub AreLeft : List (List Request) → Type 0
AreLeft all = (teller hearer : ℕ) → teller < hearer → hearer < length all → heard_of teller (requests_at all hearer) ≤ told_to hearer (requests_at all teller)

-- a script that may be served: it has the requests of each client, and each may be made
pub record IsValid (script : ScriptContent) : Type 0 where
  pub some : 1 ≤ script.clients
  pub few : script.clients ≤ most_clients
  pub each : length script.requests ≡ script.clients
  pub asked : All (λ own. All (IsAsked script.sectors script.clients own.0) own.1) (enumerate_from 0 script.requests)
  pub left : AreLeft script.requests
  pub shown : sum (map shown_by_all script.requests) ≤ most_shown
