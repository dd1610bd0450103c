-- Entries, histories, and what they make of an image.
use Rattle.std.specs.Prelude.{ℕ, ◌≡◌, ◌⊎◌, ◌+◌, ◌-◌, ◌*◌, ◌≤◌, List, [], ◌∷◌, length, map, nat_le, nat_lt, ◌&&◌, ◌==◌, if◌then◌else◌, Option, Some, None, Contains}
use Rattle.std.specs.List.{enumerate_from}
use Rattle.std.specs.Int.{bit_at}
use Rattle.wb_geometry.specs.Image.{Image, sector, sectors_of}

-- An entry of a history: a write of the sectors of a block of eight whose bits are set, or a place that changes nothing.
-- The payload has all eight sectors of the block.
pub data HistoryEntry : Type 0 where
  Write : (client block bits : ℕ) (payload : List ℕ) → HistoryEntry
  Void : (client : ℕ) → HistoryEntry

-- the client whose entry it is
abbrev pub client_of : HistoryEntry → ℕ
client_of (Write client block bits payload) = client
client_of (Void client) = client

-- what the entry writes to sector k, where it does
abbrev pub written : ℕ → HistoryEntry → Option (List ℕ)
written k (Write client block bits payload) =
    if nat_le (8 * block) k && nat_lt k (8 * block + 8) && bit_at bits (k - 8 * block) == 1
    then Some (sector (sectors_of payload) (k - 8 * block)) else None
written k (Void client) = None

-- what stands where s stood
abbrev pub standing : List ℕ → Option (List ℕ) → List ℕ
standing s (Some t) = t
standing s None = s

-- the image after an entry
abbrev pub put : Image → HistoryEntry → Image
put x entry = map (λ p. standing p.1 (written p.0 entry)) (enumerate_from 0 x)

-- the image after the entries, one after another
abbrev pub after : Image → List HistoryEntry → Image
after x [] = x
after x (entry ∷ entries) = after (put x entry) entries

-- the later of two, where both are there
abbrev pub later : Option (List ℕ) → Option (List ℕ) → Option (List ℕ)
later before (Some s) = Some s
later before None = before

-- what the last of the entries that write sector k writes to it
abbrev pub last_write : ℕ → List HistoryEntry → Option (List ℕ)
last_write k [] = None
last_write k (entry ∷ entries) = later (written k entry) (last_write k entries)

-- none of the entries writes sector k
abbrev pub IsUnwritten : ℕ → List HistoryEntry → Type 0
IsUnwritten k entries = last_write k entries ≡ None

-- each sector of y is as it was in x, or as one of the entries writes it: no sector changes that none of them writes
pub record PutsPartly (entries : List HistoryEntry) (x y : Image) : Type 0 where
  pub size : length y ≡ length x
  pub each : (i : ℕ) → (sector y i ≡ sector x i) ⊎ ((entry : HistoryEntry) × Contains entries entry × (written i entry ≡ Some (sector y i)))

-- the block of the entry is inside a device of so many sectors
abbrev pub IsBlockInside : ℕ → HistoryEntry → Type 0
IsBlockInside sectors (Write client block bits payload) = 8 * block + 8 ≤ sectors
IsBlockInside sectors (Void client) = Unit {0}
