-- A history cut into segments, over the image at its start.
use Rattle.std.specs.Prelude.{ℕ, suc, zero, ◌≡◌, ◌+◌, ◌-◌, ◌*◌, List, [], ◌++◌, take, drop}
use Rattle.wb_geometry.specs.Image.{Image, sector}
use Rattle.wb_geometry.specs.History.{HistoryEntry, after, IsUnwritten}

-- the image at the start, and the entries of each segment by its id; ids begin above `first`
pub record Line : Type 0 where
  pub first : ℕ
  pub base : Image
  pub list : ℕ → List HistoryEntry

-- the entries of the m segments after segment a, joined
abbrev pub span : (ℕ → List HistoryEntry) → (a m : ℕ) → List HistoryEntry
span list a zero = []
span list a (suc m) = list (suc a) ++ span list (suc a) m

-- the image after exactly the first segments, up to k
abbrev pub image : Line → ℕ → Image
image line k = after line.base (span line.list line.first (k - line.first))

-- the entries of segment s, which is above `first`, of a history whose segments have so many places each
abbrev pub segment : (places first : ℕ) → List HistoryEntry → ℕ → List HistoryEntry
segment places first history s = take places (drop (places * (s - (first + 1))) history)

-- the line of a history
abbrev pub line_of : (places first : ℕ) → Image → List HistoryEntry → Line
line_of places first base history = record { first = first; base = base; list = segment places first history }

-- the image after the first k segments of a history, or after all of it where it is shorter
abbrev pub cut : (places : ℕ) → Image → List HistoryEntry → (k : ℕ) → Image
cut places base history k = after base (take (places * k) history)

-- y agrees with the image after segment r in each sector that no segment from r + 1 to s writes
pub record Agrees (line : Line) (r s : ℕ) (y : Image) : Type 0 where
  pub each : (i : ℕ) → IsUnwritten i (span line.list r (s - r)) → sector y i ≡ sector (image line r) i
