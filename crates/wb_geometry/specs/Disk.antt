-- A disk that keeps what it was told to write until it is told to sync: what a read gives, and what a crash may leave.
use Rattle.std.specs.Prelude.{ℕ, ◌≡◌, ◌+◌, ◌-◌, ◌<◌, ◌≤◌, ◌%◌, List, [], ◌∷◌, ◌++◌, map, length, take, slice_index, slice_index_or, nat_le, nat_lt, ◌&&◌, if◌then◌else◌, Some}
use Rattle.std.specs.List.{Contains, enumerate_from}
use Rattle.wb_geometry.specs.Image.{Image, IsImage, sector}
use Rattle.wb_geometry.specs.Device.{State, IsNotAfter}

-- a write of these sectors from `at` on, or a sync
pub data Change : Type 0 where
  Write : (at : ℕ) (new : Image) → Change
  Sync : Change

-- each sector that it writes has 512 bytes
abbrev pub IsWhole : Change → Type 0
IsWhole (Write at new) = IsImage (length new) new
IsWhole Sync = Unit {0}

abbrev pub newest : List (List ℕ) → List ℕ
newest cs = slice_index_or cs (length cs - 1) []

-- What a crash may leave in sector i: the synced content first, and what was written since behind it, in order.
abbrev pub candidates_after : ℕ → Change → List (List ℕ) → List (List ℕ)
candidates_after i (Write at new) cs = if nat_le at i && nat_lt i (at + length new) then cs ++ sector new (i - at) ∷ [] else cs
candidates_after i Sync cs = newest cs ∷ []

abbrev pub candidates : ℕ → List Change → List (List ℕ) → List (List ℕ)
candidates i [] cs = cs
candidates i (change ∷ changes) cs = candidates i changes (candidates_after i change cs)

-- an image that a crash may leave of a disk that held `start`, all of it synced, after these changes
pub record MayLeave (start : Image) (changes : List Change) (x : Image) : Type 0 where
  pub size : length x ≡ length start
  pub each : (i : ℕ) → i < length start → Contains (candidates i changes (sector start i ∷ [])) (sector x i)

-- what a read gives
pub record IsContent (start : Image) (changes : List Change) (x : Image) : Type 0 where
  pub size : length x ≡ length start
  pub each : (i : ℕ) → i < length start → sector x i ≡ newest (candidates i changes (sector start i ∷ []))

-- A moment is a number of changes. A crash at some moment from m on may have left the image.
pub record LeftSince (start : Image) (changes : List Change) (m : List ℕ) (x : Image) : Type 0 where
  pub at : ℕ
  pub since : IsNotAfter m (at ∷ [])
  pub until : at ≤ length changes
  pub left : MayLeave start (take at changes) x

-- the candidate that a choice takes for the i-th written sector; an empty choice takes the synced content
abbrev pub taken : List ℕ → ℕ → List (List ℕ) → List ℕ
taken choice i cs = slice_index_or cs (slice_index choice (i % length choice) % length cs) []

-- from the i-th written sector on, which is the next that has more than one candidate
abbrev pub choose : List ℕ → ℕ → List (List (List ℕ)) → Image
choose choice i [] = []
choose choice i (cs ∷ rest) = taken choice i cs ∷ choose choice (if nat_lt 1 (length cs) then i + 1 else i) rest

abbrev pub all_candidates : Image → List Change → List (List (List ℕ))
all_candidates start changes = map (λ p. candidates p.0 changes (p.1 ∷ [])) (enumerate_from 0 start)

-- a device over such a disk
abbrev pub disk_state : (sectors : ℕ) (content start : Image) (changes : List Change) (faults syncs reads : ℕ) → State
disk_state sectors content start changes faults syncs reads = record {
  sectors = sectors;
  content = Some content;
  leaves_now = MayLeave start changes;
  left_since = LeftSince start changes;
  moment = length changes ∷ [];
  tells_images = Unit {0};
  faults = faults;
  syncs = syncs;
  reads = reads;
}
