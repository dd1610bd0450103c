-- The state of a device, and how a call leads from one state to the next.
use Rattle.std.specs.Prelude.{ℕ, ◌≡◌, ◌⊎◌, ◌↔◌, ◌+◌, ◌-◌, ◌/◌, ◌%◌, ◌^◌, ◌≤◌, IsSome, List, length, slice_index, min, max, Option, Some, Result, OnOk, OnErr}
use Rattle.wb_geometry.specs.Image.{Image, IsImage, bytes_at}

-- A device at one point of its run. `left_since m` holds of each image that a crash at some moment from m until
-- now may have left. Whether it tells such images is a proposition; a device that tells none leaves none.
pub record State : Type 1 where
  pub sectors : ℕ
  pub content : Option Image
  pub leaves_now : Image → Type 0
  pub left_since : List ℕ → Image → Type 0
  pub moment : List ℕ
  pub tells_images : Type 0
  pub faults : ℕ
  pub syncs : ℕ
  pub reads : ℕ

-- the count after this one, which ends at 2 ^ 64 - 1
abbrev pub next_count : ℕ → ℕ
next_count n = max n (min (n + 1) (2 ^ 64 - 1))

-- the count has risen, or stands at its end
abbrev pub Rose : ℕ → ℕ → Type 0
Rose before now = min (before + 1) (2 ^ 64 - 1) ≤ now

-- A count of faults over a call: it never falls, an `Err` comes only where it rose, and at `Ok` it stays.
pub record CountsFaults {T E : Type 0} (before now : ℕ) (result : Result T E) : Type 0 where
  pub later : before ≤ now
  pub failed : OnErr result (Rose before now)
  pub kept : OnOk result (now ≡ before)

-- the same of a device's faults
abbrev pub HasCause : {T E : Type 0} → State → State → Result T E → Type 0
HasCause old new result = CountsFaults old.faults new.faults result

-- The same of a call that may also end in another way: the count rose where a fault ended it, and else it stays.
pub record CountsFaultsWhere (Failed : Type 0) (before now : ℕ) : Type 0 where
  pub later : before ≤ now
  pub failed : Failed → Rose before now
  pub kept : (Failed → ⊥) → now ≡ before

-- moment m is no later than n: it has as many parts, each no later
pub record IsNotAfter (m n : List ℕ) : Type 0 where
  pub parts : length m ≡ length n
  pub each : (i : ℕ) → slice_index m i ≤ slice_index n i

-- a crash now leaves the content alone
pub record NothingPending (s : State) : Type 0 where
  pub only : (x : Image) → s.leaves_now x → s.content ≡ Some x

-- From old to new, by a step: a crash now leaves what comes by the step from an image that it might have left at old;
-- and one at a moment before now leaves such an image, or what it had left before. So the step relates an image to
-- itself too, wherever nothing may have been done yet.
pub record Passes (Step : Image → Image → Type 0) (old new : State) : Type 0 where
  pub later : IsNotAfter old.moment new.moment
  pub now : (y : Image) → new.leaves_now y → (x : Image) × old.leaves_now x × Step x y
  pub since : (m : List ℕ) (y : Image) → IsNotAfter m old.moment → new.left_since m y
      → old.left_since m y ⊎ ((x : Image) × old.leaves_now x × Step x y)
  pub keeps : (m : List ℕ) (y : Image) → IsNotAfter m old.moment → old.left_since m y → new.left_since m y

-- each image that a crash at some moment from old to new may have left has P
pub record LeavesOnly (P : Image → Type 0) (old new : State) : Type 0 where
  pub each : (x : Image) → new.left_since old.moment x → P x

-- where the old content is told, so is the new one, and the step leads from the one to the other; and the other way round
pub record ContentPasses (Step : Image → Image → Type 0) (old new : State) : Type 0 where
  pub told : (x : Image) → old.content ≡ Some x → (y : Image) × (new.content ≡ Some y) × Step x y
  pub from : (y : Image) → new.content ≡ Some y → (x : Image) × (old.content ≡ Some x) × Step x y

-- what no call changes
pub record IsSameDevice (old new : State) : Type 0 where
  pub size : new.sectors ≡ old.sectors
  pub told : new.tells_images ↔ old.tells_images

-- only reads were made: neither the content changed nor what a crash may leave
pub record OnlyRead (old new : State) : Type 0 where
  pub content : new.content ≡ old.content
  pub crash : Passes (λ x y. y ≡ x) old new
  pub left : (x : Image) → old.leaves_now x → new.leaves_now x
  pub syncs : new.syncs ≡ old.syncs
  pub same : IsSameDevice old new

-- nothing shows that it was called: only reads could have been made, and neither they nor faults were counted
pub record IsUncalled (old new : State) : Type 0 where
  pub only_read : OnlyRead old new
  pub faults : new.faults ≡ old.faults
  pub reads : new.reads ≡ old.reads

-- whole sectors, at least one, inside the device
pub record IsInside (at : ℕ) (bytes : List ℕ) (s : State) : Type 0 where
  pub whole : length bytes % 512 ≡ 0
  pub some : 512 ≤ length bytes
  pub inside : at + length bytes / 512 ≤ s.sectors

-- the bytes of the sectors from `at` on, as many as there is room for
pub record HoldsContent (at : ℕ) (into : List ℕ) (s : State) : Type 0 where
  pub told : (x : Image) → s.content ≡ Some x → into ≡ bytes_at x at (length into / 512)

-- what holds of each device
pub record IsDevice (s : State) : Type 0 where
  pub content : (x : Image) → s.content ≡ Some x → IsImage s.sectors x
  pub now : (x : Image) → s.leaves_now x → IsImage s.sectors x
  pub since : (m : List ℕ) (x : Image) → s.left_since m x → IsImage s.sectors x
  -- the content is one of the images
  pub left : s.tells_images → (x : Image) → s.content ≡ Some x → s.leaves_now x
  -- this moment is one of those since an earlier one, and since this one there is no other
  pub counts_now : (m : List ℕ) (x : Image) → IsNotAfter m s.moment → s.leaves_now x → s.left_since m x
  pub only_now : (x : Image) → s.left_since s.moment x → s.leaves_now x
  -- what was left since a later moment was left since an earlier one
  pub wider : (m n : List ℕ) (x : Image) → IsNotAfter m n → IsNotAfter n s.moment → s.left_since n x → s.left_since m x
  -- a device that tells its images tells its content, and an image that is left shows that they are told
  pub told : s.tells_images → IsSome s.content
  pub shown : (m : List ℕ) (x : Image) → s.left_since m x → s.tells_images
