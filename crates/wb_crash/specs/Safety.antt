-- What the devices of an engine show: each half by the numbers, and nothing of the other device.
use Rattle.std.specs.Prelude.{ℕ, ◌≡◌, ◌⊎◌, ◌<◌, ◌≤◌, Some}
use Rattle.wb_geometry.specs.Image.{Image}
use Rattle.wb_geometry.specs.Device.{State}
use Rattle.wb_geometry.specs.Line.{Line}
use Rattle.wb_geometry.specs.declared.geometry.Geometry.{Geometry}
use Rattle.wb_super.specs.Superblock.{SuperText, record_of, header_id}
use Rattle.wb_crash.specs.Images.{IsOrdered, HoldsSegment, IsLogImage, IsBackingImage}
use Rattle.wb_crash.specs.declared.numbers.Numbers.{Numbers}

-- The device shows the image: it tells it as its content, or a crash now may leave it.
abbrev pub Shows : State → Image → Type 0
Shows s x = (s.content ≡ Some x) ⊎ s.leaves_now x

-- All that is logged and isn't recorded stands in the log's content, and each image that the log shows is one of an engine's
-- log.
pub record IsLogSafe (g : Geometry) (line : Line) (e : Numbers) (log : State) : Type 0 where
  pub logged : (x : Image) → log.content ≡ Some x → (s : ℕ) → e.recorded < s → s ≤ e.logged → HoldsSegment g line x s
  pub shown : (x : Image) → Shows log x → IsLogImage g line e x

-- each image that the backing device shows is one of an engine's backing device
pub record IsBackingSafe (line : Line) (e : Numbers) (backing : State) : Type 0 where
  pub shown : (y : Image) → Shows backing y → IsBackingImage line e y

-- The numbers are in order, the line begins where the session did, and by them each of the two devices is safe.
pub record IsSafe (g : Geometry) (line : Line) (e : Numbers) (log backing : State) : Type 0 where
  pub ordered : IsOrdered g e
  pub start : line.first ≡ e.first
  pub on_log : IsLogSafe g line e log
  pub on_backing : IsBackingSafe line e backing

-- the lines agree up to segment k
pub record IsSameUpTo (k : ℕ) (a b : Line) : Type 0 where
  pub start : b.first ≡ a.first
  pub base : b.base ≡ a.base
  pub list : (s : ℕ) → a.first < s → s ≤ k → b.list s ≡ a.list s

-- a log image as an engine finds it that begins at the record n
pub record IsFresh (g : Geometry) (n : ℕ) (x : Image) : Type 0 where
  pub super : SuperText x g 1
  pub number : record_of x ≡ n
  pub newest : (slot : ℕ) → slot < g.slots → header_id g x slot ≤ n
