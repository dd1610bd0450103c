-- What recovery makes of the images that a crash leaves in the course of a call.
use Rattle.std.specs.Prelude.{ℕ, ◌≡◌, ◌≢◌, ◌+◌, ◌<◌, ◌≤◌, List, Some}
use Rattle.wb_geometry.specs.Image.{Image}
use Rattle.wb_geometry.specs.Device.{State}
use Rattle.wb_geometry.specs.History.{HistoryEntry, last_write}
use Rattle.wb_geometry.specs.Layout.{slot_start}
use Rattle.wb_geometry.specs.Line.{Line, image}
use Rattle.wb_geometry.specs.declared.geometry.Geometry.{Geometry}
use Rattle.wb_header.specs.Slots.{IsTextOf}
use Rattle.wb_super.specs.Recording.{RecordsOrNot}
use Rattle.wb_super.specs.Superblock.{SuperText, record_of}
use Rattle.wb_crash.specs.Chain.{IsRecovered, SumHolds, IsTidy}
use Rattle.wb_crash.specs.declared.numbers.Numbers.{Numbers}

-- Recovery takes the log image: its superblock is good, and no slot has an id too high. And where no torn text has its
-- checksum by chance, it makes of x and y the image after exactly the first k segments, for a k from `low` to `high`.
pub record RecoversBetween (g : Geometry) (line : Line) (low high : ℕ) (x y : Image) : Type 0 where
  pub super : SuperText x g 1
  pub tidy : IsTidy g x
  pub makes : SumHolds g line x low high → (k : ℕ) × (low ≤ k) × (k ≤ high) × IsRecovered g x y (image line k)

-- Whatever a crash in the course of a call leaves of the log, and whatever one leaves of the backing device, also at another
-- moment of it.
pub record CrashInCall (g : Geometry) (line : Line) (low high : ℕ) (log new_log backing new_backing : State) : Type 0 where
  pub each : (x y : Image) → new_log.left_since log.moment x → new_backing.left_since backing.moment y → RecoversBetween g line low high x y

-- for each image of either that is left now
pub record CrashNow (g : Geometry) (line : Line) (low high : ℕ) (log backing : State) : Type 0 where
  pub each : (x y : Image) → log.leaves_now x → backing.leaves_now y → RecoversBetween g line low high x y

-- the text of the next segment, for its slot, which is free
pub record IsNextText (g : Geometry) (line : Line) (e : Numbers) (at : ℕ) (text : Image) : Type 0 where
  pub room : e.tried < e.recorded + g.slots
  pub slot : at ≡ slot_start g (e.tried + 1)
  pub is : IsTextOf g (line.list (e.tried + 1)) (e.tried + 1) text

-- the entries write each sector as the others do
abbrev pub WritesAlike : List HistoryEntry → List HistoryEntry → Type 0
WritesAlike entries others = (i : ℕ) → last_write i entries ≡ last_write i others

-- A crash in the course of recovery, from nothing pending and a log content x0, where z is what recovery makes of the
-- contents: the log is as it was but for the record, which is the old one or the one behind all slots; with the old one
-- recovery makes z again, and with the new one z is all that the backing device may leave.
pub record CrashInRecover (g : Geometry) (x0 z : Image) (log new_log backing new_backing : State) : Type 0 where
  pub log_left : (x : Image) → new_log.left_since log.moment x → RecordsOrNot (record_of x0 + g.slots) x0 x
  pub old_record : (x y : Image) → new_log.left_since log.moment x → new_backing.left_since backing.moment y
      → record_of x ≡ record_of x0 → IsRecovered g x y z
  pub new_record : (x y : Image) → new_log.left_since log.moment x → record_of x ≢ record_of x0 → new_backing.leaves_now y → y ≡ z

-- recovery makes z of the contents, where they are told
pub record MakesOfContents (g : Geometry) (z : Image) (log backing : State) : Type 0 where
  pub each : (x y : Image) → log.content ≡ Some x → backing.content ≡ Some y → IsRecovered g x y z
