-- What reading the superblock of a log device answers. What it says of the bytes holds where the device tells them.
use Rattle.std.specs.Prelude.{ℕ, ◌≡◌, ◌≢◌, ◌⊎◌, ◌<◌, ◌≤◌, ◌^◌, IfSome, Some, []}
use Rattle.wb_geometry.specs.Image.{Image}
use Rattle.wb_geometry.specs.Layout.{log_sectors}
use Rattle.wb_geometry.specs.Device.{State, next_count}
use Rattle.wb_geometry.specs.declared.geometry.Geometry.{Geometry}
use Rattle.wb_super.specs.Superblock.{SuperText, record_of, HasMagic, HasVersion, HasSum, HasGeometry, Describes, version_in, stored_sum, computed_sum}
use Rattle.wb_super.specs.declared.reading.Super.{Super}
use Rattle.wb_super.specs.declared.reading.SuperRefused.{SuperRefused}
use Rattle.wb_super.specs.declared.reading.SuperRefused.TheVariants as refused

-- the greatest record that is taken
abbrev pub most_record : ℕ
most_record = 2 ^ 62

-- the device has sectors enough for the superblock and the record
abbrev pub HasFront : State → Type 0
HasFront s = 2048 ≤ s.sectors

-- the superblock is good, of this geometry, and the device has the sectors that it asks for
pub record IsFormattedFor (s : State) (g : Geometry) : Type 0 where
  pub room : log_sectors g ≤ s.sectors
  pub text : IfSome s.content (λ x. SuperText x g 1)

-- the superblock and the record are these
pub record IsSuper (s : State) (found : Super) : Type 0 where
  pub version : found.version ≡ 1
  pub formatted : IsFormattedFor s found.geometry
  pub number : IfSome s.content (λ x. record_of x ≡ found.recorded)
  pub bounded : found.recorded ≤ most_record

-- the first cause to refuse the fields of sector 0: each says that none before it applies
abbrev pub RefusesFields : Image → SuperRefused → Type 0
RefusesFields x refused.Magic = HasMagic x → ⊥
RefusesFields x (refused.Version found) = HasMagic x × (version_in x ≡ found) × (found ≢ 1)
RefusesFields x (refused.Sum stored computed) =
    HasVersion x × (stored_sum x ≡ stored) × (computed_sum x ≡ computed) × (stored ≢ computed)
RefusesFields x refused.Geometry = HasSum x × ((g : Geometry) → Describes x g → ⊥)
RefusesFields x (refused.Small needs has) = ⊥
RefusesFields x refused.Fault = ⊥
RefusesFields x (refused.Record found) = ⊥

-- The first cause to refuse a superblock. A fault may come at either of the two sectors that are read.
abbrev pub Refuses : State → SuperRefused → Type 0
Refuses s (refused.Small needs has) = (has ≡ s.sectors) × (has < needs) × ((needs ≡ 2048)
    ⊎ (HasFront s × ((g : Geometry) × (needs ≡ log_sectors g) × IfSome s.content (λ x. HasGeometry x g))))
Refuses s refused.Fault = HasFront s
Refuses s refused.Magic = HasFront s × IfSome s.content (λ x. RefusesFields x refused.Magic)
Refuses s (refused.Version found) =
    HasFront s × (found ≢ 1) × IfSome s.content (λ x. RefusesFields x (refused.Version found))
Refuses s (refused.Sum stored computed) =
    HasFront s × (stored ≢ computed) × IfSome s.content (λ x. RefusesFields x (refused.Sum stored computed))
Refuses s refused.Geometry = HasFront s × IfSome s.content (λ x. RefusesFields x refused.Geometry)
Refuses s (refused.Record found) =
    (most_record < found) × ((g : Geometry) × IsFormattedFor s g) × IfSome s.content (λ x. record_of x ≡ found)

-- A fault came at the first sector that was read, or at the second, which is read only behind a good superblock.
pub record FaultsInTurn (old new : State) : Type 0 where
  pub turn : (new.reads ≡ next_count old.reads)
      ⊎ ((new.reads ≡ next_count (next_count old.reads)) × ((g : Geometry) × IsFormattedFor old g))

-- a device of so many sectors that tells this content, and no crash images
abbrev pub telling : (sectors : ℕ) → Image → State
telling sectors x = record {
  sectors = sectors;
  content = Some x;
  leaves_now = λ _. ⊥;
  left_since = λ _ _. ⊥;
  moment = [];
  tells_images = ⊥;
  faults = 0;
  syncs = 0;
  reads = 0;
}
