-- What a device that lists its calls says of them.
use Rattle.std.specs.Prelude.{ℕ, ◌≡◌, List, [], ◌∷◌, ◌++◌, if◌then◌else◌, length, nat_lt, vec_capacity}
use Rattle.wb_geometry.specs.Device.{next_count}
use Rattle.wb_device.specs.declared.listing.CallCounts.{CallCounts}
use Rattle.wb_device.specs.declared.listing.DeviceCall.{DeviceCall}
use Rattle.wb_device.specs.declared.listing.DeviceCall.TheVariants.{Read, Write, Sync}
use Rattle.wb_device.specs.declared.listing.ListingDevice.{ListingDevice}

-- the device that it passes each call on to
abbrev pub device_within : {D : Type 0} → ListingDevice D → D
device_within d = d.inner

abbrev pub listed_calls : {D : Type 0} → ListingDevice D → List DeviceCall
listed_calls d = d.calls.items

-- how many calls it has room to list
abbrev pub listing_room : {D : Type 0} → ListingDevice D → ℕ
listing_room d = vec_capacity d.calls

abbrev pub call_counts : {D : Type 0} → ListingDevice D → CallCounts
call_counts d = d.counts

abbrev pub no_calls : CallCounts
no_calls = record { reads = 0; writes = 0; syncs = 0 }

-- the counts after one more call
abbrev pub counted : DeviceCall → CallCounts → CallCounts
counted (Read at sectors) counts = record counts { reads = next_count counts.reads }
counted (Write at sectors) counts = record counts { writes = next_count counts.writes }
counted Sync counts = record counts { syncs = next_count counts.syncs }

-- The call counts, and is listed behind the others where there is room.
pub record IsListed {D : Type 0} (call : DeviceCall) (old new : ListingDevice D) : Type 0 where
  pub counts : call_counts new ≡ counted call (call_counts old)
  pub calls : listed_calls new ≡ (if nat_lt (length (listed_calls old)) (listing_room old) then listed_calls old ++ call ∷ [] else listed_calls old)
  pub room : listing_room new ≡ listing_room old
