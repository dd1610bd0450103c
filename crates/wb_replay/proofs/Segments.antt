-- The bytes of a slot, read and checked.
use Rattle.std.proofs.Common.{ℕ, suc, ◌≡◌, ◌+◌, ◌-◌, ◌*◌, ◌/◌, ◌%◌, ◌<◌, ◌≤◌, List, [], length, take, drop, Some, ap, ◌∙◌, subst, arith}
use Rattle.std.proofs.Math.Seq.{drop-cons, take-append-le}
use Rattle.wb_geometry.specs.Image.{Image, IsImage, sector, bytes_at, bytes_of}
use Rattle.wb_geometry.specs.Device.{State, IsDevice, IsInside, HoldsContent}
use Rattle.wb_geometry.specs.Layout.{places, slot_sectors, slot_start, log_sectors}
use Rattle.wb_geometry.specs.declared.geometry.Geometry.{Geometry}
use Rattle.wb_geometry.proofs.Geometries.{places_few}
use Rattle.wb_geometry.proofs.Slots.{slot_blocks, slot_inside}
use Rattle.wb_header.specs.Text.{TextBlock, IsText}
use Rattle.wb_header.specs.Refused.{Refuses, front_of}
use Rattle.wb_header.specs.Slots.{HoldsText}
use Rattle.wb_header.specs.declared.checking.Refused.{Refused}
use Rattle.wb_crash.proofs.Reading.{found_in_slot}
use Rattle.wb_replay.specs.Replaying.{RefusesSlot}

-- a slot is a header and as many blocks as there are places
pub slot_size : (g : Geometry) (bytes : List ℕ) → length bytes ≡ 512 * slot_sectors g → length bytes ≡ 4096 * (1 + places g)
slot_size g bytes size = omega (arith, size, slot_blocks g)

pub slot_parts : (g : Geometry) (bytes : List ℕ) → length bytes ≡ 512 * slot_sectors g → (length bytes % 4096 ≡ 0) × (2 ≤ length bytes / 4096) × (length bytes / 4096 ≤ 128)
slot_parts g bytes size = (
  omega (arith, slot_size g bytes size),
  omega (arith, slot_size g bytes size, (places_few g).0),
  omega (arith, slot_size g bytes size, (places_few g).1),
)

room_is : (g : Geometry) (bytes : List ℕ) → length bytes ≡ 512 * slot_sectors g → length bytes / 4096 - 1 ≡ places g
room_is g bytes size = omega (arith, slot_size g bytes size)

-- the read of a slot
pub slot_read_inside : {s : State} (g : Geometry) (id at : ℕ) (bytes : List ℕ) → log_sectors g ≤ s.sectors → length bytes ≡ 512 * slot_sectors g → at ≡ slot_start g id → IsInside at bytes s
slot_read_inside {s} g id at bytes room size start = record {
  whole = omega (arith, slot_size g bytes size);
  some = omega (arith, slot_size g bytes size);
  inside = omega (arith, size, start, room, slot_inside g id (slot_sectors g) (omega arith));
}

slot_read : {s : State} (g : Geometry) (id at : ℕ) (bytes : List ℕ) → length bytes ≡ 512 * slot_sectors g → at ≡ slot_start g id → HoldsContent at bytes s
    → (x : Image) → s.content ≡ Some x → bytes ≡ bytes_at x (slot_start g id) (slot_sectors g)
slot_read {s} g id at bytes size start holds x told =
    let count : length bytes / 512 ≡ slot_sectors g = omega (arith, size) in
    holds.told x told ∙ ap (bytes_at x at) count ∙ ap (λ (n : ℕ). bytes_at x n (slot_sectors g)) start

-- what the check finds stands there
pub text_held : {s : State} (g : Geometry) (id at : ℕ) (bytes text : List ℕ) (blocks : List TextBlock) → IsDevice s → log_sectors g ≤ s.sectors → length bytes ≡ 512 * slot_sectors g
    → at ≡ slot_start g id → HoldsContent at bytes s → text ≡ front_of bytes → IsText (length bytes / 4096 - 1) (g.backing_sectors / 8) text id blocks
    → (x : Image) → s.content ≡ Some x → HoldsText g x id blocks
text_held {s} g id at bytes text blocks device room size start holds front is x told =
    found_in_slot g s.sectors x id blocks (device.content x told) room
    (subst (λ (b : List ℕ). IsText (places g) (g.backing_sectors / 8) (front_of b) id blocks) (slot_read g id at bytes size start holds x told)
    (subst (λ (b : List ℕ). IsText (places g) (g.backing_sectors / 8) b id blocks) front
    (subst (λ (n : ℕ). IsText n (g.backing_sectors / 8) text id blocks) (room_is g bytes size) is)))

-- where it refuses them the slot is refused
pub slot_refused : {s : State} (g : Geometry) (id at : ℕ) (bytes : List ℕ) (refused : Refused) → length bytes ≡ 512 * slot_sectors g
    → at ≡ slot_start g id → HoldsContent at bytes s → Refuses (length bytes / 4096 - 1) (g.backing_sectors / 8) id bytes refused
    → (x : Image) → s.content ≡ Some x → RefusesSlot g x id refused
slot_refused {s} g id at bytes refused size start holds is x told =
    subst (λ (b : List ℕ). Refuses (places g) (g.backing_sectors / 8) id b refused) (slot_read g id at bytes size start holds x told)
    (subst (λ (n : ℕ). Refuses n (g.backing_sectors / 8) id bytes refused) (room_is g bytes size) is)

-- the first bytes of a slot
pub front_bytes : (n : ℕ) (x : Image) (at count : ℕ) → IsImage n x → at < n → 1 ≤ count → take 8 (bytes_at x at count) ≡ take 8 (sector x at)
front_bytes n x at count image inside some =
    let size : length (sector x at) ≡ 512 = image.whole at inside in
    let m : ℕ = count - 1 in
    let is : count ≡ suc m = omega (arith, some) in
    ap (λ (k : ℕ). take 8 (bytes_at x at k)) is
    ∙ ap (λ (xs : Image). take 8 (bytes_of (take (suc m) xs))) (drop-cons x at [] (omega (arith, inside, image.size)))
    ∙ take-append-le 8 (sector x at) (bytes_of (take m (drop (suc at) x))) (omega (arith, size))
