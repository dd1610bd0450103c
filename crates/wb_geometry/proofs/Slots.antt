-- Where the slots of a log lie: apart from one another, and behind the superblock and the record.
use Rattle.std.proofs.Common.{ℕ, suc, ◌≡◌, ◌≢◌, ◌⊎◌, ◌+◌, ◌-◌, ◌*◌, ◌/◌, ◌%◌, ◌^◌, ◌<◌, ◌≤◌, inl, inr, ap, sym, ◌∙◌, arith}
use Rattle.std.proofs.Math.Nat.{mul-suc, mul-le-mul_left, div-add-mod, mod-lt}
use Rattle.std.proofs.lemmas.Bool.{cases_lt}
use Rattle.std.proofs.lemmas.Nat.{pow-add}
use Rattle.wb_geometry.specs.Layout.{places, slot_sectors, slot_at, slot_start, log_sectors}
use Rattle.wb_geometry.specs.declared.geometry.Geometry.{Geometry}
use Rattle.wb_geometry.proofs.Geometries.{places_few}

-- a slot has room for a header and as many blocks as a segment has places
pub slot_blocks : (g : Geometry) → slot_sectors g ≡ 8 * (1 + places g)
slot_blocks g =
    let parts : g.order - 3 + 3 ≡ g.order = omega (arith, g.order_fits.0) in
    let size : 2 ^ g.order ≡ 2 ^ (g.order - 3) * 2 ^ 3 = ap (λ (n : ℕ). 2 ^ n) (sym parts) ∙ pow-add 2 (g.order - 3) 3 in
    omega (arith, size, (places_few g).0)

-- the slot of a segment is one of the log's
pub slot_below : (g : Geometry) (id : ℕ) → (id - 1) % g.slots < g.slots
slot_below g id = mod-lt (id - 1) (omega (arith, g.slots_fit.0))

-- one slot ends before the next begins
pub slots_follow : (g : Geometry) (i j : ℕ) → i < j → slot_at g i + slot_sectors g ≤ slot_at g j
slots_follow g i j less = omega (arith, mul-suc (slot_sectors g) i, mul-le-mul_left {m = suc i} {n = j} (slot_sectors g) less)

-- the log has room for each slot
pub slot_inside : (g : Geometry) (id n : ℕ) → n ≤ slot_sectors g → slot_start g id + n ≤ log_sectors g
slot_inside g id n few = omega (arith, few, slots_follow g ((id - 1) % g.slots) g.slots (slot_below g id))

-- a sector of a slot isn't among the first n of another
pub elsewhere : (g : Geometry) (i j k n : ℕ) → i ≢ j → n ≤ slot_sectors g → k < slot_sectors g → (slot_at g i + k < slot_at g j) ⊎ (slot_at g j + n ≤ slot_at g i + k)
elsewhere g i j k n other few below = elim (cases_lt i j) [
  | inl before ↦ inl (omega (arith, slots_follow g i j before))
  | inr from ↦ elim (cases_lt j i) [
    | inl behind ↦ inr (omega (arith, slots_follow g j i behind))
    | inr same ↦ absurd (other (omega arith))
  ]
]

-- segments that are fewer apart than there are slots have others
pub slots_differ : (g : Geometry) (s t : ℕ) → 1 ≤ s → s < t → t < s + g.slots → (s - 1) % g.slots ≢ (t - 1) % g.slots
slots_differ g s t some less near same =
    let first = div-add-mod (s - 1) g.slots in
    let second = div-add-mod (t - 1) g.slots in
    elim (cases_lt ((s - 1) / g.slots) ((t - 1) / g.slots)) [
      | inl before ↦ omega (arith, first, second, same, mul-suc g.slots ((s - 1) / g.slots), mul-le-mul_left {m = suc ((s - 1) / g.slots)} {n = (t - 1) / g.slots} g.slots before)
      | inr from ↦ omega (arith, first, second, same, mul-le-mul_left {m = (t - 1) / g.slots} {n = (s - 1) / g.slots} g.slots from)
    ]

-- The slots of two segments lie apart where their ids differ by less than there are slots.
abbrev pub AreApart : Geometry → (id other : ℕ) → Type 0
AreApart g id other = (slot_start g id + slot_sectors g ≤ slot_start g other) ⊎ (slot_start g other + slot_sectors g ≤ slot_start g id)

pub slots_apart : (g : Geometry) (id other : ℕ) → 1 ≤ id → 1 ≤ other → id ≢ other → id < other + g.slots → other < id + g.slots
    → AreApart g id other
slots_apart g id other named other_named differ near other_near =
    let i : ℕ = (id - 1) % g.slots in
    let j : ℕ = (other - 1) % g.slots in
    let unlike : i ≢ j = λ same. elim (cases_lt id other) [
      | inl before ↦ slots_differ g id other named before other_near same
      | inr from ↦ slots_differ g other id other_named (omega (arith, from, differ)) near (sym same)
    ] in
    elim (cases_lt i j) [
      | inl before ↦ inl (slots_follow g i j before)
      | inr from ↦ inr (slots_follow g j i (omega (arith, from, unlike)))
    ]
