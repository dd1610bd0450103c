-- The numbers of a geometry; those of the same numbers are the same.
use Rattle.std.proofs.Common.{◌≡◌, ◌≤◌, ◌-◌, ◌*◌, ◌%◌, ◌^◌, ℕ, ap, subst, arith}
use Rattle.std.proofs.Math.Pow.{pow_mono}
use Rattle.wb_geometry.specs.Layout.{places}
use Rattle.std.proofs.Props.{props}
use Rattle.wb_geometry.specs.Geometry.{IsOrder, IsSlots, IsRam, IsBacking}
use Rattle.wb_geometry.specs.declared.geometry.Geometry.{Geometry}

abbrev Numbers : Type 0
Numbers = ℕ × ℕ × ℕ × ℕ

abbrev Fit : Numbers → Type 0
Fit n = IsOrder n.0 × IsSlots n.1 × IsRam n.2 × IsBacking n.3

abbrev geometry_of : (n : Numbers) → Fit n → Geometry
geometry_of n fit = record {
  order = n.0;
  slots = n.1;
  ram = n.2;
  backing_sectors = n.3;
  order_fits = fit.0;
  slots_fit = fit.1;
  ram_fits = fit.2;
  backing_fits = fit.3;
}

Fit-prop : (n : Numbers) → IsProp (Fit n)
Fit-prop n = hlevel props

one_of_numbers : (m n : Numbers) (fit : Fit m) (fits : Fit n) → m ≡ n → geometry_of m fit ≡ geometry_of n fits
one_of_numbers m n fit fits same =
    subst (λ (k : Numbers). (w : Fit k) → geometry_of m fit ≡ geometry_of k w) same (λ w. ap (geometry_of m) (Fit-prop m fit w)) fits

pub same_numbers : (g h : Geometry) → g.order ≡ h.order → g.slots ≡ h.slots → g.ram ≡ h.ram → g.backing_sectors ≡ h.backing_sectors → g ≡ h
same_numbers g h order slots ram backing =
    one_of_numbers (g.order, g.slots, g.ram, g.backing_sectors) (h.order, h.slots, h.ram, h.backing_sectors)
    (g.order_fits, g.slots_fit, g.ram_fits, g.backing_fits) (h.order_fits, h.slots_fit, h.ram_fits, h.backing_fits) (cc)

-- a power of two for a segment's places, and a sector for the header
powers : (order : ℕ) → 4 ≤ order → order ≤ 10 → (2 ≤ 2 ^ (order - 3)) × (2 ^ (order - 3) ≤ 128)
powers order low high =
    let l : 1 ≤ order - 3 = omega (arith, low) in
    let h : order - 3 ≤ 7 = omega (arith, high) in
    (pow_mono l, pow_mono h)

-- a segment has 1 to 127 places
pub places_few : (g : Geometry) → (1 ≤ places g) × (places g ≤ 127)
places_few g =
    let p : (2 ≤ 2 ^ (g.order - 3)) × (2 ^ (g.order - 3) ≤ 128) = powers g.order g.order_fits.0 g.order_fits.1 in
    let l : 1 ≤ 2 ^ (g.order - 3) - 1 = omega (arith, p.0) in
    let h : 2 ^ (g.order - 3) - 1 ≤ 127 = omega (arith, p.1) in
    (l, h)

-- the code's shift, which doesn't leave its width
pub places_shifted : (g : Geometry) → 1 * 2 ^ (g.order - 3) % 18446744073709551616 - 1 ≡ places g
places_shifted g =
    let p : (2 ≤ 2 ^ (g.order - 3)) × (2 ^ (g.order - 3) ≤ 128) = powers g.order g.order_fits.0 g.order_fits.1 in
    omega (arith, p.0, p.1)
