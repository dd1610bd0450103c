-- Where a place stands in a history that is cut into segments.
use Rattle.std.proofs.Common.{ℕ, ◌≡◌, ◌+◌, ◌-◌, ◌*◌, ◌/◌, ◌%◌, ◌<◌, List, get_or, drop, ap, ◌∙◌, arith}
use Rattle.std.proofs.Math.Nat.{div-add-mod, mod-lt}
use Rattle.std.proofs.lemmas.List.{get_or-drop, get_or-take}
use Rattle.wb_geometry.specs.History.{HistoryEntry}
use Rattle.wb_geometry.specs.Layout.{places, segment_of}
use Rattle.wb_geometry.specs.Line.{segment}
use Rattle.wb_geometry.specs.declared.geometry.Geometry.{Geometry}
use Rattle.wb_geometry.proofs.Geometries.{places_few}

-- the segment that is that of a place has the entry of the place
pub in_its_segment : (g : Geometry) (first p : ℕ) (h : List HistoryEntry) (other : HistoryEntry)
    → get_or (segment (places g) first h (segment_of g p first)) (p % places g) other ≡ get_or h p other
in_its_segment g first p h other =
    let n : ℕ = places g in
    let some : 0 < n = omega (arith, (places_few g).0) in
    let before : segment_of g p first - (first + 1) ≡ p / n = omega arith in
    get_or-take n (drop (n * (segment_of g p first - (first + 1))) h) (p % n) other (mod-lt p some)
    ∙ get_or-drop (n * (segment_of g p first - (first + 1))) h (p % n) other
    ∙ ap (λ (k : ℕ). get_or h (n * k + p % n) other) before
    ∙ ap (λ (k : ℕ). get_or h k other) (div-add-mod p n)
