-- The entries of a write, one a part.
use Rattle.std.proofs.Common.{ℕ, suc, ◌≡◌, ◌+◌, ◌*◌, ◌%◌, ◌<◌, ◌≤◌, ◌^◌, List, [], ◌∷◌, length, take, drop, All, refl, ap, arith}
use Rattle.std.proofs.Math.Pow.{pow-lt}
use Rattle.std.proofs.lemmas.List.Elements.{All-cons}
use Rattle.wb_serve.specs.Playing.{IsWriteInside}
use Rattle.wb_geometry.specs.Requests.{parts, entry_of, entries_of}
use Rattle.wb_geometry.specs.declared.request.Part.{Part}
use Rattle.wb_geometry.proofs.Histories.{IsPartOf, IsSplit-parts, length-parts_le}
use Rattle.wb_geometry.proofs.Splits.{inside-part}

-- so few of them
pub few_parts : (client sector count : ℕ) (bytes : List ℕ) → count ≤ 256 → length (entries_of client (parts sector count) bytes) ≤ 33
few_parts client sector count bytes few = omega (arith, sizes (parts sector count) bytes, length-parts_le sector count few)
  where
    sizes : (ps : List Part) (bytes : List ℕ) → length (entries_of client ps bytes) ≡ length ps
    sizes [] bytes = refl
    sizes (p ∷ ps) bytes = ap suc (sizes ps (drop (512 * p.count) bytes))

-- each is a write with a dirty sector, inside a device of so many sectors
pub writes_inside : (client sector count sectors : ℕ) (bytes : List ℕ) → sector + count ≤ sectors → sectors % 8 ≡ 0 → All (IsWriteInside sectors) (entries_of client (parts sector count) bytes)
writes_inside client sector count sectors bytes inside whole = entries (parts sector count) bytes (IsSplit-parts sector count).each
  where
    entries : (ps : List Part) (bytes : List ℕ) → All (IsPartOf sector count) ps → All (IsWriteInside sectors) (entries_of client ps bytes)
    entries [] bytes all = λ k d lt. absurd (omega (arith, lt))
    entries (p ∷ ps) bytes all =
        let first : IsPartOf sector count p = all 0 p (omega arith) in
        let more : 2 ^ p.from < 2 ^ (p.from + p.count) = pow-lt (let up = first.some in omega (arith, up)) in
        All-cons (IsWriteInside sectors) (entry_of client p (take (512 * p.count) bytes)) (entries_of client ps (drop (512 * p.count) bytes))
        ((λ none. omega (arith, none, more)), inside-part sector count sectors p whole inside first)
        (entries ps (drop (512 * p.count) bytes) (λ k d lt. all (suc k) d (omega (arith, lt))))
