-- A request, taken apart from its front.
use Rattle.std.proofs.Common.{ℕ, suc, zero, ◌≡◌, ◌+◌, ◌-◌, ◌*◌, ◌/◌, ◌%◌, ◌≤◌, List, ◌∷◌, map, min, inl, inr, refl, ap, sym, ◌∙◌, arith}
use Rattle.std.specs.List.{range_with_len}
use Rattle.std.proofs.lemmas.Bool.{cases_lt}
use Rattle.wb_geometry.specs.Requests.{part_in, blocks_touched, parts}
use Rattle.wb_geometry.specs.declared.request.Part.{Part}
use Rattle.wb_geometry.proofs.Histories.{IsPartOf, blocks_touched-some}

same_part : (b f c g d : ℕ) → f ≡ g → c ≡ d → let p : Part = record { block = b; from = f; count = c } in let q : Part = record { block = b; from = g; count = d } in p ≡ q
same_part b f c g d from count = cc

-- Where two requests end at one sector, each block behind the first sector of both has the same part of both.
same_parts : (s n t m b k : ℕ) → s + n ≡ t + m → s ≤ 8 * b → t ≤ 8 * b → map (part_in s n) (range_with_len b k) ≡ map (part_in t m) (range_with_len b k)
same_parts s n t m b zero same one other = refl
same_parts s n t m b (suc k) same one other =
    let head : part_in s n b ≡ part_in t m b = same_part b _ _ _ _ (omega (arith, one, other)) (omega (arith, one, other, same)) in
    ap (λ (p : Part). p ∷ map (part_in s n) (range_with_len (b + 1) k)) head
    ∙ ap (λ (ps : List Part). part_in t m b ∷ ps) (same_parts s n t m (b + 1) k same (omega (arith, one)) (omega (arith, other)))

-- so many sectors of a request lie in its first block
abbrev pub first_count : (s n : ℕ) → ℕ
first_count s n = min (8 - s % 8) n

-- its part in that block
abbrev pub first_part : (s n : ℕ) → Part
first_part s n = record { block = s / 8; from = s % 8; count = first_count s n }

rest_parts : (s n : ℕ) → 1 ≤ n → map (part_in s n) (range_with_len (s / 8 + 1) ((s + n - 1) / 8 - s / 8)) ≡ parts (s + first_count s n) (n - first_count s n)
rest_parts s n some = elim (cases_lt (8 - s % 8) n) [
  | inl more ↦
      let t : ℕ = s + first_count s n in
      let m : ℕ = n - first_count s n in
      let next : t / 8 ≡ s / 8 + 1 = omega arith in
      let blocks : (s + n - 1) / 8 - s / 8 ≡ blocks_touched t m = omega (arith, blocks_touched-some t m (omega arith), next) in
      same_parts s n t m (s / 8 + 1) ((s + n - 1) / 8 - s / 8) (omega arith) (omega arith) (omega arith)
      ∙ ap (λ (k : ℕ). map (part_in t m) (range_with_len (s / 8 + 1) k)) blocks
      ∙ ap (λ (b : ℕ). map (part_in t m) (range_with_len b (blocks_touched t m))) (sym next)
  | inr all ↦
      let none : (s + n - 1) / 8 - s / 8 ≡ 0 = omega arith in
      let rest : n - first_count s n ≡ 0 = omega arith in
      ap (λ (k : ℕ). map (part_in s n) (range_with_len (s / 8 + 1) k)) none ∙ ap (λ (k : ℕ). parts (s + first_count s n) k) (sym rest)
]

-- the first part, and the parts of the rest
pub parts-first : (s n : ℕ) → 1 ≤ n → parts s n ≡ first_part s n ∷ parts (s + first_count s n) (n - first_count s n)
parts-first s n some =
    let q : ℕ = (s + n - 1) / 8 - s / 8 in
    ap (λ (k : ℕ). map (part_in s n) (range_with_len (s / 8) k)) (blocks_touched-some s n some)
    ∙ ap (λ (p : Part). p ∷ map (part_in s n) (range_with_len (s / 8 + 1) q)) (same_part (s / 8) _ _ (s % 8) (first_count s n) (omega arith) (omega arith))
    ∙ ap (λ (ps : List Part). first_part s n ∷ ps) (rest_parts s n some)

-- so the first of the parts from one sector up to another, and those that are left behind it
pub next_part : (at end k : ℕ) (ps : List Part) → at ≤ end → (at ≡ end → ⊥) → k ≡ first_count at (end - at) → parts at (end - at) ≡ ps
    → ps ≡ (record { block = at / 8; from = at % 8; count = k }) ∷ parts (at + k) (end - (at + k))
next_part at end k ps low some is was =
    let left : end - (at + k) ≡ end - at - first_count at (end - at) = omega (arith, is) in
    sym was ∙ parts-first at (end - at) (omega (arith, low, some))
    ∙ ap (λ (c : ℕ). (record { block = at / 8; from = at % 8; count = c }) ∷ parts (at + c) (end - at - first_count at (end - at))) (sym is)
    ∙ ap (λ (m : ℕ). (record { block = at / 8; from = at % 8; count = k }) ∷ parts (at + k) m) (sym left)

-- where all sectors of a request are inside a whole number of blocks, so is each block that it touches
pub inside-part : (s n sectors : ℕ) (p : Part) → sectors % 8 ≡ 0 → s + n ≤ sectors → IsPartOf s n p → 8 * p.block + 8 ≤ sectors
inside-part s n sectors p whole inside is = omega (arith, whole, inside, is.some, is.end)
