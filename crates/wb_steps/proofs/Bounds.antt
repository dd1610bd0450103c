-- How large the numbers of an intake can be, and what an allowed step finds.
use Rattle.std.proofs.Common.{◌≡◌, ◌≢◌, ℕ, zero, suc, ◌+◌, ◌-◌, ◌*◌, ◌/◌, ◌^◌, ◌<◌, ◌≤◌, List, [], ◌∷◌, length, Bool, cond, eqb, sym, ap, refl, ◌∙◌, subst, inl, inr, arith, mul-le-mul_right}
use Rattle.std.specs.List.{Contains, find}
use Rattle.std.specs.Option.{option_map}
use Rattle.std.specs.Prelude.{Some}
use Rattle.std.proofs.lemmas.Bool.{cases_eq, cases_lt, eq-eqb, ne_eqb}
use Rattle.std.proofs.Math.Nat.{lt-div-mul-add}
use mathlib.Core.Option.{some, some-injective, some-ne-none}
use lib.ListN.{get_elem?}
use Rattle.wb_geometry.specs.History.{HistoryEntry, client_of}
use Rattle.wb_steps.specs.Views.{placed}
use Rattle.wb_steps.specs.Rule.{Intake, Home, IsShape, cells, Truth, Owns, Fits, IsSound, IsLawful, holder}
use Rattle.wb_steps.specs.Steps.{named_for}
use Rattle.wb_steps.specs.declared.shape.Shape.{Shape}
use Rattle.wb_steps.specs.declared.view.View.{View}
use Rattle.wb_steps.specs.declared.view.Role.TheVariants.{Owner}
use Rattle.wb_steps.proofs.Cells.{there, stand_segment, at_one}
use Rattle.wb_steps.proofs.Phases.{holder_unfilled}

-- there are fewer than 2^14 cells
pub few_cells : (k : Shape) → IsShape k → cells k ≤ 8128
few_cells k h = let a : k.ram * k.places ≤ 64 * k.places = mul-le-mul_right k.places h.few_segments in let n : ℕ = k.places in let few : n ≤ 127 = h.few_places in let x : ℕ = k.ram * k.places in let a' : x ≤ 64 * n = a in omega (arith, few, a')

-- a place whose segment has an id is below 2^56
small_place : (n q x first : ℕ) → 0 < n → n ≤ 127 → q / n ≡ x → first + 1 + x ≤ 2 ^ 48 → q < 2 ^ 55
small_place n q x first pos few is low =
    let a : q < q / n * n + n = lt-div-mul-add {a = q} {b = n} pos in
    let b : x * n ≤ 2 ^ 48 * n = mul-le-mul_right n (let g : x ≤ 2 ^ 48 = omega arith in g) in
    let y : ℕ = x * n in let a' : q < y + n = subst (λ (z : ℕ). q < z * n + n) is a in let b' : y ≤ 2 ^ 48 * n = b in
    omega (arith, a', b', few)

-- few places are named
pub few_places : (k : Shape) (t : Truth) (words : List ℕ) (homes : List Home) → IsShape k → IsSound k t words homes → length t.log ≤ 2 ^ 55
few_places k t words homes h o = elim (cases_lt 0 (length t.log)) [
  | inl some_place ↦
      let q : ℕ = length t.log - 1 in
      let e = there t.log q (omega arith) in
      let s : k.first + 1 + q / k.places ≤ 2 ^ 48 = stand_segment k q e.0 (o.each_entry q e.0 e.1) in
      let r : q < 2 ^ 55 = small_place k.places q (q / k.places) k.first h.some_place h.few_places refl s in omega (arith, r)
  | inr no_place ↦ omega (arith, no_place)
]

pub few_drained : (k : Shape) (t : Truth) (words : List ℕ) (homes : List Home) → IsShape k → IsSound k t words homes → t.limit ≤ 2 ^ 56
few_drained k t words homes h o =
    let a = few_places k t words homes h o in let b = few_cells k h in let c = Rattle.wb_steps.proofs.Lists.prefix_length t.drained t.log o.behind in omega (arith, a, b, c, o.room)

-- the seat of an unfilled place has the client of its entry
pub client_is : (k : Shape) (s : Intake) (law : IsLawful k s) (id : ℕ) (v : View) (p : ℕ) (e : HistoryEntry) → get_elem? s.views id ≡ some v → length law.truth.drained ≤ p → get_elem? law.truth.log p ≡ some e → holder (law.truth.phase p) ≡ suc id → client_of e ≡ v.client
client_is k s law id v p e at low here hold =
    let seat = law.sound.each_holder p e id low here hold in
    let owned = law.each_client (client_of e) (Rattle.wb_steps.proofs.Cells.All_at (λ e. client_of e < law.truth.clients) law.truth.log p e law.sound.each_owner here) in
    sym owned.3 ∙ ap (λ (x : View). x.client) (at_one s.views id owned.0 v (ap (get_elem? s.views) (sym seat) ∙ owned.1) at)

-- where the entry at the place is found among those of its client
abbrev IsFound : (p : ℕ) → HistoryEntry → List (ℕ × HistoryEntry) → Type 0
IsFound p e ms = (i : ℕ) × (get_elem? ms i ≡ some (p, e)) × (find (λ m. eqb m.0 p) ms ≡ Some (p, e))

find_next : (p : ℕ) (e : HistoryEntry) (m : ℕ × HistoryEntry) (ms : List (ℕ × HistoryEntry)) → m.0 ≢ p → IsFound p e ms → IsFound p e (m ∷ ms)
find_next p e m ms n f = (suc f.0, f.1, ap (λ (b : Bool). cond b (Some m) (find (λ x. eqb x.0 p) ms)) (ne_eqb m.0 p n) ∙ f.2)

pub find_placed : (c q : ℕ) (es : List HistoryEntry) (j p : ℕ) (e : HistoryEntry) → p ≡ q + j → get_elem? es j ≡ some e → client_of e ≡ c → IsFound p e (placed c q es)
find_placed c q [] j p e is at own = absurd (some-ne-none e (sym at))
find_placed c q (x ∷ xs) zero p e is at own =
    let same : x ≡ e = some-injective x e at in let here : q ≡ p = omega arith in
    subst (λ (b : Bool). IsFound p e (cond b ((q, x) ∷ placed c (q + 1) xs) (placed c (q + 1) xs))) (sym (eq-eqb (client_of x) c (ap client_of same ∙ own)))
    (0, (λ i. some (here i, same i)), ap (λ (b : Bool). cond b (Some (q, x)) (find (λ m. eqb m.0 p) (placed c (q + 1) xs))) (eq-eqb q p here) ∙ (λ i. Some (here i, same i)))
find_placed c q (x ∷ xs) (suc j) p e is at own =
    let rest = find_placed c (q + 1) xs j p e (omega arith) at own in
    elim (cases_eq (client_of x) c) [
      | inl mine ↦ subst (λ (b : Bool). IsFound p e (cond b ((q, x) ∷ placed c (q + 1) xs) (placed c (q + 1) xs))) (sym (eq-eqb (client_of x) c mine)) (find_next p e (q, x) (placed c (q + 1) xs) (λ z. omega arith) rest)
      | inr other ↦ subst (λ (b : Bool). IsFound p e (cond b ((q, x) ∷ placed c (q + 1) xs) (placed c (q + 1) xs))) (sym (ne_eqb (client_of x) c other)) rest
    ]

-- an unfilled place has an entry, which its owner named for it
pub named_one : (k : Shape) (s : Intake) (law : IsLawful k s) (id : ℕ) (v : View) (p : ℕ) → get_elem? s.views id ≡ some v → v.role ≡ Owner → Contains v.unfilled p
    → (e : HistoryEntry) × (i : ℕ) × (get_elem? v.mine i ≡ some (p, e)) × (named_for p v.mine ≡ Some e) × (p < length law.truth.log)
named_one k s law id v p at role has =
    let t : Truth = law.truth in
    let o : Owns t id v = subst (Fits t id v) role (law.each_view id v at) in
    let place = o.in_flight p has in
    let e = there t.log p place.1 in
    let own = client_is k s law id v p e.0 at place.0 e.1 (ap holder place.2 ∙ holder_unfilled v.held id p) in
    let f = find_placed v.client 0 t.log p p e.0 (omega arith) e.1 own in
    (e.0, f.0, ap (λ (l : List (ℕ × HistoryEntry)). get_elem? l f.0) o.mine ∙ f.1, ap (λ (l : List (ℕ × HistoryEntry)). named_for p l) o.mine ∙ ap (option_map (λ m. m.1)) f.2, place.1)

-- there is a cell
pub some_cells : (k : Shape) → IsShape k → 0 < cells k
some_cells k h = let a : 1 * k.places ≤ k.ram * k.places = mul-le-mul_right k.places (let g : 1 ≤ k.ram = (let s = h.some_segment in omega (arith, s)) in g) in let x : ℕ = k.ram * k.places in let a' : 1 * k.places ≤ x = a in omega (arith, a', h.some_place)
