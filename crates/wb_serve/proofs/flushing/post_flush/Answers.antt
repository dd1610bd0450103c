-- The begun segment is filled.
use Rattle.std.proofs.Common.{◌≡◌, ◌+◌, ◌-◌, ◌*◌, ◌%◌, ◌≤◌, ◌^◌, ℕ, refl, ap, sym, ◌∙◌, subst, inl, inr, arith}
use Rattle.std.proofs.Math.Nat.{add-mul-mod_self_left, mod-eq_of_lt}
use Rattle.std.proofs.lemmas.Bool.{cases_lt}
use Rattle.wb_geometry.specs.Layout.{places}
use Rattle.wb_geometry.proofs.Geometries.{places_few}
use Rattle.wb_engine.proofs.Filling.{IsFilling, filling_comes, filling_more, filled_rest}
use Rattle.wb_serve.proofs.Moves.{moved_filling}
use Rattle.wb_serve.proofs.flushing.post_flush.Goals as goal

pub absorb-requires : goal.absorb-requires
absorb-requires g c =
    let e = c.args.engine.now in
    let n : c.places.result ≡ places e.geometry = c.places.ensures.places ∙ ap places c.geometry.ensures.geometry in
    let begun : ℕ = e.absorbed % places e.geometry in
    let taken : c.absorbed.result % c.places.result ≡ begun = ap (λ (a : ℕ). a % c.places.result) c.absorbed.ensures ∙ ap (λ (m : ℕ). e.absorbed % m) n in
    let left = c.places_left-voids.ensures.begun (omega (arith, c.loop-test.true)) in
    let so_far = subst (IsFilling g.L.Device.state g.B.Device.state c.args.client e c.loop.engine) (let same : c.loop.counter ≡ begun + c.loop.counter - begun = omega arith in same) c.loop.invariant in
    filling_comes g.L.Device.state g.B.Device.state c.args.client e c.loop.engine begun (begun + c.loop.counter) c.geometry.ensures.sound so_far refl
    (omega (arith, left.0, taken)) (omega arith) (omega (arith, left.1, taken, n, c.loop-test.true))

pub loop-preserved : goal.loop-preserved
loop-preserved g c =
    filling_more g.L.Device.state g.B.Device.state c.args.client c.args.engine.now c.loop.engine c.absorb.new.self c.loop.counter c.loop.invariant
    c.absorb.ensures.kept c.absorb.ensures.absorbed c.absorb.ensures.numbers c.absorb.ensures.stands c.absorb.ensures.synced

pub returns : goal.returns
returns g c =
    let e = c.args.engine.now in
    let f = c.loop.engine in
    let count : ℕ = c.places_left-voids.result in
    let all : c.loop.counter ≡ count = omega (arith, c.loop.auto.counter-end, c.loop-test.false) in
    let fill : IsFilling g.L.Device.state g.B.Device.state c.args.client e f count = subst (IsFilling g.L.Device.state g.B.Device.state c.args.client e f) all c.loop.invariant in
    let n : c.places.result ≡ places e.geometry = c.places.ensures.places ∙ ap places c.geometry.ensures.geometry in
    let taken : c.absorbed.result % c.places.result ≡ e.absorbed % places e.geometry = ap (λ (a : ℕ). a % c.places.result) c.absorbed.ensures ∙ ap (λ (m : ℕ). e.absorbed % m) n in
    let same : places f.geometry ≡ places e.geometry = ap places fill.kept.geometry in
    let begun : 1 ≤ count → e.absorbed % places e.geometry + count ≡ places e.geometry = λ some. let left = c.places_left-voids.ensures.begun some in omega (arith, left.1, taken, n) in
    let whole : f.absorbed % places f.geometry ≡ 0 = elim (cases_lt 0 count) [
      | inl some ↦ filled_rest g.L.Device.state g.B.Device.state c.args.client e f count fill (begun some)
      | inr none ↦
          let zero_is : count ≡ 0 = omega (arith, none) in
          let still : f.absorbed ≡ e.absorbed = omega (arith, fill.absorbed, zero_is) in
          ap (λ (a : ℕ). a % places f.geometry) still ∙ ap (λ (m : ℕ). e.absorbed % m) same ∙ sym taken ∙ c.places_left-voids.ensures.none zero_is
    ] in
    record {
      moved = moved_filling c.args.client count fill;
      through = c.absorbed-2.ensures;
      whole = ap (λ (a : ℕ). a % places f.geometry) c.absorbed-2.ensures ∙ whole;
      few = elim (cases_lt 0 count) [
        | inl some ↦ let left = c.places_left-voids.ensures.begun some in let full = begun some in omega (arith, left.0, taken, full, same)
        | inr none ↦ omega (arith, none, (places_few f.geometry).0)
      ];
      up = refl;
      quiet = (fill.kept.log, fill.kept.backing);
      none_left = λ spent. elim (cases_lt 0 count) [
        | inl some ↦ absurd (
            let left = c.places_left-voids.ensures.begun some in
            let spent_is : e.absorbed ≡ 0 + places e.geometry * (2 ^ 48 - e.numbers.first) = omega (arith, spent) in
            let whole_is : e.absorbed % places e.geometry ≡ 0 =
            ap (λ (a : ℕ). a % places e.geometry) spent_is ∙ add-mul-mod_self_left 0 (places e.geometry) (2 ^ 48 - e.numbers.first) ∙ mod-eq_of_lt (omega (arith, (places_few e.geometry).0)) in
            omega (arith, left.0, taken, whole_is))
        | inr none ↦ omega (arith, none)
      ];
    }
