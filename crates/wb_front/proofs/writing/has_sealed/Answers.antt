-- The limit shows how many segments are logged.
use Rattle.std.proofs.Common.{ℕ, ◌≡◌, ◌+◌, ◌-◌, ◌/◌, ◌≤◌, true, false, nat_lt, ap, sym, ◌∙◌, subst, arith}
use Rattle.wb_geometry.specs.Layout.{places}
use Rattle.wb_front.proofs.Requests.{waiting}
use Rattle.wb_front.proofs.writing.has_sealed.Goals as goal

pub returns-clause-sealed : goal.returns-clause-sealed
returns-clause-sealed g c =
    let e = c.args.engine.now in
    let sound = c.geometry-geometry.ensures.sound in
    let is = c.geometry-geometry.ensures.geometry in
    let n : c.places-places.result ≡ places e.geometry = c.places-places.ensures.places ∙ ap places is in
    let ram : c.from.result ≡ e.geometry.ram = cc (c.from.ensures, is) in
    let some : 1 ≤ places e.geometry = subst (λ (k : ℕ). 1 ≤ k) n c.places-places.ensures.some in
    let o = sound.ordered in
    let low : e.numbers.first ≤ e.numbers.logged = omega (arith, o.start, o.recorded, o.back, o.stable) in
    let w = waiting (places e.geometry) c.limit.result c.absorbed.result e.numbers.logged e.numbers.sealed e.numbers.first e.geometry.ram some c.limit.ensures (sound.filled.sealed ∙ ap (λ (a : ℕ). e.numbers.first + a / places e.geometry) (sym c.absorbed.ensures)) low in
    λ lt. w.0 (subst (λ (k : ℕ). nat_lt (c.limit.result / k - e.geometry.ram) (c.absorbed.result / k) ≡ true) n
    (subst (λ (r : ℕ). nat_lt (c.limit.result / c.places-places.result - r) (c.absorbed.result / c.places-places.result) ≡ true) ram lt))

pub returns-clause-none : goal.returns-clause-none
returns-clause-none g c =
    let e = c.args.engine.now in
    let sound = c.geometry-geometry.ensures.sound in
    let is = c.geometry-geometry.ensures.geometry in
    let n : c.places-places.result ≡ places e.geometry = c.places-places.ensures.places ∙ ap places is in
    let ram : c.from.result ≡ e.geometry.ram = cc (c.from.ensures, is) in
    let some : 1 ≤ places e.geometry = subst (λ (k : ℕ). 1 ≤ k) n c.places-places.ensures.some in
    let o = sound.ordered in
    let low : e.numbers.first ≤ e.numbers.logged = omega (arith, o.start, o.recorded, o.back, o.stable) in
    let w = waiting (places e.geometry) c.limit.result c.absorbed.result e.numbers.logged e.numbers.sealed e.numbers.first e.geometry.ram some c.limit.ensures (sound.filled.sealed ∙ ap (λ (a : ℕ). e.numbers.first + a / places e.geometry) (sym c.absorbed.ensures)) low in
    λ lt. w.1 (subst (λ (k : ℕ). nat_lt (c.limit.result / k - e.geometry.ram) (c.absorbed.result / k) ≡ false) n
    (subst (λ (r : ℕ). nat_lt (c.limit.result / c.places-places.result - r) (c.absorbed.result / c.places-places.result) ≡ false) ram lt))
