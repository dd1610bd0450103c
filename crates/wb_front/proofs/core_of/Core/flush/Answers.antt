-- All whole segments that were drained are settled.
use Rattle.std.proofs.Common.{ℕ, ◌≡◌, ◌-◌, ◌%◌, ap, ◌∙◌, arith}
use Rattle.wb_geometry.specs.Layout.{places}
use Rattle.wb_front.proofs.Turns.{rest_whole, rest_covers, settled_below}
use Rattle.wb_front.proofs.core_of.Core.flush.Goals as goal

pub settle-settled-requires-clause-whole : goal.settle-settled-requires-clause-whole
settle-settled-requires-clause-whole g c =
    rest_whole c.drain-drained.result c.places.result (places g.T.Named.carried.geometry) (c.places.ensures.places ∙ ap places (c.geometry.ensures.geometry ∙ c.self.invariant.0.geometry))

pub returns-then-stable-number-clause-stable : goal.returns-then-stable-number-clause-stable
returns-then-stable-number-clause-stable g c =
    let n : ℕ = c.drain-drained.result in
    let same : c.places.result ≡ places g.T.Named.carried.geometry = c.places.ensures.places ∙ ap places (c.geometry.ensures.geometry ∙ c.self.invariant.0.geometry) in
    let covers = rest_covers c.args.number n c.places.result (places g.T.Named.carried.geometry) same c.places.ensures.some c.requires.whole (omega (arith, c.if-drained-number.false)) in
    λ reached up. settled_below c.settle-settled.new.self.engine c.settle-settled.result c.args.number (n - n % c.places.result) covers c.settle-settled.ensures.stable c.settle-settled.ensures.settled.failed up
