use Rattle.std.proofs.Common.{◌≡◌, ◌+◌, ◌-◌, ◌%◌, ◌≤◌, ℕ, subst, arith}
use Rattle.wb_engine.specs.Content.{IsEngine}
use Rattle.wb_engine.proofs.Filling.{IsFilling, each_is, begun_is, filling_none, filling_comes, filling_more, filled_rest, filled_last}
use Rattle.wb_engine.proofs.engine.Engine.fill_open.Goals as goal

pub loop-init : goal.loop-init
loop-init g c =
    let begun : ℕ = c.self.inside.absorbed % c.places-places.result in
    let none : 0 ≡ begun - begun = omega arith in
    let is = subst (IsEngine g.L.Device.state g.B.Device.state) c.self.view_is c.self.invariant.0 in
    subst (IsFilling _ _ 0 _ _) none (filling_none _ _ 0 _ is)

pub absorb-requires : goal.absorb-requires
absorb-requires g c =
    let is = subst (IsEngine g.L.Device.state g.B.Device.state) c.self.view_is c.self.invariant.0 in
    let each = each_is c.self.view_is c.places-places.result c.places-places.ensures.places in
    let begun = begun_is c.self.view_is c.places-places.result c.places-places.ensures.places in
    let some : 1 ≤ c.self.inside.absorbed % c.places-places.result = omega (arith, c.if-begun-eq0.false) in
    filling_comes _ _ 0 c.args.self.now c.loop.self _ c.loop.counter is c.loop.invariant begun some c.loop.auto.counter (omega (arith, c.loop-test.true, each))

pub loop-preserved : goal.loop-preserved
loop-preserved g c =
    let begun : ℕ = c.self.inside.absorbed % c.places-places.result in
    let next : c.loop.counter - begun + 1 ≡ c.loop.counter + 1 - begun = omega (arith, c.loop.auto.counter) in
    subst (IsFilling _ _ 0 c.args.self.now c.absorb.new.self) next
    (filling_more g.L.Device.state g.B.Device.state 0 c.args.self.now c.loop.self c.absorb.new.self (c.loop.counter - begun) c.loop.invariant c.absorb.ensures.kept c.absorb.ensures.absorbed c.absorb.ensures.numbers c.absorb.ensures.stands c.absorb.ensures.synced)

pub returns-clause-filled : goal.returns-clause-filled
returns-clause-filled g c =
    let each = each_is c.self.view_is c.places-places.result c.places-places.ensures.places in
    let begun = begun_is c.self.view_is c.places-places.result c.places-places.ensures.places in
    filled_rest _ _ 0 c.args.self.now c.loop.self (c.loop.counter - c.self.inside.absorbed % c.places-places.result) c.loop.invariant
    (omega (arith, begun, each, c.loop.auto.counter, c.loop.auto.counter-end, c.loop-test.false))

pub returns-clause-stands : goal.returns-clause-stands
returns-clause-stands g c = λ base h stands. (c.loop.counter - c.self.inside.absorbed % c.places-places.result, c.loop.invariant.stands base h stands)

pub returns-clause-sealed : goal.returns-clause-sealed
returns-clause-sealed g c =
    let each = each_is c.self.view_is c.places-places.result c.places-places.ensures.places in
    let begun = begun_is c.self.view_is c.places-places.result c.places-places.ensures.places in
    filled_last _ _ 0 c.args.self.now c.loop.self (c.loop.counter - c.self.inside.absorbed % c.places-places.result) c.loop.invariant
    (omega (arith, begun, c.if-begun-eq0.false)) (omega (arith, begun, each, c.loop.auto.counter, c.loop.auto.counter-end, c.loop-test.false))

pub returns-clause-cut : goal.returns-clause-cut
returns-clause-cut g c = c.loop.invariant.sealed
