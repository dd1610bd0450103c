use Rattle.std.proofs.Common.{◌+◌, ℕ, subst, sym}
use Rattle.std.proofs.Math.Facts.{Fits-of_lt}
use Rattle.wb_engine.specs.Standing.{MayCome, IsSealedIfFull}
use Rattle.wb_engine.proofs.Absorbed.{engine_absorbed, numbers_absorbed, standing_absorbed, synced_absorbed, absorbed_fits, current_fits}
use Rattle.wb_engine.proofs.engine.Engine.absorb.Goals as goal

pub overflow_add-self : goal.overflow_add-self
overflow_add-self g c =
    let may = subst (λ e. MayCome e c.args.entry) (sym c.self.view_is) c.requires in
    Fits-of_lt (absorbed_fits _ c.args.entry may)

pub seal_if_full-requires-clause-id : goal.seal_if_full-requires-clause-id
seal_if_full-requires-clause-id g c = current_fits _ c.args.entry c.keep.new.memory c.self.invariant.0 c.keep.ensures

pub invariant_of-self : goal.invariant_of-self
invariant_of-self g c =
    let may = subst (λ e. MayCome e c.args.entry) (sym c.self.view_is) c.requires in
    let sealed = subst (λ (n : ℕ). IsSealedIfFull (c.self.inside.absorbed + 1) n c.self.inside.numbers c.seal_if_full.new.numbers c.keep.new.memory c.seal_if_full.new.memory) c.places.ensures.places c.seal_if_full.ensures in
    (engine_absorbed _ c.args.entry c.keep.new.memory c.seal_if_full.new.memory c.seal_if_full.new.numbers c.self.invariant.0 may c.keep.ensures sealed, c.self.invariant.1, c.self.invariant.2)

pub returns-clause-stands : goal.returns-clause-stands
returns-clause-stands g c =
    let may = subst (λ e. MayCome e c.args.entry) (sym c.self.view_is) c.requires in
    let sealed = subst (λ (n : ℕ). IsSealedIfFull (c.self.inside.absorbed + 1) n c.self.inside.numbers c.seal_if_full.new.numbers c.keep.new.memory c.seal_if_full.new.memory) c.places.ensures.places c.seal_if_full.ensures in
    rw (← c.self.view_is) (λ base h stands.
    standing_absorbed _ c.args.entry c.keep.new.memory c.seal_if_full.new.memory c.seal_if_full.new.numbers base h c.self.invariant.0 may c.keep.ensures sealed stands)

pub returns-clause-synced : goal.returns-clause-synced
returns-clause-synced g c =
    let sealed = subst (λ (n : ℕ). IsSealedIfFull (c.self.inside.absorbed + 1) n c.self.inside.numbers c.seal_if_full.new.numbers c.keep.new.memory c.seal_if_full.new.memory) c.places.ensures.places c.seal_if_full.ensures in
    rw (← c.self.view_is) (λ was.
    synced_absorbed _ c.keep.new.memory c.seal_if_full.new.memory c.seal_if_full.new.numbers sealed was)

pub returns-clause-numbers : goal.returns-clause-numbers
returns-clause-numbers g c =
    let sealed = subst (λ (n : ℕ). IsSealedIfFull (c.self.inside.absorbed + 1) n c.self.inside.numbers c.seal_if_full.new.numbers c.keep.new.memory c.seal_if_full.new.memory) c.places.ensures.places c.seal_if_full.ensures in
    rw (← c.self.view_is) (numbers_absorbed _ c.keep.new.memory c.seal_if_full.new.memory c.seal_if_full.new.numbers c.self.invariant.0 sealed)
