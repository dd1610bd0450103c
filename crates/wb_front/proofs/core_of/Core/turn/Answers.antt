use Rattle.std.proofs.Common.{◌≡◌, ◌≤◌, ℕ, ap, ◌∙◌, sym, subst, Option, None}
use Rattle.wb_geometry.specs.declared.which.Which.{Which}
use Rattle.wb_steps.specs.declared.view.Faults.{Faults}
use Rattle.wb_steps.specs.declared.view.View.{View}
use Rattle.wb_intake.specs.Passes.{drain_view}
use Rattle.wb_engine.specs.Content.{limit_of}
use Rattle.wb_engine.specs.Settling.{stable_places}
use Rattle.wb_engine.specs.Stepping.{IsTurn}
use Rattle.wb_engine.proofs.Drained.{turn_causes}
use Rattle.wb_front.specs.Moving.{publishing}
use Rattle.wb_front.specs.Words.{faults_of, KeepsReads}
use Rattle.wb_front.specs.Joined.{CoreContent, fault_of}
use Rattle.wb_front.proofs.Joins.{joined_moved}
use Rattle.wb_front.proofs.Turns.{turn_logged, limit_up, stable_up}
use Rattle.wb_front.proofs.Words.{log_reads_are, backing_reads_are}
use Rattle.wb_front.proofs.core_of.Core.turn.Goals as goal

pub publish-requires-clause-limit : goal.publish-requires-clause-limit
publish-requires-clause-limit g c =
    let e = c.turn-result.new.self in let moves = c.turn-result.ensures.step.moves in
    subst (λ (n : ℕ). n ≤ limit_of e.geometry e.numbers) (sym c.self.invariant.0.limit)
    (limit_up c.self.inside.engine e moves.geometry moves.first (turn_logged c.self.inside.engine e c.turn-result.result c.turn-result.ensures.does))

pub publish-requires-clause-stable : goal.publish-requires-clause-stable
publish-requires-clause-stable g c =
    let e = c.turn-result.new.self in let moves = c.turn-result.ensures.step.moves in
    subst (λ (n : ℕ). n ≤ stable_places e) (sym c.self.invariant.0.stable) (stable_up c.self.inside.engine e moves.geometry moves.first moves.stable)

pub invariant_of-self : goal.invariant_of-self
invariant_of-self g c =
    let e = c.turn-result.new.self in
    let j = c.self.invariant in
    let a = c.self.inside.log_reads in let b = c.self.inside.backing_reads in
    let v : View = drain_view c.self.inside.drain in
    let up : c.self.inside.engine.down ≡ None = ap (λ x. x.engine.down) c.self.view_is ∙ c.requires.up in
    let causes = turn_causes g.L.Device.state g.B.Device.state c.self.inside.engine e c.turn-result.result up c.turn-result.ensures.does in
    let is : drain_view c.publish.new.drain ≡ publishing v (limit_of e.geometry e.numbers) (stable_places e) (faults_of e.down a b)
    = c.publish.ensures.published ∙ ap (publishing v (limit_of e.geometry e.numbers) (stable_places e)) (c.fault_word-fault.ensures ∙ ap (λ (d : Option Which). faults_of d a b) c.down.ensures) in (
      joined_moved g.L.Device.state g.B.Device.state g.T.Named.carried (record { engine = c.self.inside.engine; drain = c.self.inside.drain }) e c.publish.new.drain a b
          j.0 up c.turn-result.ensures.step.moves causes.log_cause causes.backing_cause j.1 j.2 c.publish.ensures.own is,
      ap (λ (x : View). x.seen.fault.log_reads) is ∙ log_reads_are e.down a b,
      ap (λ (x : View). x.seen.fault.backing_reads) is ∙ backing_reads_are e.down a b,
      j.3,
      j.4,
    )

pub returns-clause-does : goal.returns-clause-does
returns-clause-does g c = subst (λ x. IsTurn g.L.Device.state g.B.Device.state x.engine c.turn-result.new.self c.turn-result.result) c.self.view_is c.turn-result.ensures.does

pub returns-clause-reads : goal.returns-clause-reads
returns-clause-reads g c =
    let e = c.turn-result.new.self in
    let a = c.self.inside.log_reads in let b = c.self.inside.backing_reads in
    let j = c.self.invariant in
    let word = c.fault_word-fault.ensures ∙ ap (λ (d : Option Which). faults_of d a b) c.down.ensures in
    let is : (drain_view c.publish.new.drain).seen.fault ≡ faults_of e.down a b = ap (λ (x : View). x.seen.fault) c.publish.ensures.published ∙ word in
    subst (λ (x : CoreContent g.row.L.Denot g.row.B.Denot). KeepsReads (fault_of x) (drain_view c.publish.new.drain).seen.fault) c.self.view_is
    (ap (λ (x : Faults). x.log_reads) is ∙ log_reads_are e.down a b ∙ sym j.1, ap (λ (x : Faults). x.backing_reads) is ∙ backing_reads_are e.down a b ∙ sym j.2)
