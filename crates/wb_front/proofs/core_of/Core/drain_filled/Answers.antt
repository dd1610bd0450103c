use Rattle.std.proofs.Common.{ap, ◌∙◌}
use Rattle.wb_steps.specs.declared.view.Faults.{Faults}
use Rattle.wb_front.proofs.Joins.{joined_drained}
use Rattle.wb_front.proofs.core_of.Core.drain_filled.Goals as goal

pub invariant_of-self : goal.invariant_of-self
invariant_of-self g c =
    let j = c.self.invariant in
    let done = c.absorb_filled.ensures in (
      joined_drained g.L.Device.state g.B.Device.state g.T.Named.carried (record { engine = c.self.inside.engine; drain = c.self.inside.drain }) (record { engine = c.absorb_filled.new.engine; drain = c.absorb_filled.new.drain })
          j.0 done.drained done.same done.own done.absorbed done.stands done.synced,
      ap (λ (f : Faults). f.log_reads) done.same.fault ∙ j.1,
      ap (λ (f : Faults). f.backing_reads) done.same.fault ∙ j.2,
      j.3,
      j.4,
    )
