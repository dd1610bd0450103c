use Rattle.std.proofs.Common.{ap, arith}
use Rattle.wb_steps.specs.declared.view.View.{View}
use Rattle.wb_front.proofs.Begins.{joined_new}
use Rattle.wb_front.proofs.front.Front.start.Goals as goal

pub invariant_of-core : goal.invariant_of-core
invariant_of-core g c = (
  joined_new g.L.Device.state g.B.Device.state g.T.Named.carried c.args.ready c.requires.carried c.requires.intake c.requires.engine,
  ap (λ (v : View). v.seen.fault.log_reads) c.requires.intake.view,
  ap (λ (v : View). v.seen.fault.backing_reads) c.requires.intake.view,
  omega arith,
  omega arith,
)
