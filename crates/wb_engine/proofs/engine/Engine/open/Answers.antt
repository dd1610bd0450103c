-- What is ready is an engine that was just opened.
use Rattle.std.proofs.Common.{refl}
use Rattle.wb_engine.proofs.Openings.{is_opened}
use Rattle.wb_engine.proofs.engine.Engine.open.Goals as goal

pub returns-in-Ok-clause-opened : goal.returns-in-Ok-clause-opened
returns-in-Ok-clause-opened g c =
    let ready = c.in-Ok.ensures.ready in
    is_opened (g.L.Device.state c.args.log) (g.B.Device.state c.args.backing) _ ready.0 c.in-Ok.opened.recorded c.in-Ok.opened.plan.room c.in-Ok.opened.scratch.items
    ready.1 ready.2 c.all_at.ensures refl refl c.in-Ok.ensures.log_faults c.in-Ok.ensures.backing_faults
