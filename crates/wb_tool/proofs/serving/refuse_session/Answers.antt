use Rattle.std.proofs.Common.{sym, ap, subst, ◌∙◌}
use Rattle.wb_serve.specs.declared.serving.ServeStop.{ServeStop}
use Rattle.wb_serve.specs.declared.serving.ServeStop.TheVariants.{Open}
use Rattle.wb_tool.specs.Run.{lent}
use Rattle.wb_tool.specs.Stages.{EndsUnserved}
use Rattle.wb_tool.proofs.serving.refuse_session.Goals as goal

pub returns-in-Open-Backing : goal.returns-in-Open-Backing
returns-in-Open-Backing g c =
    let taken = g.K.Sink.taken in
    let faults = g.K.Sink.faults in
    let new = c.refuse_backing.new.sink in
    let why = c.in-Open-Backing in
    subst (λ (stop : ServeStop). EndsUnserved stop (lent (taken c.args.sink.now) (taken new) (faults c.args.sink.now) (faults new)) c.refuse_backing.result)
    (sym (why.is ∙ ap Open (rw why.is at why.field-0-is))) c.refuse_backing.ensures

pub returns-in-Open-Stray : goal.returns-in-Open-Stray
returns-in-Open-Stray g c =
    let taken = g.K.Sink.taken in
    let faults = g.K.Sink.faults in
    let new = c.refuse_stray.new.sink in
    let why = c.in-Open-Stray in
    subst (λ (stop : ServeStop). EndsUnserved stop (lent (taken c.args.sink.now) (taken new) (faults c.args.sink.now) (faults new)) c.refuse_stray.result)
    (sym (why.is ∙ ap Open (rw why.is at why.field-0-is))) c.refuse_stray.ensures
