-- The device that failed.
use Rattle.std.proofs.Common.{◌*◌, inr, refl}
use Rattle.wb_steps.specs.Rule.{shape_of}
use Rattle.wb_intake.specs.Passes.{client_of_pass, view_of}
use Rattle.wb_script.specs.declared.request.Request.TheVariants.{ReadSum}
use Rattle.wb_client.proofs.Fronts.{read_failed}
use Rattle.wb_client.proofs.reading.read_sum.Goals as goal

pub returns-in-Err-clause-answered : goal.returns-in-Err-clause-answered
returns-in-Err-clause-answered g c = λ base of.
    let t = g.T.Named.carried in
    read_failed t base (shape_of t.geometry t.first) (client_of_pass c.args.pass.now) (view_of c.args.pass.now) (view_of c.read.new.pass) c.args.sector c.args.count (512 * c.args.count) of refl c.read.ensures.read
    (ReadSum c.args.sector c.args.count) c.in-Err.device (inr refl) c.in-Err.ensures.failed
