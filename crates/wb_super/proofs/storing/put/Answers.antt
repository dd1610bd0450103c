-- A write of one sector puts it, or where it fails perhaps.
use Rattle.std.proofs.Common.{sym, subst, arith}
use Rattle.std.proofs.lemmas.Result.{on_ok_weaker, on_err_weaker}
use Rattle.wb_geometry.specs.Image.{Replaces}
use Rattle.wb_geometry.proofs.Images.{ReplacesOrNot-partly_written, Replaces-overlay}
use Rattle.wb_geometry.proofs.Moments.{weaker, content_weaker}
use Rattle.wb_super.proofs.storing.put.Goals as goal

pub returns-clause-ok : goal.returns-clause-ok
returns-clause-ok g c =
    let device = g.met.D.Device.sound c.args.device.now in
    on_ok_weaker c.write.result (content_weaker (λ x y told is. subst (Replaces c.args.at c.args.sector.now x) (sym is) (Replaces-overlay c.args.at c.args.sector.now x c.told-sector (omega (arith, c.requires, (device.content x told).size))))) c.write.ensures.ok

pub returns-clause-err : goal.returns-clause-err
returns-clause-err g c =
    on_err_weaker c.write.result (content_weaker (λ x y told some. ReplacesOrNot-partly_written c.args.at c.args.sector.now x y c.told-sector some)) c.write.ensures.err

pub returns-clause-crash : goal.returns-clause-crash
returns-clause-crash g c =
    weaker (λ x y left some. ReplacesOrNot-partly_written c.args.at c.args.sector.now x y c.told-sector some) c.write.ensures.crash
