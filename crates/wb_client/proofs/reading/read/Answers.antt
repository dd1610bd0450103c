-- The bytes that were read, or the device that failed.
use Rattle.std.proofs.Common.{◌≡◌, ◌*◌, [], ◌∷◌, length, take, ap, ◌∙◌, inl, refl, arith}
use Rattle.std.proofs.lemmas.Result.{on_ok_weaker}
use Rattle.std.proofs.lemmas.List.{length-take-le}
use Rattle.wb_steps.specs.Rule.{shape_of}
use Rattle.wb_intake.specs.Passes.{client_of_pass, view_of}
use Rattle.wb_script.specs.declared.request.Request.TheVariants.{Read}
use Rattle.wb_script.specs.declared.transcript.Line.TheVariants.{Got, Failed}
use Rattle.wb_client.specs.Client.{ArePlayed}
use Rattle.wb_client.proofs.Fronts.{read_got, read_failed}
use Rattle.wb_client.proofs.reading.read.Goals as goal

pub returns-in-Ok-clause-answered : goal.returns-in-Ok-clause-answered
returns-in-Ok-clause-answered g c =
    let t = g.T.Named.carried in
    let size : length (take (512 * c.args.count) c.args.shown.now) ≡ 512 * c.args.count =
    length-take-le (512 * c.args.count) c.args.shown.now (omega (arith, c.requires.sized, c.requires.within.few)) in
    let into : length c.read.new.into ≡ length (take (512 * c.args.count) c.args.shown.now) = c.read.auto.into in
    let are = c.in-Ok.ensures.shown in
    on_ok_weaker c.push.result (λ is. record {
      line = Got c.in-Ok.point c.of-payload.result;
      played = λ base of.
          read_got t base (shape_of t.geometry t.first) (client_of_pass c.args.pass.now) (view_of c.args.pass.now) (view_of c.read.new.pass) c.args.sector c.args.count (length (take (512 * c.args.count) c.args.shown.now)) of size
          c.read.ensures.read c.of-payload.result (ap length c.of-payload.ensures ∙ into) (λ log backing. c.of-payload.ensures ∙ are log backing) c.in-Ok.point c.in-Ok.ensures.point.0 c.in-Ok.ensures.point.1;
      added = is;
      posted = tt;
    }) c.push.ensures.ok

-- the line of a read that failed
failed : (g : _) (c : goal.After-push-in-Err g) → ArePlayed g.T.Named.carried (client_of_pass c.args.pass.now) (view_of c.args.pass.now) (view_of c.read.new.pass) [] [] (Read c.args.sector c.args.count ∷ []) (Failed c.in-Err.device ∷ [])
failed g c base of =
    let t = g.T.Named.carried in
    read_failed t base (shape_of t.geometry t.first) (client_of_pass c.args.pass.now) (view_of c.args.pass.now) (view_of c.read.new.pass) c.args.sector c.args.count (512 * c.args.count) of refl c.read.ensures.read
    (Read c.args.sector c.args.count) c.in-Err.device (inl refl) c.in-Err.ensures.failed

pub returns-in-Err-clause-answered : goal.returns-in-Err-clause-answered
returns-in-Err-clause-answered g c =
    on_ok_weaker c.push-in-Err.result (λ is. record { line = Failed c.in-Err.device; played = failed g c; added = is; posted = tt }) c.push-in-Err.ensures.ok
