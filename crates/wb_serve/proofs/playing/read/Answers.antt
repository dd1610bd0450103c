-- The bytes that were read, or the device that failed.
use Rattle.std.proofs.Common.{ℕ, List, ◌≡◌, ◌*◌, ◌/◌, length, take, ap, subst, ◌∙◌, inl, refl, arith}
use Rattle.std.proofs.lemmas.Result.{on_ok_weaker}
use Rattle.std.proofs.lemmas.List.{length-take-le, take_at}
use Rattle.wb_geometry.specs.Image.{Image, bytes_at}
use Rattle.wb_geometry.specs.History.{HistoryEntry, after}
use Rattle.wb_geometry.specs.declared.which.Which.TheVariants.{Log, Backing}
use Rattle.wb_geometry.proofs.Moments.{on_err}
use Rattle.wb_engine.specs.Standing.{Standing, Told}
use Rattle.wb_script.specs.declared.request.Request.TheVariants.{Read}
use Rattle.wb_script.specs.declared.transcript.Line.TheVariants.{Got, Failed}
use Rattle.wb_serve.specs.Playing.{IsAnswered}
use Rattle.wb_serve.proofs.Moves.{faults_fine, faults_failed, moved_read}
use Rattle.wb_serve.proofs.Answering.{answered_read, answered_failed}
use Rattle.wb_serve.proofs.playing.read.Goals as goal

-- the line of what was read
got : (g : _) (c : goal.After-add g) (client : ℕ) → IsAnswered g.L.Device.state g.B.Device.state client (Read c.args.sector c.args.count) c.args.engine.now c.read.new.self (Got c.absorbed-point.result c.of-payload.result)
got g c client =
    let read = c.read.ensures in
    let moved =
    moved_read read.stands read.synced read.same read.log read.backing
    (faults_fine Log c.read.result c.in-Ok.field-0 c.in-Ok.is read.same.down read.log_cause)
    (faults_fine Backing c.read.result c.in-Ok.field-0 c.in-Ok.is read.same.down read.backing_cause) in
    let size : length (take (512 * c.args.count) c.args.shown.now) ≡ 512 * c.args.count =
    length-take-le (512 * c.args.count) c.args.shown.now (omega (arith, c.requires.sized, c.requires.within.few)) in
    let count : length (take (512 * c.args.count) c.args.shown.now) / 512 ≡ c.args.count = omega (arith, size) in
    let into : length c.read.new.into ≡ 512 * c.args.count = c.read.auto.into ∙ size in
    let shown : c.of-payload.result ≡ c.read.new.into = c.of-payload.ensures ∙ take_at c.read.new.into _ (512 * c.args.count) into in
    answered_read client c.args.sector c.args.count c.absorbed-point.result c.of-payload.result moved (c.absorbed-point.ensures ∙ read.same.absorbed)
    (ap length shown ∙ into)
    (subst (λ (n : ℕ). (base image : Image) (history : List HistoryEntry) → Told (g.B.Device.state c.args.engine.now.backing) image
    → Standing g.L.Device.state g.B.Device.state c.args.engine.now base history → c.of-payload.result ≡ bytes_at (after base history) c.args.sector n) count
    (λ base image h told stands. shown ∙ c.in-Ok.ensures.ok base image h told stands))

pub returns-in-Ok-clause-answered : goal.returns-in-Ok-clause-answered
returns-in-Ok-clause-answered g c = on_ok_weaker c.add.result (λ is. (Got c.absorbed-point.result c.of-payload.result, is, got g c)) c.add.ensures

pub returns-in-Ok-clause-unanswered : goal.returns-in-Ok-clause-unanswered
returns-in-Ok-clause-unanswered g c = on_err c.add.result (Got c.absorbed-point.result c.of-payload.result, got g c)

-- the line of a read that failed
failed : (g : _) (c : goal.After-add-in-Err g) (client : ℕ) → IsAnswered g.L.Device.state g.B.Device.state client (Read c.args.sector c.args.count) c.args.engine.now c.read.new.self (Failed c.in-Err.device)
failed g c client =
    let read = c.read.ensures in
    let device = c.in-Err.device in
    let moved =
    moved_read read.stands read.synced read.same read.log read.backing
    (faults_failed Log device c.read.result c.in-Err.is read.same.down read.log_cause)
    (faults_failed Backing device c.read.result c.in-Err.is read.same.down read.backing_cause) in
    answered_failed client c.args.sector c.args.count (Read c.args.sector c.args.count) device (inl refl) moved

pub returns-in-Err-clause-answered : goal.returns-in-Err-clause-answered
returns-in-Err-clause-answered g c = on_ok_weaker c.add-in-Err.result (λ is. (Failed c.in-Err.device, is, failed g c)) c.add-in-Err.ensures

pub returns-in-Err-clause-unanswered : goal.returns-in-Err-clause-unanswered
returns-in-Err-clause-unanswered g c = on_err c.add-in-Err.result (Failed c.in-Err.device, failed g c)
