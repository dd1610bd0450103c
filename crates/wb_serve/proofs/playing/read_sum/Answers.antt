-- The checksum of what was read, or the device that failed.
use Rattle.std.proofs.Common.{ℕ, List, ◌≡◌, ◌*◌, ◌/◌, length, take, subst, ◌∙◌, inr, refl, arith}
use Rattle.std.proofs.lemmas.List.{length-take-le}
use Rattle.wb_geometry.specs.Image.{Image, bytes_at}
use Rattle.wb_geometry.specs.History.{HistoryEntry, after}
use Rattle.wb_engine.specs.Standing.{Standing, Told}
use Rattle.wb_geometry.specs.declared.which.Which.TheVariants.{Log, Backing}
use Rattle.wb_serve.proofs.Moves.{faults_fine, faults_failed, moved_read}
use Rattle.wb_serve.proofs.Answering.{answered_sum, answered_failed}
use Rattle.wb_script.specs.declared.request.Request.TheVariants.{ReadSum}
use Rattle.wb_serve.proofs.playing.read_sum.Goals as goal

pub returns-in-Ok : goal.returns-in-Ok
returns-in-Ok g c =
    let read = c.read.ensures in
    let moved =
    moved_read read.stands read.synced read.same read.log read.backing
    (faults_fine Log c.read.result c.in-Ok.field-0 c.in-Ok.is read.same.down read.log_cause)
    (faults_fine Backing c.read.result c.in-Ok.field-0 c.in-Ok.is read.same.down read.backing_cause) in
    let size : length (take (512 * c.args.count) c.args.shown.now) ≡ 512 * c.args.count =
    length-take-le (512 * c.args.count) c.args.shown.now (omega (arith, c.requires.sized, c.requires.within.few)) in
    let count : length (take (512 * c.args.count) c.args.shown.now) / 512 ≡ c.args.count = omega (arith, size) in
    λ client. answered_sum client c.args.sector c.args.count c.absorbed.result c.sum_of.result c.read.new.into c.sum_of.ensures moved (c.absorbed.ensures ∙ read.same.absorbed)
    (c.read.auto.into ∙ size)
    (subst (λ (n : ℕ). (base image : Image) (history : List HistoryEntry) → Told (g.B.Device.state c.args.engine.now.backing) image
    → Standing g.L.Device.state g.B.Device.state c.args.engine.now base history → c.read.new.into ≡ bytes_at (after base history) c.args.sector n) count c.in-Ok.ensures.ok)

pub returns-in-Err : goal.returns-in-Err
returns-in-Err g c =
    let read = c.read.ensures in
    let device = c.in-Err.device in
    let moved =
    moved_read read.stands read.synced read.same read.log read.backing
    (faults_failed Log device c.read.result c.in-Err.is read.same.down read.log_cause)
    (faults_failed Backing device c.read.result c.in-Err.is read.same.down read.backing_cause) in
    λ client. answered_failed client c.args.sector c.args.count (ReadSum c.args.sector c.args.count) device (inr refl) moved
