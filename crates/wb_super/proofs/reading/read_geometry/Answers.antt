-- What the bytes of sector 0 say is what the device's content says.
use Rattle.std.proofs.Common.{inr, arith}
use Rattle.std.proofs.lemmas.Result.{err_from_is_err_and}
use Rattle.wb_super.proofs.Superblocks.{refuses_from_fields, no_fault_from_fields, has_geometry, formatted_from}
use Rattle.wb_super.proofs.reading.read_geometry.Goals as goal

pub returns-in_err-geometry-clause-refused : goal.returns-in_err-geometry-clause-refused
returns-in_err-geometry-clause-refused g c =
    let p = err_from_is_err_and c.from_residual.result c.from_residual.ensures.1 in
    rw (p.1, p.2) (refuses_from_fields c.read.new.into c.in_err-geometry.field-0.0 (g.met.D.Device.sound c.args.log.now) (omega arith) c.read.auto.into c.in_default.ensures.ok c.in_err-geometry.ensures.refused)

pub returns-in_err-geometry-clause-cause : goal.returns-in_err-geometry-clause-cause
returns-in_err-geometry-clause-cause g c =
    let p = err_from_is_err_and c.from_residual.result c.from_residual.ensures.1 in
    let no = no_fault_from_fields c.read.new.into c.in_err-geometry.field-0.0 c.in_err-geometry.ensures.refused in
    let kept = c.in_default.ensures.cause.kept in
    record {
      later = omega arith;
      failed = λ is. absurd (no (cc));
      kept = λ other. kept;
    }

pub returns-then-has-needs-clause-refused : goal.returns-then-has-needs-clause-refused
returns-then-has-needs-clause-refused g c = (
  c.sectors-has.ensures,
  c.if-has-needs.true,
  inr (
    omega arith,
    (
      c.in_ok-geometry.geometry,
      c.log_sectors-needs.ensures,
      has_geometry c.read.new.into c.in_ok-geometry.geometry (g.met.D.Device.sound c.args.log.now) (omega arith) c.read.auto.into c.in_default.ensures.ok c.in_ok-geometry.ensures.found,
    ),
  ),
)

pub returns-clause-found : goal.returns-clause-found
returns-clause-found g c =
    formatted_from c.read.new.into c.in_ok-geometry.geometry (g.met.D.Device.sound c.args.log.now) (omega arith) (omega arith) c.read.auto.into c.in_ok-geometry.ensures.bytes c.in_default.ensures.ok c.in_ok-geometry.ensures.found
