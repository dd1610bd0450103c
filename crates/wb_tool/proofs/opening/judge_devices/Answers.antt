use Rattle.std.proofs.Common.{arith}
use Rattle.wb_tool.proofs.Accounts.{read_kept, untouched}
use Rattle.wb_tool.proofs.Unserved.{log_bad, ids_bad, backing_bad}
use Rattle.wb_tool.proofs.opening.judge_devices.Goals as goal

pub returns-in-Err-clause-bad : goal.returns-in-Err-clause-bad
returns-in-Err-clause-bad g c =
    let read = c.read_super.ensures in
    let refused = c.refuse_log.ensures in
    log_bad _ _ _ _ _ c.read_super.result c.in-Err.refused c.in-Err.is read.cause c.in-Err.ensures.refused refused.told refused.fault

pub returns-then-found-most_recorded-clause-bad : goal.returns-then-found-most_recorded-clause-bad
returns-then-found-most_recorded-clause-bad g c =
    ids_bad _ _ _ _ _ c.read_super.result c.in-Ok.found c.in-Ok.is c.read_super.ensures.cause c.in-Ok.ensures.found
    (omega (arith, c.most_recorded.ensures, c.if-found-most_recorded.true)) c.refuse_ids.ensures

pub returns-then-sectors-geometry-clause-bad : goal.returns-then-sectors-geometry-clause-bad
returns-then-sectors-geometry-clause-bad g c =
    backing_bad _ _ _ _ c.sectors-sectors.result _ c.read_super.result c.in-Ok.found c.in-Ok.is c.read_super.ensures.cause c.in-Ok.ensures.found
    (omega (arith, c.most_recorded.ensures, c.if-found-most_recorded.false)) c.sectors-sectors.ensures c.if-sectors-geometry.true c.refuse_backing.ensures

pub returns-clause-good : goal.returns-clause-good
returns-clause-good g c = record {
  super = c.in-Ok.ensures.found;
  ids = omega (arith, c.most_recorded.ensures, c.if-found-most_recorded.false);
  room = omega (arith, c.sectors-sectors.ensures, c.if-sectors-geometry.false);
  faults = read_kept c.read_super.result c.in-Ok.found _ _ c.in-Ok.is c.read_super.ensures.cause;
  untold = untouched _ _;
}
