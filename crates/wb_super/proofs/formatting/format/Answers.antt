-- From nothing pending, what a crash leaves is the content or comes from it by formatting.
use Rattle.std.proofs.Common.{refl}
use Rattle.wb_super.proofs.Formattings.{formats_any_moment}
use Rattle.wb_super.proofs.formatting.format.Goals as goal

pub returns-then-has-needs-clause-room : goal.returns-then-has-needs-clause-room
returns-then-has-needs-clause-room g c = λ other. absurd (other c.log_sectors-needs.result c.sectors-has.result refl)

pub returns-in-Ok-clause-any_moment : goal.returns-in-Ok-clause-any_moment
returns-in-Ok-clause-any_moment g c = λ nothing x told. formats_any_moment c.args.g.now x (g.met.D.Device.sound c.args.log.now) nothing told c.rewrite.ensures.crash

pub returns-in-Err-clause-any_moment : goal.returns-in-Err-clause-any_moment
returns-in-Err-clause-any_moment g c = λ nothing x told. formats_any_moment c.args.g.now x (g.met.D.Device.sound c.args.log.now) nothing told c.rewrite.ensures.crash
