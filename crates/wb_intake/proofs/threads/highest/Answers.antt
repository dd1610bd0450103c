use Rattle.std.proofs.Common.{◌+◌, ◌/◌}
use Rattle.std.proofs.Math.Nat.{mul-mod_left}
use Rattle.wb_intake.proofs.threads.highest.Goals as goal

pub returns-clause-whole : goal.returns-clause-whole
returns-clause-whole c = mul-mod_left (c.args.drained / c.args.intake.now.shape.places + c.args.intake.now.shape.ram) c.args.intake.now.shape.places
