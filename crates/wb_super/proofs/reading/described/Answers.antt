-- The sector is an array of bytes.
use Rattle.std.proofs.Common.{arith}
use Rattle.std.proofs.lemmas.List.{get_or_default}
use Rattle.wb_super.proofs.reading.described.Goals as goal

pub returns-in-Ok-clause-bytes : goal.returns-in-Ok-clause-bytes
returns-in-Ok-clause-bytes c = λ k d inside. omega (arith, c.fits-front k, get_or_default c.args.front.now k d 0 inside)
