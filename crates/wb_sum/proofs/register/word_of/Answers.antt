use Rattle.std.proofs.Common.{◌∙◌, arith}
use Rattle.wb_sum.proofs.Words.{le_word}
use Rattle.wb_sum.proofs.register.word_of.Goals as goal

pub returns : goal.returns
returns c = c.from_le_bytes.ensures ∙ le_word c.args.bytes.now c.told-bytes (λ i. omega (arith, c.fits-bytes i))
