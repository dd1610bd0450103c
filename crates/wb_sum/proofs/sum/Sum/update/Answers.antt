use Rattle.std.proofs.Common.{ℕ, List, ◌∙◌, ap, arith}
use Rattle.std.specs.Int.{w32, bit_not}
use Rattle.wb_sum.proofs.Division.{sum_more}
use Rattle.wb_sum.proofs.sum.Sum.update.Goals as goal

pub returns : goal.returns
returns c = λ (seen : List ℕ) before. ap (bit_not w32) c.after_bytes-self-inside.ensures ∙ sum_more c.self.inside.register c.args.bytes.now seen (omega arith) (c.self.view_is ∙ before)
