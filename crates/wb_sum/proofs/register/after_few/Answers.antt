use Rattle.std.proofs.Common.{◌+◌, ◌∙◌, ap, drop, arith}
use Rattle.std.specs.Int.Bits.{bit_xor}
use Rattle.wb_sum.specs.Register.{reduce, run}
use Rattle.wb_sum.proofs.Registers.{run_next, run_end}
use Rattle.wb_sum.proofs.register.after_few.Goals as goal

pub loop-byte-preserved : goal.loop-byte-preserved
loop-byte-preserved c =
    ap (λ r. run r (drop (c.loop-byte.byte-index + 1) c.args.bytes.now)) (c.after_byte-register.ensures ∙ ap (λ b. reduce 8 (bit_xor c.loop-byte.register b)) c.from.ensures)
    ∙ run_next c.loop-byte.register c.loop-byte.byte-index (run c.args.start c.args.bytes.now) c.args.bytes.now (omega arith) (omega (arith, c.type_inv.bytes c.loop-byte.byte-index)) c.loop-byte.invariant

pub returns : goal.returns
returns c = run_end c.loop-byte.register c.loop-byte.byte-index (run c.args.start c.args.bytes.now) c.args.bytes.now (omega arith) c.loop-byte.invariant
