-- No shorter front repeats, and this one does: the last that is left is the whole.
use Rattle.std.proofs.Common.{arith, ◌∙◌, sym, length}
use Rattle.std.proofs.Math.Seq.{take-length}
use Rattle.wb_script.proofs.Patterns.{repeats_all, shortest_pattern-first}
use Rattle.wb_script.proofs.transcript.shown.shortest.Goals as goal

pub returns-then-repeats_front : goal.returns-then-repeats_front
returns-then-repeats_front c =
    shortest_pattern-first c.args.bytes.now c.loop-n.n (omega arith) (omega arith) c.loop-n.invariant
    (sym c.if-repeats_front.ensures)

pub returns : goal.returns
returns c =
    sym (take-length c.args.bytes.now)
    ∙ shortest_pattern-first c.args.bytes.now (length c.args.bytes.now) (omega arith) (omega arith)
    (λ k low high. c.loop-n.invariant k low (omega arith)) (repeats_all c.args.bytes.now c.requires)
