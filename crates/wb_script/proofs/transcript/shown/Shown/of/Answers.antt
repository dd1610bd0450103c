-- The shortest pattern, repeated, is the bytes.
use Rattle.std.proofs.Common.{◌≡◌, ◌∙◌, sym, ap, length}
use Rattle.wb_script.specs.Patterns.{repeated, shortest_pattern}
use Rattle.wb_script.proofs.Patterns.{repeated-shortest_pattern}
use Rattle.wb_script.proofs.transcript.shown.Shown.of.Goals as goal

pub invariant_of-result : goal.invariant_of-result
invariant_of-result c =
    let whole : repeated c.shortest.result.now (length c.args.bytes.now) ≡ c.args.bytes.now =
    rw c.shortest.ensures (repeated-shortest_pattern c.args.bytes.now c.requires)
    in
    record { fills = ap length whole; shortest = c.shortest.ensures ∙ ap shortest_pattern (sym whole) }

pub returns : goal.returns
returns c = rw c.shortest.ensures (repeated-shortest_pattern c.args.bytes.now c.requires)
