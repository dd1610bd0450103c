-- Where n divides the number of bytes, the comparison decides the period, and so the repeats.
use Rattle.std.proofs.Common.{◌-◌, ◌%◌, ◌∙◌, length, take, drop}
use Rattle.std.proofs.lemmas.Bool.{ne_eqb}
use Rattle.std.proofs.lemmas.Bool.Decides.{Decides-eqb}
use Rattle.std.proofs.lemmas.List.{take_rest}
use Rattle.std.proofs.lemmas.Slice.Eq.{slice_eq-Decides}
use Rattle.wb_script.proofs.Patterns.{repeats-whole, repeats-not_whole}
use Rattle.wb_script.proofs.transcript.shown.repeats_front.Goals as goal

pub returns-then-bytes-n-eq0 : goal.returns-then-bytes-n-eq0
returns-then-bytes-n-eq0 c =
    repeats-whole c.args.bytes.now c.args.n c.eq.result c.requires.some c.requires.within c.if-bytes-n-eq0.true
    (slice_eq-Decides Decides-eqb (drop c.args.n c.args.bytes.now) (take (length c.args.bytes.now - c.args.n) c.args.bytes.now) c.eq.result (rw (take_rest c.args.bytes.now c.args.n) at c.eq.ensures))

pub returns-else-bytes-n-eq0 : goal.returns-else-bytes-n-eq0
returns-else-bytes-n-eq0 c =
    ne_eqb (length c.args.bytes.now % c.args.n) 0 c.if-bytes-n-eq0.false
    ∙ repeats-not_whole c.args.bytes.now c.args.n c.if-bytes-n-eq0.false
