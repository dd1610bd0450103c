use Rattle.std.proofs.Common.{◌≡◌, ◌*◌, min, ℕ, subst, ap, ◌∙◌, arith}
use Rattle.wb_tool.proofs.Summed.{IsSummedTo, summed_more, summed_all}
use Rattle.wb_tool.proofs.workload.sum_front.Goals as goal

pub loop-piece-preserved : goal.loop-piece-preserved
loop-piece-preserved g c =
    let piece = c.loop-piece.piece in
    let added = c.in_ok-add_piece.ensures in
    let before : min (32 * piece) c.min-end.result ≡ piece * 32 = omega (arith, c.loop-piece-test.true, c.div_ceil-piece-end.ensures) in
    summed_more (piece * 32) c.min.result
    (subst (λ (n : ℕ). IsSummedTo n c.loop-piece.sum (g.B.Device.state c.args.device.now) (g.B.Device.state c.loop-piece.device)) before c.loop-piece.invariant)
    added.read added.cause.kept added.sum (omega (arith, before, c.min.ensures))

pub returns-clause-sum : goal.returns-clause-sum
returns-clause-sum g c image told =
    c.finish.ensures
    ∙ summed_all c.args.sectors (min (32 * c.loop-piece.piece) c.min-end.result) c.min-end.result c.loop-piece.sum _ _ (g.met.B.Device.sound c.args.device.now) c.loop-piece.invariant
    (c.min-end.ensures ∙ ap (min c.args.sectors) c.sectors.ensures) (omega (arith, c.loop-piece-test.false, c.div_ceil-piece-end.ensures)) image told
