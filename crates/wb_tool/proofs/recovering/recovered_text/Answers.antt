use Rattle.std.proofs.Common.{◌≡◌, ◌∙◌, ◌++◌, ◌+◌, ◌-◌, List, ap, codes, ℕ, arith}
use Rattle.std.proofs.lemmas.Result.{IfOk-weaker}
use Rattle.std.specs.Fmt.{decimal}
use Rattle.wb_script.specs.Output.{newline}
use Rattle.wb_tool.specs.SlotTexts.{segment_cause}
use Rattle.wb_tool.proofs.Shapes.{recovered_shape}
use Rattle.wb_tool.proofs.recovering.recovered_text.Goals as goal

pub returns : goal.returns
returns c =
    let recovery = c.args.recovery.now in
    let made : ℕ → List ℕ → List ℕ = λ count cause.
    codes "recovered " ++ decimal count ++ codes " segments from " ++ decimal recovery.from ++ codes " record " ++ decimal recovery.recorded ++ codes " stopped " ++ cause ++ newline in
    let count : recovery.through - (recovery.from - 1) ≡ recovery.through + 1 - recovery.from = omega (arith, c.requires.first, c.requires.low) in
    IfOk-weaker c.format.result _ _ (λ text same.
    same ∙ recovered_shape _ (decimal recovery.from) (decimal recovery.recorded) _
    ∙ ap (made (recovery.through - (recovery.from - 1))) c.in_ok-cause.ensures
    ∙ ap (λ (n : ℕ). made n (segment_cause recovery.stopped)) count)
    c.format.ensures.ok
