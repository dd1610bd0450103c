use Rattle.std.proofs.Common.{◌∙◌, ◌++◌, ap, codes}
use Rattle.std.proofs.lemmas.Result.{IfOk-weaker}
use Rattle.std.specs.Fmt.{decimal}
use Rattle.wb_script.specs.Output.{newline}
use Rattle.wb_tool.proofs.Shapes.{refused_shape}
use Rattle.wb_tool.proofs.slots.refused_slot_text.Goals as goal

pub returns : goal.returns
returns c = IfOk-weaker c.format.result _ _ (λ text same.
    same ∙ refused_shape (decimal c.args.slot) (decimal c.args.id) _
    ∙ ap (λ cause. (codes "slot " ++ decimal c.args.slot) ++ codes " id " ++ decimal c.args.id ++ codes " refused " ++ cause ++ newline) c.in_ok-cause.ensures)
    c.format.ensures.ok
