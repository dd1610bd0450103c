use Rattle.std.proofs.Common.{◌∙◌, ◌++◌, ap, codes}
use Rattle.std.proofs.lemmas.Result.{IfOk-weaker}
use Rattle.std.specs.Fmt.{decimal}
use Rattle.wb_script.specs.Output.{newline}
use Rattle.wb_tool.proofs.Shapes.{inspected_shape}
use Rattle.wb_tool.proofs.texts.inspected_text.Goals as goal

pub returns : goal.returns
returns c =
    let found = c.args.found.now in
    IfOk-weaker c.format.result _ _ (λ text same.
    same ∙ inspected_shape (decimal found.version) _ (decimal found.recorded)
    ∙ ap (λ geometry. codes "version " ++ decimal found.version ++ codes " " ++ geometry ++ codes " record " ++ decimal found.recorded ++ newline) c.in_ok-geometry.ensures)
    c.format.ensures.ok
