use Rattle.std.proofs.Common.{◌∙◌, ap}
use Rattle.std.proofs.lemmas.Result.{IfOk-weaker}
use Rattle.std.specs.Fmt.{decimal}
use Rattle.wb_script.specs.Output.{sum_text}
use Rattle.wb_tool.proofs.Shapes.{workload_pieces, workload_shape}
use Rattle.wb_tool.proofs.workload.workload_text.Goals as goal

pub returns : goal.returns
returns c region =
    let seed = c.args.numbers.seed in
    IfOk-weaker c.format.result _ _ (λ text same.
    same ∙ workload_shape (decimal seed) (decimal 4) _ _
    ∙ ap (workload_pieces (decimal seed) (decimal 4) _) c.in_ok-sum.ensures
    ∙ ap (λ counts. workload_pieces (decimal seed) (decimal 4) counts (sum_text c.args.sum)) (c.in_ok-counts.ensures region))
    c.format.ensures.ok
