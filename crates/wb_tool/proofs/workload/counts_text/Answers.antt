use Rattle.std.proofs.Common.{◌∙◌, ◌+◌, ◌-◌, ◌*◌, ◌/◌}
use Rattle.std.proofs.lemmas.Result.{IfOk-weaker}
use Rattle.std.specs.Fmt.{decimal}
use Rattle.wb_tool.proofs.Counts.{counts_are}
use Rattle.wb_tool.proofs.Shapes.{counts_shape}
use Rattle.wb_tool.proofs.workload.counts_text.Goals as goal

pub returns : goal.returns
returns c region =
    let count = c.args.numbers.count in
    IfOk-weaker c.format.result _ _ (λ text same.
    same ∙ counts_shape (decimal (4 * count)) (decimal (4 * ((count + 1) / 2 - (count / 125 + 1) / 2))) (decimal (4 * (count / 2 - count / 125 / 2))) (decimal (4 * (count / 125)))
    ∙ counts_are c.args.numbers region)
    c.format.ensures.ok
