use Rattle.std.proofs.Common.{sym, ◌∙◌}
use Rattle.wb_tool.proofs.Words.{no_numbers}
use Rattle.wb_tool.proofs.command.numbers_of.Goals as goal

pub returns-in_err-ok : goal.returns-in_err-ok
returns-in_err-ok c =
    rw c.from_residual-in_err-ok.ensures
    (no_numbers _ _ _ _ _ _ c.new.result c.in_ok-order.ensures c.in_ok-slots.ensures c.in_ok-ram.ensures (sym c.ok.ensures.value ∙ c.in_err-ok.was) c.new.ensures.refused)
