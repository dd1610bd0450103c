use Rattle.std.proofs.Common.{◌∙◌}
use Rattle.wb_tool.proofs.Accounts.{super_inspected, telling_same}
use Rattle.wb_tool.proofs.inspecting.inspect_log.Goals as goal

pub returns-in-Ok-inspected_text : goal.returns-in-Ok-inspected_text
returns-in-Ok-inspected_text g c =
    super_inspected _ _ _ _ c.in-Ok.found c.read_super.result c.read_super.ensures.only_read c.in-Ok.is c.read_super.ensures.cause c.in-Ok.ensures.found
    (telling_same _ _ _ _ c.answer.ensures (c.as_str.ensures.value ∙ c.in-Ok-inspected_text.ensures))
