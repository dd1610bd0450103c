use Rattle.std.proofs.Common.{Err, arith, ap, ◌∙◌}
use Rattle.wb_tool.proofs.Accounts.{telling_same}
use Rattle.wb_tool.proofs.Servings.{took_same}
use Rattle.wb_tool.proofs.Formatted.{format_small, format_memory, format_failed, format_done}
use Rattle.wb_tool.proofs.formatting.format_log.Goals as goal

pub returns-in-Ok-format : goal.returns-in-Ok-format
returns-in-Ok-format g c =
    let format = c.format.ensures in
    format_done _ _ c.geometry_of-geometry.result _ _ _ c.format.result c.in-Ok-format.field-0 _ (omega (arith, c.if-sectors-lt-BLOCK_SECTORS.false)) c.geometry_of-geometry.ensures
    c.in-Ok-format.is format.cause format.crash format.any_moment format.room c.in-Ok-format.ensures.ok c.in-Ok-format.ensures.durable
    (telling_same _ _ _ _ c.answer.ensures (c.as_str.ensures.value ∙ c.in-Ok.ensures))

pub returns-in-Err-Fault : goal.returns-in-Err-Fault
returns-in-Err-Fault g c =
    let format = c.format.ensures in
    format_failed _ _ c.geometry_of-geometry.result _ _ _ c.format.result (omega (arith, c.if-sectors-lt-BLOCK_SECTORS.false)) c.geometry_of-geometry.ensures
    (c.in-Err-Fault.is ∙ ap Err c.in-Err-Fault.field-0-is) format.cause format.crash format.any_moment format.room c.in-Err-Fault.ensures.err c.tell.ensures

pub returns-in_default-small_text : goal.returns-in_default-small_text
returns-in_default-small_text g c =
    format_memory _ _ _ _ _ (g.met.L.Device.sound c.args.log.now)
    (ap g.L.Device.state (c.format.ensures.nothing_done c.in-Err-Small.needs c.in-Err-Small.has (c.in-Err-Small.is ∙ ap Err c.in-Err-Small.field-0-is)))

pub returns : goal.returns
returns g c =
    let small = c.in-Err-Small in
    let is = small.is ∙ ap Err small.field-0-is in
    format_small _ _ c.geometry_of-geometry.result _ _ _ small.needs small.has (g.met.L.Device.sound c.args.log.now) (omega (arith, c.if-sectors-lt-BLOCK_SECTORS.false)) c.geometry_of-geometry.ensures
    (c.format.ensures.small small.needs small.has is) (ap g.L.Device.state (c.format.ensures.nothing_done small.needs small.has is))
    (took_same _ _ _ c.tell-in-Err-Small.ensures (c.as_str-in-Err-Small.ensures.value ∙ c.in-Ok-small_text.ensures))
