use Rattle.std.proofs.Common.{arith}
use Rattle.wb_tool.proofs.SlotEnds.{no_slot, at_slot}
use Rattle.wb_tool.proofs.slots.inspect_slot.Goals as goal

pub returns-then-slot-from : goal.returns-then-slot-from
returns-then-slot-from g c =
    no_slot c.args.slot c.in-Ok.found _ _ _ _ c.read_super.result c.read_super.ensures.only_read c.in-Ok.is c.read_super.ensures.cause c.in-Ok.ensures.found
    (omega (arith, c.from.ensures, c.if-slot-from.true)) c.refuse_slot.ensures

pub returns : goal.returns
returns g c =
    at_slot c.args.slot c.in-Ok.found _ _ _ _ _ c.read_super.result c.read_super.ensures.only_read c.in-Ok.is c.read_super.ensures.cause c.in-Ok.ensures.found
    c.tell_slot.ensures.log c.tell_slot.ensures.faults c.tell_slot.ensures.ends
