use Rattle.std.proofs.Common.{inl, refl, sym, ◌∙◌, append_assoc}
use Rattle.std.proofs.lemmas.Result.{IfOk-weaker}
use Rattle.wb_tool.proofs.SlotEnds.{slot_whole, slot_some, slot_few, text_told, refusal_told}
use Rattle.wb_tool.proofs.slots.slot_text.Goals as goal

pub returns-then-id-eq0 : goal.returns-then-id-eq0
returns-then-id-eq0 c = IfOk-weaker c.format.result _ _ (λ text same. inl (sym c.header_id-id.ensures ∙ c.if-id-eq0.true, same ∙ simp append_assoc refl)) c.format.ensures.ok

pub check-requires-clause-whole : goal.check-requires-clause-whole
check-requires-clause-whole c = slot_whole c.args.g.now _ c.requires

pub check-requires-clause-some : goal.check-requires-clause-some
check-requires-clause-some c = slot_some c.args.g.now _ c.requires

pub check-requires-clause-few : goal.check-requires-clause-few
check-requires-clause-few c = slot_few c.args.g.now _ c.requires

pub returns-in-Ok : goal.returns-in-Ok
returns-in-Ok c = IfOk-weaker c.segment_text.result _ _ (λ text told.
    text_told c.args.g.now c.args.slot c.header_id-id.result c.args.bytes.now _ _ c.requires c.header_id-id.ensures c.if-id-eq0.false c.in-Ok.ensures.text c.in-Ok.ensures.found told)
    c.segment_text.ensures

pub returns-in-Err : goal.returns-in-Err
returns-in-Err c = IfOk-weaker c.refused_slot_text.result _ _ (λ text told.
    refusal_told c.args.g.now c.args.slot c.header_id-id.result c.args.bytes.now _ c.in-Err.refused c.requires c.header_id-id.ensures c.if-id-eq0.false c.in-Err.ensures.refused told)
    c.refused_slot_text.ensures
