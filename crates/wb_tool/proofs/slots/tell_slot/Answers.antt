use Rattle.std.proofs.Common.{◌≡◌, ◌*◌, inr, sym, subst, ap, ◌∙◌, arith, length, List, ℕ}
use Rattle.std.specs.String.{string_bytes}
use Rattle.wb_geometry.specs.Layout.{slot_sectors}
use Rattle.wb_geometry.specs.Device.{HoldsContent}
use Rattle.wb_tool.proofs.Accounts.{telling_same}
use Rattle.wb_tool.proofs.SlotEnds.{slot_read, taken_whole}
use Rattle.wb_tool.proofs.slots.tell_slot.Goals as goal

pub returns-in-Ok-slot_text-clause-ends : goal.returns-in-Ok-slot_text-clause-ends
returns-in-Ok-slot_text-clause-ends g c =
    let found = c.args.found.now in
    let into = c.read.new.into in
    let whole : length into ≡ c.in-Ok.bytes.len = c.read.auto.into ∙ c.deref_mut.ensures.len in
    let same : c.deref.result.now ≡ into = c.deref.ensures.value ∙ taken_whole c.in-Ok.bytes.len into _ whole in
    let size : length into ≡ 512 * slot_sectors found.geometry = omega (arith, whole, c.in-Ok.ensures.len, c.slot_sectors.ensures) in
    inr (inr (record {
      below = c.requires.below;
      text = string_bytes c.in-Ok-slot_text.text;
      is = slot_read found.geometry c.args.slot c.slot_start.result (g.L.Device.state c.args.log.now) c.deref.result.now _ c.requires.below c.slot_start.ensures
          (ap length same ∙ size) (subst (λ (bytes : List ℕ). HoldsContent c.slot_start.result bytes (g.L.Device.state c.args.log.now)) (sym same) c.in-Ok-read.ensures.ok) c.in-Ok-slot_text.ensures;
      told = telling_same _ _ _ _ c.answer.ensures c.as_str.ensures.value;
    }))
