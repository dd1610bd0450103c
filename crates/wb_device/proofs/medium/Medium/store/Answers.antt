use Rattle.std.proofs.Common.{◌/◌, ◌∙◌, true, length, sym, ap}
use Rattle.std.proofs.lemmas.List.{with_items_is}
use Rattle.wb_geometry.specs.Image.{sectors_of}
use Rattle.wb_geometry.specs.Disk.{Write}
use Rattle.wb_geometry.proofs.Images.{length-sectors_of}
use Rattle.wb_device.proofs.Media.{recorded_write, within_push}
use Rattle.wb_device.proofs.medium.Medium.store.Goals as goal

pub invariant_of-self-2-clause-size : goal.invariant_of-self-2-clause-size
invariant_of-self-2-clause-size c =
    c.args.self.now.size
    ∙ sym (ap length (with_items_is c.args.self.now.bytes c.lay_over.new.onto (c.lay_over.ensures.size ∙ c.deref_mut.ensures.len)) ∙ c.lay_over.ensures.size ∙ ap length c.deref_mut.ensures.value)

pub invariant_of-self-2-clause-within : goal.invariant_of-self-2-clause-within
invariant_of-self-2-clause-within c =
    within_push true (length c.args.self.now.first.items / 512) c.args.self.now.recorded.items _
    (rw c.in_ok-copy.ensures.items c.requires.whole, rw (c.in_ok-copy.ensures.items, c.args.self.now.size) c.requires.inside)
    c.in_ok-push.ensures.items c.args.self.now.within

pub invariant_of-self-2-clause-content : goal.invariant_of-self-2-clause-content
invariant_of-self-2-clause-content c =
    recorded_write c.args.self.now.recorded.items _ c.args.at c.args.bytes.now _ _
    (ap (λ (bytes : _). Write c.args.at (sectors_of bytes)) c.in_ok-copy.ensures.items)
    c.in_ok-push.ensures.items
    (ap sectors_of (with_items_is c.args.self.now.bytes c.lay_over.new.onto (c.lay_over.ensures.size ∙ c.deref_mut.ensures.len)) ∙ (rw c.deref_mut.ensures.value at c.lay_over.ensures.laid))
    (rw (length-sectors_of c.args.bytes.now, length-sectors_of c.args.self.now.bytes.items) c.requires.inside)
    c.args.self.now.content

pub returns-clause-written : goal.returns-clause-written
returns-clause-written c =
    ap sectors_of (with_items_is c.args.self.now.bytes c.lay_over.new.onto (c.lay_over.ensures.size ∙ c.deref_mut.ensures.len)) ∙ (rw c.deref_mut.ensures.value at c.lay_over.ensures.laid)
