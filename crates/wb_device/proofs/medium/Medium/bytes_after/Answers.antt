use Rattle.std.proofs.Common.{◌≡◌, ◌/◌, ◌∙◌, ap, subst, take, length, true}
use Rattle.std.proofs.lemmas.List.{with_items_is}
use Rattle.wb_geometry.proofs.Images.{length-sectors_of}
use Rattle.wb_device.specs.Recorded.{change_of, IsWithin}
use Rattle.wb_device.proofs.Media.{read_before, recorded_more, recorded_sync, recorded_write}
use Rattle.wb_device.proofs.medium.Medium.bytes_after.Goals.{in-Written, in_default}
use Rattle.wb_device.proofs.medium.Medium.bytes_after.Goals as goal

pub loop-change-preserved : goal.loop-change-preserved
loop-change-preserved c =
    let recorded = c.args.self.now.recorded.items in
    let i = c.loop-change.change-index in
    let r = c.change-item.result in
    let read = read_before recorded c.args.count i r c.deref-2.ensures.value c.loop-change-test.true c.change-item.is in
    let more = recorded_more recorded i r read.0 read.1 in
    elim c.match-change.branch [
      | in-Written w ↦
          let within = subst (IsWithin (length c.args.self.now.first.items / 512)) (read.1 ∙ w.in-Written.is) (c.args.self.now.within i r read.0) in
          let laid_is : c.match-change.laid.items ≡ w.lay_over.new.onto =
          ap (λ (v : _). v.items) w.laid-is ∙ with_items_is c.loop-change.laid w.lay_over.new.onto (w.lay_over.ensures.size ∙ w.deref_mut.ensures.len) in
          record {
            content = recorded_write (take i recorded) r w.in-Written.at w.in-Written.bytes.items _ _ (ap change_of w.in-Written.is) more
                (rw laid_is (rw (w.deref-in-Written.ensures.value, w.deref_mut.ensures.value) at w.lay_over.ensures.laid))
                (rw (length-sectors_of w.in-Written.bytes.items, length-sectors_of c.loop-change.laid.items, c.loop-change.invariant.size) within.1)
                c.loop-change.invariant.content;
            size = rw laid_is (w.lay_over.ensures.size ∙ ap length w.deref_mut.ensures.value ∙ c.loop-change.invariant.size);
          }
      | in_default w ↦ record {
        content = rw w.laid-is (recorded_sync true (take i recorded) r _ _ (ap change_of w.in_default.is) more c.loop-change.invariant.content);
        size = rw w.laid-is c.loop-change.invariant.size;
      }
    ]
