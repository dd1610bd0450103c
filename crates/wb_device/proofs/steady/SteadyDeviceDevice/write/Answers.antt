use Rattle.std.proofs.Common.{refl, arith}
use Rattle.wb_geometry.proofs.Moments.{content_step}
use Rattle.wb_device.proofs.Contents.{write_lays_over}
use Rattle.wb_device.proofs.steady.SteadyDeviceDevice.write.Goals as goal

pub returns-clause-ok : goal.returns-clause-ok
returns-clause-ok c =
    content_step refl refl
    (rw (c.deref_mut.ensures.value, c.copy_from_slice.ensures.after)
    (write_lays_over c.args.at _ _ c.args.bytes.now c.args.self.now.bytes refl (omega arith) c.requires.whole c.requires.inside))
