use Rattle.std.proofs.Common.{refl}
use Rattle.wb_device.proofs.Contents.{read_holds}
use Rattle.wb_device.proofs.steady.SteadyDeviceDevice.read.Goals as goal

pub returns-clause-ok : goal.returns-clause-ok
returns-clause-ok c =
    let copied = rw c.deref.ensures.value at c.copy_from_slice.ensures.after in
    read_holds c.args.at _ _ c.copy_from_slice.new.self c.args.self.now.bytes.items refl refl c.copy_from_slice.ensures.len c.requires.whole c.requires.inside copied
