use Rattle.std.proofs.Common.{refl, ap}
use Rattle.wb_device.specs.declared.disk.MemoryDevice.{MemoryDevice}
use Rattle.wb_device.proofs.Contents.{read_holds}
use Rattle.wb_device.proofs.disk.MemoryDeviceDevice.read.Goals as goal

pub returns-clause-ok : goal.returns-clause-ok
returns-clause-ok c =
    let same = ap (λ (d : MemoryDevice). d.medium.bytes.items) c.begun.ensures.calls in
    let copied = rw (c.bytes.ensures, same) at c.copy_from_slice.ensures.after in
    read_holds c.args.at _ _ c.copy_from_slice.new.self c.args.self.now.medium.bytes.items refl refl c.copy_from_slice.ensures.len c.requires.whole c.requires.inside copied
