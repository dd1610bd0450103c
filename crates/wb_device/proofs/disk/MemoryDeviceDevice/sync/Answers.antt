use Rattle.std.proofs.Common.{◌∙◌, ◌++◌, ◌∷◌, [], ap}
use Rattle.wb_geometry.specs.Image.{sectors_of}
use Rattle.wb_geometry.specs.Disk.{Sync}
use Rattle.wb_geometry.proofs.Disks.{disk_synced, disk_durable}
use Rattle.wb_device.specs.Disk.{memory_first, memory_changes}
use Rattle.wb_device.specs.declared.disk.MemoryDevice.{MemoryDevice}
use Rattle.wb_device.proofs.disk.MemoryDeviceDevice.sync.Goals as goal

pub returns-in-Ok-clause-ok : goal.returns-in-Ok-clause-ok
returns-in-Ok-clause-ok c = disk_durable _ c.in-Ok.ensures.recorded c.keep.new.self.content

pub returns-in-Ok-clause-crash : goal.returns-in-Ok-clause-crash
returns-in-Ok-clause-crash c =
    disk_synced
    (ap (λ (v : _). sectors_of v.items) c.keep.ensures.first ∙ ap memory_first c.begun.ensures.calls)
    (c.in-Ok.ensures.recorded ∙ ap (λ (d : MemoryDevice). memory_changes d ++ Sync ∷ []) c.begun.ensures.calls)
