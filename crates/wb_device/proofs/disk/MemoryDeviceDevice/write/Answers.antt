use Rattle.std.proofs.Common.{◌∙◌, ◌++◌, ◌∷◌, [], ap, refl, take}
use Rattle.wb_geometry.specs.Image.{sectors_of, overlay}
use Rattle.wb_geometry.specs.Disk.{Write}
use Rattle.wb_geometry.proofs.Moments.{weaker, content_step, on_err}
use Rattle.wb_geometry.proofs.Disks.{disk_written, IsPartlyWritten-front}
use Rattle.wb_device.specs.Disk.{memory_content, memory_first, memory_changes}
use Rattle.wb_device.specs.declared.disk.MemoryDevice.{MemoryDevice}
use Rattle.wb_device.proofs.Media.{front_partly}
use Rattle.wb_device.proofs.disk.MemoryDeviceDevice.write.Goals as goal

pub returns-in-Ok-clause-crash : goal.returns-in-Ok-clause-crash
returns-in-Ok-clause-crash c =
    disk_written c.args.at (sectors_of c.args.bytes.now)
    (ap (λ (v : _). sectors_of v.items) c.store.ensures.first ∙ ap memory_first c.begun.ensures.calls)
    (c.in-Ok.ensures.recorded ∙ ap (λ (d : MemoryDevice). memory_changes d ++ Write c.args.at (sectors_of c.args.bytes.now) ∷ []) c.begun.ensures.calls)

pub returns-in-Ok-store_front-clause-err : goal.returns-in-Ok-store_front-clause-err
returns-in-Ok-store_front-clause-err c =
    on_err c.failed-in-Ok-store_front.result (content_step refl refl
    (front_partly c.args.at c.in-Some.count c.args.bytes.now c.args.self.now.medium.bytes.items c.requires.inside
    (ap memory_content c.failed-in-Ok-store_front.ensures.faults ∙ c.in-Ok-store_front.ensures.written
    ∙ ap (λ (d : MemoryDevice). overlay c.args.at (take c.in-Some.count (sectors_of c.args.bytes.now)) (memory_content d)) c.begun.ensures.calls)))

pub returns-in-Ok-store_front-clause-crash : goal.returns-in-Ok-store_front-clause-crash
returns-in-Ok-store_front-clause-crash c =
    weaker (λ x y left step. IsPartlyWritten-front c.args.at c.in-Some.count (sectors_of c.args.bytes.now) x y step)
    (disk_written c.args.at (take c.in-Some.count (sectors_of c.args.bytes.now))
    (ap memory_first c.failed-in-Ok-store_front.ensures.faults ∙ ap (λ (v : _). sectors_of v.items) c.store_front.ensures.first ∙ ap memory_first c.begun.ensures.calls)
    (ap memory_changes c.failed-in-Ok-store_front.ensures.faults ∙ c.in-Ok-store_front.ensures.recorded
    ∙ ap (λ (d : MemoryDevice). memory_changes d ++ Write c.args.at (take c.in-Some.count (sectors_of c.args.bytes.now)) ∷ []) c.begun.ensures.calls))
