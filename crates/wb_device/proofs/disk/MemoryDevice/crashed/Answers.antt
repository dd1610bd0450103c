use Rattle.wb_geometry.proofs.Disks.{MayLeave-choose}
use Rattle.wb_device.specs.Disk.{memory_first, memory_changes}
use Rattle.wb_device.proofs.disk.MemoryDevice.crashed.Goals as goal

pub returns-in_err-bytes-clause-left : goal.returns-in_err-bytes-clause-left
returns-in_err-bytes-clause-left c = MayLeave-choose c.args.choice.now (memory_first c.args.self.now) (memory_changes c.args.self.now)

pub returns-clause-left : goal.returns-clause-left
returns-clause-left c = MayLeave-choose c.args.choice.now (memory_first c.args.self.now) (memory_changes c.args.self.now)
