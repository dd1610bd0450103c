use Rattle.std.proofs.Common.{refl, sym, ap}
use Rattle.wb_geometry.specs.Image.{sectors_of}
use Rattle.wb_geometry.proofs.Disks.{disk_new}
use Rattle.wb_device.specs.Recorded.{changes_of}
use Rattle.wb_device.proofs.disk.MemoryDevice.of.Goals as goal

pub returns-clause-fresh : goal.returns-clause-fresh
returns-clause-fresh c = record {
  unused = record { faults = refl; syncs = refl; reads = refl };
  calls = refl;
  starved = refl;
  changes = ap changes_of c.in_ok-of.ensures.recorded;
  durable = disk_new (ap changes_of c.in_ok-of.ensures.recorded) (ap sectors_of (sym c.in_ok-of.ensures.first));
}
