-- As far as the changes were gone through.
use Rattle.std.proofs.Common.{◌≡◌, take, length}
use Rattle.wb_geometry.specs.Image.{sectors_of}
use Rattle.wb_geometry.specs.Disk.{IsContent}
use Rattle.wb_device.specs.Recorded.{changes_of}
use Rattle.wb_device.proofs.medium.Medium.bytes_after.Given as goal

abbrev pub invariant-loop-change : goal.invariant-loop-change
invariant-loop-change l = record {
  content : IsContent (sectors_of l.fn.self.first.items) (changes_of (take l.change-index l.fn.self.recorded.items)) (sectors_of l.laid.items);
  size : length l.laid.items ≡ length l.fn.self.first.items;
}
