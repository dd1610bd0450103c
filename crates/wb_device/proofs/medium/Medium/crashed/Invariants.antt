-- As far as the sectors were chosen.
use Rattle.std.proofs.Common.{◌≡◌, ◌*◌, ◌≤◌, ◌++◌, drop, length}
use Rattle.wb_geometry.specs.Image.{sectors_of}
use Rattle.wb_geometry.specs.Disk.{choose, all_candidates}
use Rattle.wb_device.specs.Recorded.{changes_of}
use Rattle.wb_device.proofs.medium.Medium.crashed.Given as goal

abbrev pub invariant-loop-index : goal.invariant-loop-index
invariant-loop-index l =
    let css = all_candidates (sectors_of l.fn.self.first.items) (changes_of l.fn.self.recorded.items) in
    record {
      chosen : choose l.fn.choice 0 css ≡ sectors_of l.image.items ++ choose l.fn.choice l.written (drop l.index css);
      size : length l.image.items ≡ 512 * l.index;
      few : l.written ≤ l.index;
    }
