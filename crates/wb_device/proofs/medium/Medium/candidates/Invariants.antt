-- As far as the changes were gone through.
use Rattle.std.proofs.Common.{◌≡◌, ◌+◌, [], ◌∷◌, take, map}
use Rattle.wb_geometry.specs.Image.{sector, sectors_of}
use Rattle.wb_geometry.specs.Disk.{candidates, newest}
use Rattle.wb_device.specs.Recorded.{changes_of}
use Rattle.wb_device.proofs.medium.Medium.candidates.Given as goal

abbrev pub invariant-loop-change : goal.invariant-loop-change
invariant-loop-change l =
    let cs = candidates l.fn.index (changes_of (take (l.fn.count + l.change-index) l.fn.self.recorded.items)) (sector (sectors_of l.fn.self.first.items) l.fn.index ∷ []) in
    record {
      found : map (λ s. s.now) l.found.items ≡ cs;
      newest : l.newest ≡ newest cs;
    }
