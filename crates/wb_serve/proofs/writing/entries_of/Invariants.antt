-- The parts that came are entries, and the bytes that are left are those of the parts that are left.
use Rattle.std.proofs.Common.{◌≡◌, ◌*◌, ◌++◌, All, length, map}
use Rattle.std.specs.List.{sum_by}
use Rattle.wb_geometry.specs.Entering.{entered}
use Rattle.wb_geometry.specs.Requests.{entries_of, parts}
use Rattle.wb_geometry.specs.declared.request.Part.{Part}
use Rattle.wb_geometry.proofs.Histories.{IsPartOf}
use Rattle.wb_serve.proofs.writing.entries_of.Given as goal

abbrev pub invariant-loop-part : goal.invariant-loop-part
invariant-loop-part l = record {
  entries : map entered l.entries.items ++ entries_of l.client l.part-iterator l.left ≡ entries_of l.client (parts l.sector l.count) l.bytes;
  sized : length l.left ≡ 512 * sum_by (λ (p : Part). p.count) l.part-iterator;
  parts : All (IsPartOf l.sector l.count) l.part-iterator;
}
