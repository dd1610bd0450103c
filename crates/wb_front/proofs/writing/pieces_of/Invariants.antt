-- The parts that came are pieces, and the bytes that are left are those of the parts that are left.
use Rattle.std.proofs.Common.{ℕ, ◌≡◌, ◌+◌, ◌*◌, ◌/◌, ◌≤◌, ◌++◌, All, length, map}
use Rattle.std.specs.List.{sum_by}
use Rattle.wb_geometry.specs.Requests.{entries_of, parts}
use Rattle.wb_geometry.specs.declared.geometry.Geometry.{Geometry}
use Rattle.wb_geometry.specs.declared.request.Part.{Part}
use Rattle.wb_geometry.proofs.Histories.{IsPartOf}
use Rattle.wb_front.specs.Requests.{written, IsPieceInside}
use Rattle.wb_front.proofs.writing.pieces_of.Given as goal

abbrev pub invariant-loop-part : goal.invariant-loop-part
invariant-loop-part l = record {
  entries : (client : ℕ) → map (written client) l.pieces.items ++ entries_of client l.part-iterator l.left ≡ entries_of client (parts l.sector (length l.payload / 512)) l.payload;
  sized : length l.left ≡ 512 * sum_by (λ (p : Part). p.count) l.part-iterator;
  parts : All (IsPartOf l.sector (length l.payload / 512)) l.part-iterator;
  inside : (g : Geometry) → l.sector + length l.payload / 512 ≤ g.backing_sectors → All (IsPieceInside g) l.pieces.items;
  few : length l.pieces.items + length l.part-iterator ≤ 33;
}
