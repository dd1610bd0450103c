-- The entries before this one came.
use Rattle.std.proofs.Common.{◌≡◌, ◌++◌, [], length, map}
use Rattle.std.specs.List.{range_with_len}
use Rattle.std.specs.Vec.Iter.{into_iter_items, into_iter_len}
use Rattle.wb_geometry.specs.Entering.{entered}
use Rattle.wb_serve.specs.Playing.{HasMoved, AreSpent}
use Rattle.wb_serve.proofs.writing.take_places.Given as goal

abbrev pub invariant-loop-entry : goal.invariant-loop-entry
invariant-loop-entry g l = record {
  all : l.yielded ++ into_iter_items l.entry-iterator ≡ l.fn.entries.items;
  left : into_iter_len l.entry-iterator ≡ length (into_iter_items l.entry-iterator);
  moved : HasMoved g.L.Device.state g.B.Device.state l.fn.engine l.engine (map entered l.yielded) 0 0;
  places : l.places ≡ range_with_len l.fn.engine.absorbed (length l.yielded);
  none_left : AreSpent l.fn.engine → map entered l.yielded ≡ [];
}
