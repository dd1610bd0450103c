-- The passes before this one are shown.
use Rattle.std.proofs.Common.{◌≡◌, ◌≤◌, ◌<◌, ◌++◌, length}
use Rattle.std.specs.List.{All}
use Rattle.std.specs.Vec.Iter.{into_iter_items, into_iter_len}
use Rattle.wb_geometry.specs.History.{client_of}
use Rattle.wb_intake.specs.Passes.{view_of, drain_view}
use Rattle.wb_front.specs.Joined.{drained}
use Rattle.wb_front.specs.Closing.{IsShown, HasLooked}
use Rattle.wb_front.proofs.core_of.Core.show_all.Given as goal

abbrev pub invariant-loop-pass : goal.invariant-loop-pass
invariant-loop-pass g l = record {
  all : l.yielded ++ into_iter_items l.pass-iterator ≡ l.fn.passes.items;
  left : into_iter_len l.pass-iterator ≡ length (into_iter_items l.pass-iterator);
  shown : All (λ p. IsShown (drain_view l.self.drain) (view_of p)) l.yielded;
  clients : 1 ≤ length l.yielded → All (λ e. client_of e < g.T.Named.carried.clients) (drained l.self);
  drain : HasLooked (drain_view l.fn.self.drain) (drain_view l.self.drain);
  engine : l.self.engine ≡ l.fn.self.engine;
}
