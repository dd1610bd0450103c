-- Each client before this one heard a note of every lower one.
use Rattle.std.proofs.Common.{ℕ, ◌≡◌, ◌*◌, ◌<◌, length, slice_index_or}
use Rattle.wb_intake.specs.declared.pass.Pass.{Pass}
use Rattle.wb_threads.specs.Threads.{HasToldFew, HasHeardLast}
use Rattle.wb_threads.proofs.last_notes.tell_last.Given as goal

abbrev pub invariant-loop-hearer : goal.invariant-loop-hearer
invariant-loop-hearer g l = record {
  long : length l.passes ≡ length l.fn.passes;
  heard : (i : ℕ) (d : Pass) → i < l.hearer → HasHeardLast g.T.Named.carried l.fn.passes i (slice_index_or l.fn.passes i d) (slice_index_or l.passes i d);
  kept : (i : ℕ) (d : Pass) → i < length l.fn.passes → HasHeardLast g.T.Named.carried l.fn.passes 0 (slice_index_or l.fn.passes i d) (slice_index_or l.passes i d);
  few : (i : ℕ) (d : Pass) → i < length l.fn.passes → HasToldFew (32 * l.hearer) (slice_index_or l.fn.passes i d) (slice_index_or l.passes i d);
}
