-- A note of each client before this one was heard.
use Rattle.std.proofs.Common.{ℕ, ◌≡◌, ◌<◌, length, slice_index_or}
use Rattle.wb_intake.specs.declared.pass.Pass.{Pass}
use Rattle.wb_threads.specs.Threads.{HasToldFew, HasHeardLast}
use Rattle.wb_threads.proofs.last_notes.hear_lower.Given as goal

abbrev pub invariant-loop-teller : goal.invariant-loop-teller
invariant-loop-teller g l = record {
  long : length l.passes ≡ length l.fn.passes;
  heard : (d : Pass) → HasHeardLast g.T.Named.carried l.fn.passes l.teller (slice_index_or l.fn.passes l.fn.hearer d) (slice_index_or l.passes l.fn.hearer d);
  kept : (i : ℕ) (d : Pass) → i < length l.fn.passes → HasHeardLast g.T.Named.carried l.fn.passes 0 (slice_index_or l.fn.passes i d) (slice_index_or l.passes i d);
  few : (i : ℕ) (d : Pass) → i < length l.fn.passes → HasToldFew l.teller (slice_index_or l.fn.passes i d) (slice_index_or l.passes i d);
}
