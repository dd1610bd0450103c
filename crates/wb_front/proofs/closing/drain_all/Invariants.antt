-- The passes before this one looked, and the others are as they were.
use Rattle.std.proofs.Common.{ℕ, ◌≡◌, ◌<◌, ◌≤◌, length, Some, slice_get}
use Rattle.wb_intake.specs.declared.pass.Pass.{Pass}
use Rattle.wb_front.specs.Joined.{drained}
use Rattle.wb_front.specs.Closing.{IsReached}
use Rattle.wb_front.proofs.closing.drain_all.Given as goal

abbrev pub invariant-loop-pass : goal.invariant-loop-pass
invariant-loop-pass g l = record {
  long : length l.passes ≡ length l.fn.passes;
  reached : (i : ℕ) (p q : Pass) → i < l.pass-index → slice_get l.fn.passes i ≡ Some p → slice_get l.passes i ≡ Some q → IsReached (length (drained l.core)) p q;
  others : (i : ℕ) → l.pass-index ≤ i → slice_get l.passes i ≡ slice_get l.fn.passes i;
}
