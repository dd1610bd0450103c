-- The passes before this one have jobs.
use Rattle.std.proofs.Common.{◌≡◌, ◌++◌, length, map}
use Rattle.std.specs.Vec.{vec_capacity}
use Rattle.std.specs.Vec.Iter.{into_iter_items, into_iter_len}
use Rattle.wb_threads.specs.Threads.{new_job}
use Rattle.wb_threads.proofs.jobs.jobs_of.Given as goal

abbrev pub invariant-loop-pass : goal.invariant-loop-pass
invariant-loop-pass l = record {
  all : l.yielded ++ into_iter_items l.pass-iterator ≡ l.fn.passes.items;
  left : into_iter_len l.pass-iterator ≡ length (into_iter_items l.pass-iterator);
  jobs : l.jobs.items ≡ map new_job l.yielded;
  room : vec_capacity l.jobs ≡ vec_capacity l.fn.jobs;
}
