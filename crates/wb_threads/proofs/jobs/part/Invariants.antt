-- The jobs before this one are taken apart.
use Rattle.std.proofs.Common.{◌≡◌, ◌++◌, length, map}
use Rattle.std.specs.List.{filter_map}
use Rattle.std.specs.Vec.{vec_capacity}
use Rattle.std.specs.Vec.Iter.{into_iter_items, into_iter_len}
use Rattle.wb_threads.specs.declared.jobs.Job.{Job}
use Rattle.wb_threads.proofs.jobs.part.Given as goal

abbrev pub invariant-loop-job : goal.invariant-loop-job
invariant-loop-job l = record {
  all : l.yielded ++ into_iter_items l.job-iterator ≡ l.fn.jobs.items;
  left : into_iter_len l.job-iterator ≡ length (into_iter_items l.job-iterator);
  passes : l.passes.items ≡ map (λ (job : Job). job.pass) l.yielded;
  transcripts : l.transcripts.items ≡ filter_map (λ (job : Job). job.transcript) l.yielded;
  passes_room : vec_capacity l.passes ≡ vec_capacity l.fn.passes;
  transcripts_room : vec_capacity l.transcripts ≡ vec_capacity l.fn.transcripts;
}
