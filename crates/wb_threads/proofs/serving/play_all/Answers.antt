-- What the passes are once all clients were served, and have heard last.
use Rattle.std.proofs.Common.{ℕ, ◌≡◌, ◌<◌, ◌≤◌, ◌++◌, List, length, map, take, drop, slice_index_or, refl, sym, ap, ◌∙◌, subst, arith, Option, Some}
use Rattle.std.specs.Prelude.{IfSome}
use Rattle.wb_steps.specs.Rule.{shape_of, cells}
use Rattle.wb_intake.specs.Carried.{Carried}
use Rattle.wb_intake.specs.Passes.{AreNewcomers, view_of}
use Rattle.wb_intake.specs.declared.pass.Pass.{Pass}
use Rattle.wb_front.specs.Closing.{AreAllPasses}
use Rattle.wb_script.specs.declared.transcript.Line.{Line}
use Rattle.wb_threads.specs.Threads.{new_job, HasRun, IsOwnOf, HasHeardLast, HaveAllPlayed}
use Rattle.wb_threads.specs.declared.jobs.Job.{Job}
use Rattle.wb_threads.proofs.Clients.{written, jobs_ready, own_run, all_run, few_told, qs_long, all_heard, all_played}
use Rattle.wb_threads.proofs.serving.play_all.Goals as goal

-- the transcripts that were taken out of the jobs, which are these
given : {V : Type 0} (r : Option V) (v : V) (items : V → List (List Line)) (js ks : List Job) → r ≡ Some v
    → IfSome r (λ all. map (λ (lines : List Line). Some lines) (items all) ≡ map (λ (job : Job). job.transcript) js) → js ≡ ks
    → map (λ (lines : List Line). Some lines) (items v) ≡ map (λ (job : Job). job.transcript) ks
given {V} r v items js ks is all left =
    subst (λ (o : Option V). IfSome o (λ all. map (λ (lines : List Line). Some lines) (items all) ≡ map (λ (job : Job). job.transcript) js)) is all ∙ ap (map (λ (job : Job). job.transcript)) left

pub run_all-requires-clause-ready : goal.run_all-requires-clause-ready
run_all-requires-clause-ready g c κs within =
    let t = g.T.Named.carried in
    jobs_ready t (cells (shape_of t.geometry t.first)) c.args.passes.items c.as_mut_slice.result.now c.requires.passes (c.as_mut_slice.ensures.value ∙ c.jobs_of-jobs.ensures)

pub returns-in_default-clause-passes : goal.returns-in_default-clause-passes
returns-in_default-clause-passes g c =
    let t = g.T.Named.carried in
    let js : List Job = c.as_mut_slice.result.now in
    let ks : List Job = c.run_all.new.jobs in
    let jobs : js ≡ map new_job c.args.passes.items = c.as_mut_slice.ensures.value ∙ c.jobs_of-jobs.ensures in
    let same : length ks ≡ length js = omega (arith, c.run_all.auto.jobs) in
    let whole : c.jobs_of-jobs.result.len ≡ length ks = omega (arith, same, c.jobs_of-jobs.result.ok.0, ap length c.as_mut_slice.ensures.value) in
    let parted : c.part-passes.result.0.items ≡ map (λ (job : Job). job.pass) ks = c.part-passes.ensures.passes ∙ ap (map (λ (job : Job). job.pass)) (written c.jobs_of-jobs.result.items ks c.jobs_of-jobs.result.len whole) in
    all_run t c.args.script.now.requests (cells (shape_of t.geometry t.first)) c.args.passes.items c.part-passes.result.0.items js ks c.requires.passes jobs same c.run_all.ensures parted
    (omega (arith, c.requires.count.1, c.requires.valid.some)) c.requires.count.0

pub tell_last-requires-clause-own : goal.tell_last-requires-clause-own
tell_last-requires-clause-own g c =
    let t = g.T.Named.carried in
    let js : List Job = c.as_mut_slice.result.now in
    let ks : List Job = c.run_all.new.jobs in
    let jobs : js ≡ map new_job c.args.passes.items = c.as_mut_slice.ensures.value ∙ c.jobs_of-jobs.ensures in
    let same : length ks ≡ length js = omega (arith, c.run_all.auto.jobs) in
    let whole : c.jobs_of-jobs.result.len ≡ length ks = omega (arith, same, c.jobs_of-jobs.result.ok.0, ap length c.as_mut_slice.ensures.value) in
    let parted : c.as_mut_slice-2.result.now ≡ map (λ (job : Job). job.pass) ks = c.as_mut_slice-2.ensures.value ∙ c.part-passes.ensures.passes ∙ ap (map (λ (job : Job). job.pass)) (written c.jobs_of-jobs.result.items ks c.jobs_of-jobs.result.len whole) in
    own_run t c.args.script.now.requests (cells (shape_of t.geometry t.first)) c.args.passes.items c.as_mut_slice-2.result.now js ks c.requires.passes jobs same c.run_all.ensures parted

pub tell_last-requires-clause-few : goal.tell_last-requires-clause-few
tell_last-requires-clause-few g c =
    let t = g.T.Named.carried in
    let js : List Job = c.as_mut_slice.result.now in
    let ks : List Job = c.run_all.new.jobs in
    let jobs : js ≡ map new_job c.args.passes.items = c.as_mut_slice.ensures.value ∙ c.jobs_of-jobs.ensures in
    let same : length ks ≡ length js = omega (arith, c.run_all.auto.jobs) in
    let whole : c.jobs_of-jobs.result.len ≡ length ks = omega (arith, same, c.jobs_of-jobs.result.ok.0, ap length c.as_mut_slice.ensures.value) in
    let left = written c.jobs_of-jobs.result.items ks c.jobs_of-jobs.result.len whole in
    let parted : c.as_mut_slice-2.result.now ≡ map (λ (job : Job). job.pass) ks = c.as_mut_slice-2.ensures.value ∙ c.part-passes.ensures.passes ∙ ap (map (λ (job : Job). job.pass)) left in
    few_told t c.args.script.now.requests (cells (shape_of t.geometry t.first)) c.args.passes.items c.as_mut_slice-2.result.now js ks c.requires.passes jobs same c.run_all.ensures parted
    c.in-Some.transcripts.items (given c.part-passes.result.1 c.in-Some.transcripts (λ ts. ts.items) _ ks c.in-Some.is c.part-passes.ensures.transcripts left)

pub returns-clause-passes : goal.returns-clause-passes
returns-clause-passes g c =
    let t = g.T.Named.carried in
    let js : List Job = c.as_mut_slice.result.now in
    let ks : List Job = c.run_all.new.jobs in
    let rs : List Pass = c.tell_last.new.passes in
    let jobs : js ≡ map new_job c.args.passes.items = c.as_mut_slice.ensures.value ∙ c.jobs_of-jobs.ensures in
    let same : length ks ≡ length js = omega (arith, c.run_all.auto.jobs) in
    let whole : c.jobs_of-jobs.result.len ≡ length ks = omega (arith, same, c.jobs_of-jobs.result.ok.0, ap length c.as_mut_slice.ensures.value) in
    let left = written c.jobs_of-jobs.result.items ks c.jobs_of-jobs.result.len whole in
    let parted : c.as_mut_slice-2.result.now ≡ map (λ (job : Job). job.pass) ks = c.as_mut_slice-2.ensures.value ∙ c.part-passes.ensures.passes ∙ ap (map (λ (job : Job). job.pass)) left in
    let all : c.part-passes.result.0.len ≡ length rs = omega (arith, c.tell_last.ensures.count, c.part-passes.result.0.ok.0, ap length c.as_mut_slice-2.ensures.value) in
    subst (AreAllPasses t) (sym (written c.part-passes.result.0.items rs c.part-passes.result.0.len all))
    (all_heard t c.args.script.now.requests (cells (shape_of t.geometry t.first)) c.args.passes.items c.as_mut_slice-2.result.now js ks c.requires.passes jobs same c.run_all.ensures parted
    c.in-Some.transcripts.items (given c.part-passes.result.1 c.in-Some.transcripts (λ ts. ts.items) _ ks c.in-Some.is c.part-passes.ensures.transcripts left) rs c.tell_last.ensures.count c.tell_last.ensures.heard
    (omega (arith, c.requires.count.1, c.requires.valid.some)) c.requires.count.0)

pub returns-clause-played : goal.returns-clause-played
returns-clause-played g c =
    let t = g.T.Named.carried in
    let js : List Job = c.as_mut_slice.result.now in
    let ks : List Job = c.run_all.new.jobs in
    let rs : List Pass = c.tell_last.new.passes in
    let jobs : js ≡ map new_job c.args.passes.items = c.as_mut_slice.ensures.value ∙ c.jobs_of-jobs.ensures in
    let same : length ks ≡ length js = omega (arith, c.run_all.auto.jobs) in
    let whole : c.jobs_of-jobs.result.len ≡ length ks = omega (arith, same, c.jobs_of-jobs.result.ok.0, ap length c.as_mut_slice.ensures.value) in
    let left = written c.jobs_of-jobs.result.items ks c.jobs_of-jobs.result.len whole in
    let parted : c.as_mut_slice-2.result.now ≡ map (λ (job : Job). job.pass) ks = c.as_mut_slice-2.ensures.value ∙ c.part-passes.ensures.passes ∙ ap (map (λ (job : Job). job.pass)) left in
    let all : c.part-passes.result.0.len ≡ length rs = omega (arith, c.tell_last.ensures.count, c.part-passes.result.0.ok.0, ap length c.as_mut_slice-2.ensures.value) in
    subst (λ (ps : List Pass). HaveAllPlayed t c.args.script.now.requests ps c.in-Some.transcripts.items) (sym (written c.part-passes.result.0.items rs c.part-passes.result.0.len all))
    (all_played t c.args.script.now.requests (cells (shape_of t.geometry t.first)) c.args.passes.items c.as_mut_slice-2.result.now js ks c.requires.passes jobs same c.run_all.ensures parted
    c.in-Some.transcripts.items (given c.part-passes.result.1 c.in-Some.transcripts (λ ts. ts.items) _ ks c.in-Some.is c.part-passes.ensures.transcripts left) rs c.tell_last.ensures.count c.tell_last.ensures.heard refl)
