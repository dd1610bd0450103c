-- Job after job is taken apart.
use Rattle.std.proofs.Common.{◌≡◌, ◌+◌, ◌≤◌, ◌==◌, ◌++◌, ◌∷◌, [], List, length, length-append, map, refl, ap, sym, ◌∙◌, subst, arith, append_assoc, append-nil, Option, Some, true}
use Rattle.std.specs.List.{filter_map}
use Rattle.std.specs.Vec.Iter.{into_iter_items}
use Rattle.std.proofs.lemmas.Bool.{eqb-true}
use Rattle.std.proofs.lemmas.List.{map-append}
use Rattle.wb_intake.specs.declared.pass.Pass.{Pass}
use Rattle.wb_script.specs.declared.transcript.Line.{Line}
use Rattle.wb_threads.specs.declared.jobs.Job.{Job}
use Rattle.wb_threads.proofs.Parting.{given_some, given_none, given_few, given_all, if_all}
use Rattle.wb_threads.proofs.jobs.part.Goals as goal
use Rattle.wb_threads.proofs.jobs.part.Goals.{In-Some}

nothing_left : (xs : List Job) → length xs ≡ 0 → xs ≡ []
nothing_left [] none = refl
nothing_left (x ∷ xs) none = absurd (omega (arith, none))

abbrev pass_of : Job → Pass
pass_of job = job.pass

abbrev lines_of : Job → Option (List Line)
lines_of job = job.transcript

-- where this job stands
turn : (c : In-Some) → c.loop-job.yielded ++ c.in-Some.job ∷ into_iter_items c.next.new.self ≡ c.args.jobs.items
turn c = ap (λ (rest : List Job). c.loop-job.yielded ++ rest) (sym c.in-Some.ensures.steps.0) ∙ c.loop-job.invariant.all

pub push_reserved-requires-in-Some-transcript : goal.push_reserved-requires-in-Some-transcript
push_reserved-requires-in-Some-transcript c =
    let at = c.loop-job.invariant in
    let here = turn (goal.at.push_reserved-requires-in-Some-transcript c).In-Some in
    let size : length (c.loop-job.yielded ++ c.in-Some.job ∷ into_iter_items c.next.new.self) ≡ length c.args.jobs.items = ap length here in
    let count : length c.loop-job.transcripts.items ≡ length (filter_map lines_of c.loop-job.yielded) = ap length at.transcripts in
    omega (arith, c.loop-job.transcripts.ok.0, count, given_few lines_of c.loop-job.yielded, size, length-append c.loop-job.yielded (c.in-Some.job ∷ into_iter_items c.next.new.self), c.requires.room.1, at.transcripts_room)

pub loop-job-preserved-in-Some-transcript : goal.loop-job-preserved-in-Some-transcript
loop-job-preserved-in-Some-transcript c =
    let at = c.loop-job.invariant in
    record {
      all = append_assoc c.loop-job.yielded (c.in-Some.job ∷ []) (into_iter_items c.next.new.self) ∙ turn (goal.at.loop-job-preserved-in-Some-transcript c).In-Some;
      left = let was = at.left in let gone = c.in-Some.ensures.steps.1 in let short = ap length c.in-Some.ensures.steps.0 in omega (arith, was, gone, short);
      passes = c.push_reserved.ensures.items ∙ ap (λ (ps : List Pass). ps ++ c.in-Some.job.pass ∷ []) at.passes ∙ sym (map-append pass_of c.loop-job.yielded (c.in-Some.job ∷ []));
      transcripts = c.push_reserved-in-Some-transcript.ensures.items ∙ ap (λ (ts : List (List Line)). ts ++ c.in-Some-transcript.transcript ∷ []) at.transcripts
          ∙ sym (given_some lines_of c.loop-job.yielded c.in-Some.job c.in-Some-transcript.transcript c.in-Some-transcript.is);
      passes_room = c.push_reserved.ensures.capacity ∙ at.passes_room;
      transcripts_room = c.push_reserved-in-Some-transcript.ensures.capacity ∙ at.transcripts_room;
    }

pub loop-job-preserved : goal.loop-job-preserved
loop-job-preserved c =
    let at = c.loop-job.invariant in
    record {
      all = append_assoc c.loop-job.yielded (c.in-Some.job ∷ []) (into_iter_items c.next.new.self) ∙ turn (goal.at.loop-job-preserved c).In-Some;
      left = let was = at.left in let gone = c.in-Some.ensures.steps.1 in let short = ap length c.in-Some.ensures.steps.0 in omega (arith, was, gone, short);
      passes = c.push_reserved.ensures.items ∙ ap (λ (ps : List Pass). ps ++ c.in-Some.job.pass ∷ []) at.passes ∙ sym (map-append pass_of c.loop-job.yielded (c.in-Some.job ∷ []));
      transcripts = at.transcripts ∙ sym (given_none lines_of c.loop-job.yielded c.in-Some.job c.in_default.not-Some);
      passes_room = c.push_reserved.ensures.capacity ∙ at.passes_room;
      transcripts_room = at.transcripts_room;
    }

pub returns-clause-transcripts : goal.returns-clause-transcripts
returns-clause-transcripts c =
    let at = c.loop-job.invariant in
    let empty : into_iter_items c.loop-job.job-iterator ≡ [] = nothing_left (into_iter_items c.loop-job.job-iterator) (sym at.left ∙ c.in-None.ensures.steps.0) in
    let all : c.loop-job.yielded ≡ c.args.jobs.items = sym (append-nil c.loop-job.yielded) ∙ ap (λ (rest : List Job). c.loop-job.yielded ++ rest) (sym empty) ∙ at.all in
    if_all (λ ts. map (λ lines. Some lines) ts.items ≡ map lines_of c.args.jobs.items) (c.len.result == c.len-clients.result) c.loop-job.transcripts c.then_some.result c.then_some.ensures (λ same.
    let lens : c.len.result ≡ c.len-clients.result = eqb-true c.len.result c.len-clients.result same in
    let count : length c.loop-job.transcripts.items ≡ length (filter_map lines_of c.loop-job.yielded) = ap length at.transcripts in
    let size : length c.loop-job.yielded ≡ length c.args.jobs.items = ap length all in
    ap (λ (ts : List (List Line)). map (λ (lines : List Line). Some lines) ts) at.transcripts
    ∙ given_all lines_of c.loop-job.yielded (omega (arith, lens, count, size, c.len.ensures, c.len-clients.ensures, c.loop-job.transcripts.ok.0, c.args.jobs.ok.0))
    ∙ ap (λ (jobs : List Job). map lines_of jobs) all)
