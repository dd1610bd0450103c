-- What the passes of all clients are, once these were served.
use Rattle.std.proofs.Common.{◌≡◌, ℕ, ◌+◌, ◌-◌, ◌^◌, ◌<◌, ◌≤◌, zero, suc, List, [], ◌∷◌, ◌++◌, length, map, take, drop, get_or, slice_index_or, refl, sym, ap, ◌∙◌, subst, arith, Option, Some, None}
use Rattle.std.specs.Prelude.{slice_get, IfSome}
use Rattle.std.proofs.Math.Seq.{take-append_seam}
use Rattle.std.proofs.lemmas.List.{length-map}
use Rattle.std.proofs.lemmas.Option.{slice_get_within, get_or_from_slice_get}
use Rattle.wb_steps.specs.Rule.{shape_of, cells}
use Rattle.wb_steps.specs.Views.{beginning}
use Rattle.wb_steps.specs.declared.view.Role.TheVariants.{Owner}
use Rattle.wb_steps.specs.declared.view.View.{View}
use Rattle.wb_intake.specs.Carried.{Carried}
use Rattle.wb_intake.specs.Passes.{AreNewcomers, pass_name, client_of_pass, view_of}
use Rattle.wb_intake.specs.declared.pass.Pass.{Pass}
use Rattle.wb_front.specs.Requests.{IsPassOf}
use Rattle.wb_front.specs.Closing.{AreAllPasses}
use Rattle.wb_script.specs.declared.request.Request.{Request}
use Rattle.wb_script.specs.declared.transcript.Line.{Line}
use Rattle.wb_client.specs.Client.{IsPlayedBy}
use Rattle.wb_threads.specs.Threads.{new_job, IsNewPass, HasRun, IsOwnOf, HasHeardLast, HaveAllPlayed}
use Rattle.wb_threads.specs.declared.jobs.Job.{Job}

-- ---- lists

-- the list behind a slice of all of it, once the slice is written
pub written : {X : Type 0} (items next : List X) (len : ℕ) → len ≡ length next → take len (next ++ drop (length next) items) ≡ next
written items next len whole = ap (λ (n : ℕ). take n (next ++ drop (length next) items)) whole ∙ take-append_seam next (drop (length next) items)

none-some : {X : Type 0} (x : X) → None ≡ Some x → ⊥
none-some {X} x is = let e : 0 ≡ 1 = ap (λ (o : Option X). count o) is in absurd (omega (arith, e))
  where
    count : Option X → ℕ
    count None = 0
    count (Some y) = 1

some_same : {X : Type 0} (x y : X) → Some x ≡ Some y → x ≡ y
some_same {X} x y is = subst (λ (o : Option X). IfSome o (λ z. x ≡ z)) is refl

pub there_is : {X : Type 0} (xs : List X) (i : ℕ) → i < length xs → (x : X) × (slice_get xs i ≡ Some x)
there_is [] i low = absurd (omega (arith, low))
there_is (x ∷ xs) zero low = (x, refl)
there_is (x ∷ xs) (suc i) low = there_is xs i (omega (arith, low))

nothing_at : {X : Type 0} (i : ℕ) (x : X) → slice_get [] i ≡ Some x → ⊥
nothing_at zero x is = none-some x is
nothing_at (suc i) x is = none-some x is

pub at_map : {X Y : Type 0} (f : X → Y) (xs : List X) (i : ℕ) (x : X) (d : Y) → slice_get xs i ≡ Some x → slice_index_or (map f xs) i d ≡ f x
at_map f [] i x d is = absurd (nothing_at i x is)
at_map f (y ∷ xs) zero x d is = ap f (some_same y x is)
at_map f (y ∷ xs) (suc i) x d is = at_map f xs i x d is

-- ---- jobs

abbrev pass_of : Job → Pass
pass_of job = job.pass

abbrev lines_of : Job → Option (List Line)
lines_of job = job.transcript

-- the transcript of this job
given_at : (ts : List (List Line)) (ks : List Job) → map (λ (l : List Line). Some l) ts ≡ map lines_of ks → (i : ℕ) (k : Job) → slice_get ks i ≡ Some k
    → (lines : List Line) × (slice_get ts i ≡ Some lines) × (k.transcript ≡ Some lines)
given_at ts [] same i k is = absurd (nothing_at i k is)
given_at [] (x ∷ ks) same i k is = absurd (let size : 0 ≡ length (lines_of x ∷ map lines_of ks) = ap length same in omega (arith, size))
given_at (y ∷ ts) (x ∷ ks) same zero k is =
    let head : Some y ≡ x.transcript = ap (λ (l : List (Option (List Line))). get_or l 0 None) same in
    (y, refl, ap lines_of (sym (some_same x k is)) ∙ sym head)
given_at (y ∷ ts) (x ∷ ks) same (suc i) k is = given_at ts ks (ap (drop 1) same) i k is

new_client : (name : _) (limit i : ℕ) (p : Pass) → (pass_name p ≡ name) × (view_of p ≡ beginning Owner i limit) → client_of_pass p ≡ i
new_client name limit i p new = sym p.owns.1 ∙ ap (λ (v : View). v.client) new.1

-- a job for each pass, which has done nothing yet
pub jobs_ready : (t : Carried) (limit : ℕ) (ps : List Pass) (js : List Job) → AreNewcomers t.intake limit ps → js ≡ map new_job ps
    → (i : ℕ) (d : Job) → i < length js → IsNewPass t i (slice_index_or js i d).pass × ((slice_index_or js i d).transcript ≡ None)
jobs_ready t limit ps js new jobs i d low =
    let size : length js ≡ length ps = ap length jobs ∙ length-map ps new_job in
    let here = there_is ps i (omega (arith, low, size)) in
    let p : Pass = here.0 in
    let is = new i p here.1 in
    let job : slice_index_or js i d ≡ new_job p = ap (λ (l : List Job). slice_index_or l i d) jobs ∙ at_map new_job ps i p d here.1 in
    subst (λ (j : Job). IsNewPass t i j.pass × (j.transcript ≡ None)) (sym job) (
      record {
        own = (is.0, ap (λ (v : View). v.unfilled) is.1);
        client_is = new_client t.intake limit i p is;
        told = ap (λ (v : View). v.told) is.1;
        heard = ap (λ (v : View). v.heard) is.1;
      },
      refl,
    )

-- All jobs were run, and taken apart.
module _ (t : Carried) (all : List (List Request)) (limit : ℕ) (ps qs : List Pass) (js ks : List Job)
    (new : AreNewcomers t.intake limit ps) (jobs : js ≡ map new_job ps) (same : length ks ≡ length js)
    (run : (i : ℕ) (d : Job) → i < length js → HasRun t all i (slice_index_or js i d) (slice_index_or ks i d))
    (parted : qs ≡ map pass_of ks) where
  -- the job of this number, and the pass that it was made for
  record Ran (i : ℕ) : Type 0 where
    job : Job
    pass : Pass
    job_at : slice_get ks i ≡ Some job
    pass_at : slice_get ps i ≡ Some pass
    is : HasRun t all i (new_job pass) job

  js_long : length js ≡ length ps
  js_long = ap length jobs ∙ length-map ps new_job

  pub qs_long : length qs ≡ length ps
  qs_long = ap length parted ∙ length-map ks pass_of ∙ same ∙ js_long

  ran : (i : ℕ) → i < length ps → Ran i
  ran i low =
      let before = there_is ps i low in
      let now = there_is ks i (omega (arith, low, same, js_long)) in
      let was : slice_index_or js i (new_job before.0) ≡ new_job before.0 = ap (λ (l : List Job). slice_index_or l i (new_job before.0)) jobs ∙ at_map new_job ps i before.0 (new_job before.0) before.1 in
      let is : slice_index_or ks i (new_job before.0) ≡ now.0 = get_or_from_slice_get ks i now.0 (new_job before.0) now.1 in
      record {
        job = now.0;
        pass = before.0;
        job_at = now.1;
        pass_at = before.1;
        is = subst (λ (k : Job). HasRun t all i (new_job before.0) k) is
            (subst (λ (j : Job). HasRun t all i j (slice_index_or ks i (new_job before.0))) was (run i (new_job before.0) (omega (arith, low, js_long))));
      }

  pass_is : (i : ℕ) (r : Ran i) (d : Pass) → slice_index_or qs i d ≡ r.job.pass
  pass_is i r d = ap (λ (l : List Pass). slice_index_or l i d) parted ∙ at_map pass_of ks i r.job d r.job_at

  pub own_run : (i : ℕ) (d : Pass) → i < length qs → IsOwnOf t i (slice_index_or qs i d)
  own_run i d low =
      let r = ran i (omega (arith, low, qs_long)) in
      subst (IsOwnOf t i) (sym (pass_is i r d)) (r.is.own, r.is.client_is ∙ new_client t.intake limit i r.pass (new i r.pass r.pass_at))

  pub all_run : 1 ≤ t.clients → length ps ≡ t.clients → AreAllPasses t qs
  all_run some count = record {
    some = some;
    count = qs_long ∙ count;
    each = λ i p is.
        let own = subst (IsOwnOf t i) (get_or_from_slice_get qs i p p is) (own_run i p (slice_get_within qs i p is)) in
        (own.0.0, own.1, own.0.1);
  }

  module _ (ts : List (List Line)) (given : map (λ (l : List Line). Some l) ts ≡ map lines_of ks) where
    pub few_told : (i : ℕ) (d : Pass) → i < length qs → length (view_of (slice_index_or qs i d)).told < 2 ^ 63
    few_told i d low =
        let r = ran i (omega (arith, low, qs_long)) in
        let lines = given_at ts ks given i r.job r.job_at in
        subst (λ (p : Pass). length (view_of p).told < 2 ^ 63) (sym (pass_is i r d))
        (subst (λ (o : Option (List Line)). IfSome o (λ l. length (view_of r.job.pass).told < 2 ^ 63)) lines.2 r.is.few)

    module _ (rs : List Pass) (long : length rs ≡ length qs) (heard : (i : ℕ) (d : Pass) → i < length qs → HasHeardLast t qs i (slice_index_or qs i d) (slice_index_or rs i d)) where
      pub all_heard : 1 ≤ t.clients → length ps ≡ t.clients → AreAllPasses t rs
      all_heard some count = record {
        some = some;
        count = long ∙ qs_long ∙ count;
        each = λ i p is.
            let low : i < length qs = omega (arith, slice_get_within rs i p is, long) in
            let h = heard i p low in
            let here : slice_index_or rs i p ≡ p = get_or_from_slice_get rs i p p is in
            subst (λ (q : Pass). (pass_name q ≡ t.intake) × (client_of_pass q ≡ i) × ((view_of q).unfilled ≡ [])) here (h.own.0, h.client_is ∙ (own_run i p low).1, h.own.1);
      }

      ts_long : length ts ≡ length qs
      ts_long = sym (length-map ts (λ (l : List Line). Some l)) ∙ ap length given ∙ length-map ks lines_of ∙ sym (length-map ks pass_of) ∙ ap length (sym parted)

      pub all_played : limit ≡ cells (shape_of t.geometry t.first) → HaveAllPlayed t all rs ts
      all_played begins = record {
        before = qs;
        same = sym long;
        count = ts_long ∙ sym long;
        each = λ i d low.
            let r = ran i (omega (arith, low, long, qs_long)) in
            let lines = given_at ts ks given i r.job r.job_at in
            let played : IsPlayedBy t all i (view_of r.pass) (view_of r.job.pass) lines.0 = subst (λ (o : Option (List Line)). IfSome o (IsPlayedBy t all i (view_of r.pass) (view_of r.job.pass))) lines.2 r.is.played in
            let first : view_of r.pass ≡ beginning Owner i (cells (shape_of t.geometry t.first)) = (new i r.pass r.pass_at).1 ∙ ap (beginning Owner i) begins in
            subst (λ (l : List Line). IsPlayedBy t all i (beginning Owner i (cells (shape_of t.geometry t.first))) (view_of (slice_index_or qs i d)) l) (sym (get_or_from_slice_get ts i lines.0 [] lines.1))
            (subst (λ (p : Pass). IsPlayedBy t all i (beginning Owner i (cells (shape_of t.geometry t.first))) (view_of p) lines.0) (sym (pass_is i r d))
            (subst (λ (v : View). IsPlayedBy t all i v (view_of r.job.pass) lines.0) first played));
        last = λ i d low. heard i d (omega (arith, low, long));
      }
