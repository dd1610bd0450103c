-- The clients of a script, one after another over the engine.
use Rattle.std.proofs.Common.{ℕ, ◌≡◌, ◌+◌, ◌≤◌, Bool, false, cond, List, [], ◌∷◌, ◌++◌, length, map, All, Option, Some, None, IfSome, inl, inr, refl, ap, sym, ◌∙◌, subst, arith, length-append}
use Rattle.std.specs.List.{Any, sum, sum_by, filter}
use Rattle.std.proofs.lemmas.List.Sums.{sum-map, sum_by-append}
use Rattle.std.proofs.lemmas.Bool.{ne_eqb}
use Rattle.std.proofs.lemmas.List.Elements.{All-head, All-tail}
use Rattle.std.proofs.lemmas.List.Quantifiers.{Any-push}
use Rattle.wb_geometry.specs.Image.{Image}
use Rattle.wb_geometry.specs.History.{HistoryEntry}
use Rattle.wb_geometry.specs.Device.{State}
use Rattle.wb_geometry.specs.declared.which.Which.{Which}
use Rattle.wb_geometry.specs.declared.which.Which.TheVariants.{Log, Backing}
use Rattle.wb_script.specs.Valid.{IsAsked, heard_of, hears_of}
use Rattle.wb_script.specs.Clients.{notes_after}
use Rattle.wb_script.specs.Clients as clients
use Rattle.wb_script.proofs.Clients.{AreServed-none, AreServed_push}
use Rattle.wb_script.specs.Transcripts.{HasStop, IsUnflushed, no_notes, all_failures, failures}
use Rattle.wb_script.proofs.Sessions.{all_failures_push}
use Rattle.wb_script.specs.declared.request.Request.{Request}
use Rattle.wb_script.specs.declared.request.Request.TheVariants.{Write, Read, ReadSum, Flush, Defer, Tell, Hear}
use Rattle.wb_script.specs.declared.transcript.Line.{Line}
use Rattle.wb_script.specs.declared.transcript.Stop.TheVariants.{Down, Ids}
use Rattle.wb_engine.specs.Content.{EngineContent}
use Rattle.wb_serve.specs.declared.playing.Played.{Played}
use Rattle.wb_serve.specs.Session.{IsStopped}
use Rattle.wb_serve.specs.Playing.{HasCome, StandsOver, IsTold, AreBelow, AreEnough, IsPlayed, AreAllPlayed, Tally, none_played, with_client}
use Rattle.wb_serve.proofs.Moves.{come_more, down_stays, told_base}
use Rattle.wb_serve.proofs.Spent.{still_spent}
use Rattle.wb_serve.proofs.Flags.{none_of, any-before, any-push_cases, tells_none, tells_join}
use Rattle.wb_serve.proofs.Played.{still_down_by}

-- ---- the notes that a client hears

-- a client hears none of one that isn't lower
pub none_heard : (sectors clients client teller : ℕ) (requests : List Request) → client ≤ teller → All (IsAsked sectors clients client) requests → heard_of teller requests ≡ 0
none_heard sectors clients client teller [] le all = refl
none_heard sectors clients client teller (request ∷ requests) le all =
    let rest = none_heard sectors clients client teller requests le (All-tail (IsAsked sectors clients client) request requests all) in
    let here = not_heard sectors clients client teller request le (All-head (IsAsked sectors clients client) request requests all) in
    ap (λ (b : Bool). length (cond b (request ∷ filter (hears_of teller) requests) (filter (hears_of teller) requests))) here ∙ rest
  where
    not_heard : (sectors clients client teller : ℕ) (request : Request) → client ≤ teller → IsAsked sectors clients client request → hears_of teller request ≡ false
    not_heard sectors clients client teller (Hear other) le asked = ne_eqb other teller (λ same. omega (arith, asked, le, same))
    not_heard sectors clients client teller (Write sector count pattern fua) le asked = refl
    not_heard sectors clients client teller (Read sector count) le asked = refl
    not_heard sectors clients client teller (ReadSum sector count) le asked = refl
    not_heard sectors clients client teller Flush le asked = refl
    not_heard sectors clients client teller Defer le asked = refl
    not_heard sectors clients client teller (Tell other) le asked = refl

module _ {L B : Type 0} {of_log : L → State} {of_backing : B → State} where
  pub stands_over : {start e : EngineContent L B} {h : List HistoryEntry} {m n : ℕ} (content : Option Image) → HasCome of_log of_backing start e h m n
      → IfSome content (IsTold of_log of_backing start) → StandsOver of_log of_backing content e h
  stands_over None come told = record { places = come.places; told = tt }
  stands_over {start = start} (Some base) come (some, told) =
      let to = (come.changed some).told base told in
      record { places = come.places; told = ((to.0, to.1), come.stands base (told_base (of_backing start.backing) base told) some) }

  -- ---- no client yet

  pub all_none : {e : EngineContent L B} → HasCome of_log of_backing e e [] 0 0 → AreAllPlayed of_log of_backing [] e e none_played []
  all_none {e} come = record {
    come = come;
    served = λ content told. AreServed-none content;
    tells = tells_none none_of;
    stopped_down = λ device some. absurd (none_of some);
    undone = λ device some. absurd (none_of some);
    stopped_ids = λ some. absurd (none_of some);
    few = omega arith;
  }

  -- ---- one more client

  pub all_push : {start e f : EngineContent L B} {requests : List (List Request)} {all : Tally} {h es : List HistoryEntry} (client : ℕ) (own : List Request) (played : Played)
      → client ≡ length requests → AreAllPlayed of_log of_backing requests start e all h → IsPlayed of_log of_backing client own e f played es
      → AreEnough (notes_after no_notes 0 requests all.transcripts client) own
      → AreAllPlayed of_log of_backing (requests ++ own ∷ []) start f (with_client all played) (h ++ es)
  all_push {start} {e} {f} {requests} {all} {h} {es} client own played at p q enough =
      let ts : List (List Line) = all.transcripts in
      let lines : List Line = played.transcript in
      let places_are : length h ≡ e.absorbed = p.come.places in
      let count : (which : Which) → all_failures which (ts ++ lines ∷ []) ≡ all_failures which ts + failures which lines = λ which. all_failures_push which ts lines in
      record {
        come =
            subst (λ (k : ℕ). HasCome of_log of_backing start f (h ++ es) k (all_failures Backing (ts ++ lines ∷ []))) (sym (count Log))
            (subst (λ (k : ℕ). HasCome of_log of_backing start f (h ++ es) (all_failures Log ts + failures Log lines) k) (sym (count Backing)) (come_more p.come q.moved));
        served = λ content told.
            let before = p.served content told in
            let below : AreBelow e.absorbed (notes_after no_notes 0 requests ts client) = λ teller. subst (λ (n : ℕ). All (λ note. note ≤ n) (notes_after no_notes 0 requests ts client teller)) places_are (before.left client teller) in
            let answered = q.answered content h (stands_over content p.come told) (notes_after no_notes 0 requests ts client) below enough in
            AreServed_push content h es requests ts own lines before
            (subst (λ (n : ℕ). clients.IsAnswered content h es n (notes_after no_notes 0 requests ts n) own lines) at answered);
        tells =
            rw (count Log, count Backing)
            (tells_join (IsStopped Ids (ts ++ lines ∷ [])) (any-before (Any (HasStop Ids)) ts lines) (Any-push (Any (HasStop Ids)) ts lines) (any-push_cases (Any (HasStop Ids)) ts lines) p.tells q.tells);
        stopped_down = λ device some. elim (any-push_cases (Any (HasStop (Down device))) ts lines some) [
          | inl before ↦ still_down_by device q.moved (p.stopped_down device before)
          | inr last ↦ q.stopped_down device last
        ];
        undone = λ device some. elim (any-push_cases (Any (IsUnflushed device)) ts lines some) [
          | inl before ↦ down_stays device q.moved.stays_down (p.undone device before)
          | inr last ↦ q.unflushed device last
        ];
        stopped_ids = λ some. elim (any-push_cases (Any (HasStop Ids)) ts lines some) [
          | inl before ↦ let spent = p.stopped_ids before in still_spent q.moved (q.none_left spent) spent
          | inr last ↦ q.stopped_ids last
        ];
        few = omega (arith, p.few, q.few, length-append h es, sizes_push requests own);
      }
    where
      sizes_push : (requests : List (List Request)) (own : List Request) → sum (map length (requests ++ own ∷ [])) ≡ sum (map length requests) + length own
      sizes_push requests own =
          sum-map length (requests ++ own ∷ [])
          ∙ sum_by-append length requests (own ∷ [])
          ∙ (let z : sum_by length requests + (0 + length own) ≡ sum_by length requests + length own = omega arith in z)
          ∙ ap (λ (n : ℕ). n + length own) (sym (sum-map length requests))
