-- The first requests of each client, where memory was wanting behind some answers.
use Rattle.std.proofs.Common.{ℕ, zero, suc, ◌≡◌, ◌+◌, ◌-◌, ◌<◌, ◌≤◌, ◌++◌, ◌∷◌, Bool, true, false, cond, List, [], length, get_or, take, replicate, min, All, None, refl, ap, sym, ◌∙◌, subst, inl, inr, arith, append_assoc, append-nil, length-append}
use Rattle.std.specs.List.{filter}
use Rattle.std.specs.Prelude.{Result, Ok, Err, IfOk, IfErr}
use Rattle.std.specs.declared.alloc.AllocError.{AllocError}
use Rattle.std.proofs.lemmas.List.{length-take, take_all, get_or-take, get_or_append_left, get_or-append_right, get_or_at, length-replicate, get_or-replicate}
use Rattle.std.proofs.lemmas.Bool.{cases_lt}
use Rattle.wb_geometry.specs.History.{HistoryEntry}
use Rattle.wb_geometry.specs.Device.{State}
use Rattle.wb_script.specs.Content.{ScriptContent}
use Rattle.wb_script.specs.Valid.{IsValid, IsAsked, heard_of, hears_of, requests_at}
use Rattle.wb_script.specs.Transcripts.{covered}
use Rattle.wb_engine.specs.Settling.{stable_places}
use Rattle.wb_serve.specs.declared.serving.AllPlayed.{AllPlayed}
use Rattle.wb_script.specs.declared.request.Request.{Request}
use Rattle.wb_script.specs.declared.request.Request.TheVariants.{Write, Read, ReadSum, Flush, Defer, Tell, Hear}
use Rattle.wb_engine.specs.Content.{EngineContent}
use Rattle.wb_serve.specs.declared.playing.Played.{Played}
use Rattle.wb_serve.specs.Session.{EndFlushes, IsCutOf}
use Rattle.wb_serve.specs.Playing.{HasCome, IsPlayed, AreAllPlayed, AreAllPlayedInPart, Tally, tally_of, nothing_played, with_client}
use Rattle.wb_serve.proofs.Played.{playing_none}
use Rattle.wb_serve.proofs.Clients.{all_none, all_push}
use Rattle.wb_serve.proofs.Enough.{are_enough}

-- the first of the requests hear no more notes
fewer_heard : (teller count : ℕ) (requests : List Request) → heard_of teller (take count requests) ≤ heard_of teller requests
fewer_heard teller zero requests = omega arith
fewer_heard teller (suc count) [] = omega arith
fewer_heard teller (suc count) (request ∷ requests) = by (hears_of teller request) (fewer_heard teller count requests)
  where
    by : (hears : Bool) → heard_of teller (take count requests) ≤ heard_of teller requests
        → length (cond hears (request ∷ filter (hears_of teller) (take count requests)) (filter (hears_of teller) (take count requests))) ≤ length (cond hears (request ∷ filter (hears_of teller) requests) (filter (hears_of teller) requests))
    by true rest = omega (arith, rest)
    by false rest = rest

-- the requests of the clients before this one, some of its own, and none of the later ones
abbrev pub cut_at : List (List Request) → (client count : ℕ) → List (List Request)
cut_at all client count = take client all ++ take count (requests_at all client) ∷ replicate (length all - (client + 1)) []

pub is_cut_at : (all : List (List Request)) (client count : ℕ) → client < length all → IsCutOf all (cut_at all client count)
is_cut_at all client count below = record {
  clients = length-append (take client all) (take count (requests_at all client) ∷ replicate (length all - (client + 1)) [])
      ∙ (let rest = length-replicate {A = List Request} (length all - (client + 1)) [] in let sum : length (take client all) + length (take count (requests_at all client) ∷ replicate (length all - (client + 1)) []) ≡ length all = omega (arith, rest, size, below) in sum);
  each = λ other inside. elim (cases_lt other client) [
    | inl before ↦ (
      length (requests_at all other),
      get_or_append_left (take client all) (take count (requests_at all client) ∷ replicate (length all - (client + 1)) []) [] other (omega (arith, size, before, below))
          ∙ get_or-take client all other [] before ∙ sym (take_all (length (requests_at all other)) (requests_at all other) (omega arith)),
    )
    | inr least ↦ elim (cases_lt client other) [
      | inr most ↦ (
        count,
        (let same : client ≡ other = omega (arith, least, most) in
            subst (λ (n : ℕ). get_or (cut_at all client count) n [] ≡ take count (requests_at all n)) same
            (get_or_at (take client all) (take count (requests_at all client)) (replicate (length all - (client + 1)) []) [] client (omega (arith, size, below)))),
      )
      | inl behind ↦ (0, later other inside behind)
    ]
  ];
}
  where
    size : length (take client all) ≡ min client (length all)
    size = length-take client all

    later : (other : ℕ) → other < length all → client < other → get_or (cut_at all client count) other [] ≡ []
    later other inside behind =
        let long : length (take client all) ≡ client = omega (arith, size, below) in
        let next : other - client ≡ suc (other - client - 1) = omega (arith, behind) in
        get_or-append_right (take client all) (take count (requests_at all client) ∷ replicate (length all - (client + 1)) []) client other [] long (omega (arith, behind))
        ∙ ap (λ (n : ℕ). get_or (take count (requests_at all client) ∷ replicate (length all - (client + 1)) []) n []) next
        ∙ get_or-replicate (length all - (client + 1)) (other - client - 1) [] [] (omega (arith, inside, behind))

module _ {L B : Type 0} {of_log : L → State} {of_backing : B → State} where
  -- later clients of no request
  padded : {start e : EngineContent L B} {requests : List (List Request)} {all : Tally} {h : List HistoryEntry} (k : ℕ) → AreAllPlayed of_log of_backing requests start e all h
      → (tally : Tally) × AreAllPlayed of_log of_backing (requests ++ replicate k []) start e tally h
  padded {start} {e} {requests} {all} {h} zero p = (all, subst (λ (rs : List (List Request)). AreAllPlayed of_log of_backing rs start e all h) (sym (append-nil requests)) p)
  padded {start} {e} {requests} {all} {h} (suc k) p =
      let one : AreAllPlayed of_log of_backing (requests ++ [] ∷ []) start e (with_client all nothing_played) (h ++ []) =
      all_push (length requests) [] nothing_played refl p (playing_none (length requests) e).is (λ teller. omega arith) in
      let (tally, rest) = padded k (subst (AreAllPlayed of_log of_backing (requests ++ [] ∷ []) start e (with_client all nothing_played)) (append-nil h) one) in
      (tally, subst (λ (rs : List (List Request)). AreAllPlayed of_log of_backing rs start e tally h) (append_assoc requests ([] ∷ []) (replicate k [])) rest)

  -- no request was answered
  pub none_in_part : {e : EngineContent L B} (all : List (List Request)) → HasCome of_log of_backing e e [] 0 0 → AreAllPlayedInPart of_log of_backing all e e
  none_in_part all come =
      let (tally, is) = padded (length all) (all_none come) in
      record {
        answered = replicate (length all) [];
        cut = record {
          clients = length-replicate {A = List Request} (length all) [];
          each = λ client below. (0, get_or-replicate (length all) client [] [] below);
        };
        all = tally;
        history = [];
        is = is;
      }

  -- some of this client's were
  pub some_in_part : {start e f : EngineContent L B} {all : Tally} {h es : List HistoryEntry} (script : ScriptContent) (client count : ℕ) (played : Played) → IsValid script → client < length script.requests
      → AreAllPlayed of_log of_backing (take client script.requests) start e all h → IsPlayed of_log of_backing client (take count (requests_at script.requests client)) e f played es
      → AreAllPlayedInPart of_log of_backing script.requests start f
  some_in_part {start} {e} {f} {all} {h} {es} script client count played valid below before own =
      let requests : List (List Request) = script.requests in
      let size : length (take client requests) ≡ min client (length requests) = length-take client requests in
      let enough = are_enough script client all.transcripts h valid below (before.served None tt) in
      let one : AreAllPlayed of_log of_backing (take client requests ++ take count (requests_at requests client) ∷ []) start f (with_client all played) (h ++ es) =
      all_push client (take count (requests_at requests client)) played (omega (arith, size, below)) before own
      (λ teller. let fewer = fewer_heard teller count (requests_at requests client) in let left = enough teller in omega (arith, fewer, left)) in
      let (tally, is) = padded (length requests - (client + 1)) one in
      record {
        answered = cut_at requests client count;
        cut = is_cut_at requests client count below;
        all = tally;
        history = h ++ es;
        is = subst (λ (rs : List (List Request)). AreAllPlayed of_log of_backing rs start f tally (h ++ es))
            (append_assoc (take client requests) (take count (requests_at requests client) ∷ []) (replicate (length requests - (client + 1)) [])) is;
      }

  -- whether all were or not
  pub all_in_part : {start e : EngineContent L B} (requests : List (List Request)) (r : Result AllPlayed AllocError)
      → IfOk r (λ p. (h : List HistoryEntry) × AreAllPlayed of_log of_backing requests start e (tally_of p) h × (covered p.transcripts.items ≤ stable_places e)
      × All (EndFlushes e.geometry e.down (stable_places e)) p.transcripts.items)
      → IfErr r (λ none. AreAllPlayedInPart of_log of_backing requests start e) → AreAllPlayedInPart of_log of_backing requests start e
  all_in_part requests (Ok played) (h, is, low, ends) part = record {
    answered = requests;
    cut = record {
      clients = refl;
      each = λ client below. (length (requests_at requests client), sym (take_all (length (requests_at requests client)) (requests_at requests client) (omega arith)));
    };
    all = tally_of played;
    history = h;
    is = is;
  }
  all_in_part requests (Err none) is part = part
