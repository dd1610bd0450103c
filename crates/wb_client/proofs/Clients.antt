-- The requests of a client are answered one after another, and the flushes that it posted are awaited.
use Rattle.std.proofs.Common.{ℕ, zero, suc, ◌≡◌, ◌+◌, ◌<◌, ◌≤◌, Bool, true, false, cond, List, [], ◌∷◌, ◌++◌, length, map, take, drop, get_or, All, Option, None, Some, inl, inr, refl, ap, sym, ◌∙◌, subst, arith}
use Rattle.std.specs.Prelude.{slice_get, IfSome, OnOk, Result, max}
use Rattle.std.proofs.lemmas.Result.{on_ok_weaker}
use Rattle.wb_geometry.specs.declared.which.Which.{Which}
use Rattle.std.specs.List.{range_with_len}
use Rattle.std.proofs.lemmas.Bool.{eq-eqb, cases_lt}
use Rattle.std.proofs.lemmas.Option.{slice_get-get_or}
use Rattle.wb_script.specs.Transcripts.{covered_line}
use Rattle.std.proofs.lemmas.List.FromFn.{length-range_with_len}
use Rattle.std.proofs.lemmas.List.{append-nil, length-append, length-map, length-take, get_or_default, take_more, take-append-drop}
use Rattle.std.proofs.lemmas.List.Elements.{All-append}
use Rattle.wb_geometry.specs.Layout.{places}
use Rattle.wb_steps.specs.Rule.{shape_of}
use Rattle.wb_steps.specs.declared.view.View.{View}
use Rattle.wb_intake.specs.Carried.{Carried}
use Rattle.wb_script.specs.Content.{ScriptContent}
use Rattle.wb_script.specs.Valid.{requests_at, heard_of, told_to, IsAsked, IsValid}
use Rattle.wb_script.specs.declared.request.Request.{Request}
use Rattle.wb_script.specs.declared.request.Request.TheVariants.{Write, Read, ReadSum, Flush, Defer, Tell, Hear}
use Rattle.wb_script.specs.declared.transcript.Line.{Line}
use Rattle.wb_script.specs.declared.transcript.Line.TheVariants.{Wrote, Forced, Got, Summed, Failed, Flushed, Deferred, Told, Heard}
use Rattle.wb_client.specs.Played.{HasSeenMore, heard_from, hearer_of, hearers_of, counts_for, awaited_line, HasPlayed, AreAwaited}
use Rattle.wb_client.specs.Done.{HasLooked}
use Rattle.wb_script.specs.declared.transcript.Stop.{Stop}
use Rattle.wb_script.specs.declared.transcript.Stop.TheVariants.{Whole, Down, Ids}
use Rattle.wb_client.specs.Client.{ArePlayed, IsPlayedBy, IsPostedLine, ArePosted, IsWritten, IsForced, yet_to_hear, AreTellers, MayHear, IsNewWork, HasAnswered}
use Rattle.wb_client.specs.declared.teller.Teller.{Teller}
use Rattle.wb_client.specs.declared.answering.Work.{Work}
use Rattle.wb_buffers.proofs.Asked.{asked_at, asked_more}
use Rattle.wb_client.proofs.Appends.{heard_append, length-told_for}
use Rattle.wb_client.proofs.Playing.{looked_same, played_none, played_more, played_looked}
use Rattle.wb_client.proofs.Awaiting.{played_awaited, marks_above}
use Rattle.wb_client.proofs.Lines.{played_write, played_forced, played_forced_stopped}

-- the requests so far were answered, by a client whose pass came from v to w
pub record IsPlaying (t : Carried) (all : List (List Request)) (client : ℕ) (v w : View) (requests : List Request) (work : Work) : Type 0 where
  pub heard : List (ℕ × List ℕ)
  pub told : List ℕ
  pub sized : length work.buffers.shown.items ≡ 131072
  pub played : ArePlayed t client v w heard told requests work.transcript
  pub posted : ArePosted (places t.geometry) w work.transcript
  pub tellers : AreTellers all client heard work.tellers.items

pub playing_none : (t : Carried) (all : List (List Request)) (client : ℕ) (v : View) (work : Work) → IsNewWork all work → IsPlaying t all client v v [] work
playing_none t all client v work new = record {
  heard = [];
  told = [];
  sized = new.sized;
  played = λ base is.
      subst (λ (lines : List Line). HasPlayed base (shape_of t.geometry t.first) client v v [] [] [] lines) (sym new.lines)
      (played_none base (shape_of t.geometry t.first) client v v (looked_same v));
  posted = subst (ArePosted (places t.geometry) v) (sym new.lines) (λ k d lt. absurd (omega (arith, lt)));
  tellers = new.tellers client;
}

posted_line_later : (number : ℕ) (v w : View) (line : Line) → v.seen.cursor ≤ w.seen.cursor → IsPostedLine number v line → IsPostedLine number w line
posted_line_later number v w (Deferred ended) later posted = (posted.0, omega (arith, posted.1, later), posted.2)
posted_line_later number v w (Wrote taken stop) later posted = tt
posted_line_later number v w (Forced taken flush stop) later posted = tt
posted_line_later number v w (Got point shown) later posted = tt
posted_line_later number v w (Summed point sum) later posted = tt
posted_line_later number v w (Failed device) later posted = tt
posted_line_later number v w (Flushed ended) later posted = tt
posted_line_later number v w Told later posted = tt
posted_line_later number v w Heard later posted = tt

pub posted_later : (number : ℕ) (v w : View) (lines : List Line) → v.seen.cursor ≤ w.seen.cursor → ArePosted number v lines → ArePosted number w lines
posted_later number v w lines later posted = λ k d lt. posted_line_later number v w (get_or lines k d) later (posted k d lt)

-- one request more
pub playing_more : (t : Carried) (all : List (List Request)) (client : ℕ) (v w x : View) (requests : List Request) (i : ℕ) (request : Request) (work now : Work)
    → i < length requests → request ≡ get_or requests i request → IsPlaying t all client v w (take i requests) work → length now.buffers.shown.items ≡ 131072
    → HasAnswered t client w x request work now → IsPlaying t all client v x (take (i + 1) requests) now
playing_more t all client v w x requests i request work now lt is so_far sized answered =
    let next : take (i + 1) requests ≡ take i requests ++ request ∷ [] = take_more requests i request lt ∙ ap (λ (r : Request). take i requests ++ r ∷ []) (sym is) in
    let more : HasSeenMore w x = (answered.played None tt).more in
    record {
      heard = so_far.heard ++ answered.heard;
      told = so_far.told ++ answered.told;
      sized = sized;
      played = λ base of.
          subst (λ (rs : List Request). HasPlayed base (shape_of t.geometry t.first) client v x (so_far.heard ++ answered.heard) (so_far.told ++ answered.told) rs now.transcript) (sym next)
          (subst (λ (lines : List Line). HasPlayed base (shape_of t.geometry t.first) client v x (so_far.heard ++ answered.heard) (so_far.told ++ answered.told) (take i requests ++ request ∷ []) lines) (sym answered.added)
          (played_more base (shape_of t.geometry t.first) client v w x so_far.heard answered.heard so_far.told answered.told (take i requests) (request ∷ []) work.transcript (answered.line ∷ []) (so_far.played base of) (answered.played base of)));
      posted =
          subst (ArePosted (places t.geometry) x) (sym answered.added)
          (All-append (IsPostedLine (places t.geometry) x) work.transcript (answered.line ∷ []) (posted_later (places t.geometry) w x work.transcript more.cursor so_far.posted)
          (one (IsPostedLine (places t.geometry) x) answered.line answered.posted));
      tellers = answered.tellers all so_far.heard so_far.tellers;
    }
  where
    one : (P : Line → Type 0) (line : Line) → P line → All P (line ∷ [])
    one P line is zero d lt = is
    one P line is (suc k) d lt = absurd (omega (arith, lt))

-- ---- notes

hearer_one : (request : Request) → length (hearer_of request) ≤ 1
hearer_one (Tell other) = omega arith
hearer_one (Write sector count pattern fua) = omega arith
hearer_one (Read sector count) = omega arith
hearer_one (ReadSum sector count) = omega arith
hearer_one Flush = omega arith
hearer_one Defer = omega arith
hearer_one (Hear other) = omega arith

pub hearers_few : (requests : List Request) → length (hearers_of requests) ≤ length requests
hearers_few [] = omega arith
hearers_few (request ∷ requests) = omega (arith, length-append (hearer_of request) (hearers_of requests), hearer_one request, hearers_few requests)

heard_next : (teller : ℕ) (requests : List Request) (i : ℕ) → i < length requests → Hear teller ≡ get_or requests i (Hear teller) → heard_of teller (take i requests) + 1 ≤ heard_of teller requests
heard_next teller requests i lt is =
    let whole : requests ≡ take (i + 1) requests ++ drop (i + 1) requests = sym (take-append-drop (i + 1) requests) in
    let next : take (i + 1) requests ≡ take i requests ++ Hear teller ∷ [] = take_more requests i (Hear teller) lt ∙ ap (λ (r : Request). take i requests ++ r ∷ []) (sym is) in
    let all : heard_of teller requests ≡ heard_of teller (take (i + 1) requests) + heard_of teller (drop (i + 1) requests) = ap (heard_of teller) whole ∙ heard_append teller (take (i + 1) requests) (drop (i + 1) requests) in
    let more : heard_of teller (take (i + 1) requests) ≡ heard_of teller (take i requests) + heard_of teller (Hear teller ∷ []) = ap (heard_of teller) next ∙ heard_append teller (take i requests) (Hear teller ∷ []) in
    let one : heard_of teller (Hear teller ∷ []) ≡ 1 = ap (λ (b : Bool). length (cond b (Hear teller ∷ []) [])) (eq-eqb teller teller refl) in
    omega (arith, all, more, one)

-- a note that the next request hears is yet to be heard
pub may_hear : (t : Carried) (script : ScriptContent) (sectors clients client : ℕ) (v w : View) (i : ℕ) (request : Request) (work : Work)
    → IsValid script → client < length script.requests → i < length (requests_at script.requests client) → request ≡ get_or (requests_at script.requests client) i request → IsAsked sectors clients client request
    → IsPlaying t script.requests client v w (take i (requests_at script.requests client)) work → MayHear client work.tellers.items request
may_hear t script sectors clients client v w i (Write sector count pattern fua) work valid inside lt is asked so_far = tt
may_hear t script sectors clients client v w i (Read sector count) work valid inside lt is asked so_far = tt
may_hear t script sectors clients client v w i (ReadSum sector count) work valid inside lt is asked so_far = tt
may_hear t script sectors clients client v w i Flush work valid inside lt is asked so_far = tt
may_hear t script sectors clients client v w i Defer work valid inside lt is asked so_far = tt
may_hear t script sectors clients client v w i (Tell other) work valid inside lt is asked so_far = tt
may_hear t script sectors clients client v w i (Hear teller) work valid inside lt is asked so_far =
    let all : List (List Request) = script.requests in
    let told : length (counts_for client (requests_at all teller)) ≡ told_to client (requests_at all teller)
    = length-told_for client (requests_at all teller) (range_with_len 1 (length (hearers_of (requests_at all teller)))) (length-range_with_len 1 (length (hearers_of (requests_at all teller)))) in
    let left = valid.left teller client asked inside in
    let heard = (so_far.played None tt).heard_each teller in
    let next = heard_next teller (requests_at all client) i lt is in
    let yet : List ℕ = yet_to_hear client (slice_get work.tellers.items teller) in
    let both : length (map length (heard_from teller so_far.heard)) + length yet ≡ length (counts_for client (requests_at all teller))
    = sym (length-append (map length (heard_from teller so_far.heard)) yet) ∙ ap length (so_far.tellers teller) in
    omega (arith, told, left, heard, next, both, length-map (heard_from teller so_far.heard) length)

-- ---- all requests

-- they were all answered, and the flushes that were posted are awaited
pub play_done : (t : Carried) (all : List (List Request)) (client : ℕ) (v w x : View) (work : Work) (lines : List Line) → IsPlaying t all client v w (requests_at all client) work
    → HasLooked w x → AreAwaited x work.transcript lines → IsPlayedBy t all client v x lines
play_done t all client v w x work lines playing looked awaited = record {
  heard = playing.heard;
  told = playing.told;
  played = λ base is.
      played_awaited base (shape_of t.geometry t.first) client v x playing.heard playing.told (requests_at all client) work.transcript
      (played_looked base (shape_of t.geometry t.first) client v w x playing.heard playing.told (requests_at all client) work.transcript (playing.played base is) looked)
      lines awaited;
  covered = awaited.covered;
  marked_above = marks_above (places t.geometry) w x work.transcript lines playing.posted awaited;
  in_order = λ teller. (yet_to_hear client (slice_get work.tellers.items teller), sym (playing.tellers teller));
}

-- ---- posted flushes

-- one line more is awaited
pub done_later : (lines : List Line) (index before now : ℕ) → index < length lines → before ≤ now → ((k : ℕ) (d : Line) → k < index → covered_line (get_or lines k d) ≤ max (awaited_line (get_or lines k d)) before)
    → IfSome (slice_get lines index) (λ line. covered_line line ≤ max (awaited_line line) now) → (k : ℕ) (d : Line) → k < index + 1 → covered_line (get_or lines k d) ≤ max (awaited_line (get_or lines k d)) now
done_later lines index before now inside later done here k d lt = elim (cases_lt k index) [
  | inl low ↦ (let old = done k d low in omega (arith, old, later))
  | inr least ↦
      let same : k ≡ index = omega (arith, lt, least) in
      let at : IfSome (Some (get_or lines index d)) (λ line. covered_line line ≤ max (awaited_line line) now) = subst (λ (o : Option Line). IfSome o (λ line. covered_line line ≤ max (awaited_line line) now)) (slice_get-get_or lines index d inside) here in
      subst (λ (n : ℕ). covered_line (get_or lines n d) ≤ max (awaited_line (get_or lines n d)) now) (sym same) at
]

-- ---- lines

-- a line with which the request was answered: no posted flush is further than the pass has seen
pub record IsLineOf (t : Carried) (client : ℕ) (v w : View) (heard : List (ℕ × List ℕ)) (told : List ℕ) (request : Request) (line : Line) : Type 0 where
  pub played : ArePlayed t client v w heard told (request ∷ []) (line ∷ [])
  pub posted : IsPostedLine (places t.geometry) w line

-- it was added, and a note was heard or none
pub line_added : {T E : Type 0} (r : Result T E) (t : Carried) (client : ℕ) (v w : View) (heard : List (ℕ × List ℕ)) (told : List ℕ) (request : Request) (line : Line) (before now : Work)
    → IsLineOf t client v w heard told request line
    → ((all : List (List Request)) (earlier : List (ℕ × List ℕ)) → AreTellers all client earlier before.tellers.items → AreTellers all client (earlier ++ heard) now.tellers.items)
    → OnOk r (now.transcript ≡ before.transcript ++ line ∷ []) → OnOk r (HasAnswered t client v w request before now)
line_added r t client v w heard told request line before now is tellers = on_ok_weaker r (λ added. record { line = line; heard = heard; told = told; played = is.played; added = added; posted = is.posted; tellers = tellers })

pub none_heard : (client : ℕ) (tellers : List Teller) (all : List (List Request)) (earlier : List (ℕ × List ℕ)) → AreTellers all client earlier tellers → AreTellers all client (earlier ++ []) tellers
none_heard client tellers all earlier are = subst (λ (h : List (ℕ × List ℕ)). AreTellers all client h tellers) (sym (append-nil earlier)) are

module _ (t : Carried) (client : ℕ) (v : View) (sector count : ℕ) (pattern : List ℕ) (places_are : List ℕ) (few : count ≤ 256) where
  -- that of a write
  pub wrote_line : (w : View) (stopped : Stop) → IsWritten (shape_of t.geometry t.first) client v w sector count pattern places_are stopped → IsLineOf t client v w [] [] (Write sector count pattern false) (Wrote places_are stopped)
  wrote_line w stopped written = record { played = λ base of. played_write base (shape_of t.geometry t.first) client v w sector count pattern few places_are stopped written.taken written.ended written.why; posted = tt }

  forced_stopped : (u w : View) (stopped : Stop) (line : Line) → (stopped ≡ Whole → ⊥) → IsWritten (shape_of t.geometry t.first) client v u sector count pattern places_are stopped → line ≡ Forced places_are None stopped → w ≡ u
      → IsLineOf t client v w [] [] (Write sector count pattern true) line
  forced_stopped u w stopped line broken written is same =
      subst (IsLineOf t client v w [] [] (Write sector count pattern true)) (sym is)
      (subst (λ (x : View). IsLineOf t client v x [] [] (Write sector count pattern true) (Forced places_are None stopped)) (sym same)
      (record { played = λ base of. played_forced_stopped base (shape_of t.geometry t.first) client v u sector count pattern few places_are stopped broken written.taken written.ended written.why; posted = tt }))

  -- with `fua`
  pub forced_line : (u w : View) (stopped : Stop) (line : Line) → IsWritten (shape_of t.geometry t.first) client v u sector count pattern places_are stopped → IsForced (places t.geometry) client u w places_are stopped line
      → IsLineOf t client v w [] [] (Write sector count pattern true) line
  forced_line u w Whole line written (ended, is, flushed) =
      subst (IsLineOf t client v w [] [] (Write sector count pattern true)) (sym is)
      (record { played = λ base of. played_forced base (shape_of t.geometry t.first) client v w sector count pattern few (places t.geometry) u places_are ended written.taken written.ended flushed; posted = tt })
  forced_line u w (Down device) line written (is, same) = forced_stopped u w (Down device) line (λ whole. down_whole device whole) written is same
    where
      down_whole : (device : Which) → Down device ≡ Whole → ⊥
      down_whole device is = cc
  forced_line u w Ids line written (is, same) = forced_stopped u w Ids line ids_whole written is same
    where
      ids_whole : Ids ≡ Whole → ⊥
      ids_whole is = cc

-- ---- the requests of a client

-- they are those that the script has for it
pub own_requests : (script : ScriptContent) (all : List (List Request)) (client : ℕ) (d requests : List Request) → all ≡ script.requests → client < length script.requests → requests ≡ get_or all client d → requests ≡ requests_at script.requests client
own_requests script all client d requests same inside is =
    is ∙ ap (λ (l : List (List Request)). get_or l client d) same ∙ get_or_default script.requests client d [] inside

-- and each may be asked of a device that is large enough
pub asked_here : (script : ScriptContent) (client sectors i : ℕ) (request : Request) → IsValid script → client < length script.requests → script.sectors ≤ sectors → i < length (requests_at script.requests client)
    → request ≡ get_or (requests_at script.requests client) i request → IsAsked sectors script.clients client request
asked_here script client sectors i request valid inside fits lt is =
    asked_more script.sectors sectors script.clients client request fits
    (subst (IsAsked script.sectors script.clients client) (sym is) (asked_at script client valid inside i request lt))

-- a pass that told nothing before has told no more notes than requests were answered
pub told_few : (t : Carried) (all : List (List Request)) (client : ℕ) (v w : View) (requests : List Request) (i : ℕ) (work : Work) → v.told ≡ [] → IsPlaying t all client v w (take i requests) work → length w.told ≤ i
told_few t all client v w requests i work none playing =
    let played = playing.played None tt in
    let told : length w.told ≡ length (v.told ++ playing.told) = ap length played.told_more in
    let before : length v.told ≡ 0 = ap length none in
    omega (arith, told, length-append v.told playing.told, before, played.told_each, hearers_few (take i requests), length-take i requests)
