-- A client's requests, answered one after another over the engine.
use Rattle.std.proofs.Common.{ℕ, ◌≡◌, ◌+◌, ◌-◌, ◌*◌, ◌%◌, ◌<◌, ◌≤◌, List, [], ◌∷◌, ◌++◌, length, get_or, take, map, All, Option, Some, IfSome, ◌⊎◌, inl, inr, refl, ap, sym, ◌∙◌, subst, add-zero, arith, append-nil, append_assoc, length-append}
use Rattle.std.specs.List.{enumerate_from}
use Rattle.std.proofs.lemmas.List.{take_more}
use Rattle.std.proofs.lemmas.Nat.{mul-le}
use Rattle.std.proofs.lemmas.Option.{IfSome_then}
use Rattle.std.proofs.lemmas.List.Elements.{All-nil, All-map, All-push}
use Rattle.wb_geometry.specs.Image.{Image}
use Rattle.wb_geometry.specs.History.{HistoryEntry}
use Rattle.wb_geometry.specs.Layout.{places}
use Rattle.wb_geometry.specs.Device.{State}
use Rattle.wb_geometry.specs.declared.geometry.Geometry.{Geometry}
use Rattle.wb_geometry.specs.declared.which.Which.{Which}
use Rattle.wb_geometry.specs.declared.which.Which.TheVariants.{Log, Backing}
use Rattle.wb_script.specs.Transcripts.{Seen, first_seen, seen_after_all, Answers, is_failure, failures, HasStop, IsUnflushed, covered_line, covered_by}
use Rattle.wb_script.proofs.Sessions.{failures_push}
use Rattle.wb_script.specs.declared.request.Request.{Request}
use Rattle.wb_script.specs.declared.transcript.Ended.{Ended}
use Rattle.wb_script.specs.declared.transcript.Line.{Line}
use Rattle.wb_script.specs.declared.transcript.Line.TheVariants.{Wrote, Forced, Got, Summed, Failed, Flushed, Deferred, Told, Heard}
use Rattle.wb_script.specs.declared.transcript.Stop.TheVariants.{Down, Ids}
use Rattle.wb_engine.specs.Content.{EngineContent}
use Rattle.wb_serve.specs.declared.playing.Played.{Played}
use Rattle.wb_engine.specs.Settling.{stable_places}
use Rattle.wb_serve.specs.Playing.{HasMoved, StandsOver, IsDownBy, IsStoppedDown, IsAnswered, IsPlayed, IsPostedLine, ArePosted, IsAwaited, EndsFlush, awaited_line, awaited_flush, nothing_played, with_line}
use Rattle.wb_serve.specs.Session.{EndFlushes, flush_of}
use Rattle.wb_serve.proofs.Moves.{moved_none, moved_then, down_stays}
use Rattle.wb_serve.proofs.Rooms.{all_full}
use Rattle.wb_serve.proofs.Ends.{ends_up, ends_marked}
use Rattle.wb_serve.proofs.Spent.{still_spent}
use Rattle.wb_serve.proofs.Flags.{none_of, any-or, any-push_cases, tells_none, tells_push}
use Rattle.wb_serve.proofs.Marked.{any-unmap, any-map, stop_was, stop_kept, unflushed_was, done_awaited}
use Rattle.wb_script.proofs.Marks.{failures-marked, covered_by-marked, covered_most}
use Rattle.wb_script.proofs.Clients.{IsAnswered-none, IsAnswered_push, IsAnswered-marked}
use Rattle.wb_script.specs.Keeping.{marked}
use Rattle.wb_serve.proofs.Notes.{may_hear, below_after, enough_before}
use Rattle.std.specs.Prelude.{Result, Ok, Err, IfErr}

-- what holds however the call ended
pub at_err : {T E P : Type 0} (r : Result T E) → P → IfErr r (λ none. P)
at_err (Ok x) holds = tt
at_err (Err e) holds = holds

module _ {L B : Type 0} where
  -- where there is no room all segments in memory are full
  pub down_by_stop : {e : EngineContent L B} (device : Which) → IsStoppedDown e device → IsDownBy e device
  down_by_stop {e} device stopped = record { down = stopped.down; full = all_full e.geometry e.numbers e.absorbed stopped.ordered stopped.full }

-- Requests so far: beside what they leave, the awaited flushes that were done are stable, and those that were posted are for
-- whole segments.
pub record IsPlaying {L B : Type 0} (of_log : L → State) (of_backing : B → State) (client : ℕ) (requests : List Request) (e f : EngineContent L B) (played : Played) (entries : List HistoryEntry) : Type 0 where
  pub is : IsPlayed of_log of_backing client requests e f played entries
  pub awaited : All (λ line. awaited_line line ≤ stable_places f) played.transcript
  pub flushed : All (λ line. IfSome (awaited_flush line) (EndsFlush f)) played.transcript
  pub posted : ArePosted f played.transcript

module _ {L B : Type 0} {of_log : L → State} {of_backing : B → State} where
  -- ---- what stays as the engine goes on

  -- once it is down nothing more becomes stable
  stable_still : {e f : EngineContent L B} {es : List HistoryEntry} {m n : ℕ} → HasMoved of_log of_backing e f es m n → (device : Which) → e.down ≡ Some device → stable_places f ≡ stable_places e
  stable_still {e} {f} moved device down =
      let still = moved.still device down in
      cc (moved.kept.geometry, moved.kept.first, still)

  pub still_down_by : {e f : EngineContent L B} {es : List HistoryEntry} {m n : ℕ} (device : Which) → HasMoved of_log of_backing e f es m n
      → IsDownBy e device → IsDownBy f device
  still_down_by {e} {f} {es} device moved down = record {
    down = down_stays device moved.stays_down down.down;
    full =
        let longer : e.absorbed ≤ f.absorbed = omega (arith, moved.absorbed) in
        let same : places f.geometry * f.geometry.ram ≡ places e.geometry * e.geometry.ram = ap (λ (g : Geometry). places g * g.ram) moved.kept.geometry in
        omega (arith, same, longer, stable_still moved device down.down, down.full);
  }

  pub stable_later : {e f : EngineContent L B} {es : List HistoryEntry} {m n : ℕ} → HasMoved of_log of_backing e f es m n → stable_places e ≤ stable_places f
  stable_later {e} {f} moved =
      let same : places f.geometry * (f.numbers.stable - f.numbers.first) ≡ places e.geometry * (f.numbers.stable - e.numbers.first) = cc (moved.kept.geometry, moved.kept.first) in
      let low : places e.geometry * (e.numbers.stable - e.numbers.first) ≤ places e.geometry * (f.numbers.stable - e.numbers.first) =
      mul-le (places e.geometry) (e.numbers.stable - e.numbers.first) (places e.geometry) (f.numbers.stable - e.numbers.first) (omega arith) (let later = moved.stable in omega (arith, later)) in
      omega (arith, same, low)

  -- the engine stands for the longer history
  pub stands_on : {e f : EngineContent L B} {h es : List HistoryEntry} {m n : ℕ} (content : Option Image) → StandsOver of_log of_backing content e h → HasMoved of_log of_backing e f es m n
      → StandsOver of_log of_backing content f (h ++ es)
  stands_on {e} {f} {h} {es} content over moved = record {
    places = omega (arith, over.places, moved.absorbed, length-append h es);
    told = IfSome_then content over.told (λ base is.
        let to = (moved.changed base h is.1).told is.0.0 is.0.1 in
        ((to.0, to.1), moved.stands base h is.1));
  }

  posted_later : {e f : EngineContent L B} {es : List HistoryEntry} {m n : ℕ} → HasMoved of_log of_backing e f es m n → (line : Line) → IsPostedLine e line → IsPostedLine f line
  posted_later {e} {f} moved (Deferred ended) (whole, few, low, up) =
      (subst (λ (g : Geometry). ended.through % places g ≡ 0) (sym moved.kept.geometry) whole, subst (λ (g : Geometry). ended.voids < places g) (sym moved.kept.geometry) few, let longer = moved.absorbed in omega (arith, low, longer), up)
  posted_later moved (Wrote taken stop) is = tt
  posted_later moved (Forced taken flush stop) is = tt
  posted_later moved (Got point shown) is = tt
  posted_later moved (Summed point sum) is = tt
  posted_later moved (Failed device) is = tt
  posted_later moved (Flushed ended) is = tt
  posted_later moved Told is = tt
  posted_later moved Heard is = tt

  -- a flush that ended so still does
  pub end_later : {e f : EngineContent L B} {es : List HistoryEntry} {m n : ℕ} → HasMoved of_log of_backing e f es m n → (ended : Ended) → EndsFlush e ended → EndsFlush f ended
  end_later {e} {f} moved ended end = record {
    whole = subst (λ (g : Geometry). ended.through % places g ≡ 0) (sym moved.kept.geometry) end.whole;
    few = subst (λ (g : Geometry). ended.voids < places g) (sym moved.kept.geometry) end.few;
    done = λ is. let before = end.done is in omega (arith, before, stable_later moved);
    undone = IfSome_then ended.down end.undone (λ device is.
        let same = stable_still moved device is.0 in let above = is.1 in
        (down_stays device moved.stays_down is.0, omega (arith, same, above)));
  }

  pub ends_later : {e f : EngineContent L B} {es : List HistoryEntry} {m n : ℕ} → HasMoved of_log of_backing e f es m n → (flush : Option Ended) → IfSome flush (EndsFlush e) → IfSome flush (EndsFlush f)
  ends_later moved flush end = IfSome_then flush end (λ ended is. end_later moved ended is)

  pub all_end_later : {e f : EngineContent L B} {es : List HistoryEntry} {m n : ℕ} → HasMoved of_log of_backing e f es m n → (transcripts : List (List Line))
      → All (EndFlushes e.geometry e.down (stable_places e)) transcripts → All (EndFlushes f.geometry f.down (stable_places f)) transcripts
  all_end_later moved transcripts ends = λ k d lt i line inside. ends_later moved (flush_of (get_or (get_or transcripts k d) i line)) (ends k d lt i line inside)

  -- ---- requests so far

  pub playing_none : (client : ℕ) (e : EngineContent L B) → IsPlaying of_log of_backing client [] e e nothing_played []
  playing_none client e = record {
    is = record {
      moved = moved_none e;
      answered = λ content history over notes below enough. IsAnswered-none content history client notes;
      tells = tells_none none_of;
      stopped_down = λ device some. absurd (none_of some);
      unflushed = λ device some. absurd (none_of some);
      stopped_ids = λ some. absurd (none_of some);
      few = omega arith;
      none_left = λ spent. refl;
    };
    awaited = All-nil (λ line. awaited_line line ≤ stable_places e);
    flushed = All-nil (λ line. IfSome (awaited_flush line) (EndsFlush e));
    posted = All-nil (IsPostedLine e);
  }

  pub playing_push : {e f g : EngineContent L B} {requests : List Request} {played : Played} {es : List HistoryEntry} (client : ℕ) (request : Request) (line : Line)
      → IsPlaying of_log of_backing client requests e f played es → (answered : IsAnswered of_log of_backing client request f g line)
      → IsPlaying of_log of_backing client (requests ++ request ∷ []) e g (with_line played line) (es ++ answered.entries)
  playing_push {e} {f} {g} {requests} {played} {es} client request line so_far answered =
      let p = so_far.is in
      let lines : List Line = played.transcript in
      let more : List HistoryEntry = answered.entries in
      let count : (which : Which) → failures which (lines ++ line ∷ []) ≡ failures which lines + is_failure which line = λ which. failures_push which lines line in
      let came : f.absorbed ≡ e.absorbed + length es = p.moved.absorbed in
      record {
        is = record {
          moved =
              subst (λ (k : ℕ). HasMoved of_log of_backing e g (es ++ more) k (failures Backing (lines ++ line ∷ []))) (sym (count Log))
              (subst (λ (k : ℕ). HasMoved of_log of_backing e g (es ++ more) (failures Log lines + is_failure Log line) k) (sym (count Backing)) (moved_then p.moved answered.moved));
          answered = λ content history over notes below enough.
              let before = p.answered content history over notes below (enough_before notes requests request enough) in
              let all : List HistoryEntry = history ++ es in
              let seen : Seen = seen_after_all (first_seen notes) requests lines in
              let size : length all ≡ f.absorbed = omega (arith, length-append history es, over.places, came) in
              let low : seen.number ≤ f.absorbed = omega (arith, before.inside, size) in
              let under = below_after content all client notes requests lines e.absorbed f.absorbed (omega (arith, came)) before.answers below in
              let now = answered.answers content all (stands_on content over p.moved) seen low (may_hear content all client notes requests lines request before.answers enough) in
              let sees = answered.sees seen low under in
              IsAnswered_push content history es more client notes requests lines request line before
              (subst (λ (h : List HistoryEntry). Answers content h client seen request line) (append_assoc history es more) now)
              answered.own
              (answered.once ∙ ap (λ (n : ℕ). enumerate_from n more) (sym size))
              (omega (arith, sees, size, length-append history (es ++ more), length-append es more, length-append history es));
          tells = tells_push lines line played.ids played.log_failed played.backing_failed p.tells;
          stopped_down = λ device some. elim (any-push_cases (HasStop (Down device)) lines line some) [
            | inl before ↦ still_down_by device answered.moved (p.stopped_down device before)
            | inr last ↦ down_by_stop device (answered.stopped_down device last)
          ];
          unflushed = λ device some. elim (any-push_cases (IsUnflushed device) lines line some) [
            | inl before ↦ down_stays device answered.moved.stays_down (p.unflushed device before)
            | inr last ↦ answered.unflushed device last
          ];
          stopped_ids = λ some. elim (any-push_cases (HasStop Ids) lines line some) [
            | inl before ↦ let spent = p.stopped_ids before in still_spent answered.moved (answered.none_left spent) spent
            | inr last ↦ answered.stopped_ids last
          ];
          few = omega (arith, p.few, answered.few, length-append es more, length-append requests (request ∷ []));
          none_left = λ spent.
              let none = p.none_left spent in
              ap (λ (xs : List HistoryEntry). xs ++ more) none ∙ answered.none_left (still_spent p.moved none spent);
        };
        awaited = All-push (λ line. awaited_line line ≤ stable_places g) lines line
            (λ k d lt. let before = so_far.awaited k d lt in omega (arith, before, stable_later answered.moved)) answered.awaited;
        flushed = All-push (λ line. IfSome (awaited_flush line) (EndsFlush g)) lines line
            (λ k d lt. ends_later answered.moved (awaited_flush (get_or lines k d)) (so_far.flushed k d lt)) answered.flushed;
        posted = All-push (IsPostedLine g) lines line (λ k d lt. posted_later answered.moved (get_or lines k d) (so_far.posted k d lt)) answered.posted;
      }

  -- the same in a loop
  pub playing_more : {e f g : EngineContent L B} {played now : Played} {es : List HistoryEntry} (client : ℕ) (requests : List Request) (i : ℕ) (request : Request) (line : Line)
      → i < length requests → request ≡ get_or requests i request → IsPlaying of_log of_backing client (take i requests) e f played es
      → (answered : IsAnswered of_log of_backing client request f g line) → now ≡ with_line played line
      → IsPlaying of_log of_backing client (take (i + 1) requests) e g now (es ++ answered.entries)
  playing_more {played = played} client requests i request line lt is so_far answered grown =
      let next : take (i + 1) requests ≡ take i requests ++ request ∷ [] = take_more requests i request lt ∙ ap (λ (r : Request). take i requests ++ r ∷ []) (sym is) in
      let full = playing_push client request line so_far answered in
      rw (next, grown) full

  -- ---- the flushes that were posted are awaited

  -- where the engine went on without an answer
  pub play_on : {e f g : EngineContent L B} {requests : List Request} {played : Played} {es : List HistoryEntry} (client : ℕ)
      → IsPlayed of_log of_backing client requests e f played es → HasMoved of_log of_backing f g [] 0 0 → IsPlayed of_log of_backing client requests e g played es
  play_on {e} {f} {g} {requests} {played} {es} client p moved =
      let lines : List Line = played.transcript in
      record {
        moved =
            let same : (es ++ [], failures Log lines + 0, failures Backing lines + 0) ≡ (es, failures Log lines, failures Backing lines) = cc (append-nil es, add-zero (failures Log lines), add-zero (failures Backing lines)) in
            let P : List HistoryEntry × ℕ × ℕ → Type 0 = λ t. HasMoved of_log of_backing e g t.0 t.1 t.2 in
            let more : P (es ++ [], failures Log lines + 0, failures Backing lines + 0) = moved_then p.moved moved in
            subst P same more;
        answered = p.answered;
        tells = p.tells;
        stopped_down = λ device some. still_down_by device moved (p.stopped_down device some);
        unflushed = λ device some. down_stays device moved.stays_down (p.unflushed device some);
        stopped_ids = λ some. still_spent moved refl (p.stopped_ids some);
        few = p.few;
        none_left = p.none_left;
      }

  -- the lines marked, where the engine is down by the device
  pub play_marked : {e f : EngineContent L B} {requests : List Request} {played : Played} {es : List HistoryEntry} (client stable : ℕ) (device : Which) → f.down ≡ Some device
      → IsPlayed of_log of_backing client requests e f played es → IsPlayed of_log of_backing client requests e f (record played { transcript = map (marked stable device) played.transcript }) es
  play_marked {e} {f} {requests} {played} {es} client stable device down p =
      let lines : List Line = played.transcript in
      let now : List Line = map (marked stable device) lines in
      let count : (which : Which) → failures which now ≡ failures which lines = λ which. failures-marked stable device which lines in
      record {
        moved = rw (count Log, count Backing) p.moved;
        answered = λ content history over notes below enough.
            IsAnswered-marked stable device content history es client notes requests lines (p.answered content history over notes below enough);
        tells = rw (count Log, count Backing) (record {
          log_fails = p.tells.log_fails;
          log_fine = p.tells.log_fine;
          backing_fails = p.tells.backing_fails;
          backing_fine = p.tells.backing_fine;
          stopped = λ some. p.tells.stopped (any-unmap (HasStop Ids) (HasStop Ids) (marked stable device) lines (stop_was Ids stable device) some);
          told = λ is. any-map (HasStop Ids) (HasStop Ids) (marked stable device) lines (stop_kept Ids stable device) (p.tells.told is);
        });
        stopped_down = λ other some. p.stopped_down other (any-unmap (HasStop (Down other)) (HasStop (Down other)) (marked stable device) lines (stop_was (Down other) stable device) some);
        unflushed = λ other some.
            let was = any-unmap (IsUnflushed other) (λ line. IsUnflushed other line ⊎ (other ≡ device)) (marked stable device) lines (unflushed_was other stable device) some in
            elim (any-or (IsUnflushed other) (other ≡ device) lines was) [
              | inl before ↦ p.unflushed other before
              | inr same ↦ down ∙ ap (λ (w : Which). Some w) (sym same)
            ];
        stopped_ids = λ some. p.stopped_ids (any-unmap (HasStop Ids) (HasStop Ids) (marked stable device) lines (stop_was Ids stable device) some);
        few = p.few;
        none_left = p.none_left;
      }

  -- so are those that were awaited: each that isn't marked is stable
  pub play_awaited : {e f g : EngineContent L B} {requests : List Request} {played : Played} {es : List HistoryEntry} (client : ℕ) (lines : List Line)
      → IsPlaying of_log of_backing client requests e f played es → IsAwaited of_log of_backing f g played.transcript lines
      → IsPlayed of_log of_backing client requests e g (record played { transcript = lines }) es × (covered_by lines ≤ stable_places g) × EndFlushes g.geometry g.down (stable_places g) lines
  play_awaited {e = e} {f = f} {g = g} {requests = requests} {played = played} {es = es} client lines so_far awaited =
      let still = play_on client so_far.is awaited.moved in
      let stable : stable_places f ≤ stable_places g = stable_later awaited.moved in
      let done : All (λ line. awaited_line line ≤ stable_places g) played.transcript = λ k d lt. let before = so_far.awaited k d lt in omega (arith, before, stable) in
      let ended : All (λ line. IfSome (awaited_flush line) (EndsFlush g)) played.transcript = λ k d lt. ends_later awaited.moved (awaited_flush (get_or played.transcript k d)) (so_far.flushed k d lt) in
      let posted : ArePosted g played.transcript = λ k d lt. posted_later awaited.moved (get_or played.transcript k d) (so_far.posted k d lt) in
      let P : List Line → Type 0 = λ now. IsPlayed of_log of_backing client requests e g (record played { transcript = now }) es × (covered_by now ≤ stable_places g) × EndFlushes g.geometry g.down (stable_places g) now in
      elim awaited.marks [
        | inl up ↦
            let all : All (λ line. covered_line line ≤ stable_places g) played.transcript =
            λ k d lt. let covers = awaited.stable up.0 k d lt in let before = done k d lt in omega (arith, covers, before) in
            let ends : EndFlushes g.geometry g.down (stable_places g) played.transcript = λ k d lt. ends_up g (get_or played.transcript k d) (ended k d lt) (posted k d lt) (awaited.stable up.0 k d lt) in
            subst P (sym up.1) (still, covered_most (stable_places g) 0 played.transcript (omega arith) all, ends)
        | inr (device, down, marks) ↦
            subst P (sym marks) (
              play_marked client (stable_places g) device down still,
              covered_by-marked (stable_places g) device played.transcript (λ k d lt. done_awaited (stable_places g) (get_or played.transcript k d) (done k d lt)),
              All-map (λ line. IfSome (flush_of line) (EndsFlush g)) (marked (stable_places g) device) played.transcript
                  (λ k d lt. ends_marked g device down (get_or played.transcript k d) (ended k d lt) (posted k d lt)),
            )
      ]
