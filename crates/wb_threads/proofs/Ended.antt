-- All clients ended, and the front was closed with their passes.
use Rattle.std.proofs.Common.{◌≡◌, ℕ, ◌+◌, ◌<◌, ◌≤◌, zero, suc, List, [], ◌∷◌, ◌++◌, length, map, slice_index_or, Contains, All, refl, sym, ap, ◌∙◌, subst, arith, Option, Some}
use Rattle.std.specs.Prelude.{slice_get, IfSome}
use Rattle.std.specs.List.{enumerate_from}
use Rattle.std.proofs.lemmas.Option.{get_or_from_slice_get}
use Rattle.std.proofs.lemmas.List.Elements.{All-nil, All-cons, All-head, All-tail}
use Rattle.wb_geometry.specs.Image.{Image}
use Rattle.wb_geometry.specs.Device.{State}
use Rattle.wb_geometry.specs.History.{HistoryEntry, client_of}
use Rattle.wb_steps.specs.Rule.{shape_of, cells}
use Rattle.wb_steps.specs.Views.{IsPrefix, placed, beginning, spent}
use Rattle.wb_steps.specs.declared.view.Role.TheVariants.{Owner}
use Rattle.wb_steps.specs.declared.view.View.{View}
use Rattle.wb_intake.specs.Carried.{Carried}
use Rattle.wb_intake.specs.Passes.{client_of_pass, view_of}
use Rattle.wb_intake.specs.Sights.{AreAlike}
use Rattle.wb_intake.specs.declared.pass.Pass.{Pass}
use Rattle.wb_front.specs.Closing.{AreAllPasses, IsLegalFor, IsFinished}
use Rattle.wb_front.specs.declared.closing.Finished.{Finished}
use Rattle.wb_script.specs.Content.{ScriptContent}
use Rattle.wb_script.specs.Valid.{IsAsked, IsValid, requests_at}
use Rattle.wb_script.specs.declared.request.Request.{Request}
use Rattle.wb_script.specs.declared.request.Request.TheVariants.{Write, Read, ReadSum, Flush, Defer, Tell, Hear}
use Rattle.wb_script.specs.declared.transcript.Line.{Line}
use Rattle.wb_client.specs.Played.{HasSeenMore, hearer_of, hearers_of, AreInOrder, HasPlayed}
use Rattle.wb_client.specs.Ended.{HasEnded, HaveEnded, lines_at}
use Rattle.wb_client.specs.Client.{IsBaseOf, IsPlayedBy}
use Rattle.wb_serve.specs.declared.serving.Session.{Session}
use Rattle.wb_threads.specs.Threads.{HasHeardLast, HaveAllPlayed, TellsOf, HasServed}
use Rattle.wb_threads.proofs.Clients.{there_is, at_map}

-- ---- the script

asked_from : (n sectors clients : ℕ) (all : List (List Request)) → All (λ own. All (IsAsked sectors clients own.0) own.1) (enumerate_from n all)
    → (k : ℕ) → k < length all → All (IsAsked sectors clients (n + k)) (requests_at all k)
asked_from n sectors clients [] asked k low = absurd (omega (arith, low))
asked_from n sectors clients (own ∷ all) asked zero low =
    let same : n ≡ n + 0 = omega arith in
    subst (λ (m : ℕ). All (IsAsked sectors clients m) own) same (All-head (λ own. All (IsAsked sectors clients own.0) own.1) (n, own) (enumerate_from (n + 1) all) asked)
asked_from n sectors clients (own ∷ all) asked (suc k) low =
    let same : n + 1 + k ≡ n + suc k = omega arith in
    subst (λ (m : ℕ). All (IsAsked sectors clients m) (requests_at all k)) same
    (asked_from (n + 1) sectors clients all (All-tail (λ own. All (IsAsked sectors clients own.0) own.1) (n, own) (enumerate_from (n + 1) all) asked) k (omega (arith, low)))

asked_at : (sectors clients : ℕ) (all : List (List Request)) → All (λ own. All (IsAsked sectors clients own.0) own.1) (enumerate_from 0 all)
    → (k : ℕ) → k < length all → All (IsAsked sectors clients k) (requests_at all k)
asked_at sectors clients all asked k low = let same : 0 + k ≡ k = omega arith in subst (λ (m : ℕ). All (IsAsked sectors clients m) (requests_at all k)) same (asked_from 0 sectors clients all asked k low)

upward_of : (sectors clients client : ℕ) (requests : List Request) → All (IsAsked sectors clients client) requests → All (λ other. client < other) (hearers_of requests)
upward_of sectors clients client [] asked = All-nil (λ other. client < other)
upward_of sectors clients client (request ∷ requests) asked =
    one request (All-head (IsAsked sectors clients client) request requests asked) (upward_of sectors clients client requests (All-tail (IsAsked sectors clients client) request requests asked))
  where
    one : (r : Request) → IsAsked sectors clients client r → All (λ other. client < other) (hearers_of requests) → All (λ other. client < other) (hearer_of r ++ hearers_of requests)
    one (Write sector count pattern fua) is rest = rest
    one (Read sector count) is rest = rest
    one (ReadSum sector count) is rest = rest
    one Flush is rest = rest
    one Defer is rest = rest
    one (Tell other) is rest = All-cons (λ key. client < key) other (hearers_of requests) is.0 rest
    one (Hear other) is rest = rest

-- ---- the clients

-- what the pass of this client has
abbrev view_at : List Pass → ℕ → View
view_at passes client = slice_index_or (map view_of passes) client spent

module _ {L B : Type 0} (of_log : L → State) (of_backing : B → State) (t : Carried) (script : ScriptContent) (passes : List Pass) (f : Finished L B) (ts : List (List Line))
    (valid : IsValid script) (clients : t.clients ≡ script.clients) (all : AreAllPasses t passes) (closed : IsFinished of_log of_backing t passes f)
    (played : HaveAllPlayed t script.requests passes ts) where
  many : length passes ≡ length script.requests
  many = all.count ∙ clients ∙ sym valid.each

  -- what is said of a pass at any default is said of what it has
  played_view : (client : ℕ) (d : Pass) → client < length passes → view_of (slice_index_or played.before client d) ≡ view_at played.before client
  played_view client d low =
      let here = there_is played.before client (omega (arith, low, played.same)) in
      ap view_of (get_or_from_slice_get played.before client here.0 d here.1) ∙ sym (at_map view_of played.before client here.0 spent here.1)

  module _ (base : Option Image) (is_base : IfSome base (IsBaseOf t)) where
    module _ (client : ℕ) (low : client < length passes) (pass : Pass) (at : slice_get passes client ≡ Some pass) where
      abbrev v : View
      v = view_at played.before client

      ends_at : view_at passes client ≡ view_of pass
      ends_at = at_map view_of passes client pass spent at

      heard_last : HasHeardLast t played.before client (slice_index_or played.before client pass) pass
      heard_last = subst (HasHeardLast t played.before client (slice_index_or played.before client pass)) (get_or_from_slice_get passes client pass pass at) (played.last client pass low)

      by : IsPlayedBy t script.requests client (beginning Owner client (cells (shape_of t.geometry t.first))) v (lines_at ts client)
      by = subst (λ (w : View). IsPlayedBy t script.requests client (beginning Owner client (cells (shape_of t.geometry t.first))) w (lines_at ts client)) (played_view client pass low) (played.each client pass low)

      play : HasPlayed base (shape_of t.geometry t.first) client (beginning Owner client (cells (shape_of t.geometry t.first))) v by.heard by.told (requests_at script.requests client) (lines_at ts client)
      play = by.played base is_base

      legal : IsLegalFor of_log of_backing t closed.history closed.stable f (view_of pass)
      legal = closed.legal client pass at

      own_client : (view_of pass).client ≡ client
      own_client = pass.owns.1 ∙ (all.each client pass at).1

      last_of_teller : (teller : ℕ) → teller < client → (more : List ℕ) × Contains (view_of pass).heard (teller, (view_at played.before teller).told ++ more)
      last_of_teller teller below =
          let had = heard_last.last teller pass below in
          (had.0, subst (λ (w : View). Contains (view_of pass).heard (teller, w.told ++ had.0)) (played_view teller pass (omega (arith, below, low))) had.1)

      each_ended : HasEnded base (shape_of t.geometry t.first) (cells (shape_of t.geometry t.first)) script.requests ts (view_at played.before) (view_at passes) closed.history client
      each_ended =
          let is : view_of pass ≡ view_at passes client = sym ends_at in
          let old : view_of (slice_index_or played.before client pass) ≡ v = played_view client pass low in
          record {
            plays = subst (λ (heard : List (ℕ × List ℕ)). HasPlayed base (shape_of t.geometry t.first) client (beginning Owner client (cells (shape_of t.geometry t.first))) v heard v.told (requests_at script.requests client) (lines_at ts client)) (sym play.heard_more)
                (subst (λ (told : List ℕ). HasPlayed base (shape_of t.geometry t.first) client (beginning Owner client (cells (shape_of t.geometry t.first))) v by.heard told (requests_at script.requests client) (lines_at ts client)) (sym play.told_more) play);
            covered = by.covered;
            upward = upward_of script.sectors script.clients client (requests_at script.requests client) (asked_at script.sectors script.clients script.requests valid.asked client (omega (arith, low, many)));
            in_order = subst (λ (heard : List (ℕ × List ℕ)). AreInOrder script.requests client heard) (sym play.heard_more) by.in_order;
            more = subst (λ (x : View). HasSeenMore v x) is (subst (λ (x : View). HasSeenMore x (view_of pass)) old heard_last.more);
            same_mine = ap (λ (x : View). x.mine) (sym is) ∙ heard_last.mine ∙ ap (λ (x : View). x.mine) old;
            heard_more = subst (λ (x : View). IsPrefix v.heard x.heard) is (subst (λ (x : View). IsPrefix x.heard (view_of pass).heard) old heard_last.heard);
            heard_last = λ teller below. let had = last_of_teller teller below in (had.0, subst (λ (x : View). Contains x.heard (teller, (view_at played.before teller).told ++ had.0)) is had.1);
            alike = subst (λ (x : View). AreAlike x.heard) is legal.alike;
            known = subst (λ (x : View). IsPrefix x.known closed.history) is legal.known;
            mine = ap (λ (x : View). x.mine) (sym is) ∙ legal.mine ∙ ap (λ (n : ℕ). placed n 0 closed.history) own_client;
            cursor = subst (λ (x : View). x.seen.cursor ≤ length closed.history) is legal.cursor;
          }

    have_ended : HaveEnded base (shape_of t.geometry t.first) (cells (shape_of t.geometry t.first)) script.requests ts (view_at played.before) (view_at passes) closed.history
    have_ended = record {
      count = played.count ∙ many;
      owned = subst (λ (n : ℕ). All (λ e. client_of e < n) closed.history) (clients ∙ sym valid.each) closed.clients;
      each = λ client inside.
          let low : client < length passes = omega (arith, inside, many) in
          let here = there_is passes client low in
          each_ended client low here.0 here.1;
    }

  pub served : (log : L) (backing : B) (session : Session) → (log ≡ f.log) × (backing ≡ f.backing) → session.transcripts.items ≡ ts → TellsOf f session → HasServed of_log of_backing t script log backing session
  served log backing session devices transcripts tells = record {
    passes = passes;
    finished = f;
    closed = closed;
    played = view_at played.before;
    ended = view_at passes;
    last = λ client pass at. at_map view_of passes client pass spent at;
    count = many;
    have = λ base is_base. subst (λ (lines : List (List Line)). HaveEnded base (shape_of t.geometry t.first) (cells (shape_of t.geometry t.first)) script.requests lines (view_at played.before) (view_at passes) closed.history) (sym transcripts) (have_ended base is_base);
    devices = (sym devices.0, sym devices.1);
    tells = tells;
  }
