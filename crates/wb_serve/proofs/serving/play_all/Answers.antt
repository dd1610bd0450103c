-- One more client is played.
use Rattle.std.proofs.Common.{ℕ, List, ◌≡◌, ◌+◌, ◌<◌, ◌≤◌, ◌++◌, ◌∷◌, [], length, get_or, take, max, All, None, ap, sym, subst, ◌∙◌, arith}
use Rattle.std.proofs.lemmas.List.{length-take, take_all, take_more}
use Rattle.std.proofs.lemmas.List.Elements.{All-nil, All-push}
use Rattle.std.proofs.lemmas.Option.{get_or_from_slice_get, slice_get-get_or}
use Rattle.wb_geometry.specs.declared.geometry.Geometry.{Geometry}
use Rattle.wb_script.specs.Valid.{IsAsked, requests_at}
use Rattle.wb_script.specs.Transcripts.{covered, covered_by}
use Rattle.wb_script.proofs.Sessions.{covered_all_push}
use Rattle.wb_script.specs.declared.request.Request.{Request}
use Rattle.wb_script.specs.declared.transcript.Line.{Line}
use Rattle.wb_engine.specs.Settling.{stable_places}
use Rattle.wb_serve.specs.Session.{EndFlushes}
use Rattle.wb_serve.specs.Playing.{IsPlayed, AreAllPlayed, Tally, tally_of, with_client}
use Rattle.wb_serve.proofs.Played.{at_err, stable_later, all_end_later}
use Rattle.wb_serve.proofs.Clients.{all_none, all_push}
use Rattle.wb_buffers.proofs.Asked.{asked_at, asked_more}
use Rattle.wb_serve.proofs.Enough.{are_enough}
use Rattle.wb_serve.proofs.Cut.{none_in_part, some_in_part}
use Rattle.wb_serve.proofs.serving.play_all.Goals as goal
use Rattle.wb_serve.proofs.serving.play_all.Goals.{After-as_slice}

-- whose requests these are
turn : (g : _) (c : After-as_slice g) → (c.loop-client.client < length c.args.script.now.requests) × (c.as_slice.result.now ≡ requests_at c.args.script.now.requests c.loop-client.client)
turn g c =
    let requests : List (List Request) = c.args.script.now.requests in
    let all = c.requests-requests-items.ensures in
    let below : c.loop-client.client < length requests = omega (arith, c.loop-client-test.true, ap length all) in (
      below,
      c.as_slice.ensures ∙ c.requests-item.is ∙ ap (λ (rs : List (List Request)). get_or rs c.loop-client.client c.requests-item.result) all
          ∙ get_or_from_slice_get requests c.loop-client.client (requests_at requests c.loop-client.client) c.requests-item.result (slice_get-get_or requests c.loop-client.client [] below),
    )

pub returns-in_err-buffers-clause-in_part : goal.returns-in_err-buffers-clause-in_part
returns-in_err-buffers-clause-in_part g c = at_err c.from_residual.result (none_in_part c.args.script.now.requests c.requires.opened)

pub returns-in_err-all-clause-in_part : goal.returns-in_err-all-clause-in_part
returns-in_err-all-clause-in_part g c = at_err c.from_residual-in_err-all.result (none_in_part c.args.script.now.requests c.requires.opened)

pub loop-client-init : goal.loop-client-init
loop-client-init g c =
    let none = c.in_ok-all.ensures in
    let e = c.args.engine.now in
    let Ends : List Line → Type 0 = EndFlushes e.geometry e.down (stable_places e) in
    record {
      sized = c.in_ok-buffers.ensures;
      so_far = ([], subst (λ (all : Tally). AreAllPlayed g.L.Device.state g.B.Device.state [] c.args.engine.now c.args.engine.now all []) (sym none) (all_none c.requires.opened));
      covers = subst (λ (transcripts : List (List Line)). covered transcripts ≤ stable_places c.args.engine.now) (sym (ap (λ (t : Tally). t.transcripts) none)) (omega arith);
      ends = subst (All Ends) (sym (ap (λ (t : Tally). t.transcripts) none)) (All-nil Ends);
    }

pub play-requires-clause-asked : goal.play-requires-clause-asked
play-requires-clause-asked g c =
    let script = c.args.script.now in
    let e = c.loop-client.engine in
    let (below, own) = turn g c in
    let fits : script.sectors ≤ e.geometry.backing_sectors = subst (λ (geometry : Geometry). script.sectors ≤ geometry.backing_sectors) (sym c.loop-client.invariant.so_far.1.come.kept.geometry) c.requires.fits in (
      script.clients,
      subst (All (IsAsked e.geometry.backing_sectors script.clients c.loop-client.client)) (sym own)
          (λ k d lt. asked_more script.sectors e.geometry.backing_sectors script.clients c.loop-client.client (get_or (requests_at script.requests c.loop-client.client) k d) fits (asked_at script c.loop-client.client c.requires.valid below k d lt)),
    )

pub play-requires-clause-sized : goal.play-requires-clause-sized
play-requires-clause-sized g c = c.loop-client.invariant.sized

pub loop-client-preserved : goal.loop-client-preserved
loop-client-preserved g c =
    let script = c.args.script.now in
    let at = c.loop-client.invariant.so_far in
    let client : ℕ = c.loop-client.client in
    let played = c.in_ok-played.played in
    let (below, own) = turn g (goal.at.loop-client-preserved g c).After-as_slice in
    let (entries, is, low, end) = c.in_ok-played.ensures.played in
    let size = length-take client script.requests in
    let enough = are_enough script client c.loop-client.all.transcripts.items at.0 c.requires.valid below (at.1.served None tt) in
    let mine : IsPlayed g.L.Device.state g.B.Device.state client (requests_at script.requests client) c.loop-client.engine c.play.new.engine played entries =
    subst (λ (requests : List Request). IsPlayed g.L.Device.state g.B.Device.state client requests c.loop-client.engine c.play.new.engine played entries) own is in
    let one : AreAllPlayed g.L.Device.state g.B.Device.state (take client script.requests ++ requests_at script.requests client ∷ []) c.args.engine.now c.play.new.engine (with_client (tally_of c.loop-client.all) played) (at.0 ++ entries) =
    all_push client (requests_at script.requests client) played (omega (arith, size, below)) at.1 mine enough in
    let next : take (client + 1) script.requests ≡ take client script.requests ++ requests_at script.requests client ∷ [] = take_more script.requests client [] below in
    let grown = c.in_ok-add.ensures in
    let stable : stable_places c.loop-client.engine ≤ stable_places c.play.new.engine = stable_later is.moved in
    let covers = c.loop-client.invariant.covers in
    let f = c.play.new.engine in
    let Ends : List Line → Type 0 = EndFlushes f.geometry f.down (stable_places f) in
    let most : covered c.add.new.self.transcripts.items ≡ max (covered c.loop-client.all.transcripts.items) (covered_by played.transcript) =
    ap (λ (t : Tally). covered t.transcripts) grown ∙ covered_all_push c.loop-client.all.transcripts.items played.transcript in
    record {
      sized = c.in_ok-played.ensures.sized;
      so_far = (
        at.0 ++ entries,
        subst (λ (all : Tally). AreAllPlayed g.L.Device.state g.B.Device.state (take (client + 1) script.requests) c.args.engine.now c.play.new.engine all (at.0 ++ entries)) (sym grown)
            (subst (λ (requests : List (List Request)). AreAllPlayed g.L.Device.state g.B.Device.state requests c.args.engine.now c.play.new.engine (with_client (tally_of c.loop-client.all) played) (at.0 ++ entries)) (sym next) one),
      );
      covers = omega (arith, most, covers, low, stable);
      ends = subst (All Ends) (sym (ap (λ (t : Tally). t.transcripts) grown))
          (All-push Ends c.loop-client.all.transcripts.items played.transcript (all_end_later is.moved c.loop-client.all.transcripts.items c.loop-client.invariant.ends) end);
    }

pub returns-in_err-played-clause-in_part : goal.returns-in_err-played-clause-in_part
returns-in_err-played-clause-in_part g c =
    let script = c.args.script.now in
    let client : ℕ = c.loop-client.client in
    let (below, own) = turn g (goal.at.returns-in_err-played-clause-in_part g c).After-as_slice in
    let part = c.in_err-played.ensures.in_part in
    at_err c.from_residual-in_err-played.result (some_in_part script client part.count part.played c.requires.valid below c.loop-client.invariant.so_far.1
    (subst (λ (requests : List Request). IsPlayed g.L.Device.state g.B.Device.state client (take part.count requests) c.loop-client.engine c.play.new.engine part.played part.entries) own part.is))

pub returns-in_err-add-clause-in_part : goal.returns-in_err-add-clause-in_part
returns-in_err-add-clause-in_part g c =
    let script = c.args.script.now in
    let client : ℕ = c.loop-client.client in
    let (below, own) = turn g (goal.at.returns-in_err-add-clause-in_part g c).After-as_slice in
    let (entries, is, low, end) = c.in_ok-played.ensures.played in
    let mine : List Request = requests_at script.requests client in
    let all : c.as_slice.result.now ≡ take (length mine) mine = own ∙ sym (take_all (length mine) mine (omega arith)) in
    at_err c.from_residual-in_err-add.result (some_in_part script client (length mine) c.in_ok-played.played c.requires.valid below c.loop-client.invariant.so_far.1
    (subst (λ (requests : List Request). IsPlayed g.L.Device.state g.B.Device.state client requests c.loop-client.engine c.play.new.engine c.in_ok-played.played entries) all is))

pub returns-clause-played : goal.returns-clause-played
returns-clause-played g c =
    let at = c.loop-client.invariant.so_far in
    let all : take c.loop-client.client c.args.script.now.requests ≡ c.args.script.now.requests =
    take_all c.loop-client.client c.args.script.now.requests (omega (arith, c.loop-client-test.false, ap length c.requests-requests-items.ensures)) in (
      at.0,
      subst (λ (requests : List (List Request)). AreAllPlayed g.L.Device.state g.B.Device.state requests c.args.engine.now c.loop-client.engine (tally_of c.loop-client.all) at.0) all at.1,
      c.loop-client.invariant.covers,
      c.loop-client.invariant.ends,
    )
