-- One more request is played.
use Rattle.std.proofs.Common.{List, ◌≡◌, ◌+◌, ◌++◌, [], take, refl, sym, subst, inl, inr}
use Rattle.std.proofs.lemmas.List.{take_all}
use Rattle.wb_script.specs.declared.request.Request.{Request}
use Rattle.wb_engine.specs.Content.{EngineContent}
use Rattle.wb_serve.specs.Playing.{IsPlayed, nothing_played, with_line}
use Rattle.wb_serve.specs.declared.playing.Played.{Played}
use Rattle.wb_serve.proofs.Played.{IsPlaying, playing_none, playing_more, play_awaited, at_err}
use Rattle.wb_serve.proofs.playing.play.Goals as goal

pub loop-request-init : goal.loop-request-init
loop-request-init g c = record {
  sized = c.requires.sized;
  so_far = ([], subst (λ (played : Played). IsPlaying g.L.Device.state g.B.Device.state c.args.client [] c.args.engine.now c.args.engine.now played []) (sym c.in_ok-played.ensures) (playing_none c.args.client c.args.engine.now));
}

pub loop-request-preserved : goal.loop-request-preserved
loop-request-preserved g c =
    let at = c.loop-request.invariant.so_far in
    let (line, grown, answered) = c.in_ok-answer.ensures.answered in
    record {
      sized = c.in_ok-answer.ensures.sized;
      so_far = (
        at.0 ++ answered.entries,
        playing_more c.args.client c.args.requests.now c.loop-request.request-index c.request-item.result line c.loop-request-test.true c.request-item.is at.1 answered grown,
      );
    }

pub returns-in_err-played-clause-in_part : goal.returns-in_err-played-clause-in_part
returns-in_err-played-clause-in_part g c =
    at_err c.from_residual.result (record { count = 0; played = nothing_played; entries = []; is = (playing_none c.args.client c.args.engine.now).is })

pub returns-in_err-answer-clause-in_part : goal.returns-in_err-answer-clause-in_part
returns-in_err-answer-clause-in_part g c =
    let before = c.loop-request in
    let at = before.invariant.so_far in
    at_err c.from_residual-in_err-answer.result (elim c.in_err-answer.ensures.unanswered [
      | inl same ↦ record {
        count = before.request-index;
        played = before.played;
        entries = at.0;
        is = subst (λ (f : EngineContent g.row.L.Denot g.row.B.Denot). IsPlayed g.L.Device.state g.B.Device.state c.args.client (take before.request-index c.args.requests.now) c.args.engine.now f before.played at.0) (sym same) at.1.is;
      }
      | inr (line, answered) ↦ record {
        count = before.request-index + 1;
        played = with_line before.played line;
        entries = at.0 ++ answered.entries;
        is = (playing_more c.args.client c.args.requests.now before.request-index c.request-item.result line c.loop-request-test.true c.request-item.is at.1 answered refl).is;
      }
    ])

pub returns-clause-played : goal.returns-clause-played
returns-clause-played g c =
    let at = c.loop-request.invariant.so_far in
    let all : take c.loop-request.request-index c.args.requests.now ≡ c.args.requests.now = take_all c.loop-request.request-index c.args.requests.now c.loop-request-test.false in
    let (is, low, ends) = play_awaited c.args.client c.await_posted.new.transcript
    (subst (λ (requests : List Request). IsPlaying g.L.Device.state g.B.Device.state c.args.client requests c.args.engine.now c.loop-request.engine c.loop-request.played at.0) all at.1)
    c.await_posted.ensures in
    (at.0, is, low, ends)
