-- Request after request is answered, and then the posted flushes are awaited.
use Rattle.std.proofs.Common.{rules, ℕ, ◌≡◌, ◌<◌, ◌≤◌, ◌^◌, List, length, take, get_or, None, refl, ap, sym, ◌∙◌, subst, arith}
use Rattle.std.proofs.lemmas.List.{take_all}
use Rattle.wb_intake.specs.Passes.{view_of}
use Rattle.wb_script.specs.Valid.{IsAsked, requests_at}
use Rattle.wb_script.specs.declared.request.Request.{Request}
use Rattle.wb_client.specs.Client.{MayHear, HasAnswered}
use Rattle.wb_client.proofs.Clients.{IsPlaying, playing_none, playing_more, may_hear, play_done, own_requests, asked_here, told_few}
use Rattle.wb_client.proofs.serving.play.Goals as goal

-- the client is one of the script
inside : (clients number count : ℕ) → count ≡ clients → number < clients → number < count
inside clients number count each below = omega (arith, each, below)

pub loop-request-init : goal.loop-request-init
loop-request-init g c = record {
  own = (refl, refl, c.requires.own.1);
  playing = playing_none g.T.Named.carried c.args.script.now.requests c.args.number (view_of c.args.pass.now) c.in_ok-work.work c.in_ok-work.ensures;
}

pub answer-requires-clause-asked : goal.answer-requires-clause-asked
answer-requires-clause-asked g c =
    let t = g.T.Named.carried in
    let script = c.args.script.now in
    let within = inside script.clients c.args.number (length script.requests) c.requires.valid.each c.requires.client.1 in
    let same = own_requests script c.requests.result.now c.args.number c.index-requests-number.result c.as_slice-requests.result.now c.requests.ensures within (c.as_slice-requests.ensures ∙ c.index-requests-number.is) in
    let i : ℕ = c.loop-request.request-index in
    let request : Request = c.request-item.result in
    let asked = asked_here script c.args.number t.geometry.backing_sectors i request c.requires.valid within c.requires.fits
    (subst (λ (rs : List Request). i < length rs) same c.loop-request-test.true) (subst (λ (rs : List Request). request ≡ get_or rs i request) same c.request-item.is) in
    (script.clients, subst (λ (client : ℕ). IsAsked t.geometry.backing_sectors script.clients client request) (sym (c.loop-request.invariant.own.1 ∙ c.requires.client.0)) asked)

pub answer-requires-clause-few : goal.answer-requires-clause-few
answer-requires-clause-few g c =
    let script = c.args.script.now in
    let i : ℕ = c.loop-request.request-index in
    let small : length c.as_slice-requests.result.now < 2 ^ 63 = search rules in
    let told = told_few g.T.Named.carried script.requests c.args.number (view_of c.args.pass.now) (view_of c.loop-request.pass) (requests_at script.requests c.args.number) i c.loop-request.work c.requires.new c.loop-request.invariant.playing in
    omega (arith, small, told, c.loop-request-test.true)

pub answer-requires-clause-hears : goal.answer-requires-clause-hears
answer-requires-clause-hears g c =
    let t = g.T.Named.carried in
    let script = c.args.script.now in
    let within = inside script.clients c.args.number (length script.requests) c.requires.valid.each c.requires.client.1 in
    let same = own_requests script c.requests.result.now c.args.number c.index-requests-number.result c.as_slice-requests.result.now c.requests.ensures within (c.as_slice-requests.ensures ∙ c.index-requests-number.is) in
    let i : ℕ = c.loop-request.request-index in
    let request : Request = c.request-item.result in
    let lt = subst (λ (rs : List Request). i < length rs) same c.loop-request-test.true in
    let is = subst (λ (rs : List Request). request ≡ get_or rs i request) same c.request-item.is in
    let asked = asked_here script c.args.number t.geometry.backing_sectors i request c.requires.valid within c.requires.fits lt is in
    subst (λ (client : ℕ). MayHear client c.loop-request.work.tellers.items request) (sym (c.loop-request.invariant.own.1 ∙ c.requires.client.0))
    (may_hear t script t.geometry.backing_sectors script.clients c.args.number (view_of c.args.pass.now) (view_of c.loop-request.pass) i request c.loop-request.work c.requires.valid within lt is asked c.loop-request.invariant.playing)

pub loop-request-preserved : goal.loop-request-preserved
loop-request-preserved g c =
    let t = g.T.Named.carried in
    let script = c.args.script.now in
    let within = inside script.clients c.args.number (length script.requests) c.requires.valid.each c.requires.client.1 in
    let same = own_requests script c.requests.result.now c.args.number c.index-requests-number.result c.as_slice-requests.result.now c.requests.ensures within (c.as_slice-requests.ensures ∙ c.index-requests-number.is) in
    let i : ℕ = c.loop-request.request-index in
    let request : Request = c.request-item.result in
    let before = c.loop-request.invariant in
    let after = c.in_ok-answer.ensures in
    let answered = subst (λ (client : ℕ). HasAnswered t client (view_of c.loop-request.pass) (view_of c.answer.new.pass) request c.loop-request.work c.answer.new.work) (before.own.1 ∙ c.requires.client.0) after.answered in
    record {
      own = (after.own.0 ∙ before.own.0, after.own.1 ∙ before.own.1, after.own.2);
      playing = playing_more t script.requests c.args.number (view_of c.args.pass.now) (view_of c.loop-request.pass) (view_of c.answer.new.pass) (requests_at script.requests c.args.number) i request c.loop-request.work c.answer.new.work
          (subst (λ (rs : List Request). i < length rs) same c.loop-request-test.true) (subst (λ (rs : List Request). request ≡ get_or rs i request) same c.request-item.is) before.playing after.sized answered;
    }

pub await_posted-requires-clause-awaited : goal.await_posted-requires-clause-awaited
await_posted-requires-clause-awaited g c = let played = c.loop-request.invariant.playing.played None tt in played.awaited

pub returns-clause-played : goal.returns-clause-played
returns-clause-played g c =
    let t = g.T.Named.carried in
    let script = c.args.script.now in
    let within = inside script.clients c.args.number (length script.requests) c.requires.valid.each c.requires.client.1 in
    let same = own_requests script c.requests.result.now c.args.number c.index-requests-number.result c.as_slice-requests.result.now c.requests.ensures within (c.as_slice-requests.ensures ∙ c.index-requests-number.is) in
    let i : ℕ = c.loop-request.request-index in
    let own : List Request = requests_at script.requests c.args.number in
    let all : take i own ≡ own = take_all i own (subst (λ (rs : List Request). length rs ≤ i) same c.loop-request-test.false) in
    let v = view_of c.args.pass.now in
    let w = view_of c.loop-request.pass in
    play_done t script.requests c.args.number v w (view_of c.await_posted.new.pass) c.loop-request.work c.await_posted.new.transcript
    (subst (λ (rs : List Request). IsPlaying t script.requests c.args.number v w rs c.loop-request.work) all c.loop-request.invariant.playing)
    c.await_posted.ensures.looked c.await_posted.ensures.awaited

pub returns-clause-few : goal.returns-clause-few
returns-clause-few g c =
    let script = c.args.script.now in
    let i : ℕ = c.loop-request.request-index in
    let small : length c.as_slice-requests.result.now < 2 ^ 63 = search rules in
    let told = told_few g.T.Named.carried script.requests c.args.number (view_of c.args.pass.now) (view_of c.loop-request.pass) (requests_at script.requests c.args.number) i c.loop-request.work c.requires.new c.loop-request.invariant.playing in
    omega (arith, small, told, c.loop-request.auto.request-index-end, ap length c.await_posted.ensures.looked.told)
