-- Each kind of request has its line.
use Rattle.std.proofs.Common.{ℕ, [], ◌∷◌, ◌++◌, length, ap, sym, subst, arith}
use Rattle.std.specs.Prelude.{OnOk}
use Rattle.std.proofs.lemmas.List.{with_items_is}
use Rattle.std.proofs.lemmas.Result.{on_ok_weaker}
use Rattle.wb_geometry.specs.Layout.{places}
use Rattle.wb_steps.specs.Rule.{shape_of}
use Rattle.wb_intake.specs.Passes.{client_of_pass, view_of}
use Rattle.wb_script.specs.declared.request.Request.{Request}
use Rattle.wb_script.specs.declared.transcript.Line.{Line}
use Rattle.wb_script.specs.declared.transcript.Line.TheVariants.{Flushed, Deferred, Told, Heard}
use Rattle.wb_client.specs.Played.{HasPlayed}
use Rattle.wb_client.specs.Client.{ArePlayed, AreTellers, HasAnswered}
use Rattle.wb_client.proofs.Lines.{played_flush, played_defer}
use Rattle.wb_client.proofs.Clients.{line_added, none_heard}
use Rattle.wb_client.proofs.answering.answer.Goals as goal

pub returns-in-Write-clause-answered : goal.returns-in-Write-clause-answered
returns-in-Write-clause-answered g c =
    let client : ℕ = client_of_pass c.args.pass.now in
    subst (λ (r : Request). OnOk c.answer_write.result (HasAnswered g.T.Named.carried client (view_of c.args.pass.now) (view_of c.answer_write.new.pass) r c.args.work.now c.answer_write.new.work)) (sym c.in-Write.is)
    c.answer_write.ensures.answered

pub returns-in-Read-clause-answered : goal.returns-in-Read-clause-answered
returns-in-Read-clause-answered g c =
    let client : ℕ = client_of_pass c.args.pass.now in
    let v = view_of c.args.pass.now in
    let w = view_of c.read.new.pass in
    on_ok_weaker c.read.result (λ adds. record {
      line = adds.line;
      heard = [];
      told = [];
      played = subst (λ (r : Request). ArePlayed g.T.Named.carried client v w [] [] (r ∷ []) (adds.line ∷ [])) (sym c.in-Read.is) adds.played;
      added = adds.added;
      posted = adds.posted;
      tellers = none_heard client c.args.work.now.tellers.items;
    }) c.read.ensures.answered

pub returns-in-ReadSum-clause-answered : goal.returns-in-ReadSum-clause-answered
returns-in-ReadSum-clause-answered g c =
    let client : ℕ = client_of_pass c.args.pass.now in
    let v = view_of c.args.pass.now in
    let w = view_of c.read_sum-line.new.pass in
    let line : Line = c.read_sum-line.result in
    let played = subst (λ (r : Request). ArePlayed g.T.Named.carried client v w [] [] (r ∷ []) (line ∷ [])) (sym c.in-ReadSum.is) c.read_sum-line.ensures.answered in
    line_added c.push.result g.T.Named.carried client v w [] [] c.args.request.now line c.args.work.now _
    (record { played = played; posted = c.read_sum-line.ensures.posted }) (none_heard client c.args.work.now.tellers.items) c.push.ensures.ok

pub returns-in-Flush-clause-answered : goal.returns-in-Flush-clause-answered
returns-in-Flush-clause-answered g c =
    let t = g.T.Named.carried in
    let client : ℕ = client_of_pass c.args.pass.now in
    let v = view_of c.args.pass.now in
    let w = view_of c.flush-ended.new.pass in
    let ended = c.flush-ended.result in
    let flushed = c.flush-ended.ensures.flushed in
    line_added c.push-in-Flush.result t client v w [] [] c.args.request.now (Flushed ended) c.args.work.now _
    (record {
      played = λ base of. subst (λ (r : Request). HasPlayed base (shape_of t.geometry t.first) client v w [] [] (r ∷ []) (Flushed ended ∷ [])) (sym c.in-Flush.is)
          (played_flush base (shape_of t.geometry t.first) client v w ended flushed.numbered (places t.geometry) flushed);
      posted = tt;
    }) (none_heard client c.args.work.now.tellers.items) c.push-in-Flush.ensures.ok

pub returns-in-Defer-clause-answered : goal.returns-in-Defer-clause-answered
returns-in-Defer-clause-answered g c =
    let t = g.T.Named.carried in
    let client : ℕ = client_of_pass c.args.pass.now in
    let v = view_of c.args.pass.now in
    let w = view_of c.post-ended.new.pass in
    let ended = c.post-ended.result in
    let posted = c.post-ended.ensures.posted in
    line_added c.push-in-Defer.result t client v w [] [] c.args.request.now (Deferred ended) c.args.work.now _
    (record {
      played = λ base of. subst (λ (r : Request). HasPlayed base (shape_of t.geometry t.first) client v w [] [] (r ∷ []) (Deferred ended ∷ [])) (sym c.in-Defer.is)
          (played_defer base (shape_of t.geometry t.first) client v w ended posted.numbered posted.up);
      posted = (posted.whole, posted.numbered.seen, posted.up);
    }) (none_heard client c.args.work.now.tellers.items) c.push-in-Defer.ensures.ok

pub returns-in_ok-tell-in-Tell-clause-answered : goal.returns-in_ok-tell-in-Tell-clause-answered
returns-in_ok-tell-in-Tell-clause-answered g c =
    let t = g.T.Named.carried in
    let client : ℕ = client_of_pass c.args.pass.now in
    let v = view_of c.args.pass.now in
    let w = view_of c.tell.new.pass in
    line_added c.push-in-Tell.result t client v w [] (v.seen.cursor ∷ []) c.args.request.now Told c.args.work.now _
    (record {
      played = subst (λ (r : Request). ArePlayed t client v w [] (v.seen.cursor ∷ []) (r ∷ []) (Told ∷ [])) (sym c.in-Tell.is) (c.tell.ensures.told c.in-Tell.client);
      posted = tt;
    }) (none_heard client c.args.work.now.tellers.items) c.push-in-Tell.ensures.ok

pub returns-in_ok-hear-in-Hear-clause-answered : goal.returns-in_ok-hear-in-Hear-clause-answered
returns-in_ok-hear-in-Hear-clause-answered g c =
    let t = g.T.Named.carried in
    let client : ℕ = client_of_pass c.args.pass.now in
    let v = view_of c.args.pass.now in
    let w = view_of c.hear.new.pass in
    let heard = c.in_ok-hear-in-Hear.ensures.heard in
    let slice = c.deref_mut-in-Hear in
    let written = with_items_is c.args.work.now.tellers c.hear.new.tellers (omega (arith, c.hear.ensures.count, ap length slice.ensures.value, slice.ensures.len)) in
    line_added c.push-in-Hear.result t client v w ((c.in-Hear.client, heard.told) ∷ []) [] c.args.request.now Heard c.args.work.now _
    (record {
      played = subst (λ (r : Request). ArePlayed t client v w ((c.in-Hear.client, heard.told) ∷ []) [] (r ∷ []) (Heard ∷ [])) (sym c.in-Hear.is) heard.played;
      posted = tt;
    })
    (λ all earlier are. subst (AreTellers all client (earlier ++ (c.in-Hear.client, heard.told) ∷ [])) (sym written) (heard.tellers all earlier (subst (AreTellers all client earlier) (sym slice.ensures.value) are)))
    c.push-in-Hear.ensures.ok
