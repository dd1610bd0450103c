-- The pieces are the entries of the write.
use Rattle.std.proofs.Common.{ℕ, ◌/◌, length, ◌∙◌, subst, arith}
use Rattle.wb_intake.specs.Passes.{client_of_pass, view_of}
use Rattle.wb_front.specs.Requests.{HasPut}
use Rattle.wb_front.proofs.Requests.{ok_weaker, err_weaker, pieces_long}
use Rattle.wb_front.proofs.front.Front.write.Goals as goal

pub returns-clause-put : goal.returns-clause-put
returns-clause-put g c =
    let client : ℕ = client_of_pass c.args.pass.now in
    let n : ℕ = length c.args.payload.now / 512 in
    let is = c.in-Ok.ensures.entries client in
    let long = pieces_long client c.args.sector n c.args.payload.now c.in-Ok.pieces.items is in
    ok_weaker c.put_all.result _ _ (λ places h.
    (subst (HasPut (view_of c.args.pass.now) (view_of c.put_all.new.pass) places) is h.0, h.1 ∙ long)) c.put_all.ensures.put

pub returns-clause-stopped : goal.returns-clause-stopped
returns-clause-stopped g c =
    let client : ℕ = client_of_pass c.args.pass.now in
    let n : ℕ = length c.args.payload.now / 512 in
    let is = c.in-Ok.ensures.entries client in
    let long = pieces_long client c.args.sector n c.args.payload.now c.in-Ok.pieces.items is in
    err_weaker c.put_all.result _ _ (λ stop h.
    (subst (HasPut (view_of c.args.pass.now) (view_of c.put_all.new.pass) stop.places) is h.0, (let lt = h.1 in omega (arith, lt, long)))) c.put_all.ensures.stopped
