-- Piece after piece is put until one is stopped.
use Rattle.std.proofs.Common.{ℕ, ◌≡◌, ◌++◌, ◌∷◌, [], List, length, map, ap, sym, ◌∙◌, subst, append_assoc, length-append, arith}
use Rattle.std.specs.Vec.Iter.{into_iter_items}
use Rattle.wb_steps.specs.Rule.{shape_of}
use Rattle.wb_intake.specs.Passes.{client_of_pass, view_of, loads_of}
use Rattle.wb_front.specs.Requests.{HasPut, written}
use Rattle.wb_front.specs.declared.writing.Piece.{Piece}
use Rattle.wb_front.proofs.Requests.{piece_put, since_then, cause_since}
use Rattle.wb_front.proofs.front.Front.put_all.Goals as goal

pub loop-piece-preserved : goal.loop-piece-preserved
loop-piece-preserved g c =
    let at = c.loop-piece.invariant in
    let done : List Piece = c.loop-piece.yielded in
    let piece : Piece = c.in-Some.piece in
    let rest : List Piece = into_iter_items c.next.new.self in
    let turn : done ++ piece ∷ rest ≡ c.args.pieces.items = ap (λ (more : List Piece). done ++ more) (sym c.in-Some.ensures.steps.0) ∙ at.all in
    let u = view_of c.args.pass.now in let v = view_of c.loop-piece.pass in let w = view_of c.put.new.pass in
    let client : ℕ = client_of_pass c.args.pass.now in
    let was = at.left in
    let gone = c.in-Some.ensures.steps.1 in
    let short = ap length c.in-Some.ensures.steps.0 in
    let one : HasPut v w (c.in-Ok.place ∷ []) (written client piece ∷ []) =
    subst (λ (n : ℕ). HasPut v w (c.in-Ok.place ∷ []) (written n piece ∷ [])) at.client c.in-Ok.ensures.put in
    let count = at.count in
    let pushed = ap length c.push.ensures in
    record {
      all = append_assoc done (piece ∷ []) rest ∙ turn;
      left = omega (arith, was, gone, short);
      own = c.put.ensures.own.0 ∙ at.own;
      client = c.put.ensures.own.1 ∙ at.client;
      put = subst (λ (ps : List ℕ). HasPut u w ps (map (written client) c.args.pieces.items)) (sym c.push.ensures)
          (piece_put u v w c.loop-piece.places client c.in-Ok.place done piece rest c.args.pieces.items turn at.count at.put one);
      count = omega (arith, count, pushed, length-append c.loop-piece.places (c.in-Ok.place ∷ []), length-append done (piece ∷ []));
      loads = since_then (loads_of c.args.pass.now) (loads_of c.loop-piece.pass) (loads_of c.put.new.pass) at.loads c.in-Ok.ensures.loads;
    }

pub returns-in-Err-clause-cause : goal.returns-in-Err-clause-cause
returns-in-Err-clause-cause g c =
    cause_since (shape_of g.T.Named.carried.geometry g.T.Named.carried.first) (loads_of c.args.pass.now) (loads_of c.loop-piece.pass) (loads_of c.put.new.pass) (view_of c.put.new.pass)
    (length c.loop-piece.places) c.in-Err.cause c.loop-piece.invariant.loads (c.in-Err.ensures.cause (length c.loop-piece.places))
