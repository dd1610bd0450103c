-- The flush was posted and awaited.
use Rattle.std.proofs.Common.{List, ◌≡◌, ◌%◌, ◌<◌, append-nil, sym, ◌∙◌, subst, arith}
use Rattle.wb_geometry.specs.History.{HistoryEntry}
use Rattle.wb_geometry.specs.Layout.{places}
use Rattle.wb_geometry.specs.declared.geometry.Geometry.{Geometry}
use Rattle.wb_serve.specs.Playing.{HasMoved, voids}
use Rattle.wb_serve.proofs.Moves.{moved_then}
use Rattle.wb_serve.proofs.Played.{stable_later}
use Rattle.wb_serve.proofs.flushing.flush.Goals as goal

pub returns : goal.returns
returns g c =
    let posted = c.post_flush-posted.ensures in
    let settled = c.settle.ensures in
    let ended = c.post_flush-posted.result in
    let same = settled.moved.kept.geometry in
    let more : List HistoryEntry = voids c.args.client ended.voids in
    record {
      moved = subst (λ (es : List HistoryEntry). HasMoved g.L.Device.state g.B.Device.state c.args.engine.now c.settle.new.engine es 0 0) (append-nil more) (moved_then posted.moved settled.moved);
      through = let still = settled.moved.absorbed in omega (arith, posted.through, still);
      whole = subst (λ (x : Geometry). ended.through % places x ≡ 0) (sym same) posted.whole;
      few = subst (λ (x : Geometry). ended.voids < places x) (sym same) posted.few;
      done = c.undone_by.ensures.done;
      undone = c.undone_by.ensures.undone;
      quiet = λ stable.
          let kept = settled.quiet (omega (arith, stable, stable_later posted.moved)) in
          (kept.0 ∙ posted.quiet.0, kept.1 ∙ posted.quiet.1);
      none_left = posted.none_left;
    }
