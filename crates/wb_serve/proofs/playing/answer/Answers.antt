-- Each kind of request has its line.
use Rattle.std.proofs.Common.{ℕ, List, ◌≡◌, ◌≤◌, length, true, false, ap, sym, ◌∙◌, subst, inr}
use Rattle.std.specs.Prelude.{OnOk, OnErr, Result, ◌⊎◌}
use Rattle.std.proofs.lemmas.Result.{on_ok_weaker, on_err_weaker}
use Rattle.wb_geometry.proofs.Moments.{on_err}
use Rattle.wb_geometry.specs.Device.{State}
use Rattle.wb_script.specs.Valid.{IsAsked}
use Rattle.wb_script.specs.declared.request.Request.{Request}
use Rattle.wb_script.specs.declared.request.Request.TheVariants.{Write}
use Rattle.wb_script.specs.declared.transcript.Line.{Line}
use Rattle.wb_script.specs.declared.transcript.Line.TheVariants.{Wrote, Flushed, Deferred, Told, Heard}
use Rattle.wb_engine.specs.Content.{EngineContent}
use Rattle.wb_serve.specs.Playing.{IsAnswered, with_line}
use Rattle.wb_serve.specs.declared.playing.Played.{Played}
use Rattle.wb_serve.proofs.Parts.{few_parts}
use Rattle.wb_serve.proofs.Answering.{entries_asked, answered_write, answered_fua, answered_flush, answered_defer, answered_tell, answered_hear}
use Rattle.wb_serve.proofs.playing.answer.Goals as goal
use Rattle.wb_serve.proofs.playing.answer.Goals.{then-fua, else-fua}

module _ {L B T E : Type 0} {of_log : L → State} {of_backing : B → State} {e f : EngineContent L B} (client : ℕ) (request : Request) where
  -- the line was added
  added : (r : Result T E) (before after : Played) (line : Line) → IsAnswered of_log of_backing client request e f line → OnOk r (after ≡ with_line before line)
      → OnOk r ((line : Line) × (after ≡ with_line before line) × IsAnswered of_log of_backing client request e f line)
  added r before after line answered = on_ok_weaker r (λ is. (line, is, answered))

  -- or there was no memory for it
  lost : (r : Result T E) (line : Line) → IsAnswered of_log of_backing client request e f line
      → OnErr r ((f ≡ e) ⊎ ((line : Line) × IsAnswered of_log of_backing client request e f line))
  lost r line answered = on_err r (inr (line, answered))

-- the line of a write
wrote : (g : _) (c : goal.After-add g) → IsAnswered g.L.Device.state g.B.Device.state c.args.client c.args.request.now c.args.engine.now c.if-fua.engine c.if-fua.line
wrote g c =
    let e = c.args.engine.now in
    let asked : IsAsked e.geometry.backing_sectors c.requires.asked.0 c.args.client (Write c.in-Write.sector c.in-Write.count c.in-Write.pattern c.in-Write.fua) =
    subst (IsAsked e.geometry.backing_sectors c.requires.asked.0 c.args.client) c.in-Write.is c.requires.asked.1 in
    let few : length (entries_asked c.args.client c.in-Write.sector c.in-Write.count c.in-Write.pattern) ≤ 33 = few_parts c.args.client c.in-Write.sector c.in-Write.count _ asked.0.few in
    let P : Request → EngineContent g.row.L.Denot g.row.B.Denot → Line → Type 0 = λ r m line. IsAnswered g.L.Device.state g.B.Device.state c.args.client r e m line in
    let takes = c.in_ok-places-in-Write.ensures.written in
    elim c.if-fua.branch [
      | then-fua w ↦
          let is : c.args.request.now ≡ Write c.in-Write.sector c.in-Write.count c.in-Write.pattern true = c.in-Write.is ∙ ap (Write c.in-Write.sector c.in-Write.count c.in-Write.pattern) w.if-fua.true in
          subst (λ (line : Line). P c.args.request.now c.if-fua.engine line) (sym w.line-is) (
          subst (λ m. P c.args.request.now m w.forced-line.result) (sym w.engine-is) (
          subst (λ (r : Request). P r w.forced-line.new.engine w.forced-line.result) (sym is)
          (answered_fua c.args.client c.in-Write.sector c.in-Write.count c.in-Write.pattern c.in_ok-places-in-Write.places c.in_ok-places-in-Write.stop w.forced-line.result few takes w.forced-line.ensures)))
      | else-fua w ↦
          let is : c.args.request.now ≡ Write c.in-Write.sector c.in-Write.count c.in-Write.pattern false = c.in-Write.is ∙ ap (Write c.in-Write.sector c.in-Write.count c.in-Write.pattern) w.if-fua.false in
          let line : Line = Wrote w.of-places.result c.in_ok-places-in-Write.stop in
          let same : line ≡ Wrote c.in_ok-places-in-Write.places c.in_ok-places-in-Write.stop = ap (λ (places : List ℕ). Wrote places c.in_ok-places-in-Write.stop) w.of-places.ensures in
          subst (λ (l : Line). P c.args.request.now c.if-fua.engine l) (sym (w.line-is ∙ same)) (
          subst (λ m. P c.args.request.now m (Wrote c.in_ok-places-in-Write.places c.in_ok-places-in-Write.stop)) (sym w.engine-is) (
          subst (λ (r : Request). P r c.write.new.engine (Wrote c.in_ok-places-in-Write.places c.in_ok-places-in-Write.stop)) (sym is)
          (answered_write c.args.client c.in-Write.sector c.in-Write.count c.in-Write.pattern c.in_ok-places-in-Write.places c.in_ok-places-in-Write.stop few takes)))
    ]

pub returns-after-fua-clause-answered : goal.returns-after-fua-clause-answered
returns-after-fua-clause-answered g c = added c.args.client c.args.request.now c.add.result c.args.played.now c.add.new.self c.if-fua.line (wrote g c) c.add.ensures

pub returns-after-fua-clause-unanswered : goal.returns-after-fua-clause-unanswered
returns-after-fua-clause-unanswered g c = lost c.args.client c.args.request.now c.add.result c.if-fua.line (wrote g c)

pub returns-in-Read-clause-answered : goal.returns-in-Read-clause-answered
returns-in-Read-clause-answered g c =
    on_ok_weaker c.read.result (λ (line, is, answered). (line, is, subst (λ (r : Request). IsAnswered g.L.Device.state g.B.Device.state c.args.client r c.args.engine.now c.read.new.engine line) (sym c.in-Read.is) (answered c.args.client)))
    c.read.ensures.answered

pub returns-in-Read-clause-unanswered : goal.returns-in-Read-clause-unanswered
returns-in-Read-clause-unanswered g c =
    on_err_weaker c.read.result (λ (line, answered). inr (line, subst (λ (r : Request). IsAnswered g.L.Device.state g.B.Device.state c.args.client r c.args.engine.now c.read.new.engine line) (sym c.in-Read.is) (answered c.args.client)))
    c.read.ensures.unanswered

-- the line of a checksum
summed : (g : _) (c : goal.After-add-in-ReadSum g) → IsAnswered g.L.Device.state g.B.Device.state c.args.client c.args.request.now c.args.engine.now c.read_sum-line.new.engine c.read_sum-line.result
summed g c =
    subst (λ (r : Request). IsAnswered g.L.Device.state g.B.Device.state c.args.client r c.args.engine.now c.read_sum-line.new.engine c.read_sum-line.result) (sym c.in-ReadSum.is) (c.read_sum-line.ensures c.args.client)

pub returns-in-ReadSum-clause-answered : goal.returns-in-ReadSum-clause-answered
returns-in-ReadSum-clause-answered g c = added c.args.client c.args.request.now c.add-in-ReadSum.result c.args.played.now c.add-in-ReadSum.new.self c.read_sum-line.result (summed g c) c.add-in-ReadSum.ensures

pub returns-in-ReadSum-clause-unanswered : goal.returns-in-ReadSum-clause-unanswered
returns-in-ReadSum-clause-unanswered g c = lost c.args.client c.args.request.now c.add-in-ReadSum.result c.read_sum-line.result (summed g c)

-- the line of a flush
flushed : (g : _) (c : goal.After-add-in-Flush g) → IsAnswered g.L.Device.state g.B.Device.state c.args.client c.args.request.now c.args.engine.now c.flush-ended.new.engine (Flushed c.flush-ended.result)
flushed g c =
    subst (λ (r : Request). IsAnswered g.L.Device.state g.B.Device.state c.args.client r c.args.engine.now c.flush-ended.new.engine (Flushed c.flush-ended.result)) (sym c.in-Flush.is)
    (answered_flush c.args.client c.flush-ended.result c.flush-ended.ensures)

pub returns-in-Flush-clause-answered : goal.returns-in-Flush-clause-answered
returns-in-Flush-clause-answered g c = added c.args.client c.args.request.now c.add-in-Flush.result c.args.played.now c.add-in-Flush.new.self (Flushed c.flush-ended.result) (flushed g c) c.add-in-Flush.ensures

pub returns-in-Flush-clause-unanswered : goal.returns-in-Flush-clause-unanswered
returns-in-Flush-clause-unanswered g c = lost c.args.client c.args.request.now c.add-in-Flush.result (Flushed c.flush-ended.result) (flushed g c)

-- the line of a posted flush
deferred : (g : _) (c : goal.After-add-in-Defer g) → IsAnswered g.L.Device.state g.B.Device.state c.args.client c.args.request.now c.args.engine.now c.post_flush-ended.new.engine (Deferred c.post_flush-ended.result)
deferred g c =
    subst (λ (r : Request). IsAnswered g.L.Device.state g.B.Device.state c.args.client r c.args.engine.now c.post_flush-ended.new.engine (Deferred c.post_flush-ended.result)) (sym c.in-Defer.is)
    (answered_defer c.args.client c.post_flush-ended.result c.post_flush-ended.ensures)

pub returns-in-Defer-clause-answered : goal.returns-in-Defer-clause-answered
returns-in-Defer-clause-answered g c = added c.args.client c.args.request.now c.add-in-Defer.result c.args.played.now c.add-in-Defer.new.self (Deferred c.post_flush-ended.result) (deferred g c) c.add-in-Defer.ensures

pub returns-in-Defer-clause-unanswered : goal.returns-in-Defer-clause-unanswered
returns-in-Defer-clause-unanswered g c = lost c.args.client c.args.request.now c.add-in-Defer.result (Deferred c.post_flush-ended.result) (deferred g c)

pub returns-in-Tell-clause-answered : goal.returns-in-Tell-clause-answered
returns-in-Tell-clause-answered g c =
    added c.args.client c.args.request.now c.add-in-Tell.result c.args.played.now c.add-in-Tell.new.self Told
    (subst (λ (r : Request). IsAnswered g.L.Device.state g.B.Device.state c.args.client r c.args.engine.now c.args.engine.now Told) (sym c.in-Tell.is) (answered_tell c.args.engine.now c.args.client c.in-Tell.client))
    c.add-in-Tell.ensures

pub returns-in-Hear-clause-answered : goal.returns-in-Hear-clause-answered
returns-in-Hear-clause-answered g c =
    added c.args.client c.args.request.now c.add-in-Hear.result c.args.played.now c.add-in-Hear.new.self Heard
    (subst (λ (r : Request). IsAnswered g.L.Device.state g.B.Device.state c.args.client r c.args.engine.now c.args.engine.now Heard) (sym c.in-Hear.is) (answered_hear c.args.engine.now c.args.client c.in-Hear.client))
    c.add-in-Hear.ensures
