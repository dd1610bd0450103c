-- A write has its line, flushed or not.
use Rattle.std.proofs.Common.{ℕ, List, ◌≡◌, [], Bool, true, false, ap, sym, ◌∙◌, subst}
use Rattle.wb_geometry.specs.Layout.{places}
use Rattle.wb_intake.specs.Passes.{client_of_pass, view_of}
use Rattle.wb_intake.specs.declared.pass.Pass.{Pass}
use Rattle.wb_script.specs.declared.request.Request.{Request}
use Rattle.wb_script.specs.declared.request.Request.TheVariants.{Write}
use Rattle.wb_script.specs.declared.transcript.Line.{Line}
use Rattle.wb_script.specs.declared.transcript.Line.TheVariants.{Wrote}
use Rattle.wb_client.specs.Client.{IsForced}
use Rattle.wb_client.proofs.Clients.{IsLineOf, line_added, none_heard, wrote_line, forced_line}
use Rattle.wb_client.proofs.answering.answer_write.Goals as goal
use Rattle.wb_client.proofs.answering.answer_write.Goals.{then-fua, else-fua}

-- the line of a write
wrote : (g : _) (c : goal.After-push g) → IsLineOf g.T.Named.carried (client_of_pass c.args.pass.now) (view_of c.args.pass.now) (view_of c.if-fua.pass) [] [] (Write c.args.sector c.args.count c.args.pattern.now c.args.fua) c.if-fua.line
wrote g c =
    let t = g.T.Named.carried in
    let p = c.args.pass.now in
    let client : ℕ = client_of_pass p in
    let asks : Bool → Request = Write c.args.sector c.args.count c.args.pattern.now in
    let few = c.requires.within.few in
    let written = c.in_ok-places.ensures.written in
    let taken = c.in_ok-places.places in
    let stop = c.in_ok-places.stop in
    let P : Request → Pass → Line → Type 0 = λ r q line. IsLineOf t client (view_of p) (view_of q) [] [] r line in
    elim c.if-fua.branch [
      | then-fua w ↦
          let is : asks c.args.fua ≡ asks true = ap asks w.if-fua.true in
          let u = c.write.new.pass in
          let forced = subst (λ (n : ℕ). IsForced (places g.T.Named.carried.geometry) n (view_of u) (view_of w.forced-line.new.pass) taken stop w.forced-line.result) c.write.ensures.own.1 w.forced-line.ensures.forced in
          subst (λ (line : Line). P (asks c.args.fua) c.if-fua.pass line) (sym w.line-is)
          (subst (λ (q : Pass). P (asks c.args.fua) q w.forced-line.result) (sym w.pass-is)
          (subst (λ (r : Request). P r w.forced-line.new.pass w.forced-line.result) (sym is)
          (forced_line t client (view_of p) c.args.sector c.args.count c.args.pattern.now taken few (view_of u) (view_of w.forced-line.new.pass) stop w.forced-line.result written forced)))
      | else-fua w ↦
          let is : asks c.args.fua ≡ asks false = ap asks w.if-fua.false in
          let same : Wrote w.of-places.result stop ≡ Wrote taken stop = ap (λ (l : List ℕ). Wrote l stop) w.of-places.ensures in
          subst (λ (line : Line). P (asks c.args.fua) c.if-fua.pass line) (sym (w.line-is ∙ same))
          (subst (λ (q : Pass). P (asks c.args.fua) q (Wrote taken stop)) (sym w.pass-is)
          (subst (λ (r : Request). P r c.write.new.pass (Wrote taken stop)) (sym is)
          (wrote_line t client (view_of p) c.args.sector c.args.count c.args.pattern.now taken few (view_of c.write.new.pass) stop written)))
    ]

pub returns-clause-answered : goal.returns-clause-answered
returns-clause-answered g c =
    let client : ℕ = client_of_pass c.args.pass.now in
    line_added c.push.result g.T.Named.carried client (view_of c.args.pass.now) (view_of c.if-fua.pass) [] [] (Write c.args.sector c.args.count c.args.pattern.now c.args.fua) c.if-fua.line c.args.work.now _ (wrote g c)
    (none_heard client c.args.work.now.tellers.items) c.push.ensures.ok
