-- Line after line is awaited.
use Rattle.std.proofs.Common.{ℕ, ◌≡◌, ◌+◌, ◌<◌, [], map, None, length, get_or, refl, sym, ap, ◌∙◌, subst, inl, inr, arith}
use Rattle.std.proofs.lemmas.Option.{none-some, slice_get-get_or}
use Rattle.wb_script.specs.Keeping.{marked}
use Rattle.wb_script.specs.declared.transcript.Line.{Line}
use Rattle.wb_script.specs.declared.transcript.Line.TheVariants.{Told}
use Rattle.wb_engine.specs.Content.{EngineContent}
use Rattle.wb_serve.specs.Playing.{HasMoved}
use Rattle.wb_serve.proofs.Moves.{moved_then}
use Rattle.wb_serve.proofs.Awaiting.{IsCovered, awaited_more}
use Rattle.wb_serve.proofs.flushing.await_posted.Goals as goal
use Rattle.wb_serve.proofs.flushing.await_posted.Goals.{in-Some, in_default}

pub loop-index-preserved : goal.loop-index-preserved
loop-index-preserved g c = elim c.match-get.branch [
  | in-Some w ↦
      let e = c.loop-index.engine in
      let inv = c.loop-index.invariant in
      let line : Line = w.in-Some.line in
      let at = sym c.get.ensures ∙ w.in-Some.is in
      let moved = moved_then inv.moved w.await_line.ensures.moved in
      let all = awaited_more c.args.transcript.now c.loop-index.index line at w.await_line.ensures.moved inv.stable w.await_line.ensures.settled in
      let P : EngineContent g.row.L.Denot g.row.B.Denot → Type 0 = λ f. HasMoved g.L.Device.state g.B.Device.state c.args.engine.now f [] 0 0
      × (f.down ≡ None → (k : ℕ) (d : Line) → k < c.loop-index.index + 1 → k < length c.args.transcript.now → IsCovered f (get_or c.args.transcript.now k d)) in
      let both : P c.match-get.engine = subst P (sym w.engine-is) (moved, all) in
      record { moved = both.0; same = refl; stable = both.1 }
  | in_default w ↦ absurd (none-some _ (sym w.in_default.is ∙ c.get.ensures ∙ slice_get-get_or c.args.transcript.now c.loop-index.index Told (omega (arith, c.loop-index-test.true, c.len-index-end.ensures))))
]

pub returns-in-Some-down : goal.returns-in-Some-down
returns-in-Some-down g c = record {
  moved = c.loop-index.invariant.moved;
  marks = inr (c.in-Some-down.device, sym c.down.ensures ∙ c.in-Some-down.is, c.mark_deferred.ensures ∙ ap (λ (n : ℕ). map (marked n c.in-Some-down.device) c.args.transcript.now) c.stable.ensures);
  stable = λ up. absurd (none-some c.in-Some-down.device (sym up ∙ sym c.down.ensures ∙ c.in-Some-down.is));
}

pub returns-in_default-down : goal.returns-in_default-down
returns-in_default-down g c = record {
  moved = c.loop-index.invariant.moved;
  marks = inl (sym c.down.ensures ∙ c.in_default-down.is, refl);
  stable = λ up k d lt. c.loop-index.invariant.stable up k d (omega (arith, lt, c.loop-index-test.false, c.len-index-end.ensures)) lt;
}
