-- The flushes before this line were awaited.
use Rattle.std.proofs.Common.{◌≡◌, ◌<◌, ℕ, [], None, length, get_or}
use Rattle.wb_script.specs.declared.transcript.Line.{Line}
use Rattle.wb_serve.specs.Playing.{HasMoved}
use Rattle.wb_serve.proofs.Awaiting.{IsCovered}
use Rattle.wb_serve.proofs.flushing.await_posted.Given as goal

abbrev pub invariant-loop-index : goal.invariant-loop-index
invariant-loop-index g l = record {
  moved : HasMoved g.L.Device.state g.B.Device.state l.fn.engine l.engine [] 0 0;
  same : l.transcript ≡ l.fn.transcript;
  stable : l.engine.down ≡ None → (k : ℕ) (d : Line) → k < l.index → k < length l.fn.transcript → IsCovered l.engine (get_or l.fn.transcript k d);
}
