-- Line after line is awaited.
use Rattle.std.proofs.Common.{ℕ, ◌≤◌, List, map, max, length, get_or, sym, ap, ◌∙◌, subst, arith}
use Rattle.wb_intake.specs.Passes.{view_of}
use Rattle.wb_script.specs.Keeping.{marked}
use Rattle.wb_script.specs.Transcripts.{covered_line}
use Rattle.wb_script.specs.declared.transcript.Line.{Line}
use Rattle.wb_client.specs.Played.{awaited_by, awaited_line, AreAwaited}
use Rattle.wb_client.proofs.Awaiting.{are_marked, are_done}
use Rattle.wb_client.proofs.Passes.{looked_then}
use Rattle.wb_client.proofs.Clients.{done_later}
use Rattle.wb_client.proofs.flushing.await_posted.Goals as goal

pub returns-in-Err-clause-awaited : goal.returns-in-Err-clause-awaited
returns-in-Err-clause-awaited g c =
    let down = c.in-Err.down in
    let w = view_of c.await_line.new.pass in
    let undone = c.in-Err.ensures.undone in
    let before = c.loop-index.invariant in
    let awaited : awaited_by c.args.transcript.now ≤ w.seen.stable = omega (arith, c.requires.awaited, before.looked.more.stable, c.await_line.ensures.looked.more.stable) in
    subst (AreAwaited w c.args.transcript.now) (sym (c.mark_deferred.ensures ∙ ap (map _) before.lines))
    (subst (λ (n : ℕ). AreAwaited w c.args.transcript.now (map (marked n down.device) c.args.transcript.now)) (sym undone.0) (are_marked w c.args.transcript.now down.device undone.1 awaited))

pub loop-index-preserved : goal.loop-index-preserved
loop-index-preserved g c =
    let before = c.loop-index.invariant in
    let after = c.await_line.ensures in
    record {
      own = (after.own.0 ∙ before.own.0, after.own.1 ∙ before.own.1, after.own.2);
      looked = looked_then _ _ _ before.looked after.looked;
      lines = before.lines;
      done = done_later c.loop-index.transcript c.loop-index.index _ _ (omega (arith, c.loop-index-test.true, c.len-index-end.ensures, ap length before.lines)) after.looked.more.stable before.done c.in_default.ensures.done;
    }

pub returns-clause-awaited : goal.returns-clause-awaited
returns-clause-awaited g c =
    let inv = c.loop-index.invariant in
    let w = view_of c.loop-index.pass in
    let awaited : awaited_by c.args.transcript.now ≤ w.seen.stable = omega (arith, c.requires.awaited, inv.looked.more.stable) in
    subst (AreAwaited w c.args.transcript.now) (sym inv.lines)
    (are_done w c.args.transcript.now awaited (λ k d lt.
    subst (λ (lines : List Line). covered_line (get_or lines k d) ≤ max (awaited_line (get_or lines k d)) w.seen.stable) inv.lines
    (inv.done k d (omega (arith, lt, c.loop-index-test.false, c.len-index-end.ensures, ap length inv.lines)))))
