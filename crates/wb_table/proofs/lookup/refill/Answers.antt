-- One more block is covered by one more item, or needs none.
use Rattle.std.proofs.Common.{◌≤◌, ◌+◌, sym, subst, arith, length}
use Rattle.std.proofs.lemmas.List.Sorted.{length_permutation}
use Rattle.wb_table.specs.Queue.{QueueContent}
use Rattle.wb_table.specs.Tables.{IsOldest}
use Rattle.wb_table.proofs.Covering.{IsCoveredTo, all_covered, one_more_due, one_more_nowhere}
use Rattle.wb_table.proofs.lookup.refill.Goals as goal
use Rattle.wb_table.proofs.lookup.refill.Goals.{in-Some, in_default}

pub loop-index-preserved : goal.loop-index-preserved
loop-index-preserved c =
    let n = c.loop-index.index in
    let table = c.args.blocks.now in
    let old = c.loop-index.queue in
    let held = c.loop-index.invariant in
    let entry = c.get_index-block.result in
    elim c.match-oldest.branch [
      | in-Some w ↦
          let new = w.push.new.self in
          let pushed = w.push.ensures.items in
          subst (λ (queue : QueueContent). record { few : length queue.items ≤ n + 1; room : c.args.queue.now.room ≤ queue.room; covered : IsCoveredTo (n + 1) table queue }) (sym w.queue-is) (record {
            few = omega (arith, length_permutation _ _ pushed, held.few);
            room = omega (arith, held.room, w.push.ensures.room);
            covered = one_more_due table n entry.0 entry.1 c.get_index-block.ensures old held.covered new w.in-Some.oldest (subst (IsOldest entry.1.ids 8) w.in-Some.is c.oldest.ensures) pushed;
          })
      | in_default w ↦
          subst (λ (queue : QueueContent). record { few : length queue.items ≤ n + 1; room : c.args.queue.now.room ≤ queue.room; covered : IsCoveredTo (n + 1) table queue }) (sym w.queue-is) (record {
            few = omega (arith, held.few);
            room = held.room;
            covered = one_more_nowhere table n entry.0 entry.1 c.get_index-block.ensures old held.covered (subst (IsOldest entry.1.ids 8) w.in_default.is c.oldest.ensures);
          })
    ]

pub returns-clause-covered : goal.returns-clause-covered
returns-clause-covered c =
    all_covered c.args.blocks.now c.loop-index.queue c.loop-index.index (omega (arith, c.loop-index-test.false, c.len-index-end.ensures.len)) c.loop-index.invariant.covered
