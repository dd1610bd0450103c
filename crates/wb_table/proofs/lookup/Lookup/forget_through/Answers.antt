-- Each turn forgets the spots of one block, and takes one item that is due.
use Rattle.std.proofs.Common.{◌<◌, ◌∙◌, sum_by, sym, subst, arith}
use Rattle.wb_table.proofs.Forgetting.{due_count, fewer_after_pop, same_after_push, forget_keeps, covered_without, covered_again}
use Rattle.wb_table.proofs.Soundness.{lookup_sound}
use Rattle.wb_table.proofs.lookup.Lookup.forget_through.Goals as goal

pub loop-block-smaller-in-Some-forget : goal.loop-block-smaller-in-Some-forget
loop-block-smaller-in-Some-forget c =
    let due = c.in-Some.ensures.due in
    let popped = fewer_after_pop c.args.id due.0 c.in-Some.block c.loop-block.self-inside.queue.items c.pop_due.new.self.items due.1 due.2 in
    let pushed = same_after_push c.args.id c.in-Some-forget.oldest c.in-Some.block c.pop_due.new.self.items c.push.new.self.items c.in-Some-forget.ensures.after c.push.ensures.items in
    subst (λ count. count < sum_by (due_count c.args.id) c.loop-block.self-inside.queue.items) (sym pushed) popped

pub loop-block-preserved-in-Some-forget : goal.loop-block-preserved-in-Some-forget
loop-block-preserved-in-Some-forget c =
    let block = c.in-Some.block in
    let due = c.in-Some.ensures.due in
    let old = c.loop-block.self-inside.table in
    let new = c.forget.new.blocks in
    let held = c.loop-block.invariant in
    let f = c.in-Some-forget.ensures in
    record {
      kept = record {
        sound = f.sound;
        filled = f.filled;
        covered = covered_again old new block c.args.id f.others c.loop-block.self-inside.queue c.pop_due.new.self due.0 due.2 held.kept.covered c.push.new.self c.in-Some-forget.oldest c.push.ensures.items f.left;
        room = omega (arith, f.room, held.kept.room, c.in-Some.ensures.room, c.push.ensures.room);
      };
      room = f.room ∙ held.room;
      spots = λ other i low. forget_keeps old new block c.args.id f.others f.spots other i low ∙ held.spots other i low;
    }

pub loop-block-smaller : goal.loop-block-smaller
loop-block-smaller c =
    let due = c.in-Some.ensures.due in
    fewer_after_pop c.args.id due.0 c.in-Some.block c.loop-block.self-inside.queue.items c.pop_due.new.self.items due.1 due.2

pub loop-block-preserved : goal.loop-block-preserved
loop-block-preserved c =
    let block = c.in-Some.block in
    let due = c.in-Some.ensures.due in
    let old = c.loop-block.self-inside.table in
    let new = c.forget.new.blocks in
    let held = c.loop-block.invariant in
    let f = c.in_default-forget.ensures in
    record {
      kept = record {
        sound = f.sound;
        filled = f.filled;
        covered = covered_without old new block c.args.id f.others c.loop-block.self-inside.queue c.pop_due.new.self due.0 due.2 held.kept.covered f.gone;
        room = omega (arith, f.room, held.kept.room, c.in-Some.ensures.room);
      };
      room = f.room ∙ held.room;
      spots = λ other i low. forget_keeps old new block c.args.id f.others f.spots other i low ∙ held.spots other i low;
    }

pub returns-clause-sound : goal.returns-clause-sound
returns-clause-sound c = lookup_sound c.loop-block.self-inside.table c.loop-block.invariant.kept.sound c.loop-block.invariant.kept.filled
