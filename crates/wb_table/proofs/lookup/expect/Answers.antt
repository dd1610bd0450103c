-- The block is due at this segment.
use Rattle.wb_table.proofs.Covering.{push_covers}
use Rattle.wb_table.proofs.lookup.expect.Goals as goal

pub returns-else-is_full-clause-covered : goal.returns-else-is_full-clause-covered
returns-else-is_full-clause-covered c =
    push_covers c.args.queue.now c.push.new.self c.args.id c.args.block c.args.blocks.now c.push.ensures.items c.requires.covered
