-- Each turn puts a block.
use Rattle.std.proofs.Common.{◌∙◌, ap, length, arith}
use Rattle.wb_replay.proofs.Puts.{all_some}
use Rattle.wb_replay.proofs.Blocks.{block_room, payload_size, put_more, put_stopped, put_whole}
use Rattle.wb_replay.proofs.following.put_blocks.Goals as goal

pub write_block-requires-clause-room : goal.write_block-requires-clause-room
write_block-requires-clause-room g c =
    omega (
      arith,
      c.entry-meta.ensures.block,
      c.loop-index.invariant.unsynced.same.size,
      block_room c.args.text.now c.loop-index.index (g.B.Device.state c.args.backing.now).sectors c.requires.inside (omega (arith, c.loop-index-test.true, c.length-index-end.ensures)),
    )

pub write_block-requires-clause-size : goal.write_block-requires-clause-size
write_block-requires-clause-size g c =
    ap length c.payload.ensures ∙ payload_size c.args.text.now c.loop-index.index c.requires.size (omega (arith, c.loop-index-test.true, c.length-index-end.ensures))

pub returns-in_err-write_block-clause-partly : goal.returns-in_err-write_block-clause-partly
returns-in_err-write_block-clause-partly g c =
    put_stopped c.args.text.now c.loop-index.index c.entry-meta.result.block c.entry-meta.result.bits c.payload.result.now (omega (arith, c.loop-index-test.true, c.length-index-end.ensures))
    c.entry-meta.ensures.block c.entry-meta.ensures.bits c.payload.ensures c.loop-index.invariant (record { content = c.in_err-write_block.ensures.err; crash = c.write_block.ensures.crash })

pub loop-index-preserved : goal.loop-index-preserved
loop-index-preserved g c =
    put_more c.args.text.now c.loop-index.index c.entry-meta.result.block c.entry-meta.result.bits c.payload.result.now (omega (arith, c.loop-index-test.true, c.length-index-end.ensures))
    c.entry-meta.ensures.block c.entry-meta.ensures.bits c.payload.ensures c.loop-index.invariant (record { content = c.in_ok-write_block.ensures.ok; crash = c.write_block.ensures.crash })
    (record { reads = c.write_block.ensures.reads; syncs = c.write_block.ensures.syncs; same = c.write_block.ensures.same }) c.in_ok-write_block.ensures.cause.kept

pub returns-clause-partly : goal.returns-clause-partly
returns-clause-partly g c =
    all_some (put_whole c.args.text.now c.loop-index.index c.loop-index.invariant (omega (arith, c.loop-index-test.false, c.length-index-end.ensures)))
