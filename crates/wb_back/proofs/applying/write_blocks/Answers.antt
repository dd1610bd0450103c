-- Each turn puts the entry of one block.
use Rattle.std.proofs.Common.{ℕ, get_or, arith}
use Rattle.wb_geometry.specs.History.{Write}
use Rattle.wb_header.specs.Standing.{entries_of}
use Rattle.wb_back.specs.Stored.{no_entry}
use Rattle.wb_back.specs.declared.plan.Planned.{Planned}
use Rattle.wb_back.proofs.Planning.{entry_there, entries_end, block_inside}
use Rattle.wb_back.proofs.Writing.{put_crash, put_stopped, put_more, put_whole, puts_whole}
use Rattle.wb_back.proofs.applying.write_blocks.Goals as goal

pub write_block-requires-clause-room : goal.write_block-requires-clause-room
write_block-requires-clause-room g c =
    let room = block_inside c.deref-one-items.result.now c.plan.inside.planned.items c.plan.inside.payloads.items c.args.plan.now c.loop-one.one-index (g.B.Device.state c.args.backing.now).sectors
    c.deref-one-items.ensures.value c.plan.view_is c.requires c.loop-one-test.true in
    omega (arith, room, c.loop-one.invariant.same.size)

pub returns-in_err-write_block-clause-partly : goal.returns-in_err-write_block-clause-partly
returns-in_err-write_block-clause-partly g c =
    let i : ℕ = c.loop-one.one-index in
    let one : Planned = get_or c.deref-one-items.result.now i no_entry in
    let there = entry_there c.deref-one-items.result.now c.plan.inside.planned.items c.plan.inside.payloads.items c.args.plan.now i c.index.result.now
    c.deref-one-items.ensures.value c.plan.view_is c.plan.invariant c.loop-one-test.true c.index.ensures in
    put_stopped (entries_of c.args.plan.now.blocks) i (Write 0 one.block one.bits c.index.result.now) there.0 there.1 c.loop-one.invariant c.in_err-write_block.ensures.err

pub returns-in_err-write_block-clause-crash : goal.returns-in_err-write_block-clause-crash
returns-in_err-write_block-clause-crash g c =
    let i : ℕ = c.loop-one.one-index in
    let one : Planned = get_or c.deref-one-items.result.now i no_entry in
    let there = entry_there c.deref-one-items.result.now c.plan.inside.planned.items c.plan.inside.payloads.items c.args.plan.now i c.index.result.now
    c.deref-one-items.ensures.value c.plan.view_is c.plan.invariant c.loop-one-test.true c.index.ensures in
    put_crash (entries_of c.args.plan.now.blocks) i (Write 0 one.block one.bits c.index.result.now) there.0 there.1 c.loop-one.invariant c.write_block.ensures.crash

pub loop-one-preserved : goal.loop-one-preserved
loop-one-preserved g c =
    let i : ℕ = c.loop-one.one-index in
    let one : Planned = get_or c.deref-one-items.result.now i no_entry in
    let there = entry_there c.deref-one-items.result.now c.plan.inside.planned.items c.plan.inside.payloads.items c.args.plan.now i c.index.result.now
    c.deref-one-items.ensures.value c.plan.view_is c.plan.invariant c.loop-one-test.true c.index.ensures in
    put_more (entries_of c.args.plan.now.blocks) i (Write 0 one.block one.bits c.index.result.now) there.0 there.1 c.loop-one.invariant
    c.in_ok-write_block.ensures.ok c.write_block.ensures.crash c.write_block.ensures.same c.in_ok-write_block.ensures.cause.kept c.write_block.ensures.reads c.write_block.ensures.syncs

pub returns-clause-partly : goal.returns-clause-partly
returns-clause-partly g c =
    puts_whole (entries_of c.args.plan.now.blocks) (put_whole (entries_of c.args.plan.now.blocks) c.loop-one.one-index
    (entries_end c.deref-one-items.result.now c.plan.inside.planned.items c.plan.inside.payloads.items c.args.plan.now c.loop-one.one-index c.deref-one-items.ensures.value c.plan.view_is c.loop-one-test.false)
    c.loop-one.invariant)
