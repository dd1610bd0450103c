-- One slot after another.
use Rattle.std.proofs.Common.{◌∙◌, sym}
use Rattle.wb_super.proofs.Superblocks.{reads_only}
use Rattle.wb_replay.proofs.Strays.{if_told, where_told, slot_id, slot_next, done_is}
use Rattle.wb_replay.proofs.settling.refuse_stray.Goals as goal

-- a stray one

pub returns-then-id-limit-clause-refused : goal.returns-then-id-limit-clause-refused
returns-then-id-limit-clause-refused g c =
    let holds = done_is c.read.result (sym c.is_err.ensures.value ∙ c.if-is_err.false) c.read.ensures.ok in
    let there = slot_id c.args.geometry.now c.args.limit c.loop-slot.slot c.slot_at.result c.header_id-id.result c.loop-slot.sector c.read.new.into
    c.loop-slot.invariant (g.met.L.Device.sound c.loop-slot.log) c.requires c.loop-slot-test.true c.slot_at.ensures c.read.auto.into holds c.header_id-id.ensures in (
      c.loop-slot-test.true,
      c.if-id-limit.true,
      if_told (g.L.Device.state c.args.log.now).content (λ x told. (there x told, where_told _ (g.L.Device.state c.args.log.now).content x told c.loop-slot.invariant.ids)),
    )

pub returns-then-id-limit-clause-only_read : goal.returns-then-id-limit-clause-only_read
returns-then-id-limit-clause-only_read g c =
    let read = c.read.ensures in
    reads_only c.loop-slot.invariant.only_read (record { content = read.content; crash = read.crash; left = read.left; syncs = read.syncs; same = read.same })

-- a good one

pub loop-slot-preserved : goal.loop-slot-preserved
loop-slot-preserved g c =
    let read = c.read.ensures in
    let kept = done_is c.read.result (sym c.is_err.ensures.value ∙ c.if-is_err.false) c.read.ensures.cause.kept in
    let holds = done_is c.read.result (sym c.is_err.ensures.value ∙ c.if-is_err.false) c.read.ensures.ok in
    let there = slot_id c.args.geometry.now c.args.limit c.loop-slot.slot c.slot_at.result c.header_id-id.result c.loop-slot.sector c.read.new.into
    c.loop-slot.invariant (g.met.L.Device.sound c.loop-slot.log) c.requires c.loop-slot-test.true c.slot_at.ensures c.read.auto.into holds c.header_id-id.ensures in
    slot_next c.args.geometry.now c.args.limit c.loop-slot.slot c.header_id-id.result c.loop-slot.sector c.read.new.into c.loop-slot.invariant c.loop-slot-test.true c.read.auto.into
    (record { content = read.content; crash = read.crash; left = read.left; syncs = read.syncs; same = read.same }) kept read.reads there c.if-id-limit.false
