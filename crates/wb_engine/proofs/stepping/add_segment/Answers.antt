use Rattle.std.proofs.Common.{◌∙◌, inr, refl, sym, rules, arith}
use Rattle.std.proofs.lemmas.Result.{err_from_is_err_and}
use Rattle.wb_geometry.proofs.Moments.{only_read, counts_ok, counts_err}
use Rattle.wb_super.proofs.Superblocks.{reads_only}
use Rattle.wb_engine.proofs.Plannings.{adding_none, adding_more, adding_done, few_there}
use Rattle.wb_engine.proofs.stepping.add_segment.Goals as goal

pub loop-index-init : goal.loop-index-init
loop-index-init g c = (
  adding_none c.args.geometry.now c.args.memory.now.logged c.args.id (g.L.Device.state c.args.log.now) c.args.plan.now,
  only_read (g.L.Device.state c.args.log.now),
  refl,
  omega arith,
)

pub read_block-requires-clause-index : goal.read_block-requires-clause-index
read_block-requires-clause-index g c =
    omega (
      arith,
      few_there c.args.memory.now c.args.id c.logged_length-index-end.ensures.sound c.requires.there,
      c.requires.places,
      c.logged_length-index-end.ensures.length,
      c.loop-index-test.true,
    )

pub read_block-requires-clause-room : goal.read_block-requires-clause-room
read_block-requires-clause-room g c = omega (arith, c.requires.sectors, c.loop-index.invariant.1.same.size)

pub returns-in_err-read_block-clause-few : goal.returns-in_err-read_block-clause-few
returns-in_err-read_block-clause-few g c =
    omega (
      arith,
      c.loop-index.invariant.0.few,
      few_there c.args.memory.now c.args.id c.logged_length-index-end.ensures.sound c.requires.there,
      c.requires.places,
      c.logged_length-index-end.ensures.length,
      c.loop-index-test.true,
    )

pub returns-in_err-read_block-clause-room : goal.returns-in_err-read_block-clause-room
returns-in_err-read_block-clause-room g c = c.loop-index.invariant.0.room_is

pub returns-in_err-read_block-clause-only_read : goal.returns-in_err-read_block-clause-only_read
returns-in_err-read_block-clause-only_read g c = reads_only c.loop-index.invariant.1 c.read_block.ensures.only_read

pub returns-in_err-read_block-clause-cause : goal.returns-in_err-read_block-clause-cause
returns-in_err-read_block-clause-cause g c =
    let p = err_from_is_err_and c.from_residual.result c.from_residual.ensures.1 in
    rw p.1 (counts_err p.0 (omega (arith, c.loop-index.invariant.2, c.in_err-read_block.ensures.cause.later))
    (rw (sym c.loop-index.invariant.2) c.in_err-read_block.ensures.cause.failed))

pub returns-in_err-read_block-clause-reads : goal.returns-in_err-read_block-clause-reads
returns-in_err-read_block-clause-reads g c =
    omega (arith, c.loop-index.invariant.3, c.read_block.ensures.reads, c.loop-index-test.true, c.logged_length-index-end.ensures.length)

pub add-requires-clause-room : goal.add-requires-clause-room
add-requires-clause-room g c =
    inr (omega (
      arith,
      c.loop-index.invariant.0.few,
      c.loop-index.invariant.0.room_is,
      few_there c.args.memory.now c.args.id c.logged_length-index-end.ensures.sound c.requires.there,
      c.requires.places,
      c.requires.room,
      c.logged_length-index-end.ensures.length,
      c.loop-index-test.true,
    ))

pub loop-index-preserved : goal.loop-index-preserved
loop-index-preserved g c = (
  adding_more c.args.geometry.now c.args.memory.now.logged c.args.id (g.L.Device.state c.args.log.now) (g.L.Device.state c.loop-index.log) c.loop-index.index
      c.logged_meta.result c.read_block.new.into c.args.plan.now c.loop-index.plan c.add.new.self (omega (arith, c.logged_length-index-end.ensures.length, c.loop-index-test.true))
      c.loop-index.invariant.0 c.loop-index.invariant.1.content c.logged_meta.ensures (search rules) c.in_ok-read_block.ensures.ok c.add.ensures.put c.add.ensures.numbers c.add.ensures.room,
  reads_only c.loop-index.invariant.1 c.read_block.ensures.only_read,
  c.in_ok-read_block.ensures.cause.kept ∙ c.loop-index.invariant.2,
  omega (arith, c.loop-index.invariant.3, c.read_block.ensures.reads),
)

pub returns-clause-added : goal.returns-clause-added
returns-clause-added g c =
    adding_done c.args.geometry.now c.args.memory.now.logged c.args.id (g.L.Device.state c.args.log.now) c.loop-index.index c.args.plan.now c.loop-index.plan
    (omega (arith, c.loop-index-test.false, c.logged_length-index-end.ensures.length)) c.loop-index.invariant.0

pub returns-clause-few : goal.returns-clause-few
returns-clause-few g c =
    omega (
      arith,
      c.loop-index.invariant.0.few,
      c.loop-index.auto.index-end,
      few_there c.args.memory.now c.args.id c.logged_length-index-end.ensures.sound c.requires.there,
      c.requires.places,
      c.logged_length-index-end.ensures.length,
    )

pub returns-clause-room : goal.returns-clause-room
returns-clause-room g c = c.loop-index.invariant.0.room_is

pub returns-clause-only_read : goal.returns-clause-only_read
returns-clause-only_read g c = c.loop-index.invariant.1

pub returns-clause-reads : goal.returns-clause-reads
returns-clause-reads g c = omega (arith, c.loop-index.invariant.3, c.loop-index.auto.index-end, c.logged_length-index-end.ensures.length)

pub returns-clause-cause : goal.returns-clause-cause
returns-clause-cause g c = counts_ok tt c.loop-index.invariant.2
