-- The slot is read, checked, and put or refused.
use Rattle.std.proofs.Common.{◌∙◌, inr, refl, sym}
use Rattle.wb_header.specs.Text.{length_in, blocks_in}
use Rattle.wb_replay.proofs.Strays.{done_is}
use Rattle.wb_replay.proofs.Counts.{counts_never, counts_failed}
use Rattle.wb_replay.proofs.Puts.{all_none}
use Rattle.wb_replay.proofs.Segments.{slot_parts, text_held, slot_refused}
use Rattle.wb_replay.proofs.following.put_segment.Goals as goal

pub check-requires-clause-whole : goal.check-requires-clause-whole
check-requires-clause-whole g c = (slot_parts c.args.geometry.now c.read.new.into (c.read.auto.into ∙ c.requires.buffer)).0

pub check-requires-clause-some : goal.check-requires-clause-some
check-requires-clause-some g c = (slot_parts c.args.geometry.now c.read.new.into (c.read.auto.into ∙ c.requires.buffer)).1

pub check-requires-clause-few : goal.check-requires-clause-few
check-requires-clause-few g c = (slot_parts c.args.geometry.now c.read.new.into (c.read.auto.into ∙ c.requires.buffer)).2

-- it is put

pub returns-in-Ok-put_blocks-clause-takes : goal.returns-in-Ok-put_blocks-clause-takes
returns-in-Ok-put_blocks-clause-takes g c =
    λ x told. (
      blocks_in (length_in c.in-Ok.text) c.in-Ok.text,
      text_held c.args.geometry.now c.args.id c.slot_start.result c.read.new.into c.in-Ok.text (blocks_in (length_in c.in-Ok.text) c.in-Ok.text) (g.met.L.Device.sound c.args.log.now) c.requires.log_room
          (c.read.auto.into ∙ c.requires.buffer) c.slot_start.ensures (done_is c.read.result (sym c.is_err.ensures.value ∙ c.if-is_err.false) c.read.ensures.ok)
          c.in-Ok.ensures.text c.in-Ok.ensures.found x told,
      c.in-Ok-put_blocks.ensures.ok,
    )

pub returns-in-Ok-put_blocks-clause-log_cause : goal.returns-in-Ok-put_blocks-clause-log_cause
returns-in-Ok-put_blocks-clause-log_cause g c =
    counts_never _ _ (λ is. cc) (done_is c.read.result (sym c.is_err.ensures.value ∙ c.if-is_err.false) c.read.ensures.cause.kept)

pub returns-in-Ok-put_blocks-clause-backing_cause : goal.returns-in-Ok-put_blocks-clause-backing_cause
returns-in-Ok-put_blocks-clause-backing_cause g c = counts_never _ _ (λ is. cc) c.in-Ok-put_blocks.ensures.cause.kept

-- the backing device fails

pub returns-in-Err-put_blocks-clause-stops : goal.returns-in-Err-put_blocks-clause-stops
returns-in-Err-put_blocks-clause-stops g c =
    λ x told. inr (
      blocks_in (length_in c.in-Ok.text) c.in-Ok.text,
      text_held c.args.geometry.now c.args.id c.slot_start.result c.read.new.into c.in-Ok.text (blocks_in (length_in c.in-Ok.text) c.in-Ok.text) (g.met.L.Device.sound c.args.log.now) c.requires.log_room
          (c.read.auto.into ∙ c.requires.buffer) c.slot_start.ensures (done_is c.read.result (sym c.is_err.ensures.value ∙ c.if-is_err.false) c.read.ensures.ok)
          c.in-Ok.ensures.text c.in-Ok.ensures.found x told,
      c.put_blocks.ensures.partly,
    )

pub returns-in-Err-put_blocks-clause-log_cause : goal.returns-in-Err-put_blocks-clause-log_cause
returns-in-Err-put_blocks-clause-log_cause g c =
    counts_never _ _ (λ is. cc) (done_is c.read.result (sym c.is_err.ensures.value ∙ c.if-is_err.false) c.read.ensures.cause.kept)

pub returns-in-Err-put_blocks-clause-backing_cause : goal.returns-in-Err-put_blocks-clause-backing_cause
returns-in-Err-put_blocks-clause-backing_cause g c = counts_failed _ _ _ refl c.put_blocks.ensures.cause.later c.in-Err-put_blocks.ensures.cause.failed refl

-- the slot is refused

pub returns-in-Err-clause-takes : goal.returns-in-Err-clause-takes
returns-in-Err-clause-takes g c =
    λ x told. (
      slot_refused c.args.geometry.now c.args.id c.slot_start.result c.read.new.into c.in-Err.refused (c.read.auto.into ∙ c.requires.buffer) c.slot_start.ensures
          (done_is c.read.result (sym c.is_err.ensures.value ∙ c.if-is_err.false) c.read.ensures.ok) c.in-Err.ensures.refused x told,
      all_none _,
    )
