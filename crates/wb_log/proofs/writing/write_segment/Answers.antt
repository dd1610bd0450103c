-- The text fits its slot, which lies in the log.
use Rattle.std.proofs.Common.{◌+◌, ◌*◌, ◌/◌, ◌<◌, ◌≤◌, length, take, sym, ap, ◌∙◌, arith}
use Rattle.std.proofs.lemmas.List.{length-take-le}
use Rattle.std.proofs.lemmas.List.Elements.{All-weaker}
use Rattle.wb_geometry.specs.Layout.{slot_start, places}
use Rattle.wb_header.specs.Text.{TextBlock}
use Rattle.wb_geometry.proofs.Slots.{slot_blocks}
use Rattle.wb_log.proofs.Written.{segment_written, others_kept, others_left}
use Rattle.wb_log.proofs.writing.write_segment.Goals as goal

pub encode-size-requires : goal.encode-size-requires
encode-size-requires g c = omega (arith, c.requires.fits, c.requires.scratch, slot_blocks c.args.g.now)

pub slice_bounds-write_text-end : goal.slice_bounds-write_text-end
slice_bounds-write_text-end g c = omega (arith, c.requires.fits, c.requires.scratch, slot_blocks c.args.g.now, c.encode-size.ensures.size, c.encode-size.auto.into)

pub slice_bounds-write_text-end-2 : goal.slice_bounds-write_text-end-2
slice_bounds-write_text-end-2 g c = sym (length-take-le c.encode-size.result c.encode-size.new.into (slice_bounds-write_text-end g c))

pub write_text-requires-clause-whole : goal.write_text-requires-clause-whole
write_text-requires-clause-whole g c = omega (arith, slice_bounds-write_text-end-2 g c, c.encode-size.ensures.size)

pub write_text-requires-clause-some : goal.write_text-requires-clause-some
write_text-requires-clause-some g c = omega (arith, slice_bounds-write_text-end-2 g c, c.encode-size.ensures.size)

pub write_text-requires-clause-fits : goal.write_text-requires-clause-fits
write_text-requires-clause-fits g c =
    omega (arith, slice_bounds-write_text-end-2 g c, c.encode-size.ensures.size, c.requires.fits, slot_blocks c.args.g.now)

pub returns-clause-written : goal.returns-clause-written
returns-clause-written g c = λ inside.
    segment_written c.args.g.now (slot_start c.args.g.now c.id.result) c.args.segment.now.id c.args.segment.now.blocks (take c.encode-size.result c.encode-size.new.into) c.write_text.result (g.met.L.Device.sound c.args.log.now) c.requires.room
    (ap (slot_start c.args.g.now) c.id.ensures)
    (c.encode-size.ensures.text (places c.args.g.now) (c.args.g.now.backing_sectors / 8) c.requires.fits
    (All-weaker (λ (block : TextBlock). 8 * block.number + 8 ≤ c.args.g.now.backing_sectors) (λ (block : TextBlock). block.number < c.args.g.now.backing_sectors / 8) (λ block fits. omega (arith, fits)) c.args.segment.now.blocks inside))
    c.write_text.ensures.ok c.write_text.ensures.err c.write_text.ensures.crash

pub returns-clause-others : goal.returns-clause-others
returns-clause-others g c =
    let long = length-take-le c.encode-size.result c.encode-size.new.into (omega (arith, c.requires.fits, c.requires.scratch, slot_blocks c.args.g.now, c.encode-size.ensures.size, c.encode-size.auto.into)) in
    others_kept c.args.g.now (slot_start c.args.g.now c.id.result) c.args.segment.now.id (length c.args.segment.now.blocks) (take c.encode-size.result c.encode-size.new.into) c.write_text.result (g.met.L.Device.sound c.args.log.now)
    c.requires.room (ap (slot_start c.args.g.now) c.id.ensures) c.requires.fits (long ∙ c.encode-size.ensures.size) c.write_text.ensures.ok c.write_text.ensures.err

pub returns-clause-others_crash : goal.returns-clause-others_crash
returns-clause-others_crash g c =
    let long = length-take-le c.encode-size.result c.encode-size.new.into (omega (arith, c.requires.fits, c.requires.scratch, slot_blocks c.args.g.now, c.encode-size.ensures.size, c.encode-size.auto.into)) in
    others_left c.args.g.now (slot_start c.args.g.now c.id.result) c.args.segment.now.id (length c.args.segment.now.blocks) (take c.encode-size.result c.encode-size.new.into)
    (ap (slot_start c.args.g.now) c.id.ensures) (long ∙ c.encode-size.ensures.size) c.write_text.ensures.crash
