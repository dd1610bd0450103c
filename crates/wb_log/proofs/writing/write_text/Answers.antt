-- The slot lies in the log.
use Rattle.std.proofs.Common.{arith}
use Rattle.wb_geometry.specs.Layout.{slot_sectors}
use Rattle.wb_geometry.proofs.Slots.{slot_inside}
use Rattle.wb_log.proofs.writing.write_text.Goals as goal

pub write-requires : goal.write-requires
write-requires g c = record {
  whole = c.requires.whole;
  some = c.requires.some;
  inside = omega (arith, c.requires.fits, c.requires.room, c.slot_start.ensures, slot_inside c.args.g.now c.args.id (slot_sectors c.args.g.now) (omega arith));
}

pub returns-clause-ok : goal.returns-clause-ok
returns-clause-ok g c = rw c.slot_start.ensures at c.write.ensures.ok

pub returns-clause-err : goal.returns-clause-err
returns-clause-err g c = rw c.slot_start.ensures at c.write.ensures.err

pub returns-clause-crash : goal.returns-clause-crash
returns-clause-crash g c = rw c.slot_start.ensures at c.write.ensures.crash
