-- The sectors lie in the log.
use Rattle.std.proofs.Common.{arith}
use Rattle.wb_log.proofs.Slots.{block_inside}
use Rattle.wb_log.proofs.reading.read_sectors.Goals as goal

pub read-requires : goal.read-requires
read-requires g c = record {
  whole = c.requires.whole;
  some = c.requires.some;
  inside = omega (arith, c.requires.sectors, c.requires.room, c.block_start.ensures, c.from.ensures, block_inside c.args.g.now c.args.spot c.requires.index);
}
