use Rattle.std.proofs.Common.{◌≡◌, ◌<◌, ◌-◌, vec_len}
use Rattle.wb_tool.proofs.Runs.{IsReading}
use Rattle.wb_tool.proofs.reading.read_all.Given as goal

abbrev pub invariant-loop-source : goal.invariant-loop-source
invariant-loop-source g l = record {
  reading : IsReading (g.S.Source.left l.fn.source) (g.S.Source.left l.source) l.bytes.items;
  kept : g.S.Source.faults l.source ≡ g.S.Source.faults l.fn.source;
  room : 0 < vec_len l.piece;
}

abbrev pub decreases-loop-source : goal.decreases-loop-source
decreases-loop-source g l = 67108865 - vec_len l.bytes
