-- The blocks so far are there, and the room stays.
use Rattle.std.proofs.Common.{◌≡◌, take}
use Rattle.std.specs.Vec.{vec_capacity}
use Rattle.wb_log.specs.Kept.{metas_of}
use Rattle.wb_log.proofs.state.fill.Given as goal

abbrev pub invariant-loop-index : goal.invariant-loop-index
invariant-loop-index l = record {
  metas : l.metas.items ≡ metas_of (take l.index l.segment.blocks);
  capacity : vec_capacity l.metas ≡ vec_capacity l.fn.metas;
}
