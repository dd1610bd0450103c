-- The requests before this one are played.
use Rattle.std.proofs.Common.{◌≡◌, List, length, take}
use Rattle.wb_geometry.specs.History.{HistoryEntry}
use Rattle.wb_serve.proofs.Played.{IsPlaying}
use Rattle.wb_serve.proofs.playing.play.Given as goal

abbrev pub invariant-loop-request : goal.invariant-loop-request
invariant-loop-request g l = record {
  sized : length l.buffers.shown.items ≡ 131072;
  so_far : (entries : List HistoryEntry) × IsPlaying g.L.Device.state g.B.Device.state l.client (take l.request-index l.requests) l.fn.engine l.engine l.played entries;
}
