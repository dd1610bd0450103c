-- The clients before this one are played.
use Rattle.std.proofs.Common.{◌≡◌, ◌≤◌, All, List, length, take}
use Rattle.wb_geometry.specs.History.{HistoryEntry}
use Rattle.wb_script.specs.Transcripts.{covered}
use Rattle.wb_engine.specs.Settling.{stable_places}
use Rattle.wb_serve.specs.Session.{EndFlushes}
use Rattle.wb_serve.specs.Playing.{AreAllPlayed, tally_of}
use Rattle.wb_serve.proofs.serving.play_all.Given as goal

abbrev pub invariant-loop-client : goal.invariant-loop-client
invariant-loop-client g l = record {
  sized : length l.buffers.shown.items ≡ 131072;
  so_far : (history : List HistoryEntry) × AreAllPlayed g.L.Device.state g.B.Device.state (take l.client l.fn.script.requests) l.fn.engine l.engine (tally_of l.all) history;
  covers : covered l.all.transcripts.items ≤ stable_places l.engine;
  ends : All (EndFlushes l.engine.geometry l.engine.down (stable_places l.engine)) l.all.transcripts.items;
}
