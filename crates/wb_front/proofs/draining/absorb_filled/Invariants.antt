-- So far what was taken out was absorbed.
use Rattle.std.proofs.Common.{◌≡◌, ◌-◌, ◌≤◌, length}
use Rattle.wb_geometry.specs.Image.{Image}
use Rattle.wb_intake.specs.Passes.{drain_name, drain_view, drain_loads}
use Rattle.wb_engine.specs.Content.{limit_of}
use Rattle.wb_engine.specs.Standing.{Standing, IsSynced}
use Rattle.wb_front.specs.Moving.{HasDrained, IsSameDrain}
use Rattle.wb_front.proofs.draining.absorb_filled.Given as goal

abbrev pub invariant-loop-parcel : goal.invariant-loop-parcel
invariant-loop-parcel g l = record {
  own : drain_name l.drain ≡ drain_name l.fn.drain;
  absorbed : length (drain_view l.drain).known ≡ l.engine.absorbed;
  drained : HasDrained (record { engine = l.fn.engine; drain = l.fn.drain }) (record { engine = l.engine; drain = l.drain });
  stands : (base : Image) → Standing g.L.Device.state g.B.Device.state l.fn.engine base (drain_view l.fn.drain).known → Standing g.L.Device.state g.B.Device.state l.engine base (drain_view l.drain).known;
  synced : IsSynced g.L.Device.state g.B.Device.state l.fn.engine → IsSynced g.L.Device.state g.B.Device.state l.engine;
  same : IsSameDrain (drain_view l.fn.drain) (drain_view l.drain);
  cells : (drain_loads l.fn.drain).cell.count ≤ (drain_loads l.drain).cell.count;
  cursors : (drain_loads l.fn.drain).cursor.count ≤ (drain_loads l.drain).cursor.count;
}

-- so many entries have room
abbrev pub decreases-loop-parcel : goal.decreases-loop-parcel
decreases-loop-parcel g l = limit_of l.engine.geometry l.engine.numbers - l.engine.absorbed
