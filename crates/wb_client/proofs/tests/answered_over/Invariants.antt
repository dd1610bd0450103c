-- The name carries what is ready, and that neither device told its content.
use Rattle.std.specs.Prelude.{[], false}
use Rattle.wb_intake.specs.Passes.{name_of}
use Rattle.wb_front.specs.Beginning.{engine_of, intake_of}
use Rattle.wb_client.proofs.tests.answered_over.Given as goal

abbrev pub ghosts-answered : goal.ghosts-answered
ghosts-answered g a = record {
  carried = record {
    intake = name_of (intake_of a.ready);
    geometry = (engine_of a.ready).geometry;
    first = (engine_of a.ready).numbers.first;
    clients = 2;
    base = [];
    log_faults = (g.L.Device.state (engine_of a.ready).log).faults;
    backing_faults = (g.B.Device.state (engine_of a.ready).backing).faults;
    log_told = false;
    backing_told = false;
  };
}
