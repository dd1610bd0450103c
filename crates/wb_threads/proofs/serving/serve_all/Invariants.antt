-- What the name of the session carries.
use Rattle.wb_threads.proofs.Begun.{carried_of}
use Rattle.wb_threads.proofs.serving.serve_all.Given as goal

abbrev pub ghosts-serve_ready : goal.ghosts-serve_ready
ghosts-serve_ready g a = record { carried = carried_of g.L.Device.state g.B.Device.state a.script.now.clients a.ready }
