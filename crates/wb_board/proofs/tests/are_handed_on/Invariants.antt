use Rattle.std.specs.Prelude.{[], false}
use Rattle.wb_intake.specs.Passes.{name_of}
use Rattle.wb_board.proofs.tests.are_handed_on.Given as goal

-- the name of the intake
abbrev pub ghosts-hand_on_two : goal.ghosts-hand_on_two
ghosts-hand_on_two g a = record { carried = record { intake = name_of a.intake.now; geometry = a.geometry.now; first = 0; clients = 1; base = []; log_faults = 0; backing_faults = 0; log_told = false; backing_told = false } }
