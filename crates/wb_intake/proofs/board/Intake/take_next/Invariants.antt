use Rattle.wb_intake.proofs.board.Intake.take_next.Given as goal

-- the numbers of the intake
abbrev pub ghosts-take_out : goal.ghosts-take_out
ghosts-take_out a = record { shape = a.self.now.shape }
