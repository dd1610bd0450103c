use Rattle.wb_geometry.specs.History.{Write}
use Rattle.wb_intake.proofs.board.Intake.claim_place.Given as goal

-- the write that is claimed
abbrev pub ghosts-name : goal.ghosts-name
ghosts-name a = record { item = Write a._client a._block a._payload.now.bits a._payload.now.payload }
