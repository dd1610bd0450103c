use Rattle.wb_intake.proofs.Results.{if_ok, claimed_of}
use Rattle.wb_intake.proofs.board.Intake.claim.Goals as goal

pub returns-clause-claimed : goal.returns-clause-claimed
returns-clause-claimed c = if_ok c.claim_place.result _ _ _ (λ x named block. (block, claimed_of _ _ _ _ named)) c.claim_place.ensures.named c.claim_place.ensures.block
