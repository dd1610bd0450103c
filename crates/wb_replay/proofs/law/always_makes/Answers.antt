-- The bytes of a slot decide whether a text stands there.
use Rattle.wb_replay.proofs.Deciding.{every_chain, every_recovered}
use Rattle.wb_replay.proofs.law.always_makes.Goals as goal

pub returns-clause-chain : goal.returns-clause-chain
returns-clause-chain c = λ g sectors x image room. every_chain g sectors x image room

pub returns-clause-image : goal.returns-clause-image
returns-clause-image c = λ g sectors x y image room. every_recovered g sectors x y image room
