use Rattle.wb_header.proofs.Spellings.{one_segment, one_front, accepted, one_spelling}
use Rattle.wb_header.proofs.law.spells.Goals as goal

pub returns-clause-one_segment : goal.returns-clause-one_segment
returns-clause-one_segment c = one_segment

pub returns-clause-one_front : goal.returns-clause-one_front
returns-clause-one_front c = one_front

pub returns-clause-accepted : goal.returns-clause-accepted
returns-clause-accepted c = accepted

pub returns-clause-one_spelling : goal.returns-clause-one_spelling
returns-clause-one_spelling c = one_spelling
