use Rattle.wb_steps.proofs.Bounds.{some_cells}
use Rattle.wb_steps.proofs.Starts.{starts}
use Rattle.wb_steps.proofs.Keeps.{list_keeps}
use Rattle.wb_steps.proofs.machine.each_list_keeps_the_rule.Goals as goal

pub returns-clause-start : goal.returns-clause-start
returns-clause-start c k clients shape = starts k clients (some_cells k shape)

pub returns-clause-kept : goal.returns-clause-kept
returns-clause-kept c k s after steps law leads = list_keeps k steps s after law leads
