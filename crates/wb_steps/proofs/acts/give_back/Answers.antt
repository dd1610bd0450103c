use Rattle.std.proofs.Common.{ap, ◌∙◌, map, set}
use Rattle.std.proofs.lemmas.List.{map-set}
use Rattle.wb_steps.specs.Rule.{Home}
use Rattle.wb_steps.specs.Machines.{home_of}
use Rattle.wb_steps.proofs.acts.give_back.Goals as goal

pub returns-clause-cells : goal.returns-clause-cells
returns-clause-cells c = map-set home_of c.args.cells.now.items c.args.cell c.give_back.new.cell ∙ ap (λ (h : Home). set (map home_of c.args.cells.now.items) c.args.cell h) (c.in_ok-give_back.ensures.cell c.requires.has.0 c.requires.has.1 c.requires.has.2)
