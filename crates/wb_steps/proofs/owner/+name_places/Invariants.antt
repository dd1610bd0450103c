use Rattle.wb_steps.proofs.owner.+name_places.Given as goal

abbrev pub decreases-name_places : goal.decreases-name_places
decreases-name_places l = l.count
