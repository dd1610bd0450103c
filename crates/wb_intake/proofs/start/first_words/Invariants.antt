use Rattle.std.proofs.Common.{◌≡◌, ◌∷◌, replicate}
use Rattle.wb_intake.proofs.start.first_words.Given as goal

-- so many cells have their word
abbrev pub invariant-loop-cell : goal.invariant-loop-cell
invariant-loop-cell l = l.words.items ≡ 0 ∷ l.cells ∷ 0 ∷ 0 ∷ replicate l.cell 0
