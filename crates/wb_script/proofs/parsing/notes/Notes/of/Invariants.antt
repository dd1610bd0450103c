use Rattle.std.proofs.Common.{length, take}
use Rattle.wb_script.specs.Counting.{AreNotes}
use Rattle.wb_script.specs.Grammar.{request_lines}
use Rattle.wb_script.proofs.parsing.notes.Notes.of.Given as goal

-- the notes of the lines so far
abbrev pub invariant-loop-line : goal.invariant-loop-line
invariant-loop-line l = AreNotes (take (length l.yielded) (request_lines l.bytes)) l.left.items
