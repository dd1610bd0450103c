use Rattle.std.proofs.Common.{ℕ, List, length, take}
use Rattle.wb_script.specs.Grammar.{AreRead, request_lines}
use Rattle.wb_script.specs.Counting.{IsReadSoFar}
use Rattle.wb_script.specs.declared.request.Request.{Request}
use Rattle.wb_script.proofs.parsing.read_script.Given as goal

-- the lines that were read spell the requests
abbrev pub invariant-loop-index : goal.invariant-loop-index
invariant-loop-index l =
    record {
      owned : List (ℕ × Request);
      read : AreRead l.sectors l.clients (take (length l.yielded) (request_lines l.bytes)) owned;
      so_far : IsReadSoFar (request_lines l.bytes) l.clients owned l.reading;
    }
