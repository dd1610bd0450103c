use Rattle.std.proofs.Common.{◌≡◌, ◌++◌, ℕ, List, drop}
use Rattle.std.specs.String.{string_bytes}
use Rattle.wb_script.specs.Output.{transcript_text}
use Rattle.wb_script.specs.Printed.{IsPrinted}
use Rattle.wb_script.proofs.printing.print_client.Given as goal

abbrev pub invariant-loop-index : goal.invariant-loop-index
invariant-loop-index g l = record {
  done : List ℕ;
  printed : IsPrinted (g.K.Sink.taken l.fn.sink) (g.K.Sink.taken l.sink) (g.K.Sink.faults l.fn.sink) (g.K.Sink.faults l.sink) (string_bytes l.fn.text) (string_bytes l.text) done;
  rest : done ++ transcript_text l.client (drop l.index l.requests) (drop l.index l.transcript) ≡ transcript_text l.client l.requests l.transcript;
}
